-- The program's command takes the words of a call, and finds its command and its words.
use Rattle.std.proofs.Common.{◌≡◌, ◌∙◌, ap, sym, refl, inl, inr, Bool, true, false, ◌&&◌, List, [], ◌∷◌, ◌++◌, Option, Some, codes}
use Rattle.std.specs.Prelude.{fold, option_map, unwrap_or}
use Rattle.std.specs.List.{list_all}
use Rattle.std.proofs.lemmas.List.{append-nil, append_assoc}
use Rattle.clap.specs.Words.{Row, Rule, Shape, Text, built, is_simple, subcommand_of, takes}
use Rattle.clap.specs.Simple.{built_leaf, inherited, with_leaf_noted, marked_built, names_of, entered}
use Rattle.clap.specs.Takes.{walk_passes, settle_passes, level_passes, entered_passes, turn_passes}
use Rattle.clap.specs.Walk.{Names, Walk, walked, walk_from, nothing_held}
use Rattle.clap.specs.Words.{matched_of, raw_values, rows_of}
use Rattle.clap.specs.declared.parser.matches.Found.{Found}
use Rattle.clap.proofs.WalkLemmas.{raw_values-rows}
use Rattle.clap.proofs.OnLiterals.{clap_on_literals}
use Rattle.word_split.specs.CallWords.{IsCommandWord, is_plain_word}
use Rattle.word_split.specs.ProgramCommand.{program_app, argument_rows, arguments_in, command_app}
use Rattle.word_split.proofs.WordLemmas.{built_rule, after, walk_at, over, not_minus, parts, first_step, one_step, rows_are}

-- a command as it is built
abbrev built_command : Text → Shape
built_command name =
    built_leaf (inherited (with_leaf_noted (marked_built program_app.top)) (command_app name).top)

both : {a b : Bool} → a ≡ true → b ≡ true → (a && b) ≡ true
both e f = rw (e, f) refl

-- the words after a command go to it
stays : (c : List Rule) (names : Names) (w : Walk) (name : Text) (earlier ws : List Text)
    → fold (walked c names) (record w { stopped = Some (name, earlier) }) ws ≡ record w { stopped = Some (name, earlier ++ ws) }
unfolding clap_on_literals
stays c names w name earlier [] = ap (λ (x : List Text). record w { stopped = Some (name, x) }) (sym (append-nil earlier))
stays c names w name earlier (x ∷ ws) = stays c names w name (earlier ++ x ∷ []) ws
    ∙ ap (λ (y : List Text). record w { stopped = Some (name, y) }) (append_assoc earlier (x ∷ []) ws)

rest_passes : (s : Shape) (names : Names) (w : Walk) (name : Text) (earlier ws : List Text) → walk_passes s names (record w { stopped = Some (name, earlier) }) ws ≡ true
unfolding clap_on_literals
rest_passes s names w name earlier [] = refl
rest_passes s names w name earlier (x ∷ ws) = rest_passes s names w name (earlier ++ x ∷ []) ws

-- ---- one command's words

first_turn : (name w : Text) → is_plain_word w ≡ true → turn_passes (built_command name) [] (walk_from nothing_held) w ≡ true
unfolding clap_on_literals
first_turn name [] plain = absurd cc
first_turn name (b ∷ bs) plain = rw (not_minus b plain) (rw (not_minus b plain) refl)

one_turn : (name : Text) (vs : List Text) (v w : Text) → is_plain_word w ≡ true → turn_passes (built_command name) [] (walk_at (after vs v)) w ≡ true
unfolding clap_on_literals
one_turn name vs v [] plain = absurd cc
one_turn name vs v (b ∷ bs) plain = rw (not_minus b plain) (rw (not_minus b plain) refl)

passes_over : (name : Text) (vs : List Text) (v : Text) (ws : List Text) → list_all is_plain_word ws ≡ true → walk_passes (built_command name) [] (walk_at (after vs v)) ws ≡ true
unfolding clap_on_literals
passes_over name vs v [] plain = refl
passes_over name vs v (w ∷ ws) plain =
    let each = parts (is_plain_word w) (list_all is_plain_word ws) plain in
    both (one_turn name vs v w each.0) (ap (λ (x : Walk). walk_passes (built_command name) [] x ws) (one_step vs v w each.0) ∙ passes_over name (vs ++ v ∷ []) w ws each.1)

settles_over : (vs : List Text) (v : Text) (ws : List Text) → list_all is_plain_word ws ≡ true → settle_passes (built_rule ∷ []) false (over (walk_at (after vs v)) ws).held ≡ true
unfolding clap_on_literals
settles_over vs v [] plain = refl
settles_over vs v (w ∷ ws) plain =
    let each = parts (is_plain_word w) (list_all is_plain_word ws) plain in
    ap (λ (x : Walk). settle_passes (built_rule ∷ []) false (over x ws).held) (one_step vs v w each.0) ∙ settles_over (vs ++ v ∷ []) w ws each.1

walk_takes : (name : Text) (ws : List Text) → list_all is_plain_word ws ≡ true → walk_passes (built_command name) [] (walk_from nothing_held) ws ≡ true
unfolding clap_on_literals
walk_takes name [] plain = refl
walk_takes name (w ∷ ws) plain =
    let each = parts (is_plain_word w) (list_all is_plain_word ws) plain in
    both (first_turn name w each.0) (ap (λ (x : Walk). walk_passes (built_command name) [] x ws) (first_step w each.0) ∙ passes_over name [] w ws each.1)

settles : (ws : List Text) → list_all is_plain_word ws ≡ true → settle_passes (built_rule ∷ []) false (over (walk_from nothing_held) ws).held ≡ true
unfolding clap_on_literals
settles [] plain = refl
settles (w ∷ ws) plain =
    let each = parts (is_plain_word w) (list_all is_plain_word ws) plain in
    ap (λ (x : Walk). settle_passes (built_rule ∷ []) false (over x ws).held) (first_step w each.0) ∙ settles_over [] w ws each.1

command_takes : (name : Text) (ws : List Text) → list_all is_plain_word ws ≡ true → level_passes (built_command name) [] nothing_held ws false ≡ true
command_takes name ws plain = both (walk_takes name ws plain) (both (settles ws plain) refl)

-- ---- the call's words

stops_run : (ws : List Text) → fold (walked [] (names_of (built program_app))) (walk_from nothing_held) (codes "run" ∷ ws) ≡ record (walk_from nothing_held) { stopped = Some (codes "run", ws) }
unfolding clap_on_literals
stops_run ws = stays [] (names_of (built program_app)) (walk_from nothing_held) (codes "run") [] ws

stops_page : (ws : List Text) → fold (walked [] (names_of (built program_app))) (walk_from nothing_held) (codes "page" ∷ ws) ≡ record (walk_from nothing_held) { stopped = Some (codes "page", ws) }
unfolding clap_on_literals
stops_page ws = stays [] (names_of (built program_app)) (walk_from nothing_held) (codes "page") [] ws

stops_gen : (ws : List Text) → fold (walked [] (names_of (built program_app))) (walk_from nothing_held) (codes "gen" ∷ ws) ≡ record (walk_from nothing_held) { stopped = Some (codes "gen", ws) }
unfolding clap_on_literals
stops_gen ws = stays [] (names_of (built program_app)) (walk_from nothing_held) (codes "gen") [] ws

-- what a command takes, once the walk over the call's words has stopped at it
abbrev passes_at : List Text → Walk → Bool
passes_at words w = entered_passes (built program_app) w.stopped
    && (walk_passes (built program_app).top (names_of (built program_app)) (walk_from nothing_held) words
    && settle_passes [] false w.held)

found_run : (ws : List Text) → list_all is_plain_word ws ≡ true → subcommand_of program_app (codes "run" ∷ ws) ≡ Some (codes "run", argument_rows ws)
unfolding clap_on_literals
found_run ws plain = ap (λ (x : Walk). entered (built program_app) x.stopped) (stops_run ws) ∙ ap (λ (rows : List Row). Some (codes "run", rows)) (rows_are ws plain)

found_page : (ws : List Text) → list_all is_plain_word ws ≡ true → subcommand_of program_app (codes "page" ∷ ws) ≡ Some (codes "page", argument_rows ws)
unfolding clap_on_literals
found_page ws plain = ap (λ (x : Walk). entered (built program_app) x.stopped) (stops_page ws) ∙ ap (λ (rows : List Row). Some (codes "page", rows)) (rows_are ws plain)

found_gen : (ws : List Text) → list_all is_plain_word ws ≡ true → subcommand_of program_app (codes "gen" ∷ ws) ≡ Some (codes "gen", argument_rows ws)
unfolding clap_on_literals
found_gen ws plain = ap (λ (x : Walk). entered (built program_app) x.stopped) (stops_gen ws) ∙ ap (λ (rows : List Row). Some (codes "gen", rows)) (rows_are ws plain)

pub found_call : (command : Text) (ws : List Text) → IsCommandWord command → list_all is_plain_word ws ≡ true → subcommand_of program_app (command ∷ ws) ≡ Some (command, argument_rows ws)
found_call command ws (inl e) plain = rw e (found_run ws plain)
found_call command ws (inr (inl e)) plain = rw e (found_page ws plain)
found_call command ws (inr (inr e)) plain = rw e (found_gen ws plain)

pub call_is_simple : is_simple program_app ≡ true
unfolding clap_on_literals
call_is_simple = refl

takes_run : (ws : List Text) → list_all is_plain_word ws ≡ true → takes program_app (codes "run" ∷ ws) ≡ true
unfolding clap_on_literals
takes_run ws plain = rw (stops_run ws) (both (command_takes (codes "run") ws plain) (both (rest_passes (built program_app).top (names_of (built program_app)) (walk_from nothing_held) (codes "run") [] ws) refl))

takes_page : (ws : List Text) → list_all is_plain_word ws ≡ true → takes program_app (codes "page" ∷ ws) ≡ true
unfolding clap_on_literals
takes_page ws plain = rw (stops_page ws) (both (command_takes (codes "page") ws plain) (both (rest_passes (built program_app).top (names_of (built program_app)) (walk_from nothing_held) (codes "page") [] ws) refl))

takes_gen : (ws : List Text) → list_all is_plain_word ws ≡ true → takes program_app (codes "gen" ∷ ws) ≡ true
unfolding clap_on_literals
takes_gen ws plain = rw (stops_gen ws) (both (command_takes (codes "gen") ws plain) (both (rest_passes (built program_app).top (names_of (built program_app)) (walk_from nothing_held) (codes "gen") [] ws) refl))

pub takes_call : (command : Text) (ws : List Text) → IsCommandWord command → list_all is_plain_word ws ≡ true → takes program_app (command ∷ ws) ≡ true
takes_call command ws (inl e) plain = rw e (takes_run ws plain)
takes_call command ws (inr (inl e)) plain = rw e (takes_page ws plain)
takes_call command ws (inr (inr e)) plain = rw e (takes_gen ws plain)

-- the arguments are read as they were held
pub held_arguments : (words : List Text) → arguments_in (argument_rows words) ≡ words
held_arguments [] = refl
held_arguments (w ∷ ws) = refl

-- what is found behind a command is what clap holds of it
pub found_rows : (f : Found) (command : Text) (words : List Text) (o : Option (Text × List Row)) → Some (rows_of f) ≡ option_map (λ p. p.1) o
    → o ≡ Some (command, argument_rows words) → rows_of f ≡ argument_rows words
found_rows f command words o rows e = ap (λ (x : Option (List Row)). unwrap_or x []) (rows ∙ ap (option_map (λ p. p.1)) e)

-- and so they are read
pub read_arguments : (f : Found) (o : Option (List Text)) → o ≡ option_map raw_values (matched_of f (codes "arguments")) → unwrap_or o [] ≡ arguments_in (rows_of f)
read_arguments f o e = ap (λ (x : Option (List Text)). unwrap_or x []) (e ∙ raw_values-rows f (codes "arguments"))
