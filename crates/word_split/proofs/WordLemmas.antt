-- What clap makes of the words of a call.
use Rattle.std.proofs.Common.{ℕ, ◌≡◌, ◌==◌, ◌∙◌, ap, refl, Bool, true, false, not, ◌&&◌, List, [], ◌∷◌, ◌++◌, Some, None, codes}
use Rattle.std.specs.Prelude.{fold}
use Rattle.std.specs.List.{list_all}
use Rattle.std.proofs.lemmas.List.{append_assoc}
use Rattle.clap.specs.Words.{Rule, Text}
use Rattle.clap.specs.Simple.{filled, with_index}
use Rattle.clap.specs.Walk.{Held, Walk, walked, walk_from, nothing_held, finished, positional, rows_after}
use Rattle.clap.proofs.OnLiterals.{clap_on_literals}
use Rattle.word_split.specs.CallWords.{is_plain_word}
use Rattle.word_split.specs.ProgramCommand.{argument_rows, arguments_rule}

-- the rule as it is built
abbrev pub built_rule : Rule
built_rule = with_index 1 (filled arguments_rule)

-- what is held after these words and one more
abbrev pub after : List Text → Text → Held
after vs v = record {
  rows = argument_rows vs;
  pending = Some (codes "arguments", v ∷ []);
  skip = 0;
}

abbrev pub walk_at : Held → Walk
walk_at h =
    record { held = h; waiting = positional; position = 1; is_trailing = false; stopped = None }

-- the walk over a command's words
abbrev pub over : Walk → List Text → Walk
over w ws = fold (walked (built_rule ∷ []) []) w ws

pub not_minus : (b : ℕ) → not (b == 45) ≡ true → (b == 45) ≡ false
not_minus b plain = go (b == 45) plain
  where
    go : (t : Bool) → not t ≡ true → t ≡ false
    go false e = refl
    go true e = absurd cc

pub first_step : (w : Text) → is_plain_word w ≡ true → walked (built_rule ∷ []) [] (walk_from nothing_held) w ≡ walk_at (after [] w)
unfolding clap_on_literals
first_step [] plain = absurd cc
first_step (b ∷ bs) plain = rw (not_minus b plain) (rw (not_minus b plain) refl)

pub one_step : (vs : List Text) (v w : Text) → is_plain_word w ≡ true → walked (built_rule ∷ []) [] (walk_at (after vs v)) w ≡ walk_at (after (vs ++ v ∷ []) w)
unfolding clap_on_literals
one_step vs v [] plain = absurd cc
one_step [] v (b ∷ bs) plain = rw (not_minus b plain) (rw (not_minus b plain) refl)
one_step (x ∷ xs) v (b ∷ bs) plain = rw (not_minus b plain) (rw (not_minus b plain) refl)

-- the rows at the end of a command's words
rows_end : (vs : List Text) (v : Text) → finished (built_rule ∷ []) (after vs v) ≡ argument_rows (vs ++ v ∷ [])
unfolding clap_on_literals
rows_end [] v = refl
rows_end (x ∷ xs) v = refl

pub parts : (a b : Bool) → (a && b) ≡ true → (a ≡ true) × (b ≡ true)
parts true true e = (refl, refl)
parts true false e = absurd cc
parts false b e = absurd cc

rows_over : (vs : List Text) (v : Text) (ws : List Text) → list_all is_plain_word ws ≡ true
    → finished (built_rule ∷ []) (over (walk_at (after vs v)) ws).held ≡ argument_rows (vs ++ v ∷ ws)
rows_over vs v [] plain = rows_end vs v
rows_over vs v (w ∷ ws) plain =
    let each = parts (is_plain_word w) (list_all is_plain_word ws) plain in
    ap (λ (x : Walk). finished (built_rule ∷ []) (over x ws).held) (one_step vs v w each.0)
    ∙ rows_over (vs ++ v ∷ []) w ws each.1
    ∙ ap argument_rows (append_assoc vs (v ∷ []) (w ∷ ws))

-- clap holds of a command's words what they are
pub rows_are : (ws : List Text) → list_all is_plain_word ws ≡ true → rows_after (built_rule ∷ []) [] ws ≡ argument_rows ws
unfolding clap_on_literals
rows_are [] plain = refl
rows_are (w ∷ ws) plain =
    let each = parts (is_plain_word w) (list_all is_plain_word ws) plain in
    ap (λ (x : Walk). finished (built_rule ∷ []) (over x ws).held) (first_step w each.0) ∙ rows_over [] w ws each.1
