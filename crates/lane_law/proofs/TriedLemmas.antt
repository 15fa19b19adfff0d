-- The tries of lanes are as many as their columns ask for.
use Rattle.std.proofs.Common.{◌≡◌, ℕ, ◌+◌, Bool, true, false, cond, eqb, ◌&&◌, ◌||◌, List, [], ◌∷◌, map, refl, ap, sym, ◌∙◌, arith}
use Rattle.std.proofs.lemmas.List.Sums.{sum_by-cons, sum_by-append}
use Rattle.std.specs.List.{AllByRecursion, sum_by, count_by, flat_map, zip}
use Rattle.std.specs.Str.{bytes_eq}
use Rattle.map_history.specs.declared.columns.How.{How}
use Rattle.map_history.specs.declared.columns.How.TheVariants as how
use Rattle.map_history.specs.declared.columns.Note.{Note}
use Rattle.map_history.specs.declared.columns.Note.TheVariants as note
use Rattle.map_history.specs.Report.{Columns, AnswerLine, Report}
use Rattle.map_history.specs.LegalReport.{Line, Run, columns_of, columns_in, columns_at}
use Rattle.map_history.specs.Statistics.{has_word}
use Rattle.map_history.specs.Words.{how_text, note_text}
use Rattle.search_info.specs.declared.knows.Knows.{Knows}
use Rattle.search_info.specs.declared.knows.Try.{Try}
use Rattle.search_info.specs.Tries.{Kind, Hit, Miss, Descent, kind_of, kinds_after}
use Rattle.lane_law.specs.Taught.{ToldTry, tried_by, told_try, answer_tries, lane_tries, all_tries, IsTaught, same_kind, times_tried, times_how, times_in_vain, times_unasked, AreTold}

-- 1 where it is so
abbrev unit : Bool → ℕ
unit b = cond b 1 0

-- what is told is a try of the index of the kind
abbrev is_so : ℕ → Kind → ToldTry → Bool
is_so i kind t = eqb t.index i && same_kind t.kind kind

-- how many of what is told are
abbrev told_times : ℕ → Kind → List ToldTry → ℕ
told_times i kind ts = count_by (is_so i kind) ts

-- how many kinds are this one
abbrev kinds_in : Kind → List Kind → ℕ
kinds_in kind ks = count_by (λ k. same_kind k kind) ks

-- how many tries of a kind some columns ask for
abbrev asked_by : Kind → List Columns → ℕ
asked_by kind columns = sum_by (λ (c : Columns). kinds_in kind (kinds_after c.how)) columns

-- tries are as many as what is told of them
tried_told : (i : ℕ) (kind : Kind) (ts : List Try) → times_tried i kind ts ≡ told_times i kind (map told_try ts)
tried_told i kind [] = refl
tried_told i kind (t ∷ ts) = sum_by-cons (λ (t : Try). unit (eqb t.index i && same_kind (kind_of t.event) kind)) t ts
    ∙ (ap (λ (n : ℕ). unit (is_so i kind (told_try t)) + n) (tried_told i kind ts) ∙ sym (sum_by-cons (λ (t : ToldTry). unit (is_so i kind t)) (told_try t) (map told_try ts)))

-- tries of another index are none of this
of_index : (b : Bool) (k i : ℕ) (kind : Kind) (index : ℕ) (ks : List Kind) → eqb index i ≡ b → told_times i kind (map (tried_by k index) ks) ≡ cond b (kinds_in kind ks) 0
of_index true k i kind index [] is = refl
of_index false k i kind index [] is = refl
of_index true k i kind index (x ∷ ks) is =
    sum_by-cons (λ (t : ToldTry). unit (is_so i kind t)) (tried_by k index x) (map (tried_by k index) ks)
    ∙ ((λ j. unit (is j && same_kind x kind) + of_index true k i kind index ks is j) ∙ sym (sum_by-cons (λ (k' : Kind). unit (same_kind k' kind)) x ks))
of_index false k i kind index (x ∷ ks) is =
    sum_by-cons (λ (t : ToldTry). unit (is_so i kind t)) (tried_by k index x) (map (tried_by k index) ks)
    ∙ (λ j. unit (is j && same_kind x kind) + of_index false k i kind index ks is j)

module _ (k i : ℕ) (kind : Kind) where
  abbrev counting : ToldTry → ℕ
  counting t = unit (is_so i kind t)

  of_columns : (b : Bool) (index : ℕ) (cs : List Columns) → eqb index i ≡ b
      → told_times i kind (flat_map (λ (c : Columns). map (tried_by k index) (kinds_after c.how)) cs) ≡ asked_by kind (cond b cs [])
  of_columns true index [] is = refl
  of_columns false index [] is = refl
  of_columns true index (c ∷ cs) is =
      sum_by-append counting (map (tried_by k index) (kinds_after c.how)) (flat_map (λ (c : Columns). map (tried_by k index) (kinds_after c.how)) cs)
      ∙ ((λ j. of_index true k i kind index (kinds_after c.how) is j + of_columns true index cs is j) ∙ sym (sum_by-cons (λ (c : Columns). kinds_in kind (kinds_after c.how)) c cs))
  of_columns false index (c ∷ cs) is =
      sum_by-append counting (map (tried_by k index) (kinds_after c.how)) (flat_map (λ (c : Columns). map (tried_by k index) (kinds_after c.how)) cs)
      ∙ (λ j. of_index false k i kind index (kinds_after c.how) is j + of_columns false index cs is j)

  of_pairs : (ps : List (Line × AnswerLine)) → told_times i kind (flat_map (λ (x : Line × AnswerLine). answer_tries k x.0.op.index x.1.answer) ps) ≡ asked_by kind (columns_in i ps)
  of_pairs [] = refl
  of_pairs (p ∷ ps) =
      sum_by-append counting (answer_tries k p.0.op.index p.1.answer) (flat_map (λ (x : Line × AnswerLine). answer_tries k x.0.op.index x.1.answer) ps)
      ∙ ((λ j. of_columns (eqb p.0.op.index i) p.0.op.index (columns_of p.1.answer) refl j + of_pairs ps j)
      ∙ sym (sum_by-append (λ (c : Columns). kinds_in kind (kinds_after c.how)) (cond (eqb p.0.op.index i) (columns_of p.1.answer) []) (columns_in i ps)))

-- the tries of all lanes are as many as their columns ask for
of_lanes : (k i : ℕ) (kind : Kind) (lanes : List (List Line)) (told : List (List AnswerLine)) → told_times i kind (all_tries k lanes told) ≡ asked_by kind (flat_map (λ (x : List Line × List AnswerLine). columns_in i (zip x.0 x.1)) (zip lanes told))
of_lanes k i kind [] told = refl
of_lanes k i kind (l ∷ lanes) [] = refl
of_lanes k i kind (l ∷ lanes) (t ∷ told) =
    sum_by-append (counting k i kind) (lane_tries k l t) (all_tries (k + 1) lanes told)
    ∙ ((λ j. of_pairs k i kind (zip l t) j + of_lanes (k + 1) i kind lanes told j)
    ∙ sym (sum_by-append (λ (c : Columns). kinds_in kind (kinds_after c.how)) (columns_in i (zip l t)) (flat_map (λ (x : List Line × List AnswerLine). columns_in i (zip x.0 x.1)) (zip lanes told))))

-- the words of searches that try something
abbrev words : List How
words = how.Hit ∷ how.Off ∷ how.Cold ∷ how.Short ∷ how.PartBusy ∷ how.NoEntry ∷ how.BlockBusy ∷ how.Clock ∷ how.Unequal ∷ []

-- none of them stands in the second column
apart : (n : Note) → AllByRecursion (λ (h : How). bytes_eq (note_text n) (how_text h) ≡ false) words
apart note.Dash = (refl, (refl, (refl, (refl, (refl, (refl, (refl, (refl, (refl, tt)))))))))
apart note.No = (refl, (refl, (refl, (refl, (refl, (refl, (refl, (refl, (refl, tt)))))))))
apart note.Built = (refl, (refl, (refl, (refl, (refl, (refl, (refl, (refl, (refl, tt)))))))))
apart note.Same = (refl, (refl, (refl, (refl, (refl, (refl, (refl, (refl, (refl, tt)))))))))
apart note.Arena = (refl, (refl, (refl, (refl, (refl, (refl, (refl, (refl, (refl, tt)))))))))
apart note.Raced = (refl, (refl, (refl, (refl, (refl, (refl, (refl, (refl, (refl, tt)))))))))
apart note.Worn = (refl, (refl, (refl, (refl, (refl, (refl, (refl, (refl, (refl, tt)))))))))

-- 1 where the word of a search is this one
abbrev one : How → How → ℕ
one h x = unit (bytes_eq (how_text x) (how_text h))

or_false : (a b : Bool) → b ≡ false → (a || b) ≡ a
or_false true b is = refl
or_false false b is = is

-- a word that stands in no second column is counted by the first alone
word_more : (h : How) (c : Columns) (cs : List Columns) → bytes_eq (note_text c.note) (how_text h) ≡ false → times_how h (c ∷ cs) ≡ one h c.how + times_how h cs
word_more h c cs never = sum_by-cons (λ (c : Columns). unit (has_word (how_text h) c)) c cs
    ∙ ap (λ (b : Bool). unit b + times_how h cs) (or_false (bytes_eq (how_text c.how) (how_text h)) (bytes_eq (note_text c.note) (how_text h)) never)

-- what a word asks for, by which word it is
abbrev in_vain : How → ℕ
in_vain x = one how.PartBusy x + one how.NoEntry x + one how.BlockBusy x + one how.Clock x + one how.Unequal x

abbrev unasked : How → ℕ
unasked x = one how.Off x + one how.Cold x + one how.Short x

word_asks : (x : How) → (kinds_in Hit (kinds_after x) ≡ one how.Hit x) × (kinds_in Miss (kinds_after x) ≡ in_vain x) × (kinds_in Descent (kinds_after x) ≡ in_vain x + unasked x)
word_asks how.Dash = (refl, refl, refl)
word_asks how.Hit = (refl, refl, refl)
word_asks how.Off = (refl, refl, refl)
word_asks how.Cold = (refl, refl, refl)
word_asks how.Short = (refl, refl, refl)
word_asks how.PartBusy = (refl, refl, refl)
word_asks how.NoEntry = (refl, refl, refl)
word_asks how.BlockBusy = (refl, refl, refl)
word_asks how.Clock = (refl, refl, refl)
word_asks how.Unequal = (refl, refl, refl)
word_asks how.ByClock = (refl, refl, refl)
word_asks how.ByBusy = (refl, refl, refl)
word_asks how.ByMoved = (refl, refl, refl)
word_asks how.ByLast = (refl, refl, refl)

five : (a b c d e a' b' c' d' e' : ℕ) → (a + b + c + d + e) + (a' + b' + c' + d' + e') ≡ (a + a') + (b + b') + (c + c') + (d + d') + (e + e')
five a b c d e a' b' c' d' e' = omega arith

eight : (a b c d e f g h a' b' c' d' e' f' g' h' : ℕ) → ((a + b + c + d + e) + (f + g + h)) + ((a' + b' + c' + d' + e') + (f' + g' + h')) ≡ ((a + a') + (b + b') + (c + c') + (d + d') + (e + e')) + ((f + f') + (g + g') + (h + h'))
eight a b c d e f g h a' b' c' d' e' f' g' h' = omega arith

-- so all columns ask for these
all_asked : (cs : List Columns) → (asked_by Hit cs ≡ times_how how.Hit cs) × (asked_by Miss cs ≡ times_in_vain cs) × (asked_by Descent cs ≡ times_in_vain cs + times_unasked cs)
all_asked [] = (refl, refl, refl)
all_asked (c ∷ cs) =
    let never = apart c.note in
    let asks = word_asks c.how in
    let rest = all_asked cs in
    let hit = word_more how.Hit c cs never.0 in
    let off = word_more how.Off c cs never.1.0 in
    let cold = word_more how.Cold c cs never.1.1.0 in
    let short = word_more how.Short c cs never.1.1.1.0 in
    let part = word_more how.PartBusy c cs never.1.1.1.1.0 in
    let entry = word_more how.NoEntry c cs never.1.1.1.1.1.0 in
    let block = word_more how.BlockBusy c cs never.1.1.1.1.1.1.0 in
    let clock = word_more how.Clock c cs never.1.1.1.1.1.1.1.0 in
    let unequal = word_more how.Unequal c cs never.1.1.1.1.1.1.1.1.0 in
    let x = c.how in (
      sum_by-cons (λ (c : Columns). kinds_in Hit (kinds_after c.how)) c cs ∙ ((λ j. asks.0 j + rest.0 j) ∙ sym hit),
      sum_by-cons (λ (c : Columns). kinds_in Miss (kinds_after c.how)) c cs ∙ ((λ j. asks.1 j + rest.1 j)
          ∙ (five (one how.PartBusy x) (one how.NoEntry x) (one how.BlockBusy x) (one how.Clock x) (one how.Unequal x) (times_how how.PartBusy cs) (times_how how.NoEntry cs) (times_how how.BlockBusy cs) (times_how how.Clock cs) (times_how how.Unequal cs)
          ∙ sym (λ j. part j + entry j + block j + clock j + unequal j))),
      sum_by-cons (λ (c : Columns). kinds_in Descent (kinds_after c.how)) c cs ∙ ((λ j. asks.2 j + rest.2 j)
          ∙ (eight (one how.PartBusy x) (one how.NoEntry x) (one how.BlockBusy x) (one how.Clock x) (one how.Unequal x) (one how.Off x) (one how.Cold x) (one how.Short x) (times_how how.PartBusy cs) (times_how how.NoEntry cs) (times_how how.BlockBusy cs) (times_how how.Clock cs) (times_how how.Unequal cs) (times_how how.Off cs) (times_how how.Cold cs) (times_how how.Short cs)
          ∙ sym (λ j. (part j + entry j + block j + clock j + unequal j) + (off j + cold j + short j)))),
    )

-- the tries of a taught pass are as many as the report's columns tell
pub tries_told : (run : Run) (report : Report) (m : Knows) → IsTaught run report m → (i : ℕ) → AreTold m.tries i (columns_at run report i)
tries_told run report m taught i = record {
  hits = asked Hit ∙ counts.0;
  misses = asked Miss ∙ counts.1;
  descents = asked Descent ∙ counts.2;
}
  where
    counts : (asked_by Hit (columns_at run report i) ≡ times_how how.Hit (columns_at run report i)) × (asked_by Miss (columns_at run report i) ≡ times_in_vain (columns_at run report i)) × (asked_by Descent (columns_at run report i) ≡ times_in_vain (columns_at run report i) + times_unasked (columns_at run report i))
    counts = all_asked (columns_at run report i)

    asked : (kind : Kind) → times_tried i kind m.tries ≡ asked_by kind (columns_at run report i)
    asked kind = tried_told i kind m.tries ∙ (ap (told_times i kind) taught.tries ∙ of_lanes 0 i kind run.lanes report.lanes)
