-- A lane's tries, one line more; and lanes' tries, one lane more.
use Rattle.std.proofs.Common.{◌≡◌, ℕ, List, [], ◌∷◌, ◌++◌, length, map, refl, ap, ap₂, sym, ◌∙◌, append_assoc}
use Rattle.std.proofs.lemmas.List.{append-nil, map-append}
use Rattle.std.proofs.lemmas.List.Concat.{flat_map-append}
use Rattle.std.specs.List.{AllByRecursion, flat_map, zip}
use Rattle.list_facts.proofs.Elements.{zip_push}
use Rattle.map_history.specs.Report.{Columns, Answer, AnswerLine}
use Rattle.map_history.specs.LegalReport.{Line, columns_of}
use Rattle.search_info.specs.declared.knows.Knows.{Knows}
use Rattle.search_info.specs.declared.knows.Try.{Try}
use Rattle.search_info.specs.Tries.{kind_of, kinds_after, TriesAfter}
use Rattle.lane_law.specs.Worked.{answered}
use Rattle.lane_law.specs.Taught.{tried_by, told_try, answer_tries, lane_tries, Taught}

-- no line, no tries
pub taught_none : (l : Knows) → Taught l l [] []
taught_none l = record { opening = refl; low = refl; end = refl; tries = []; added = sym (append-nil l.tries); told = refl }

kinds_told : (k i : ℕ) (ts : List Try) → AllByRecursion (λ (t : Try). (t.index ≡ i) × (t.by ≡ k)) ts → map told_try ts ≡ map (tried_by k i) (map (λ (t : Try). kind_of t.event) ts)
kinds_told k i [] each = refl
kinds_told k i (t ∷ ts) each =
    let first : told_try t ≡ tried_by k i (kind_of t.event) = λ j. tried_by (each.0.1 j) (each.0.0 j) (kind_of t.event) in
    ap₂ ◌∷◌ first (kinds_told k i ts each.1)

-- an answer of one row asks for the kinds of its word
answer_asks : (k i : ℕ) (answer : Answer) (c : Columns) → columns_of answer ≡ c ∷ [] → answer_tries k i answer ≡ map (tried_by k i) (kinds_after c.how)
answer_asks k i answer c is =
    let tries = λ (c : Columns). map (tried_by k i) (kinds_after c.how) in
    ap (λ (cs : List Columns). flat_map tries cs) is ∙ append-nil (map (tried_by k i) (kinds_after c.how))

tries_more : (k : ℕ) (lines : List Line) (answers : List AnswerLine) (line : Line) (answer : Answer) → length answers ≡ length lines → lane_tries k (lines ++ line ∷ []) (answers ++ answered line answer ∷ []) ≡ lane_tries k lines answers ++ answer_tries k line.op.index answer
tries_more k lines answers line answer long =
    let tries = λ (x : Line × AnswerLine). answer_tries k x.0.op.index x.1.answer in
    ap (λ ps. flat_map tries ps) (zip_push lines answers line (answered line answer) long)
    ∙ (flat_map-append tries (zip lines answers) ((line, answered line answer) ∷ []) ∙ ap (λ s. lane_tries k lines answers ++ s) (append-nil (answer_tries k line.op.index answer)))

-- one line more
pub taught_more : (l m n : Knows) (lines : List Line) (answers : List AnswerLine) (line : Line) (answer : Answer) (c : Columns) → length answers ≡ length lines → columns_of answer ≡ c ∷ [] → Taught l m lines answers → TriesAfter m line.op.index c.how n
    → Taught l n (lines ++ line ∷ []) (answers ++ answered line answer ∷ [])
taught_more l m n lines answers line answer c long is so_far after =
    let i = line.op.index in
    let own : map told_try after.tries ≡ answer_tries m.low i answer = kinds_told m.low i after.tries after.each ∙ (ap (map (tried_by m.low i)) after.kinds ∙ sym (answer_asks m.low i answer c is)) in
    let new : map told_try after.tries ≡ answer_tries l.low i answer = own ∙ ap (λ (k : ℕ). answer_tries k i answer) so_far.low in
    record {
      opening = after.opening ∙ so_far.opening;
      low = after.low ∙ so_far.low;
      end = after.end ∙ so_far.end;
      tries = so_far.tries ++ after.tries;
      added = after.added ∙ (ap (λ (ts : List Try). ts ++ after.tries) so_far.added ∙ append_assoc l.tries so_far.tries after.tries);
      told = map-append told_try so_far.tries after.tries ∙ ((λ j. so_far.told j ++ new j) ∙ sym (tries_more l.low lines answers line answer long));
    }
