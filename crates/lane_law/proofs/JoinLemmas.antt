-- What is known of two runs of lanes is known of both in a row.
use Rattle.std.proofs.Common.{◌≡◌, ℕ, ◌+◌, List, [], ◌∷◌, ◌++◌, length, refl, ap, sym, ◌∙◌, arith, append_assoc}
use Rattle.std.proofs.lemmas.List.{append-nil}
use Rattle.std.proofs.lemmas.List.Concat.{flat_map-append}
use Rattle.std.specs.List.{AllZip, flat_map, zip}
use Rattle.latch_law.specs.Views.{both_parts}
use Rattle.map_history.specs.Report.{Answer, AnswerLine}
use Rattle.map_history.specs.LegalReport.{Line}
use Rattle.call_law.specs.Spoken.{View, OwnAnswer, Spoken, spoken, spoken_at}
use Rattle.lane_law.specs.Worked.{lane_sayings, AreInOrder, Worked}
use Rattle.lane_law.specs.Runs.{all_sayings}
use Rattle.lane_law.specs.Merged.{notes_of, lane_notes, all_notes}
use Rattle.list_facts.proofs.Elements.{zip_push}

spoken_append : (xs ys : List OwnAnswer) → spoken (xs ++ ys) ≡ spoken xs ++ spoken ys
spoken_append [] ys = refl
spoken_append (x ∷ xs) ys = ap (λ s. spoken_at x ++ s) (spoken_append xs ys) ∙ sym (append_assoc (spoken_at x) (spoken xs) (spoken ys))

-- a lane that begins with nothing said is a run of one lane
pub one_said : (u v : View) (lines : List Line) (answers : List AnswerLine) → spoken u.said ≡ [] → Worked u v lines answers → spoken v.said ≡ all_sayings u.low (lines ∷ []) (answers ∷ [])
one_said u v lines answers fresh did = did.said ∙ (ap (λ (s : List Spoken). s ++ lane_sayings u.low lines answers) fresh ∙ sym (append-nil (lane_sayings u.low lines answers)))

sayings_append : (n m : ℕ) (lanes lanes' : List (List Line)) (told told' : List (List AnswerLine)) → length told ≡ length lanes → m ≡ n + length lanes → all_sayings n (lanes ++ lanes') (told ++ told') ≡ all_sayings n lanes told ++ all_sayings m lanes' told'
sayings_append n m [] lanes' [] told' long by = (let same : n ≡ m = omega arith in ap (λ k. all_sayings k lanes' told') same)
sayings_append n m [] lanes' (y ∷ told) told' long by = absurd (omega arith)
sayings_append n m (x ∷ lanes) lanes' [] told' long by = absurd (omega arith)
sayings_append n m (x ∷ lanes) lanes' (y ∷ told) told' long by = ap (λ s. lane_sayings n x y ++ s) (sayings_append (n + 1) m lanes lanes' told told' (omega arith) (omega arith)) ∙ sym (append_assoc (lane_sayings n x y) (all_sayings (n + 1) lanes told) (all_sayings m lanes' told'))

-- two passes joined say what both say
pub both_said : (u v : View) (n m : ℕ) (lanes lanes' : List (List Line)) (told told' : List (List AnswerLine)) → length told ≡ length lanes → m ≡ n + length lanes → spoken u.said ≡ all_sayings n lanes told → spoken v.said ≡ all_sayings m lanes' told'
    → spoken (both_parts u v).said ≡ all_sayings n (lanes ++ lanes') (told ++ told')
both_said u v n m lanes lanes' told told' long by first second = spoken_append u.said v.said ∙ ((λ i. first i ++ second i) ∙ sym (sayings_append n m lanes lanes' told told' long by))

-- and note what both note
pub both_noted : (n m : ℕ) (lanes lanes' : List (List Line)) (told told' : List (List AnswerLine)) → length told ≡ length lanes → m ≡ n + length lanes → all_notes n (lanes ++ lanes') (told ++ told') ≡ all_notes n lanes told ++ all_notes m lanes' told'
both_noted n m [] lanes' [] told' long by = (let same : n ≡ m = omega arith in ap (λ k. all_notes k lanes' told') same)
both_noted n m [] lanes' (y ∷ told) told' long by = absurd (omega arith)
both_noted n m (x ∷ lanes) lanes' [] told' long by = absurd (omega arith)
both_noted n m (x ∷ lanes) lanes' (y ∷ told) told' long by = ap (λ s. lane_notes n x y ∷ s) (both_noted (n + 1) m lanes lanes' told told' (omega arith) (omega arith))

-- all are in order where those of both are
pub both_in_order : (lanes lanes' : List (List Line)) (told told' : List (List AnswerLine)) → AllZip AreInOrder lanes told → AllZip AreInOrder lanes' told' → AllZip AreInOrder (lanes ++ lanes') (told ++ told')
both_in_order [] lanes' [] told' first second = second
both_in_order [] lanes' (y ∷ told) told' first second = absurd first
both_in_order (x ∷ lanes) lanes' [] told' first second = absurd first
both_in_order (x ∷ lanes) lanes' (y ∷ told) told' first second = (first.0, both_in_order lanes lanes' told told' first.1 second)

-- one line more is one note more, or none
pub notes_more : (k : ℕ) (lines : List Line) (answers : List AnswerLine) (line : Line) (answer : Answer) → length answers ≡ length lines → lane_notes k (lines ++ line ∷ []) (answers ++ record { line = line.line; answer = answer } ∷ []) ≡ lane_notes k lines answers ++ notes_of k line answer
notes_more k lines answers line answer long =
    let note = λ (x : Line × AnswerLine). notes_of k x.0 x.1.answer in
    let told : AnswerLine = record { line = line.line; answer = answer } in
    ap (λ ps. flat_map note ps) (zip_push lines answers line told long) ∙ (flat_map-append note (zip lines answers) ((line, told) ∷ []) ∙ ap (λ s. lane_notes k lines answers ++ s) (append-nil (notes_of k line answer)))
