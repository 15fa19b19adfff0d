-- A lane that goes on by one line.
use Rattle.std.proofs.Common.{◌≡◌, ℕ, ◌<◌, Bool, true, false, cond, eqb, List, [], ◌∷◌, ◌++◌, length, get_or, refl, ap, sym, ◌∙◌, subst, arith, length-append, append_assoc}
use Rattle.std.proofs.lemmas.Bool.Decides.{nat_tests}
use Rattle.std.proofs.lemmas.List.{append-nil}
use Rattle.std.proofs.lemmas.List.Concat.{flat_map-append}
use Rattle.std.proofs.lemmas.List.Elements.{All-append, All-weaker, All-nil, All-contains, Contains-get_or}
use Rattle.std.specs.List.{All, AllPairs, Contains, zip, flat_map}
use mathlib.Core.Option.{some}
use lib.ListN.{get_elem?}
use Rattle.list_facts.proofs.Places.{there}
use Rattle.map_history.specs.Map.{Put, Set, Del}
use Rattle.map_history.specs.Operation.{Ask, Get, Make, Seek, Scan, is_scan}
use Rattle.map_history.specs.Report.{Answer, Replied, LogFull, SpaceFull, Scanned, AnswerLine}
use Rattle.map_history.specs.LegalReport.{Line, Answers, Mark, marks_of, marks_in, Precedes, has_form, is_done}
use Rattle.index_law.specs.State.{Entries}
use Rattle.call_law.specs.Spoken.{View, Spoken, spoken, sayings}
use Rattle.call_law.specs.Once.{AnswersOnce}
use Rattle.call_law.specs.Trace.{SeesMore}
use Rattle.call_law.proofs.TraceLemmas.{sees_more, once_said}
use Rattle.lane_law.specs.Worked.{answered, lane_sayings, IsSeenTo, Worked}
use Rattle.list_facts.proofs.Elements.{zip_push, all_zip_push, all_zip_length}
use Rattle.lane_law.proofs.PairLemmas.{all_pairs_none, all_pairs_one, all_pairs_append}

pub worked_none : (v : View) → Worked v v [] []
worked_none v = record {
  numbers = record { low = refl; end = refl; terms = refl };
  said = sym (append-nil (spoken v.said));
  seen = λ j ys at. ([], at ∙ ap some (sym (append-nil ys)));
  most = λ i. All-nil (λ (m : Mark). IsSeenTo v i m.point);
  in_order = record { form = tt; order = λ i. all_pairs_none Precedes };
}

-- what was seen to a point is still
seen_still : (v w : View) (i point : ℕ) → SeesMore v w → IsSeenTo v i point → IsSeenTo w i point
seen_still v w i point more seen = let a = more i seen.0 seen.1 in let low = seen.2 in (seen.0 ++ a.0, a.1, omega (arith, length-append seen.0 a.0))

marks_more : (i : ℕ) (lines : List Line) (answers : List AnswerLine) (line : Line) (answer : Answer) → length answers ≡ length lines → marks_in i (zip (lines ++ line ∷ []) (answers ++ answered line answer ∷ [])) ≡ marks_in i (zip lines answers) ++ cond (eqb line.op.index i) (marks_of answer) []
marks_more i lines answers line answer long =
    let mark = λ (x : Line × AnswerLine). cond (eqb x.0.op.index i) (marks_of x.1.answer) [] in
    ap (marks_in i) (zip_push lines answers line (answered line answer) long) ∙ (flat_map-append mark (zip lines answers) ((line, answered line answer) ∷ []) ∙ ap (λ ms. marks_in i (zip lines answers) ++ ms) (append-nil (cond (eqb line.op.index i) (marks_of answer) [])))

sayings_more : (n : ℕ) (lines : List Line) (answers : List AnswerLine) (line : Line) (answer : Answer) → length answers ≡ length lines → lane_sayings n (lines ++ line ∷ []) (answers ++ answered line answer ∷ []) ≡ lane_sayings n lines answers ++ sayings line.op.index n line.op.ask answer
sayings_more n lines answers line answer long =
    let say = λ (x : Line × AnswerLine). sayings x.0.op.index n x.0.op.ask x.1.answer in
    ap (λ ps. flat_map say ps) (zip_push lines answers line (answered line answer) long) ∙ (flat_map-append say (zip lines answers) ((line, answered line answer) ∷ []) ∙ ap (λ s. lane_sayings n lines answers ++ s) (append-nil (sayings line.op.index n line.op.ask answer)))

-- only a scan has more than one mark
pub plain_marks : (ask : Ask) (answer : Answer) → is_scan ask ≡ false → has_form ask answer ≡ true → AllPairs Precedes (marks_of answer)
plain_marks ask (Replied reply point columns) plain form = all_pairs_one Precedes (record { point = point; grows = is_done reply })
plain_marks ask (LogFull n columns) plain form = all_pairs_one Precedes (record { point = n; grows = 0 })
plain_marks ask (SpaceFull columns) plain form = all_pairs_none Precedes
plain_marks (Get k) (Scanned pieces) plain form = absurd cc
plain_marks (Make (Put k v)) (Scanned pieces) plain form = absurd cc
plain_marks (Make (Set k v)) (Scanned pieces) plain form = absurd cc
plain_marks (Make (Del k)) (Scanned pieces) plain form = absurd cc
plain_marks (Seek mode tuple) (Scanned pieces) plain form = absurd cc
plain_marks (Scan from to limit) (Scanned pieces) plain form = absurd cc

module _ (u v w : View) (lines : List Line) (answers : List AnswerLine) (line : Line) (answer : Answer) (did : Worked u v lines answers) (room : line.op.index < length v.seen) (pieces : AllPairs Precedes (marks_of answer)) (once : AnswersOnce v w line.op.index line.op.ask answer) where
  long : length answers ≡ length lines
  long = all_zip_length Answers lines answers did.in_order.form

  -- the list of the line's index was seen before, and is now up to the answer's marks
  before : (ys : Entries) × (get_elem? v.seen line.op.index ≡ some ys)
  before = there v.seen line.op.index room

  most_here : (m : Mark) → Contains (marks_of answer) m → IsSeenTo w line.op.index m.point
  most_here m c = let now = once.adds.seen line.op.index before.0 before.1 in (before.0 ++ now.0, now.1, once.most m (before.0 ++ now.0) c now.1)

  most_new : (i : ℕ) (b : Bool) → eqb line.op.index i ≡ b → All (λ (m : Mark). IsSeenTo w i m.point) (cond b (marks_of answer) [])
  most_new i false e = All-nil (λ (m : Mark). IsSeenTo w i m.point)
  most_new i true e = let here : line.op.index ≡ i = grind (arith, nat_tests) in
      λ k d below. subst (λ j. IsSeenTo w j (get_or (marks_of answer) k d).point) here (most_here (get_or (marks_of answer) k d) (Contains-get_or (marks_of answer) k d below))

  -- a mark that was told before is below those of the answer
  later : (x y : Mark) → IsSeenTo v line.op.index x.point → Contains (marks_of answer) y → Precedes x y
  later x y seen c = let low = seen.2 in let high = once.least y seen.0 c seen.1 in omega arith

  order_new : (i : ℕ) (b : Bool) → eqb line.op.index i ≡ b → AllPairs Precedes (marks_in i (zip lines answers) ++ cond b (marks_of answer) [])
  order_new i false e = subst (AllPairs Precedes) (sym (append-nil (marks_in i (zip lines answers)))) (did.in_order.order i)
  order_new i true e = let here : line.op.index ≡ i = grind (arith, nat_tests) in
      all_pairs_append Precedes (marks_in i (zip lines answers)) (marks_of answer) (did.in_order.order i) pieces
      (λ x y old new. later x y (subst (λ j. IsSeenTo v j x.point) (sym here) (All-contains (λ (m : Mark). IsSeenTo v i m.point) (marks_in i (zip lines answers)) x (did.most i) old)) new)

  pub worked_more : Worked u w (lines ++ line ∷ []) (answers ++ answered line answer ∷ [])
  worked_more = record {
    numbers = record { low = once.adds.numbers.low ∙ did.numbers.low; end = once.adds.numbers.end ∙ did.numbers.end; terms = once.adds.numbers.terms ∙ did.numbers.terms };
    said = once_said line.op.index line.op.ask answer v w once ∙ (ap (λ (n : ℕ). spoken v.said ++ sayings line.op.index n line.op.ask answer) did.numbers.low
        ∙ (ap (λ (s : List Spoken). s ++ sayings line.op.index u.low line.op.ask answer) did.said
        ∙ (append_assoc (spoken u.said) (lane_sayings u.low lines answers) (sayings line.op.index u.low line.op.ask answer)
        ∙ ap (λ (s : List Spoken). spoken u.said ++ s) (sym (sayings_more u.low lines answers line answer long)))));
    seen = sees_more u v w did.seen once.adds.seen;
    most = λ i. subst (All (λ (m : Mark). IsSeenTo w i m.point)) (sym (marks_more i lines answers line answer long))
        (All-append (λ (m : Mark). IsSeenTo w i m.point) (marks_in i (zip lines answers)) (cond (eqb line.op.index i) (marks_of answer) [])
        (All-weaker (λ (m : Mark). IsSeenTo v i m.point) (λ (m : Mark). IsSeenTo w i m.point) (λ m. seen_still v w i m.point once.adds.seen) (marks_in i (zip lines answers)) (did.most i))
        (most_new i (eqb line.op.index i) refl));
    in_order = record {
      form = all_zip_push Answers lines answers line (answered line answer) did.in_order.form (record { same_line = refl; form = once.form });
      order = λ i. subst (AllPairs Precedes) (sym (marks_more i lines answers line answer long)) (order_new i (eqb line.op.index i) refl);
    };
  }
