-- What is printed of the lanes is what their joined pass did.
use Rattle.std.proofs.Common.{◌≡◌, ◌≢◌, ℕ, zero, suc, ◌+◌, ◌-◌, ◌<◌, ◌≤◌, cond, eqb, eq-eqb, ne_eqb, Some, List, [], ◌∷◌, ◌++◌, length, map, filter, refl, ap, sym, ◌∙◌, subst, arith, append-nil}
use Rattle.std.specs.List.{slice_get, AllByRecursion, flat_map, zip}
use Rattle.std.proofs.lemmas.List.Concat.{flat_map-cons}
use Rattle.std.proofs.lemmas.List.Elements.{filter-append}
use lib.ListN.{get_elem?}
use Rattle.latch_law.specs.declared.knows.Entry.{Entry}
use Rattle.latch_law.specs.declared.knows.Statement as what
use Rattle.latch_law.specs.Rule.{Fits}
use Rattle.latch_law.specs.Whole.{IsEntry}
use Rattle.forest_law.specs.References.{IsReference}
use Rattle.index_law.specs.Rightness.{IsRight}
use Rattle.list_facts.proofs.Places.{inside, one_value, get_there, get_inside}
use Rattle.map_history.specs.Operation.{Ask}
use Rattle.map_history.specs.Report.{ScanPiece, Answer, Replied, LogFull, SpaceFull, Scanned, AnswerLine, ChangeLine, Report, entries_at}
use Rattle.map_history.specs.LegalReport.{Line, Run}
use Rattle.index_law.specs.Answers.{MadeChange}
use Rattle.forest_law.specs.State.{ForestState}
use Rattle.call_law.specs.Spoken.{View, OwnAnswer, Spoken, spoken_piece, sayings}
use Rattle.lane_law.specs.Worked.{lane_sayings}
use Rattle.lane_law.specs.Runs.{all_sayings, RunsAll, AreEntries}
use Rattle.lane_law.specs.Trail.{Changed, IsOwnChange, IsEntered, IsTrail}
use Rattle.lane_law.proofs.EntryLemmas.{listed}

-- all of these are said by the number
abbrev AreBy : ℕ → List Spoken → Type 0
AreBy n xs = AllByRecursion (λ (s : Spoken). s.by ≡ n) xs

both_by : (n : ℕ) (xs ys : List Spoken) → AreBy n xs → AreBy n ys → AreBy n (xs ++ ys)
both_by n [] ys a b = b
both_by n (x ∷ xs) ys a b = (a.0, both_by n xs ys a.1 b)

pieces_by : (i n : ℕ) (ask : Ask) (pieces : List ScanPiece) → AreBy n (map (λ (piece : ScanPiece). spoken_piece i piece.point n ask piece.columns) pieces)
pieces_by i n ask [] = tt
pieces_by i n ask (p ∷ pieces) = (refl, pieces_by i n ask pieces)

sayings_by : (i n : ℕ) (ask : Ask) (answer : Answer) → AreBy n (sayings i n ask answer)
sayings_by i n ask (Replied reply point columns) = (refl, tt)
sayings_by i n ask (LogFull k columns) = (refl, tt)
sayings_by i n ask (SpaceFull columns) = (refl, tt)
sayings_by i n ask (Scanned pieces) = pieces_by i n ask pieces

-- what a lane says is said by its number
pairs_by : (n : ℕ) (pairs : List (Line × AnswerLine)) → AreBy n (flat_map (λ (x : Line × AnswerLine). sayings x.0.op.index n x.0.op.ask x.1.answer) pairs)
pairs_by n [] = tt
pairs_by n (x ∷ pairs) = subst (AreBy n) (sym (flat_map-cons (λ (x : Line × AnswerLine). sayings x.0.op.index n x.0.op.ask x.1.answer) x pairs)) (both_by n (sayings x.0.op.index n x.0.op.ask x.1.answer) (flat_map (λ (x : Line × AnswerLine). sayings x.0.op.index n x.0.op.ask x.1.answer) pairs) (sayings_by x.0.op.index n x.0.op.ask x.1.answer) (pairs_by n pairs))

-- those of a number
abbrev those : ℕ → List Spoken → List Spoken
those n xs = filter (λ (s : Spoken). eqb s.by n) xs

those_append : (n : ℕ) (xs ys : List Spoken) → those n (xs ++ ys) ≡ those n xs ++ those n ys
those_append n xs ys = filter-append (λ (s : Spoken). eqb s.by n) xs ys

kept : (n : ℕ) (xs : List Spoken) → AreBy n xs → those n xs ≡ xs
kept n [] all = refl
kept n (x ∷ xs) all = ap (λ b. cond b (x ∷ those n xs) (those n xs)) (eq-eqb x.by n all.0) ∙ ap (λ s. x ∷ s) (kept n xs all.1)

left_out : (m n : ℕ) (xs : List Spoken) → m ≢ n → AreBy m xs → those n xs ≡ []
left_out m n [] other all = refl
left_out m n (x ∷ xs) other all = ap (λ b. cond b (x ∷ those n xs) (those n xs)) (ne_eqb x.by n (λ same. other (sym all.0 ∙ same))) ∙ left_out m n xs other all.1

-- lanes of higher numbers say nothing under this one
later : (n k : ℕ) (lanes : List (List Line)) (told : List (List AnswerLine)) → k < n → those k (all_sayings n lanes told) ≡ []
later n k [] told above = refl
later n k (lines ∷ lanes) [] above = refl
later n k (lines ∷ lanes) (answers ∷ told) above = those_append k (lane_sayings n lines answers) (all_sayings (n + 1) lanes told)
    ∙ (λ i. left_out n k (lane_sayings n lines answers) (λ same. omega arith) (pairs_by n (zip lines answers)) i ++ later (n + 1) k lanes told (omega arith) i)

-- what all lanes say under the number of one is what that one says
of_lane : (n k j : ℕ) (lanes : List (List Line)) (told : List (List AnswerLine)) (lines : List Line) (answers : List AnswerLine) → k ≡ n + j → slice_get lanes j ≡ Some lines → slice_get told j ≡ Some answers → those k (all_sayings n lanes told) ≡ lane_sayings k lines answers
of_lane n k j [] told lines answers is e f = absurd cc
of_lane n k j (x ∷ lanes) [] lines answers is e f = absurd cc
of_lane n k zero (x ∷ lanes) (y ∷ told) lines answers is e f =
    let here : n ≡ k = omega arith in
    those_append k (lane_sayings n x y) (all_sayings (n + 1) lanes told)
    ∙ ((λ i. first here i ++ later (n + 1) k lanes told (omega arith) i) ∙ append-nil (lane_sayings k lines answers))
  where
    same_lines : x ≡ lines
    same_lines = cc

    same_answers : y ≡ answers
    same_answers = cc

    first : n ≡ k → those k (lane_sayings n x y) ≡ lane_sayings k lines answers
    first here = ap (λ m. those m (lane_sayings n x y)) (sym here) ∙ (kept n (lane_sayings n x y) (pairs_by n (zip x y)) ∙ (λ i. lane_sayings (here i) (same_lines i) (same_answers i)))
of_lane n k (suc j) (x ∷ lanes) (y ∷ told) lines answers is e f = those_append k (lane_sayings n x y) (all_sayings (n + 1) lanes told)
    ∙ (λ i. left_out n k (lane_sayings n x y) (λ same. omega arith) (pairs_by n (zip x y)) i ++ of_lane (n + 1) k j lanes told lines answers (omega arith) e f i)

module _ (run : Run) (report : Report) (w : ForestState) (v : View) (all : RunsAll run report w v) (entries : AreEntries run report w) where
  -- the entries that are printed are changes that the pass made
  own_change : (i n : ℕ) (entry : ChangeLine) → slice_get (entries_at report i) n ≡ Some entry → IsOwnChange v i n entry
  own_change i n entry at =
      let named = entries.named i n entry at in
      let is = listed run report w v all entries i n entry named in
      let lane = get_inside run.lanes named.lane named.answered.line_there.0 named.answered.line_there.1 in
      let own = all.fits.own i n (record { change = is.deed; by = named.lane }) is.entry (omega (arith, all.low)) (omega (arith, lane, all.end)) in
      record {
        lane = named.lane;
        deed = is.deed;
        made = record { place = own.0; there = own.1 };
        same_change = sym is.change;
        same_lane = named.same_lane;
      }

  -- and the changes that it made are printed
  entered : (i point by : ℕ) (deed : MadeChange) → Changed v i point by deed → IsEntered report i point by deed
  entered i point by deed made =
      let q : OwnAnswer = record { index = i; point = point; by = by; what = what.TheVariants.Change deed } in
      let so = all.fits.so made.place q made.there in
      let n : ℕ = point - 1 in
      let mine : Entry MadeChange = record { change = deed; by = by } in
      let above = so.0 in
      let within : n < length so.1.0 = inside so.1.0 n mine so.1.2 in
      let entry = get_there (entries_at report i) n (omega (arith, within, entries.long i so.1.0 so.1.1)) in
      let named = entries.named i n entry.0 entry.1 in
      let is = listed run report w v all entries i n entry.0 named in
      let theirs : Entry MadeChange = record { change = is.deed; by = named.lane } in
      let list : is.entry.0 ≡ so.1.0 = one_value w.lists i is.entry.0 so.1.0 is.entry.1 so.1.1 in
      let same : theirs ≡ mine = one_value so.1.0 n theirs mine (ap (λ z. get_elem? z n) (sym list) ∙ is.entry.2) so.1.2 in
      record {
        n = n;
        entry = entry.0;
        is_point = omega arith;
        there = entry.1;
        same_change = sym is.change ∙ ap (λ (e : Entry MadeChange). e.change.change) same;
        same_lane = named.same_lane ∙ ap (λ (e : Entry MadeChange). e.by + 1) same;
      }

  pub trail : IsTrail run report v
  trail = record {
    low = all.low;
    end = all.end;
    passes = all.end ∙ (sym all.passes ∙ all.fits.passes);
    answers = λ lane lines told at at'. ap (those lane) all.said ∙ of_lane 0 lane lane run.lanes report.lanes lines told (omega arith) at at';
    changes = own_change;
    once = all.fits.once;
    entered = entered;
  }

-- a state that fits such a pass has no other changes
pub whole : (run : Run) (report : Report) (v : View) (w : ForestState) → IsTrail run report v → Fits IsRight IsReference w v → (i n : ℕ) (e : Entry MadeChange) → IsEntry w i n e → Changed v i (n + 1) e.by e.change × IsEntered report i (n + 1) e.by e.change
whole run report v w trail fits i n e here =
    let low : v.low ≤ e.by = omega (arith, trail.low) in
    let high : e.by < v.end = omega (arith, fits.makers i n e here, fits.passes, trail.passes) in
    let own = fits.own i n e here low high in
    let made : Changed v i (n + 1) e.by e.change = record { place = own.0; there = own.1 } in
    (made, trail.entered i (n + 1) e.by e.change made)
