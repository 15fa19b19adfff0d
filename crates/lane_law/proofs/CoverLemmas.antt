-- Each entry of a list is a line that was answered `ok`.
use Rattle.std.proofs.Common.{◌≡◌, ℕ, suc, ◌+◌, ◌<◌, ◌≤◌, Some, List, [], ◌∷◌, refl, ap, ◌∙◌, subst, ⊎_elim, arith}
use Rattle.std.proofs.lemmas.List.Elements.{Contains-append_cases}
use Rattle.std.specs.List.{slice_get, Contains, zip}
use mathlib.Core.Option.{some}
use lib.ListN.{get_elem?}
use Rattle.latch_law.specs.declared.knows.Entry.{Entry}
use Rattle.latch_law.specs.declared.knows.Statement.TheVariants as what
use Rattle.map_history.specs.Map.{MapChange}
use Rattle.map_history.specs.Operation.{Ask, Make}
use Rattle.map_history.specs.Reply.{MapReply, Done}
use Rattle.map_history.specs.Report.{Columns, ScanPiece, Answer, Replied, LogFull, SpaceFull, Scanned, AnswerLine, Report}
use Rattle.map_history.specs.LegalReport.{Line, Run, IsAnswered}
use Rattle.index_law.specs.Answers.{MadeChange}
use Rattle.forest_law.specs.State.{ForestState}
use Rattle.index_law.specs.State.{Entries}
use Rattle.call_law.specs.Spoken.{View, OwnAnswer, Spoken, spoken_piece, sayings}
use Rattle.lane_law.specs.Worked.{lane_sayings}
use Rattle.lane_law.specs.Runs.{all_sayings, RunsAll}
use Rattle.list_facts.proofs.Elements.{contains_none, contains_one, contains_head, get_contains, map_get_from, flat_from, zip_from}
use Rattle.lane_law.proofs.SaidLemmas.{spoken_contains}
use Rattle.lane_law.proofs.AnswerLemmas.{answered_at}

-- of all that lanes say, each is said by one
pub all_from : (n : ℕ) (lanes : List (List Line)) (told : List (List AnswerLine)) (s : Spoken) → Contains (all_sayings n lanes told) s
    → (m k : ℕ) × (lines : List Line) × (answers : List AnswerLine) × (m ≡ n + k) × (slice_get lanes k ≡ Some lines) × (slice_get told k ≡ Some answers) × Contains (lane_sayings m lines answers) s
all_from n [] told s c = absurd (contains_none s c)
all_from n (x ∷ lanes) [] s c = absurd (contains_none s c)
all_from n (x ∷ lanes) (y ∷ told) s c = ⊎_elim
    (λ (l : Contains (lane_sayings n x y) s). (n, 0, x, y, omega arith, refl, refl, l))
    (λ (r : Contains (all_sayings (n + 1) lanes told) s). let h = all_from (n + 1) lanes told s r in let by = h.4 in (h.0, suc h.1, h.2, h.3, omega arith, h.5, h.6, h.7))
    (Contains-append_cases (lane_sayings n x y) (all_sayings (n + 1) lanes told) s c)

-- a reply is said as it is
reply_from : (i n : ℕ) (ask : Ask) (answer : Answer) (s : Spoken) (reply : MapReply) (point : ℕ) (columns : Columns) → Contains (sayings i n ask answer) s → s.answer ≡ Replied reply point columns → record { index = i; by = n; ask = ask; answer = answer } ≡ s
reply_from i n ask (Replied r p c) s reply point columns said is = contains_one (record { index = i; by = n; ask = ask; answer = Replied r p c }) s said
reply_from i n ask (LogFull k c) s reply point columns said is = contains_one (record { index = i; by = n; ask = ask; answer = LogFull k c }) s said
reply_from i n ask (SpaceFull c) s reply point columns said is = contains_one (record { index = i; by = n; ask = ask; answer = SpaceFull c }) s said
reply_from i n ask (Scanned pieces) s reply point columns said is =
    let at = get_contains (sayings i n ask (Scanned pieces)) s said in
    let piece = map_get_from (λ (piece : ScanPiece). spoken_piece i piece.point n ask piece.columns) pieces at.0 s at.1 in
    let scanned : (spoken_piece i piece.0.point n ask piece.0.columns).answer ≡ Replied reply point columns = ap (λ (z : Spoken). z.answer) piece.2 ∙ is in
    absurd cc

-- a line that was answered `ok` at a point of an index, and its change
pub record IsToldOk (run : Run) (report : Report) (i point : ℕ) (c : MapChange) : Type 0 where
  pub lane : ℕ
  pub place : ℕ
  pub line : Line
  pub columns : Columns
  pub answered : IsAnswered run report lane place line (Replied Done point columns)
  pub index : line.op.index ≡ i
  pub asked : line.op.ask ≡ Make c

-- an entry of a list has such a line
pub entry_told : (run : Run) (report : Report) (w : ForestState) (v : View) → RunsAll run report w v → (i n : ℕ) (xs : Entries) (d : Entry MadeChange) → get_elem? w.lists i ≡ some xs → get_elem? xs n ≡ some d → IsToldOk run report i (n + 1) d.change.change
entry_told run report w v all i n xs d at at_n =
    let made = all.fits.makers i n d (xs, at, at_n) in
    let low : v.low ≤ d.by = omega (arith, all.low) in
    let high : d.by < v.end = omega (arith, made, all.passes, all.end) in
    let own = all.fits.own i n d (xs, at, at_n) low high in
    let q : OwnAnswer = record { index = i; point = n + 1; by = d.by; what = what.Change d.change } in
    let s : Spoken = record { index = i; by = d.by; ask = Make d.change.change; answer = Replied Done (n + 1) d.change.columns } in
    let said = subst (λ z. Contains z s) all.said (spoken_contains v.said own.0 q s own.1 (contains_head s [])) in
    let lane = all_from 0 run.lanes report.lanes s said in
    let lines = lane.2 in
    let answers = lane.3 in
    let x = flat_from (λ (x : Line × AnswerLine). sayings x.0.op.index lane.0 x.0.op.ask x.1.answer) (zip lines answers) s lane.7 in
    let both = zip_from lines answers x.0 x.1 x.2 in
    let is = reply_from x.1.0.op.index lane.0 x.1.0.op.ask x.1.1.answer s Done (n + 1) d.change.columns x.3 refl in
    record {
      lane = lane.1;
      place = x.0;
      line = x.1.0;
      columns = d.change.columns;
      answered = answered_at run report w v all lane.1 lines answers x.0 x.1.0 x.1.1 (Replied Done (n + 1) d.change.columns) lane.5 lane.6 both.0 both.1 (ap (λ (z : Spoken). z.answer) is);
      index = ap (λ (z : Spoken). z.index) is;
      asked = ap (λ (z : Spoken). z.ask) is;
    }
