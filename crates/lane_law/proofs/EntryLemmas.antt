-- The report's entries are those of the lists.
use Rattle.std.proofs.Common.{◌≡◌, ℕ, ◌+◌, ◌-◌, ◌<◌, Some, None, length, map, ap, sym, ◌∙◌, subst, arith}
use Rattle.std.proofs.lemmas.List.{length-map}
use Rattle.std.specs.List.{slice_get}
use mathlib.Core.Logic.{dite}
use mathlib.Core.Option.{some}
use native.Mathlib.Decide.{dec_lt}
use lib.ListN.{get_elem?}
use Rattle.latch_law.specs.declared.knows.Entry.{Entry}
use Rattle.latch_law.specs.Whole.{IsEntry}
use Rattle.list_facts.proofs.Places.{inside, there, one_value, get_from_elem, get_there}
use Rattle.map_history.specs.Map.{MapChange, AreLawful}
use Rattle.map_history.specs.Operation.{Operation, Make}
use Rattle.map_history.specs.Reply.{Done}
use Rattle.map_history.specs.Report.{Columns, Replied, ChangeLine, Report, entries_in, entries_at, changes_at}
use Rattle.map_history.specs.LegalReport.{Line, Run, IsAnswered, NamesLine, IsNamed}
use Rattle.index_law.specs.Answers.{MadeChange}
use Rattle.forest_law.specs.State.{ForestState}
use Rattle.index_law.specs.State.{Entries, changes}
use Rattle.call_law.specs.Spoken.{View}
use Rattle.lane_law.specs.Runs.{RunsAll, AreEntries}
use Rattle.list_facts.proofs.Elements.{get_past, map_get, map_get_from, same_places}
use Rattle.lane_law.proofs.AnswerLemmas.{ok_made, ok_once, parts_counted}

-- one change is asked for
same_asked : (c d : MapChange) → Make c ≡ Make d → c ≡ d
same_asked c d e = cc

-- an entry of the report is the entry of the list, made by its lane
pub record IsListed (w : ForestState) (i n by : ℕ) (c : MapChange) : Type 0 where
  pub deed : MadeChange
  pub change : deed.change ≡ c
  pub entry : IsEntry w i n (record { change = deed; by = by })

module _ (run : Run) (report : Report) (w : ForestState) (v : View) (all : RunsAll run report w v) (entries : AreEntries run report w) where
  pub listed : (i n : ℕ) (entry : ChangeLine) (named : NamesLine run report i n entry) → IsListed w i n named.lane entry.change
  listed i n entry named =
      let made = ok_made run report w v all named.lane named.place named.line (n + 1) named.columns named.answered in
      let index : named.line.op.index ≡ i = ap (λ (o : Operation). o.index) named.same_op in
      let ask : named.line.op.ask ≡ Make entry.change = ap (λ (o : Operation). o.ask) named.same_op in
      let place : (n + 1) - 1 ≡ n = omega arith in
      record {
        deed = made.deed;
        change = same_asked made.deed.change entry.change (sym made.asked ∙ ask);
        entry = subst (λ (z : ℕ × ℕ). IsEntry w z.0 z.1 (record { change = made.deed; by = named.lane })) (λ k. (index k, place k)) made.entry;
      }

  -- the changes of an index are those of its list
  pub changes_same : (i : ℕ) (xs : Entries) → get_elem? w.lists i ≡ some xs → changes_at report i ≡ changes xs
  changes_same i xs at = same_places (changes_at report i) (changes xs) (length-map (entries_at report i) (λ (e : ChangeLine). e.change) ∙ (entries.long i xs at ∙ sym (length-map xs (λ (e : Entry MadeChange). e.change.change)))) each
    where
      each : (n : ℕ) (c : MapChange) → slice_get (changes_at report i) n ≡ Some c → slice_get (changes xs) n ≡ Some c
      each n c e =
          let x = map_get_from (λ (e : ChangeLine). e.change) (entries_at report i) n c e in
          let named = entries.named i n x.0 x.1 in
          let is = listed i n x.0 named in
          let entry : Entry MadeChange = record { change = is.deed; by = named.lane } in
          let same : is.entry.0 ≡ xs = one_value w.lists i is.entry.0 xs is.entry.1 at in
          let in_list : slice_get xs n ≡ Some entry = get_from_elem xs n entry (ap (λ z. get_elem? z n) (sym same) ∙ is.entry.2) in
          map_get (λ (e : Entry MadeChange). e.change.change) xs n entry in_list ∙ ap (λ z. Some z) (is.change ∙ x.2)

  -- the changes of each index are lawful
  pub changes_lawful : (i : ℕ) → AreLawful (changes_at report i)
  changes_lawful i = dite (dec_lt i (length w.lists))
      (λ within. let xs = there w.lists i within in subst AreLawful (sym (changes_same i xs.0 xs.1)) (all.lawful.objects.lists i xs.0 xs.1))
      (λ past. let none : slice_get report.indexes i ≡ None = get_past report.indexes i (omega (arith, parts_counted run report w v all)) in
      subst AreLawful (ap (λ o. map (λ (e : ChangeLine). e.change) (entries_in o)) (sym none)) (λ n c e. absurd cc))

  -- each line that is answered `ok` has its entry
  pub ok_named : (lane place : ℕ) (line : Line) (point : ℕ) (columns : Columns) → IsAnswered run report lane place line (Replied Done point columns) → IsNamed report lane line point
  ok_named lane place line point columns a =
      let made = ok_made run report w v all lane place line point columns a in
      let i = line.op.index in
      let n : ℕ = point - 1 in
      let above = made.above in
      let is_point : point ≡ n + 1 = omega arith in
      let mine : Entry MadeChange = record { change = made.deed; by = lane } in
      let within : n < length made.entry.0 = inside made.entry.0 n mine made.entry.2 in
      let entry = get_there (entries_at report i) n (omega (arith, within, entries.long i made.entry.0 made.entry.1)) in
      let named = entries.named i n entry.0 entry.1 in
      let is = listed i n entry.0 named in
      let theirs : Entry MadeChange = record { change = is.deed; by = named.lane } in
      let list : is.entry.0 ≡ made.entry.0 = one_value w.lists i is.entry.0 made.entry.0 is.entry.1 made.entry.1 in
      let same : theirs ≡ mine = one_value made.entry.0 n theirs mine (ap (λ z. get_elem? z n) (sym list) ∙ is.entry.2) made.entry.2 in
      let lane_same : named.lane ≡ lane = ap (λ (e : Entry MadeChange). e.by) same in
      let told = subst (λ z. IsAnswered run report z named.place named.line (Replied Done (n + 1) named.columns)) lane_same named.answered in
      let once = ok_once run report w v all lane named.place place named.line line (n + 1) point named.columns columns (ap (λ (o : Operation). o.index) named.same_op) (sym is_point) told a in
      record {
        n = n;
        entry = entry.0;
        is_point = is_point;
        there = entry.1;
        same_lane = named.same_lane ∙ ap (λ z. z + 1) lane_same;
        same_line = named.same_line ∙ ap (λ (l : Line). l.line) once.1;
        same_change = ap (λ (l : Line). l.op.ask) (sym once.1) ∙ ap (λ (o : Operation). o.ask) named.same_op;
      }
