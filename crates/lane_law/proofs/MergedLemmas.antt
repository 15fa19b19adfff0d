-- Entries that are the merged changes are those of the lists.
use Rattle.std.proofs.Common.{◌≡◌, ℕ, ◌+◌, ◌<◌, Option, Some, List, [], ◌∷◌, ◌++◌, length, map, zero, suc, refl, ap, sym, ◌∙◌, subst, arith}
use Rattle.std.proofs.lemmas.List.{length-map}
use Rattle.std.specs.List.{slice_get}
use Rattle.std.specs.Option.{option_map, option_to_list}
use mathlib.Core.Option.{some}
use lib.ListN.{get_elem?}
use Rattle.list_facts.proofs.Places.{inside, there, same_some, get_inside, get_there}
use Rattle.list_facts.proofs.Elements.{map_get, map_get_from}
use Rattle.change_log.specs.Log.{ChangeNote, Log}
use Rattle.change_log.specs.Entries.{printed_entry, printed_entries, ArePrinted}
use Rattle.map_history.specs.Map.{MapChange}
use Rattle.map_history.specs.Operation.{Operation, Make, change_asked}
use Rattle.map_history.specs.Reply.{Done}
use Rattle.map_history.specs.Report.{Replied, ChangeLine, IndexPart, Report, entries_in}
use Rattle.map_history.specs.LegalReport.{Run, IsAnswered, NamesLine}
use Rattle.forest_law.specs.State.{ForestState}
use Rattle.index_law.specs.State.{Entries}
use Rattle.call_law.specs.Spoken.{View}
use Rattle.lane_law.specs.Runs.{RunsAll, AreEntries}
use Rattle.lane_law.specs.Merged.{HasNotes, IsNoted, IsNumbered, HasMerged}
use Rattle.lane_law.proofs.AnswerLemmas.{parts_counted}
use Rattle.lane_law.proofs.MergeLemmas.{are_lists}

-- an entry of an index is one of its part
part_of_entries : (parts : List IndexPart) (i n : ℕ) (printed : ChangeLine) → slice_get (entries_in (slice_get parts i)) n ≡ Some printed → (part : IndexPart) × (slice_get parts i ≡ Some part) × (slice_get part.entries n ≡ Some printed)
part_of_entries [] i n printed e = absurd cc
part_of_entries (part ∷ parts) zero n printed e = (part, refl, e)
part_of_entries (part ∷ parts) (suc i) n printed e = part_of_entries parts i n printed e

-- what is printed of a change whose line asks for it
printed_of : (note : ChangeNote) (c : MapChange) (printed : ChangeLine) → note.line.op.ask ≡ Make c → printed_entry note ≡ Some printed → record { lane = note.lane; line = note.line.line; change = c } ≡ printed
printed_of note c printed asks told =
    let entry : MapChange → ChangeLine = λ c. record { lane = note.lane; line = note.line.line; change = c } in
    same_some (entry c) printed (ap (λ a. option_map entry (change_asked a)) (sym asks) ∙ told)

-- as many are printed as there are changes
printed_long : (notes : List ChangeNote) (entries : List ChangeLine) → ArePrinted notes entries → length entries ≡ length notes
printed_long notes entries printed = sym (length-map entries (λ (e : ChangeLine). Some e)) ∙ (ap length (sym printed) ∙ length-map notes printed_entry)

-- and each at its place
printed_at : (notes : List ChangeNote) (entries : List ChangeLine) (n : ℕ) (e : ChangeLine) → ArePrinted notes entries → slice_get entries n ≡ Some e → (note : ChangeNote) × (slice_get notes n ≡ Some note) × (printed_entry note ≡ Some e)
printed_at notes entries n e printed at = map_get_from printed_entry notes n (Some e) (ap (λ z. slice_get z n) printed ∙ map_get (λ (e : ChangeLine). Some e) entries n e at)

-- a change whose line asks for one is printed
printed_more : (note : ChangeNote) (notes : List ChangeNote) (c : MapChange) → note.line.op.ask ≡ Make c → ArePrinted notes (printed_entries notes) → ArePrinted (note ∷ notes) (printed_entries (note ∷ notes))
printed_more note notes c asks rest =
    let entry : MapChange → ChangeLine = λ c. record { lane = note.lane; line = note.line.line; change = c } in
    subst (λ (o : Option ChangeLine). o ∷ map printed_entry notes ≡ map Some (option_to_list o ++ printed_entries notes)) (ap (λ a. option_map entry (change_asked a)) (sym asks)) (ap (λ es. Some (entry c) ∷ es) rest)

-- what was noted is printed
pub noted_printed : (run : Run) (report : Report) (i : ℕ) (notes : List ChangeNote) → ((n : ℕ) (note : ChangeNote) → slice_get notes n ≡ Some note → IsNoted run report i note) → ArePrinted notes (printed_entries notes)
noted_printed run report i [] noted = refl
noted_printed run report i (note ∷ notes) noted = let is = noted 0 note refl in printed_more note notes is.change (ap (λ (o : Operation). o.ask) is.same_op) (noted_printed run report i notes (λ n. noted (suc n)))

module _ (run : Run) (report : Report) (w : ForestState) (v : View) (logs : List Log) (all : RunsAll run report w v) (noted : HasNotes run report logs) (merges : HasMerged report logs) where
  -- an index with a part has a list
  list_there : (i : ℕ) (part : IndexPart) → slice_get report.indexes i ≡ Some part → (xs : Entries) × (get_elem? w.lists i ≡ some xs)
  list_there i part at = there w.lists i (let room = get_inside report.indexes i part at in omega (arith, room, parts_counted run report w v all))

  names : (i n : ℕ) (note : ChangeNote) (printed : ChangeLine) → note.number ≡ n + 1 → IsNoted run report i note → printed_entry note ≡ Some printed → NamesLine run report i n printed
  names i n note printed number is told =
      let same = printed_of note is.change printed (ap (λ (o : Operation). o.ask) is.same_op) told in
      record {
        lane = is.lane;
        place = is.place;
        line = note.line;
        columns = is.columns;
        answered = subst (λ p. IsAnswered run report is.lane is.place note.line (Replied Done p is.columns)) number is.answered;
        same_lane = ap (λ (e : ChangeLine). e.lane) (sym same) ∙ is.same_lane;
        same_line = ap (λ (e : ChangeLine). e.line) (sym same);
        same_op = is.same_op ∙ ap (λ (e : ChangeLine). record { index = i; ask = Make e.change }) same;
      }

  numbers : (i : ℕ) (part : IndexPart) (at : slice_get report.indexes i ≡ Some part) (xs : Entries) → get_elem? w.lists i ≡ some xs → IsNumbered run report i xs (merges i part at).0
  numbers i part at xs listed = let merged = merges i part at in are_lists run report w v all i logs noted xs listed merged.0 merged.1

  pub are_entries : AreEntries run report w
  are_entries = record {
    long = λ i xs listed.
        let within : i < length report.indexes = (let room = inside w.lists i xs listed in omega (arith, room, parts_counted run report w v all)) in
        let part = get_there report.indexes i within in
        let merged = merges i part.0 part.1 in
        ap (λ o. length (entries_in o)) part.1 ∙ (printed_long merged.0 part.0.entries merged.2 ∙ (numbers i part.0 part.1 xs listed).long);
    named = λ i n printed at.
        let part = part_of_entries report.indexes i n printed at in
        let merged = merges i part.0 part.1 in
        let list = list_there i part.0 part.1 in
        let is = numbers i part.0 part.1 list.0 list.1 in
        let note = printed_at merged.0 part.0.entries n printed merged.2 part.2 in
        names i n note.0 printed (is.numbers n note.0 note.1) (is.noted n note.0 note.1) note.2;
  }
