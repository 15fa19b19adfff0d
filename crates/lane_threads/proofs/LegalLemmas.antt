-- The report of lanes that worked together is legal.
use Rattle.std.proofs.Common.{◌≡◌, ℕ, suc, false, Some, subst, List, [], ◌∷◌, length, map, replicate, sym, ap, ◌∙◌, refl, arith}
use Rattle.std.specs.List.{AllByRecursion, AllZip, slice_get, zip}
use Rattle.std.proofs.lemmas.List.{length-map, length-replicate}
use Rattle.std.specs.Prelude.{Vec}
use Rattle.std.specs.declared.alloc.Global.{Global}
use Rattle.change_log.specs.Log.{ChangeNote, Log}
use Rattle.change_log.specs.Merge.{AreMerges}
use Rattle.change_log.specs.Entries.{printed_entries, ArePrinted, AreCountedUp}
use Rattle.list_facts.proofs.Places.{there, get_inside}
use Rattle.list_facts.proofs.Elements.{map_get_from, zip_from}
use Rattle.latch_law.specs.declared.knows.Terms.{Terms}
use Rattle.map_history.specs.declared.counts.Counts.{Counts}
use Rattle.map_history.specs.declared.op.Op.{Op}
use Rattle.map_history.specs.declared.op.Op.TheVariants as op
use Rattle.map_history.specs.declared.sizes.Sizes.{Sizes}
use Rattle.map_history.specs.LegalReport as legal
use Rattle.map_history.specs.Operation.{is_scan, operation_of}
use Rattle.map_history.specs.Report.{ChangeLine, IndexPart, Report}
use Rattle.map_history.specs.declared.line.Line.{Line}
use Rattle.map_history.specs.Lines.{line_texts}
use Rattle.index_law.specs.Shape.{Shape}
use Rattle.index_law.specs.State.{Entries}
use Rattle.learning.specs.Opening.{opening_info}
use Rattle.search_info.specs.History.{Start}
use Rattle.search_info.specs.declared.knows.Opening.{Opening}
use Rattle.lane_threads.specs.Engine.{EnginePass, known, lessons_of}
use Rattle.lane_law.proofs.LegalLemmas as proved
use Rattle.lane_law.proofs.MergedLemmas.{noted_printed, are_entries}
use Rattle.lane_law.proofs.MergeLemmas.{are_lists}
use Rattle.lane_law.proofs.TrailLemmas.{trail}
use Rattle.lane_law.specs.Merged.{IsNumbered, HasMerged}
use Rattle.lane_law.specs.Reports.{part_with, report_with}
use Rattle.lane_law.specs.Runs.{RunsAll, AreEntries}
use Rattle.lane_law.specs.Taught.{IsTaught}
use Rattle.lane_law.specs.Lines.{IsOpOf, AreLinesOf}
use Rattle.lane_threads.specs.Together.{lane_texts, AllAreLinesOf, RanTogether, AreReported, lanes_run}

plain_op : (fields : List ℕ) (o : Op) → IsOpOf fields o → is_scan (operation_of o).ask ≡ false
plain_op fields (op.Get index key) can = refl
plain_op fields (op.Put index key value) can = refl
plain_op fields (op.Set index key value) can = refl
plain_op fields (op.Del index key) can = refl
plain_op fields (op.Seek index mode tuple) can = refl
plain_op fields (op.Scan index from to limit) can = absurd can

plain_lines : (fields : List ℕ) (lines : List Line) → AreLinesOf fields lines → AllByRecursion (λ (line : legal.Line). is_scan line.op.ask ≡ false) (line_texts lines)
plain_lines fields [] all = tt
plain_lines fields (line ∷ lines) all = (plain_op fields line.op all.0, plain_lines fields lines all.1)

plain_lanes : (fields : List ℕ) (lanes : List (Vec Line Global)) → AllAreLinesOf fields lanes → AllByRecursion (λ (lines : List legal.Line). AllByRecursion (λ (line : legal.Line). is_scan line.op.ask ≡ false) lines) (lane_texts lanes)
plain_lanes fields [] all = tt
plain_lanes fields (lines ∷ lanes) all = (plain_lines fields lines.items all.0, plain_lanes fields lanes all.1)

names_are : (names : List (List ℕ)) (entries : List (List ChangeLine)) (counts : List Counts) → length entries ≡ length names → length counts ≡ length names → map (λ (part : IndexPart). part.name) (map part_with (zip names (zip entries counts))) ≡ names
names_are [] entries counts long long' = refl
names_are (name ∷ names) [] counts long long' = absurd (omega (arith, long))
names_are (name ∷ names) (e ∷ entries) [] long long' = absurd (omega (arith, long'))
names_are (name ∷ names) (e ∷ entries) (n ∷ counts) long long' = ap (λ ns. name ∷ ns) (names_are names entries counts (omega (arith, long)) (omega (arith, long')))

-- the first of each pair
firsts : {X Y : Type 0} (xs : List X) (ys : List Y) → length xs ≡ length ys → map (λ (p : X × Y). p.0) (zip xs ys) ≡ xs
firsts [] ys long = refl
firsts (x ∷ xs) [] long = absurd (omega (arith, long))
firsts (x ∷ xs) (y ∷ ys) long = ap (λ zs. x ∷ zs) (firsts xs ys (omega (arith, long)))

-- what holds at each place holds of all
all_from : {X : Type 0} (P : X → Type 0) (xs : List X) → ((i : ℕ) (x : X) → slice_get xs i ≡ Some x → P x) → AllByRecursion P xs
all_from P [] each = tt
all_from P (x ∷ xs) each = (each 0 x refl, all_from P xs (λ i. each (suc i)))

zip_from_each : {X Y : Type 0} (R : X → Y → Type 0) (f : X → Y) (xs : List X) → AllByRecursion (λ x. R x (f x)) xs → AllZip R xs (map f xs)
zip_from_each R f [] all = tt
zip_from_each R f (x ∷ xs) all = (all.0, zip_from_each R f xs all.1)

-- the part at a place has the entries and the counts that stand there
part_there : (names : List (List ℕ)) (entries : List (List ChangeLine)) (counts : List Counts) (i : ℕ) (part : IndexPart) → slice_get (map part_with (zip names (zip entries counts))) i ≡ Some part → (slice_get entries i ≡ Some part.entries) × (slice_get counts i ≡ Some part.counts)
part_there names entries counts i part at =
    let p = map_get_from part_with (zip names (zip entries counts)) i part at in
    let both = zip_from entries counts i p.0.1 (zip_from names (zip entries counts) i p.0 p.1).1 in
    (both.0 ∙ ap (λ (z : IndexPart). Some z.entries) p.2, both.1 ∙ ap (λ (z : IndexPart). Some z.counts) p.2)

module _ (sizes : Sizes) (fields : List ℕ) (names : List (List ℕ)) (lanes : List (Vec Line Global)) (texts : List (List (List ℕ))) (logs : List Log) (counts : List Counts) (pass : EnginePass) (changes : List (List ChangeNote))
    (paired : length names ≡ length fields) (all : AllAreLinesOf fields lanes) (merged : AreMerges (length names) logs changes) (ran : RanTogether sizes fields (lane_texts lanes) texts logs counts pass) where
  abbrev run : legal.Run
  run = lanes_run sizes names lanes

  abbrev entries : List (List ChangeLine)
  entries = map printed_entries changes

  abbrev report : Report
  report = report_with ran.answers names entries counts

  long : length entries ≡ length names
  long = length-map changes printed_entries ∙ merged.count

  -- all that is known at the end of the run
  runs : RunsAll run report ran.fitted.whole (known pass)
  runs = record {
    lawful = ran.fitted.is_lawful;
    fits = ran.fitted.fits;
    low = ran.low;
    end = ran.end;
    passes = ran.fitted.fits.passes ∙ ap (λ (t : Terms Shape). t.passes) ran.terms;
    max_changes = ran.fitted.fits.max_changes ∙ ap (λ (t : Terms Shape). t.max_changes) ran.terms;
    indexes = ap (λ (s : Shape). s.indexes) ran.fitted.fits.shape ∙ (ap (λ (t : Terms Shape). t.shape.indexes) ran.terms ∙ sym paired);
    pages = ap (λ (s : Shape). s.pages) ran.fitted.fits.shape ∙ ap (λ (t : Terms Shape). t.shape.pages) ran.terms;
    said = ran.said;
    lanes = ran.in_order;
    names = names_are names entries counts long (ran.counted.long ∙ sym paired);
    counts = λ i part at. ran.counted.each i part.counts (part_there names entries counts i part at).1;
  }

  -- the merged changes of an index are its list
  numbered : (i : ℕ) (notes : List ChangeNote) (at : slice_get changes i ≡ Some notes) → (xs : Entries) × IsNumbered run report i xs notes
  numbered i notes at =
      let below = get_inside changes i notes at in
      let lists = runs.lawful.objects.counted.lists in
      let indexes = runs.indexes in
      let count = merged.count in
      let xs = there ran.fitted.whole.lists i (omega arith) in
      (xs.0, are_lists run report ran.fitted.whole (known pass) runs i logs ran.noted xs.0 xs.1 notes (merged.each i notes at))

  -- so each is printed
  printed : (i : ℕ) (notes : List ChangeNote) → slice_get changes i ≡ Some notes → ArePrinted notes (printed_entries notes)
  printed i notes at = noted_printed run report i notes (numbered i notes at).1.noted

  has_merged : HasMerged report logs
  has_merged i part at =
      let notes = map_get_from printed_entries changes i part.entries (part_there names entries counts i part at).0 in
      (notes.0, merged.each i notes.0 notes.1, subst (ArePrinted notes.0) notes.2 (printed i notes.0 notes.1))

  in_lists : AreEntries run report ran.fitted.whole
  in_lists = are_entries run report ran.fitted.whole (known pass) logs runs ran.noted has_merged

  -- the joined pass tried what the report tells
  taught : IsTaught run report (lessons_of pass)
  taught = record {
    low = pass.low ∙ ran.low;
    end = pass.end ∙ ran.end;
    passes = ap (λ (o : Opening). o.passes) ran.opening;
    starts = ap (λ (o : Opening). map (λ (s : Start). s.0) o.starts) ran.opening
        ∙ (firsts (replicate (length fields) opening_info) fields (length-replicate (length fields) opening_info) ∙ ap (λ (n : ℕ). replicate n opening_info) (sym paired));
    tries = ran.tries;
  }

  -- the changes are reported
  pub reported : AreReported run report pass changes entries
  reported = record {
    legal = proved.legal run report ran.fitted.whole (known pass) (plain_lanes fields lanes all) runs in_lists;
    trail = trail run report ran.fitted.whole (known pass) runs in_lists;
    taught = taught;
    printed = zip_from_each ArePrinted printed_entries changes (all_from (λ notes. ArePrinted notes (printed_entries notes)) changes printed);
    counted = all_from AreCountedUp changes (λ i notes at. (numbered i notes at).1.numbers);
  }
