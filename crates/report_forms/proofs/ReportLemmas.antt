-- A whole report is read again.
use Rattle.std.proofs.Common.{◌≡◌, ℕ, zero, suc, ◌+◌, ◌<◌, ◌≤◌, ◌^◌, Option, Some, List, [], ◌∷◌, ◌++◌, length, map, codes, get_or, refl, sym, ap, ◌∙◌, subst, arith}
use Rattle.std.proofs.lemmas.List.{length-map}
use Rattle.std.specs.List.{slice_get, AllByRecursion, AllZip, enumerate_from, flat_map, zip}
use Rattle.list_facts.proofs.Each.{each_weaker, each_both}
use Rattle.list_facts.proofs.Elements.{zip_get, zip_from, all_zip_at, all_zip_length, map_get, map_get_from, all_at}
use Rattle.list_facts.proofs.Places.{get_inside, get_there, reads, elem_from_get, same_some}
use Rattle.map_history.specs.declared.counts.Counts.{Counts}
use Rattle.map_history.specs.LegalReport.{Line, Run, Answers, columns_at, HasForm}
use Rattle.map_history.specs.Report.{AnswerLine, ChangeLine, IndexPart, Report}
use Rattle.map_history.specs.Spelling.{spell}
use Rattle.map_history.specs.Statistics.{counts_of}
use Rattle.map_history.specs.Text.{line_of}
use Rattle.report_laws.specs.SpellingLaws.{IsPlainName, IsSmallAnswer, IsPlainList, IsPlainButCounts}
use Rattle.audit_law.specs.TextLines.{formal, lane_text_lines, part_text_lines, stats_text_line, text_lines, ended_lines}
use Rattle.audit_law.specs.Verdicts.{ChangesRow, PrintsRows, IsFormed}
use Rattle.audit_law.proofs.LineLemmas.{lines_are_lines}
use Rattle.line_forms.specs.LineForms.{Lines, Reading, IsLineForm, in_line, read_line, read_both, both_lines, both_fit}
use Rattle.line_forms.specs.Anew.{exactly}
use Rattle.line_forms.proofs.FormLemmas.{two_forms}
use Rattle.line_forms.proofs.ReadingLemmas.{reading_judges}
use Rattle.line_forms.proofs.SeenLemmas.{seen_form}
use Rattle.line_forms.proofs.AnewLemmas.{exactly_form}
use Rattle.report_forms.specs.Lists.{read_each, each_lines}
use Rattle.report_forms.specs.Entries.{IsEntryOf, read_entries, part_lines, AreEntriesOf}
use Rattle.report_forms.specs.Reports.{fields_of, IsToldTo, read_lane, AreToldTo, lane_lines, stats_told, read_stats, parts_from, ReadParts, report_from, read_report, IsReadLine, IsReadRun, ReportsAreRead, ReportsAreJudged}
use Rattle.report_forms.proofs.EachLemmas.{each_form}
use Rattle.report_forms.proofs.EntryLemmas.{entries_are_read}
use Rattle.report_forms.proofs.LaneLemmas.{CanTell, lane_form}
use Rattle.report_forms.proofs.TextLemmas.{texts, texts-append, lanes_texts, lists_texts, stats_texts}

-- lists of two kinds, place by place
each_numbered : {X : Type 0} (P : ℕ × X → Type 0) (Q : X → Type 0) → ((k : ℕ) (x : X) → Q x → P (k, x)) → (k : ℕ) (xs : List X) → AllByRecursion Q xs → AllByRecursion P (enumerate_from k xs)
each_numbered P Q h k [] all = tt
each_numbered P Q h k (x ∷ xs) all = (h k x all.0, each_numbered P Q h (k + 1) xs all.1)

each_zipped : {A B : Type 0} (P : A × B → Type 0) (Q : A → Type 0) (R : B → Type 0) → ((x : A) (y : B) → Q x → R y → P (x, y)) → (xs : List A) (ys : List B) → AllByRecursion Q xs → AllByRecursion R ys → AllByRecursion P (zip xs ys)
each_zipped P Q R h [] ys a b = tt
each_zipped P Q R h (x ∷ xs) [] a b = tt
each_zipped P Q R h (x ∷ xs) (y ∷ ys) a b = (h x y a.0 b.0, each_zipped P Q R h xs ys a.1 b.1)

each_from : {A : Type 0} (P : A → Type 0) (xs : List A) → ((n : ℕ) (x : A) → slice_get xs n ≡ Some x → P x) → AllByRecursion P xs
each_from P [] h = tt
each_from P (x ∷ xs) h = (h 0 x refl, each_from P xs (λ n y e. h (suc n) y e))

zip_from_places : {A B : Type 0} (R : A → B → Type 0) (xs : List A) (ys : List B) → length ys ≡ length xs → ((i : ℕ) (x : A) (y : B) → slice_get xs i ≡ Some x → slice_get ys i ≡ Some y → R x y) → AllZip R xs ys
zip_from_places R [] [] same h = tt
zip_from_places R [] (y ∷ ys) same h = absurd (omega (arith, same))
zip_from_places R (x ∷ xs) [] same h = absurd (omega (arith, same))
zip_from_places R (x ∷ xs) (y ∷ ys) same h = (h 0 x y refl refl, zip_from_places R xs ys (omega (arith, same)) (λ i a b e f. h (suc i) a b e f))

-- with the places of the first
unnumbered : {X A : Type 0} (R : X → A → Type 0) (k : ℕ) (xs : List X) (ys : List A) → AllZip (λ (x : ℕ × X). R x.1) (enumerate_from k xs) ys → AllZip R xs ys
unnumbered R k [] [] h = tt
unnumbered R k [] (y ∷ ys) h = absurd h
unnumbered R k (x ∷ xs) [] h = absurd h
unnumbered R k (x ∷ xs) (y ∷ ys) h = (h.0, unnumbered R (k + 1) xs ys h.1)

renumbered : {X A : Type 0} (R : X → A → Type 0) (k : ℕ) (xs : List X) (ys : List A) → AllZip R xs ys → AllZip (λ (x : ℕ × X). R x.1) (enumerate_from k xs) ys
renumbered R k [] [] h = tt
renumbered R k [] (y ∷ ys) h = absurd h
renumbered R k (x ∷ xs) [] h = absurd h
renumbered R k (x ∷ xs) (y ∷ ys) h = (h.0, renumbered R (k + 1) xs ys h.1)

-- nothing is known of units
abbrev units : {X : Type 0} → List X → List (Unit {0})
units xs = map (λ x. tt) xs

each_unit : {X : Type 0} (xs : List X) → AllZip (λ (x : X) (u : Unit {0}). Unit {0}) xs (units xs)
each_unit [] = tt
each_unit (x ∷ xs) = (tt, each_unit xs)

length_numbered : {X : Type 0} (k : ℕ) (xs : List X) → length (enumerate_from k xs) ≡ length xs
length_numbered k [] = refl
length_numbered k (x ∷ xs) = ap suc (length_numbered (k + 1) xs)

length_zipped : {A B : Type 0} (xs : List A) (ys : List B) → length ys ≡ length xs → length (zip xs ys) ≡ length xs
length_zipped [] ys same = refl
length_zipped (x ∷ xs) [] same = absurd (omega (arith, same))
length_zipped (x ∷ xs) (y ∷ ys) same = ap suc (length_zipped xs ys (omega (arith, same)))

fields_are : (fields : List ℕ) (line : Line) (count : ℕ) → slice_get fields line.op.index ≡ Some count → fields_of fields line ≡ count
fields_are fields line count known = reads fields line.op.index count 0 (elem_from_get fields line.op.index count known)

-- the parts of indexes
module _ (run : Run) (told : List (List AnswerLine)) where
  abbrev counts_at : ℕ → Counts
  counts_at i = counts_of (columns_at run (record { lanes = told; indexes = [] }) i)

  record PartAt (m : ℕ) (names : List (List ℕ)) (lists : List (List ChangeLine)) (i : ℕ) (part : IndexPart) : Type 0 where
    name : slice_get names i ≡ Some part.name
    entries : slice_get lists i ≡ Some part.entries
    counts : part.counts ≡ counts_at (m + i)

  part_at : (m : ℕ) (names : List (List ℕ)) (lists : List (List ChangeLine)) (i : ℕ) (part : IndexPart) → slice_get (parts_from run told m names lists) i ≡ Some part → PartAt m names lists i part
  part_at m [] lists i part e = absurd cc
  part_at m (name ∷ names) [] i part e = absurd cc
  part_at m (name ∷ names) (entries ∷ lists) zero part e =
      let is = same_some (record { name = name; entries = entries; counts = counts_at m }) part e in
      let at : m ≡ m + 0 = omega arith in
      subst (λ (p : IndexPart). PartAt m (name ∷ names) (entries ∷ lists) zero p) is (record { name = refl; entries = refl; counts = ap counts_at at })
  part_at m (name ∷ names) (entries ∷ lists) (suc i) part e =
      let more = part_at (m + 1) names lists i part e in
      let at : (m + 1) + i ≡ m + suc i = omega arith in
      record { name = more.name; entries = more.entries; counts = more.counts ∙ ap counts_at at }

  parts_names : (m : ℕ) (names : List (List ℕ)) (lists : List (List ChangeLine)) → length lists ≡ length names → map (λ (part : IndexPart). part.name) (parts_from run told m names lists) ≡ names
  parts_names m [] lists same = refl
  parts_names m (name ∷ names) [] same = absurd (omega (arith, same))
  parts_names m (name ∷ names) (entries ∷ lists) same = ap (λ (ns : List (List ℕ)). name ∷ ns) (parts_names (m + 1) names lists (omega (arith, same)))

  parts_again : (m : ℕ) (names : List (List ℕ)) (parts : List IndexPart) → map (λ (part : IndexPart). part.name) parts ≡ names → ((i : ℕ) (part : IndexPart) → slice_get parts i ≡ Some part → part.counts ≡ counts_at (m + i))
      → parts_from run told m names (map (λ (part : IndexPart). part.entries) parts) ≡ parts
  parts_again m [] [] same counts = refl
  parts_again m [] (part ∷ parts) same counts = absurd cc
  parts_again m (name ∷ names) [] same counts = absurd cc
  parts_again m (name ∷ names) (part ∷ parts) same counts =
      let first : part.name ≡ name = cc same in
      let rest : map (λ (p : IndexPart). p.name) parts ≡ names = cc same in
      let at : m + 0 ≡ m = omega arith in
      let counted : part.counts ≡ counts_at m = counts 0 part refl ∙ ap counts_at at in
      let more = parts_again (m + 1) names parts rest (λ i p e. let there : m + suc i ≡ (m + 1) + i = omega arith in counts (suc i) p e ∙ ap counts_at there) in
      λ i. record { name = sym first i; entries = part.entries; counts = sym counted i } ∷ more i

module _ (run : Run) (fields : List ℕ) (is : IsReadRun run fields) where
  abbrev indexes : List (List ℕ × ℕ)
  indexes = zip run.names fields

  abbrev Lanes : List (List AnswerLine) → Type 0
  Lanes told = AllZip (AreToldTo fields) (enumerate_from 0 run.lanes) told

  abbrev Lists : List (List ChangeLine) → Type 0
  Lists lists = AllZip (λ (index : List ℕ × ℕ). AreEntriesOf index.1) indexes lists

  abbrev Stats : List (Unit {0}) → Type 0
  Stats stats = AllZip (λ (index : ℕ × List ℕ) (u : Unit {0}). Unit {0}) (enumerate_from 0 run.names) stats

  abbrev head : List ℕ
  head = line_of (codes "ahi" ∷ codes "run" ∷ [])

  abbrev end : List ℕ
  end = line_of (codes "end" ∷ [])

  abbrev stats_lines : List (List AnswerLine) → List (Unit {0}) → Lines
  stats_lines told stats = each_lines (λ (index : ℕ × List ℕ). in_line (λ (u : Unit {0}). stats_told run told index)) (enumerate_from 0 run.names) stats

  -- what fits, and its lines, from the last part on
  abbrev Fits3 : List (List AnswerLine) → List (Unit {0}) × Unit {0} → Type 0
  Fits3 told = both_fit Stats (λ (stats : List (Unit {0})) (u : Unit {0}). Unit {0})

  abbrev lines3 : List (List AnswerLine) → List (Unit {0}) × Unit {0} → Lines
  lines3 told = both_lines (stats_lines told) (λ (stats : List (Unit {0})) (u : Unit {0}). end ∷ [])

  abbrev Fits2 : List (List AnswerLine) → List (List ChangeLine) × (List (Unit {0}) × Unit {0}) → Type 0
  Fits2 told = both_fit Lists (λ (lists : List (List ChangeLine)). Fits3 told)

  abbrev lines2 : List (List AnswerLine) → List (List ChangeLine) × (List (Unit {0}) × Unit {0}) → Lines
  lines2 told = both_lines (each_lines (λ (index : List ℕ × ℕ). part_lines index.0) indexes) (λ (lists : List (List ChangeLine)). lines3 told)

  abbrev Fits1 : List (List AnswerLine) × (List (List ChangeLine) × (List (Unit {0}) × Unit {0})) → Type 0
  Fits1 = both_fit Lanes Fits2

  abbrev lines1 : List (List AnswerLine) × (List (List ChangeLine) × (List (Unit {0}) × Unit {0})) → Lines
  lines1 = both_lines (each_lines lane_lines (enumerate_from 0 run.lanes)) lines2

  abbrev Fits0 : ReadParts → Type 0
  Fits0 = both_fit (λ (u : Unit {0}). Unit {0}) (λ (u : Unit {0}). Fits1)

  abbrev lines0 : ReadParts → Lines
  lines0 = both_lines (in_line (λ (u : Unit {0}). head)) (λ (u : Unit {0}). lines1)

  -- each lane can tell
  can_tell : (line : Line) → IsReadLine fields line → CanTell fields line
  can_tell line l =
      let count = get_there fields line.op.index l.index in
      record { number = l.number; some = subst (λ (n : ℕ). 0 < n) (sym (fields_are fields line count.0 count.1)) (all_at (λ (n : ℕ). 0 < n) fields line.op.index count.0 is.some count.1) }

  lanes_form : IsLineForm Lanes (each_lines lane_lines (enumerate_from 0 run.lanes)) (read_each (read_lane fields) (enumerate_from 0 run.lanes))
  lanes_form = each_form (AreToldTo fields) lane_lines (read_lane fields) (enumerate_from 0 run.lanes)
      (each_numbered (λ (lane : ℕ × List Line). IsLineForm (AreToldTo fields lane) (lane_lines lane) (read_lane fields lane)) (AllByRecursion (IsReadLine fields))
      (λ k lines all. lane_form fields (k, lines) (each_weaker (IsReadLine fields) (CanTell fields) can_tell lines all)) 0 run.lanes is.lines)

  lists_form : IsLineForm Lists (each_lines (λ (index : List ℕ × ℕ). part_lines index.0) indexes) (read_each (λ (index : List ℕ × ℕ). read_entries index.1 index.0) indexes)
  lists_form = each_form (λ (index : List ℕ × ℕ). AreEntriesOf index.1) (λ (index : List ℕ × ℕ). part_lines index.0) (λ (index : List ℕ × ℕ). read_entries index.1 index.0) indexes
      (each_zipped (λ (index : List ℕ × ℕ). IsLineForm (AreEntriesOf index.1) (part_lines index.0) (read_entries index.1 index.0)) IsPlainName (λ (count : ℕ). 0 < count)
      (λ name count plain some. entries_are_read count name some plain) run.names fields is.names is.some)

  stats_form : (told : List (List AnswerLine)) → IsLineForm Stats (stats_lines told) (read_each (λ (index : ℕ × List ℕ). read_line (exactly (stats_told run told index))) (enumerate_from 0 run.names))
  stats_form told = each_form (λ (index : ℕ × List ℕ) (u : Unit {0}). Unit {0}) (λ (index : ℕ × List ℕ). in_line (λ (u : Unit {0}). stats_told run told index)) (λ (index : ℕ × List ℕ). read_line (exactly (stats_told run told index))) (enumerate_from 0 run.names)
      (each_numbered (λ (index : ℕ × List ℕ). IsLineForm (λ (u : Unit {0}). Unit {0}) (in_line (λ (u : Unit {0}). stats_told run told index)) (read_line (exactly (stats_told run told index)))) (λ (name : List ℕ). Unit {0})
      (λ k name u. exactly_form (stats_told run told (k, name))) 0 run.names (each_from (λ (name : List ℕ). Unit {0}) run.names (λ n x e. tt)))

  form3 : (told : List (List AnswerLine)) → IsLineForm (Fits3 told) (lines3 told) (read_stats run told)
  form3 told = two_forms Stats (λ (stats : List (Unit {0})) (u : Unit {0}). Unit {0}) (stats_lines told) (λ (stats : List (Unit {0})) (u : Unit {0}). end ∷ [])
      (read_each (λ (index : ℕ × List ℕ). read_line (exactly (stats_told run told index))) (enumerate_from 0 run.names)) (λ (stats : List (Unit {0})). read_line (exactly end)) (stats_form told) (λ stats h. exactly_form end)

  abbrev read2 : List (List AnswerLine) → Lines → Reading (List (List ChangeLine) × (List (Unit {0}) × Unit {0}))
  read2 told = read_both (read_each (λ (index : List ℕ × ℕ). read_entries index.1 index.0) indexes) (λ (lists : List (List ChangeLine)). read_stats run told)

  form2 : (told : List (List AnswerLine)) → IsLineForm (Fits2 told) (lines2 told) (read2 told)
  form2 told = two_forms Lists (λ (lists : List (List ChangeLine)). Fits3 told) (each_lines (λ (index : List ℕ × ℕ). part_lines index.0) indexes) (λ (lists : List (List ChangeLine)). lines3 told)
      (read_each (λ (index : List ℕ × ℕ). read_entries index.1 index.0) indexes) (λ (lists : List (List ChangeLine)). read_stats run told) lists_form (λ lists h. form3 told)

  abbrev read1 : Lines → Reading (List (List AnswerLine) × (List (List ChangeLine) × (List (Unit {0}) × Unit {0})))
  read1 = read_both (read_each (read_lane fields) (enumerate_from 0 run.lanes)) read2

  form1 : IsLineForm Fits1 lines1 read1
  form1 = two_forms Lanes Fits2 (each_lines lane_lines (enumerate_from 0 run.lanes)) lines2 (read_each (read_lane fields) (enumerate_from 0 run.lanes)) read2 lanes_form (λ told h. form2 told)

  form0 : IsLineForm Fits0 lines0 (read_both (read_line (exactly head)) (λ (u : Unit {0}). read1))
  form0 = two_forms (λ (u : Unit {0}). Unit {0}) (λ (u : Unit {0}). Fits1) (in_line (λ (u : Unit {0}). head)) (λ (u : Unit {0}). lines1) (read_line (exactly head)) (λ (u : Unit {0}). read1) (exactly_form head) (λ u h. form1)

  -- what is read can stand in a text
  module _ (x : ReadParts) (h : Fits0 x) where
    abbrev shown : Report
    shown = report_from run x

    lanes_are : AllZip (AllZip (IsToldTo fields)) run.lanes x.1.0
    lanes_are = unnumbered (AllZip (IsToldTo fields)) 0 run.lanes x.1.0 h.1.0

    lists_few : length x.1.1.0 ≡ length run.names
    lists_few = all_zip_length (λ (index : List ℕ × ℕ). AreEntriesOf index.1) indexes x.1.1.0 h.1.1.0 ∙ length_zipped run.names fields is.counted

    its_answers : (lines : List Line) (answers : List AnswerLine) → AllZip (IsToldTo fields) lines answers → AllZip Answers lines answers
    its_answers lines answers all = zip_from_places Answers lines answers (all_zip_length (IsToldTo fields) lines answers all) (λ i line a at there.
        let t = all_zip_at (IsToldTo fields) lines answers i line a all at there in
        record { same_line = t.same_line; form = t.answer.form })

    small_answers : (lane : ℕ) (answers : List AnswerLine) → slice_get x.1.0 lane ≡ Some answers → AllByRecursion (λ (a : AnswerLine). (a.line < 2 ^ 64) × IsSmallAnswer a.answer) answers
    small_answers lane answers at =
        let lines = get_there run.lanes lane (omega (arith, get_inside x.1.0 lane answers at, all_zip_length (AllZip (IsToldTo fields)) run.lanes x.1.0 lanes_are)) in
        let all = all_zip_at (AllZip (IsToldTo fields)) run.lanes x.1.0 lane lines.0 answers lanes_are lines.1 at in
        each_from (λ (a : AnswerLine). (a.line < 2 ^ 64) × IsSmallAnswer a.answer) answers (λ place a there.
        let line = get_there lines.0 place (omega (arith, get_inside answers place a there, all_zip_length (IsToldTo fields) lines.0 answers all)) in
        let t = all_zip_at (IsToldTo fields) lines.0 answers place line.0 a all line.1 there in
        let read = all_at (IsReadLine fields) lines.0 place line.0 (all_at (AllByRecursion (IsReadLine fields)) run.lanes lane lines.0 is.lines lines.1) line.1 in
        (omega (arith, t.same_line, read.number), t.answer.small))

    -- the entries of an index
    its_entries : (i count : ℕ) (part : IndexPart) → slice_get shown.indexes i ≡ Some part → slice_get fields i ≡ Some count → AreEntriesOf count part.entries
    its_entries i count part at known =
        let p = part_at run x.1.0 0 run.names x.1.1.0 i part at in
        all_zip_at (λ (index : List ℕ × ℕ). AreEntriesOf index.1) indexes x.1.1.0 i (part.name, count) part.entries h.1.1.0 (zip_get run.names fields i part.name count p.name known) p.entries

    plain_list : (i : ℕ) (part : IndexPart) → slice_get shown.indexes i ≡ Some part → IsPlainList part
    plain_list i part at =
        let p = part_at run x.1.0 0 run.names x.1.1.0 i part at in
        let count = get_there fields i (omega (arith, get_inside run.names i part.name p.name, is.counted)) in
        let entries = its_entries i count.0 part at count.1 in
        record {
          name = all_at IsPlainName run.names i part.name is.names p.name;
          length_small = entries.few;
          entries_small = each_weaker (IsEntryOf count.0) (λ (e : ChangeLine). (e.lane < 2 ^ 64) × (e.line < 2 ^ 64)) (λ e t. (t.lane, t.line)) part.entries entries.each;
        }

    shows : IsFormed run fields shown
    shows = record {
      form = record {
        lanes = zip_from_places (AllZip Answers) run.lanes x.1.0 (all_zip_length (AllZip (IsToldTo fields)) run.lanes x.1.0 lanes_are) (λ i lines answers at there. its_answers lines answers (all_zip_at (AllZip (IsToldTo fields)) run.lanes x.1.0 i lines answers lanes_are at there));
        names = parts_names run x.1.0 0 run.names x.1.1.0 lists_few;
        counts = λ i part at. let same : 0 + i ≡ i = omega arith in (part_at run x.1.0 0 run.names x.1.1.0 i part at).counts ∙ ap (counts_at run x.1.0) same;
      };
      plain = record {
        lanes_few = omega (arith, all_zip_length (AllZip (IsToldTo fields)) run.lanes x.1.0 lanes_are, is.few);
        lanes = each_from _ x.1.0 small_answers;
        lists = each_from IsPlainList shown.indexes plain_list;
      };
      answers = λ lane place count lines answers y at there here known.
          let both = zip_from lines answers place y here in
          let t = all_zip_at (IsToldTo fields) lines answers place y.0 y.1 (all_zip_at (AllZip (IsToldTo fields)) run.lanes x.1.0 lane lines answers lanes_are at there) both.0 both.1 in
          subst (λ (n : ℕ). PrintsRows n y.1.answer) (fields_are fields y.0 count known) t.answer.rows;
      entries = λ index count part at known. each_weaker (IsEntryOf count) (λ (e : ChangeLine). ChangesRow count e.change) (λ e t. t.change) part.entries (its_entries index count part at known).each;
    }

    -- and its lines are those of its text
    same_lines : ended_lines (spell shown) ≡ lines0 x
    same_lines =
        let parts = shown.indexes in
        let last = formal end ∷ [] in
        let lanes = lanes_texts fields 0 run.lanes x.1.0 h.1.0 in
        let entries = lists_texts run x.1.0 0 0 run.names fields x.1.1.0 is.counted h.1.1.0 in
        let stats = stats_texts run x.1.0 0 run.names x.1.1.0 x.1.1.1.0 lists_few (all_zip_length (λ (index : ℕ × List ℕ) (u : Unit {0}). Unit {0}) (enumerate_from 0 run.names) x.1.1.1.0 h.1.1.1.0 ∙ length_numbered 0 run.names) in
        let a = flat_map lane_text_lines (enumerate_from 0 x.1.0) in
        let b = flat_map part_text_lines (enumerate_from 0 parts) in
        let c = map stats_text_line parts in
        lines_are_lines shown shows.plain
        ∙ ap (λ (t : Lines). head ∷ t) (texts-append a (b ++ (c ++ last))
        ∙ (λ i. lanes i ++ (texts-append b (c ++ last) ∙ (λ j. entries j ++ (texts-append c last ∙ (λ k. stats k ++ (end ∷ []))) j)) i))

  -- what can stand in a text is read
  module _ (report : Report) (formed : IsFormed run fields report) where
    abbrev apart : ReadParts
    apart = (tt, (report.lanes, (map (λ (part : IndexPart). part.entries) report.indexes, (units (enumerate_from 0 run.names), tt))))

    told_to : (lane place : ℕ) (lines : List Line) (answers : List AnswerLine) (line : Line) (a : AnswerLine) → slice_get run.lanes lane ≡ Some lines → slice_get report.lanes lane ≡ Some answers
        → slice_get lines place ≡ Some line → slice_get answers place ≡ Some a → IsToldTo fields line a
    told_to lane place lines answers line a at there in_lines in_answers =
        let form = all_zip_at Answers lines answers place line a (all_zip_at (AllZip Answers) run.lanes report.lanes lane lines answers formed.form.lanes at there) in_lines in_answers in
        let small = all_at (λ (b : AnswerLine). (b.line < 2 ^ 64) × IsSmallAnswer b.answer) answers place a (all_at (AllByRecursion (λ (b : AnswerLine). (b.line < 2 ^ 64) × IsSmallAnswer b.answer)) report.lanes lane answers formed.plain.lanes there) in_answers in
        let read = all_at (IsReadLine fields) lines place line (all_at (AllByRecursion (IsReadLine fields)) run.lanes lane lines is.lines at) in_lines in
        let count = get_there fields line.op.index read.index in
        let prints = formed.answers lane place count.0 lines answers (line, a) at there (zip_get lines answers place line a in_lines in_answers) count.1 in
        record { same_line = form.same_line; answer = record { form = form.form; small = small.1; rows = subst (λ (n : ℕ). PrintsRows n a.answer) (sym (fields_are fields line count.0 count.1)) prints } }

    lanes_come : AllZip (AllZip (IsToldTo fields)) run.lanes report.lanes
    lanes_come = zip_from_places (AllZip (IsToldTo fields)) run.lanes report.lanes (all_zip_length (AllZip Answers) run.lanes report.lanes formed.form.lanes) (λ lane lines answers at there.
        zip_from_places (IsToldTo fields) lines answers (all_zip_length Answers lines answers (all_zip_at (AllZip Answers) run.lanes report.lanes lane lines answers formed.form.lanes at there)) (λ place line a in_lines in_answers.
        told_to lane place lines answers line a at there in_lines in_answers))

    indexes_few : length report.indexes ≡ length run.names
    indexes_few = sym (length-map report.indexes (λ (part : IndexPart). part.name)) ∙ ap length formed.form.names

    lists_come : Lists (map (λ (part : IndexPart). part.entries) report.indexes)
    lists_come = zip_from_places (λ (index : List ℕ × ℕ). AreEntriesOf index.1) indexes (map (λ (part : IndexPart). part.entries) report.indexes) (length-map report.indexes (λ (part : IndexPart). part.entries) ∙ (indexes_few ∙ sym (length_zipped run.names fields is.counted))) (λ i index entries at there.
        let both = zip_from run.names fields i index at in
        let part = map_get_from (λ (p : IndexPart). p.entries) report.indexes i entries there in
        let list = all_at IsPlainList report.indexes i part.0 formed.plain.lists part.1 in
        let changes = formed.entries i index.1 part.0 part.1 both.1 in
        subst (λ (es : List ChangeLine). AreEntriesOf index.1 es) part.2 (record {
          few = list.length_small;
          each = each_both (λ (e : ChangeLine). (e.lane < 2 ^ 64) × (e.line < 2 ^ 64)) (λ (e : ChangeLine). ChangesRow index.1 e.change) (IsEntryOf index.1) (λ e a b. record { lane = a.0; line = a.1; change = b }) part.0.entries list.entries_small changes;
        }))

    comes : Fits0 apart
    comes = (tt, (renumbered (AllZip (IsToldTo fields)) 0 run.lanes report.lanes lanes_come, (lists_come, (each_unit (enumerate_from 0 run.names), tt))))

    again : report_from run apart ≡ report
    again = let parts = parts_again run report.lanes 0 run.names report.indexes formed.form.names (λ i part at. let same : i ≡ 0 + i = omega arith in formed.form.counts i part at ∙ ap (counts_at run report.lanes) same) in λ i. record { lanes = report.lanes; indexes = parts i }

  pub report_form : IsLineForm (IsFormed run fields) (λ (report : Report). ended_lines (spell report)) (read_report run fields)
  report_form =
      seen_form Fits0 (IsFormed run fields) lines0 (λ (report : Report). ended_lines (spell report)) (read_both (read_line (exactly head)) (λ (u : Unit {0}). read1)) (report_from run)
      (λ report. (tt, (report.lanes, (map (λ (part : IndexPart). part.entries) report.indexes, (units (enumerate_from 0 run.names), tt)))))
      shows comes again same_lines form0

pub reports_are_read : ReportsAreRead
reports_are_read run fields is = report_form run fields is

pub reports_are_judged : ReportsAreJudged
reports_are_judged = record {
  stops = λ run fields bytes rest is e. reading_judges.stops run fields bytes (read_report run fields) rest (report_form run fields is) e;
  reads = λ run fields bytes report is e. reading_judges.reads run fields bytes (read_report run fields) report (report_form run fields is) e;
}
