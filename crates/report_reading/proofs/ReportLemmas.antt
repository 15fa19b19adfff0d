-- A report is read as its parts are, one after another.
use Rattle.std.proofs.Common.{◌≡◌, ℕ, suc, ◌+◌, List, [], ◌∷◌, length, Some, Ok, Err, refl, sym, ap, ◌∙◌, subst, arith}
use Rattle.std.specs.Prelude.{codes}
use Rattle.std.specs.List.{enumerate_from, slice_get, zip}
use Rattle.column_counts.specs.Counted.{AreCounts}
use Rattle.line_forms.specs.Anew.{exactly}
use Rattle.line_forms.specs.LineForms.{Lines, Reading, read_line, with_first, read_second, read_both, read_as}
use Rattle.map_history.specs.declared.counts.Counts.{Counts}
use Rattle.map_history.specs.LegalReport.{Run}
use Rattle.map_history.specs.Report.{Columns, AnswerLine, ChangeLine, Report}
use Rattle.map_history.specs.Spelling.{stats_text}
use Rattle.map_history.specs.Statistics.{counts_of}
use Rattle.map_history.specs.Text.{line_of}
use Rattle.report_forms.specs.Lists.{in_front, read_each}
use Rattle.report_forms.specs.Reports.{read_lane, read_report, read_stats, report_from}
use Rattle.report_reading.specs.declared.misread.Misread.{Misread}
use Rattle.report_reading.specs.declared.misread.Misread.TheVariants as misread
use Rattle.report_reading.specs.Counts.{columns_among}
use Rattle.report_reading.specs.Entries.{read_part}
use Rattle.report_reading.specs.Reads.{Stops, without_things}
use Rattle.report_reading.specs.Report.{read_stat}

stops_as : {A B : Type 0} (e : Misread) (left : Lines) (see : A → B) (r : Reading A) → Stops e left r → Stops e left (read_as see r)
stops_as misread.NoMemory left see r h = tt
stops_as misread.BadLine left see r h = ap (read_as see) h

stops_with : {A B : Type 0} (e : Misread) (left : Lines) (x : A) (r : Reading B) → Stops e left r → Stops e left (with_first x r)
stops_with misread.NoMemory left x r h = tt
stops_with misread.BadLine left x r h = ap (with_first x) h

stops_second : {A B : Type 0} (e : Misread) (left : Lines) (next : A → Lines → Reading B) (r : Reading A) → Stops e left r → Stops e left (read_second next r)
stops_second misread.NoMemory left next r h = tt
stops_second misread.BadLine left next r h = ap (read_second next) h

stops_without : {A : Type 0} (e : Misread) (left : Lines) (r : Reading A) → Stops e left (without_things r) → Stops e left r
stops_without misread.NoMemory left r h = tt
stops_without misread.BadLine left (Err rest) h = let is : rest ≡ left = cc in ap Err is
stops_without misread.BadLine left (Ok x) h = absurd cc

-- things that are read, whichever they are
record AreThings {A : Type 0} (r : Reading A) (left : Lines) : Type 0 where
  things : A
  read : r ≡ Ok (things, left)

things_there : {A : Type 0} (r : Reading A) (left : Lines) → without_things r ≡ Ok (tt, left) → AreThings r left
things_there (Err rest) left h = absurd cc
things_there (Ok (x, rest)) left h = go rest h
  where
    go : (t : Lines) → ◌≡◌ {A = Reading (Unit {0})} (Ok (tt, t)) (Ok (tt, left)) → AreThings (Ok (x, t)) left
    go t e = let is : t ≡ left = ap (λ (r : Reading (Unit {0})). elim r [ Err s ↦ s | Ok y ↦ y.1 ]) e in record { things = x; read = ap (λ (s : Lines). Ok (x, s)) is }

-- the statistics that are told are those that are counted
stats_same : (columns : ℕ → List Columns) (k : ℕ) (names : List (List ℕ)) (counts : List Counts) → length counts ≡ length names → ((i : ℕ) (c : Counts) → slice_get counts i ≡ Some c → c ≡ counts_of (columns (k + i))) → (text : Lines)
    → read_each (λ (index : ℕ × List ℕ). read_line (exactly (stats_text index.1 (counts_of (columns index.0))))) (enumerate_from k names) text ≡ read_each read_stat (zip names counts) text
stats_same columns k [] [] long each text = refl
stats_same columns k [] (c ∷ counts) long each text = absurd (omega (arith, long))
stats_same columns k (name ∷ names) [] long each text = absurd (omega (arith, long))
stats_same columns k (name ∷ names) (c ∷ counts) long each text =
    let here : k + 0 ≡ k = omega arith in
    let first : c ≡ counts_of (columns k) = each 0 c refl ∙ ap (λ (n : ℕ). counts_of (columns n)) here in
    ap (λ (d : Counts). read_as in_front (read_second (λ (u : Unit {0}). read_each (λ (index : ℕ × List ℕ). read_line (exactly (stats_text index.1 (counts_of (columns index.0))))) (enumerate_from (k + 1) names)) (read_line (exactly (stats_text name d)) text))) (sym first)
    ∙ go (read_line (exactly (stats_text name c)) text) (λ (t : Lines). stats_same columns (k + 1) names counts (omega (arith, long)) (λ i d at. each (suc i) d at ∙ ap (λ (n : ℕ). counts_of (columns n)) (omega arith)) t)
  where
    go : (r : Reading (Unit {0})) → ((t : Lines) → read_each (λ (index : ℕ × List ℕ). read_line (exactly (stats_text index.1 (counts_of (columns index.0))))) (enumerate_from (k + 1) names) t ≡ read_each read_stat (zip names counts) t)
        → read_as in_front (read_second (λ (u : Unit {0}). read_each (λ (index : ℕ × List ℕ). read_line (exactly (stats_text index.1 (counts_of (columns index.0))))) (enumerate_from (k + 1) names)) r)
        ≡ read_as in_front (read_second (λ (u : Unit {0}). read_each read_stat (zip names counts)) r)
    go (Err rest) later = refl
    go (Ok x) later = ap (λ (r : Reading (List (Unit {0}))). read_as in_front (with_first x.0 r)) (later x.1)

module _ (run : Run) (fields : List ℕ) (told : List (List AnswerLine)) (text head : Lines) (began : read_line (exactly (line_of (codes "ahi" ∷ codes "run" ∷ []))) text ≡ Ok (tt, head))
    (lanes : Lines) (answered : read_each (read_lane fields) (enumerate_from 0 run.lanes) head ≡ Ok (told, lanes)) where
  abbrev behind : Lines → Reading (List (List ChangeLine) × (List (Unit {0}) × Unit {0}))
  behind t = read_both (read_each read_part (zip run.names fields)) (λ (lists : List (List ChangeLine)). read_stats run told) t

  abbrev from_parts : Reading (List (List ChangeLine) × (List (Unit {0}) × Unit {0})) → Reading Report
  from_parts r = read_as (report_from run) (with_first (tt {0}) (with_first told r))

  lanes_read : read_report run fields text ≡ from_parts (behind lanes)
  lanes_read =
      ap (λ (r : Reading (Unit {0})). read_as (report_from run) (read_second (λ (u : Unit {0}). read_both (read_each (read_lane fields) (enumerate_from 0 run.lanes)) (λ (ts : List (List AnswerLine)). read_both (read_each read_part (zip run.names fields)) (λ (lists : List (List ChangeLine)). read_stats run ts))) r)) began
      ∙ ap (λ (r : Reading (List (List AnswerLine))). read_as (report_from run) (with_first (tt {0}) (read_second (λ (ts : List (List AnswerLine)). read_both (read_each read_part (zip run.names fields)) (λ (lists : List (List ChangeLine)). read_stats run ts)) r))) answered

  -- a list of changes that can't stand
  pub parts_stop : (e : Misread) (left : Lines) → Stops e left (read_each read_part (zip run.names fields) lanes) → Stops e left (read_report run fields text)
  parts_stop e left h =
      subst (λ (r : Reading Report). Stops e left r) (sym lanes_read)
      (stops_as e left (report_from run) _ (stops_with e left (tt {0}) _ (stops_with e left told _ (stops_second e left (λ (lists : List (List ChangeLine)). read_stats run told) _ h))))

  module _ (lists : List (List ChangeLine)) (parts : Lines) (listed : read_each read_part (zip run.names fields) lanes ≡ Ok (lists, parts))
      (counts : List Counts) (indexes : ℕ) (as_many : indexes ≡ length run.names) (counted : AreCounts indexes (columns_among run.lanes told) counts) where
    abbrev from_stats : Reading (List (Unit {0}) × Unit {0}) → Reading Report
    from_stats r = from_parts (with_first lists r)

    abbrev end : List (Unit {0}) → Lines → Reading (Unit {0})
    end stats = read_line (exactly (line_of (codes "end" ∷ [])))

    parts_read : read_report run fields text ≡ from_stats (read_second end (read_each read_stat (zip run.names counts) parts))
    parts_read =
        lanes_read ∙ (ap (λ (r : Reading (List (List ChangeLine))). from_parts (read_second (λ (ls : List (List ChangeLine)). read_stats run told) r)) listed
        ∙ ap (λ (r : Reading (List (Unit {0}))). from_stats (read_second end r)) (stats_same (columns_among run.lanes told) 0 run.names counts (counted.long ∙ as_many) (λ i c at. counted.each i c at ∙ ap (λ (n : ℕ). counts_of (columns_among run.lanes told n)) (omega arith)) parts))

    -- statistics that can't stand
    pub stats_stop : (e : Misread) (left : Lines) → Stops e left (without_things (read_each read_stat (zip run.names counts) parts)) → Stops e left (read_report run fields text)
    stats_stop e left h =
        subst (λ (r : Reading Report). Stops e left r) (sym parts_read)
        (stops_as e left (report_from run) _ (stops_with e left (tt {0}) _ (stops_with e left told _ (stops_with e left lists _ (stops_second e left end _ (stops_without e left _ h))))))

    -- another line than the last
    pub end_stops : (stats left : Lines) (e : Misread) → without_things (read_each read_stat (zip run.names counts) parts) ≡ Ok (tt, stats) → Stops e left (read_line (exactly (line_of (codes "end" ∷ []))) stats)
        → Stops e left (read_report run fields text)
    end_stops stats left e told_stats h =
        let t = things_there _ stats told_stats in
        subst (λ (r : Reading Report). Stops e left r) (sym (parts_read ∙ ap (λ (r : Reading (List (Unit {0}))). from_stats (read_second end r)) t.read))
        (stops_as e left (report_from run) _ (stops_with e left (tt {0}) _ (stops_with e left told _ (stops_with e left lists _ (stops_with e left t.things _ h)))))

    -- all lines
    pub all_read : (stats left : Lines) → without_things (read_each read_stat (zip run.names counts) parts) ≡ Ok (tt, stats) → read_line (exactly (line_of (codes "end" ∷ []))) stats ≡ Ok (tt, left)
        → read_report run fields text ≡ Ok (report_from run (tt, (told, (lists, ([], tt)))), left)
    all_read stats left told_stats ended =
        let t = things_there _ stats told_stats in
        parts_read ∙ (ap (λ (r : Reading (List (Unit {0}))). from_stats (read_second end r)) t.read ∙ ap (λ (r : Reading (Unit {0})). from_stats (with_first t.things r)) ended)
