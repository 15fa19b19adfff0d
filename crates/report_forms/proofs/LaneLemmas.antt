-- The answers of a lane are read again.
use Rattle.std.proofs.Common.{◌≡◌, ℕ, ◌<◌, ◌^◌, Bool, true, false, List, [], ◌∷◌, ◌++◌, refl, sym, ap, ◌∙◌}
use Rattle.std.specs.List.{AllByRecursion, AllZip, flat_map}
use Rattle.list_facts.proofs.Each.{each_weaker}
use Rattle.map_history.specs.LegalReport.{Line}
use Rattle.map_history.specs.Operation.{Ask, Get, Make, Seek, Scan, is_scan}
use Rattle.map_history.specs.Report.{Answer, Replied, LogFull, SpaceFull, Scanned, AnswerLine}
use Rattle.map_history.specs.Spelling.{answer_text}
use Rattle.line_forms.specs.LineForms.{Lines, Reading, IsLineForm, in_line, read_line, read_both, both_lines, both_fit}
use Rattle.line_forms.specs.Anew.{exactly}
use Rattle.line_forms.proofs.FormLemmas.{two_forms}
use Rattle.line_forms.proofs.SeenLemmas.{seen_form}
use Rattle.line_forms.proofs.AnewLemmas.{exactly_form}
use Rattle.report_forms.specs.Lists.{read_each, each_lines}
use Rattle.report_forms.specs.Answers.{IsAnswerTo, read_answer}
use Rattle.report_forms.specs.Scans.{read_scan, answer_lines}
use Rattle.report_forms.specs.Reports.{fields_of, read_asked, read_told, IsToldTo, told_lines, lane_text, read_lane, AreToldTo, lane_lines}
use Rattle.report_forms.proofs.AnswerLemmas.{no_pieces, answers_are_read}
use Rattle.report_forms.proofs.ScanLemmas.{scans_are_read}
use Rattle.report_forms.proofs.EachLemmas.{each_form}

-- a form in lines that are the same
module _ {A : Type 0} (Fits : A → Type 0) (lines other : A → Lines) (read : Lines → Reading A) (same : (x : A) → Fits x → other x ≡ lines x) (form : IsLineForm Fits lines read) where
  pub in_same_lines : IsLineForm Fits other read
  in_same_lines = record {
    some = form.some;
    some_fits = form.some_fits;
    again = λ x rest h. ap (λ (t : Lines). read (t ++ rest)) (same x h) ∙ form.again x rest h;
    fits = form.fits;
    written = λ text rest x e. form.written text rest x e ∙ ap (λ (t : Lines). t ++ rest) (sym (same x (form.fits text rest x e)));
    stops = λ text rest e.
        let st = form.stops text rest e in
        record {
          front = st.front;
          split = st.split;
          one = st.one;
          fits = st.fits;
          more = st.more;
          begun = same st.one st.fits ∙ st.begun;
          none = λ x line behind later h at begins. st.none x line behind later h at (sym (same x h) ∙ begins);
        };
  }

-- an answer that isn't in pieces is one line
one_line : (fields number : ℕ) (ask : Ask) → is_scan ask ≡ false → (answer : Answer) → IsAnswerTo fields ask answer → answer_lines number answer ≡ answer_text number answer ∷ []
one_line fields number ask other (Replied reply point columns) h = refl
one_line fields number ask other (LogFull n columns) h = refl
one_line fields number ask other (SpaceFull columns) h = refl
one_line fields number ask other (Scanned pieces) h = absurd (no_pieces ask pieces other h.form)

module _ (fields number : ℕ) (some : 0 < fields) (small : number < 2 ^ 64) where
  unscanned : (ask : Ask) → is_scan ask ≡ false → IsLineForm (IsAnswerTo fields ask) (answer_lines number) (read_answer fields number ask)
  unscanned ask other = in_same_lines (IsAnswerTo fields ask) (in_line (answer_text number)) (answer_lines number) (read_answer fields number ask) (one_line fields number ask other) (answers_are_read fields number ask some small other)

  -- the answer to any line
  pub asked_form : (ask : Ask) → IsLineForm (IsAnswerTo fields ask) (answer_lines number) (read_asked fields number ask)
  asked_form (Get k) = unscanned (Get k) refl
  asked_form (Make c) = unscanned (Make c) refl
  asked_form (Seek mode tuple) = unscanned (Seek mode tuple) refl
  asked_form (Scan from to limit) = scans_are_read fields number from to limit some small

-- with its number
told_form : (fields : List ℕ) (line : Line) → line.line < 2 ^ 64 → 0 < fields_of fields line → IsLineForm (IsToldTo fields line) told_lines (read_told fields line)
told_form fields line small some =
    seen_form (IsAnswerTo (fields_of fields line) line.op.ask) (IsToldTo fields line) (answer_lines line.line) told_lines (read_asked (fields_of fields line) line.line line.op.ask)
    (λ (answer : Answer). record { line = line.line; answer = answer }) (λ (told : AnswerLine). told.answer)
    (λ answer h. record { same_line = refl; answer = h }) (λ told h. h.answer) (λ told h. λ i. record { line = sym h.same_line i; answer = told.answer }) (λ answer h. refl)
    (asked_form (fields_of fields line) line.line some small line.op.ask)

-- the lines of things, whatever they are read by
flat_each : {X A : Type 0} (R : X → A → Type 0) (lines : A → Lines) (xs : List X) (things : List A) → AllZip R xs things → flat_map lines things ≡ each_lines (λ (x : X). lines) xs things
flat_each R lines [] [] h = refl
flat_each R lines [] (thing ∷ things) h = absurd h
flat_each R lines (x ∷ xs) [] h = absurd h
flat_each R lines (x ∷ xs) (thing ∷ things) h = ap (λ (t : Lines). lines thing ++ t) (flat_each R lines xs things h.1)

-- a line that can be told
pub record CanTell (fields : List ℕ) (line : Line) : Type 0 where
  pub number : line.line < 2 ^ 64
  pub some : 0 < fields_of fields line

-- the answers of a lane, with the line before them
pub lane_form : (fields : List ℕ) (lane : ℕ × List Line) → AllByRecursion (CanTell fields) lane.1 → IsLineForm (AreToldTo fields lane) (lane_lines lane) (read_lane fields lane)
lane_form fields lane can =
    seen_form (both_fit (λ (u : Unit {0}). Unit {0}) (λ (u : Unit {0}). AreToldTo fields lane)) (AreToldTo fields lane)
    (both_lines (in_line (λ (u : Unit {0}). lane_text lane.0)) (λ (u : Unit {0}). each_lines (λ (line : Line). told_lines) lane.1)) (lane_lines lane)
    (read_both (read_line (exactly (lane_text lane.0))) (λ (u : Unit {0}). read_each (read_told fields) lane.1)) (λ (x : Unit {0} × List AnswerLine). x.1) (λ told. (tt, told))
    (λ x h. h.1) (λ told h. (tt, h)) (λ told h. refl) (λ x h. ap (λ (t : Lines). lane_text lane.0 ∷ t) (flat_each (IsToldTo fields) told_lines lane.1 x.1 h.1))
    (two_forms (λ (u : Unit {0}). Unit {0}) (λ (u : Unit {0}). AreToldTo fields lane) (in_line (λ (u : Unit {0}). lane_text lane.0)) (λ (u : Unit {0}). each_lines (λ (line : Line). told_lines) lane.1)
    (read_line (exactly (lane_text lane.0))) (λ (u : Unit {0}). read_each (read_told fields) lane.1) (exactly_form (lane_text lane.0))
    (λ u h. each_form (IsToldTo fields) (λ (line : Line). told_lines) (read_told fields) lane.1 (each_weaker (CanTell fields) (λ (line : Line). IsLineForm (IsToldTo fields line) told_lines (read_told fields line)) (λ line c. told_form fields line c.number c.some) lane.1 can)))
