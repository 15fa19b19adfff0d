-- Where a form of reports is read, it stops at the first line at which none can stand.
use Rattle.std.proofs.Common.{◌≡◌, ℕ, zero, suc, ◌+◌, ◌<◌, Some, None, Ok, Err, List, [], ◌∷◌, ◌++◌, length, refl, sym, ap, ◌∙◌, subst, arith, append-nil, Bool, true, false, cond, ◌==◌}
use Rattle.std.proofs.lemmas.List.{length-append}
use Rattle.std.specs.List.{slice_get, flat_map, onto_first}
use Rattle.map_history.specs.Report.{Report}
use Rattle.map_history.specs.LegalReport.{Run}
use Rattle.map_history.specs.Spelling.{spell}
use Rattle.audit_law.specs.TextLines.{ended_lines}
use Rattle.line_forms.specs.LineForms.{Lines, Reading, StopsAt, IsLineForm, read_whole}
use Rattle.audit_law.specs.Verdicts.{IsFormed, TellsReport, LosesForm}
use Rattle.line_forms.specs.Laws.{ReadingJudges}
use Rattle.line_forms.proofs.FormLemmas.{ok_is, err_is}

-- the lines of some bytes are the bytes
joined : (bytes : List ℕ) → flat_map (λ (l : List ℕ). l) (ended_lines bytes) ≡ bytes
joined [] = refl
joined (b ∷ bytes) = go (b == 10) (joined bytes)
  where
    onto : (lines : Lines) → flat_map (λ (l : List ℕ). l) (onto_first b lines) ≡ b ∷ flat_map (λ (l : List ℕ). l) lines
    onto [] = refl
    onto (l ∷ lines) = refl

    go : (t : Bool) → flat_map (λ (l : List ℕ). l) (ended_lines bytes) ≡ bytes → flat_map (λ (l : List ℕ). l) (cond t ((b ∷ []) ∷ ended_lines bytes) (onto_first b (ended_lines bytes))) ≡ b ∷ bytes
    go true more = ap (λ (t : List ℕ). b ∷ t) more
    go false more = onto (ended_lines bytes) ∙ ap (λ (t : List ℕ). b ∷ t) more

-- lists that agree in a front
module _ {A : Type 0} where
  in_front : (front rest : List A) (n : ℕ) → n < length front → slice_get (front ++ rest) n ≡ slice_get front n
  in_front [] rest n low = absurd (omega (arith, low))
  in_front (x ∷ front) rest zero low = refl
  in_front (x ∷ front) rest (suc n) low = in_front front rest n (omega (arith, low))

  behind_front : (front rest : List A) → slice_get (front ++ rest) (length front) ≡ slice_get rest 0
  behind_front [] rest = refl
  behind_front (x ∷ front) rest = behind_front front rest

  agreed : (front rest xs : List A) → ((n : ℕ) → n < length front → slice_get (front ++ rest) n ≡ slice_get xs n) → (more : List A) × (xs ≡ front ++ more)
  agreed [] rest xs h = (xs, refl)
  agreed (x ∷ front) rest [] h = absurd (cc (h 0 (omega arith)))
  agreed (x ∷ front) rest (y ∷ ys) h =
      let first : y ≡ x = sym (cc (h 0 (omega arith))) in
      let more = agreed front rest ys (λ n low. h (suc n) (omega (arith, low))) in
      (more.0, ap (λ (z : A). z ∷ ys) first ∙ ap (λ (zs : List A). x ∷ zs) more.1)

  none_first : (xs : List A) → slice_get xs 0 ≡ None → xs ≡ []
  none_first [] e = refl
  none_first (x ∷ xs) e = absurd cc

  some_first : (xs : List A) (x : A) → slice_get xs 0 ≡ Some x → (more : List A) × (xs ≡ x ∷ more)
  some_first [] x e = absurd cc
  some_first (y ∷ ys) x e = let is : y ≡ x = cc in (ys, ap (λ (z : A). z ∷ ys) is)

module _ (run : Run) (fields bytes : List ℕ) (read : Lines → Reading Report) (form : IsLineForm (IsFormed run fields) (λ (report : Report). ended_lines (spell report)) read) where
  abbrev text : Lines
  text = ended_lines bytes

  abbrev lines_of : Report → Lines
  lines_of report = ended_lines (spell report)

  -- what stands to the front of the text, and is no report that goes on with its next line
  loses : (front rest : Lines) → text ≡ front ++ rest → (one : Report) (more : Lines) → IsFormed run fields one → lines_of one ≡ front ++ more
      → ((y : Report) (later : Lines) → IsFormed run fields y → lines_of y ≡ front ++ later → slice_get later 0 ≡ slice_get rest 0 → ⊥)
      → (n : ℕ) × (n + length rest ≡ length text) × LosesForm run fields bytes n
  loses front rest split one more fits begun none = (
    length front,
    sym (ap length split ∙ length-append front rest),
    record {
      before = record {
        report = one;
        formed = fits;
        alike = λ n low. ap (λ (t : Lines). slice_get t n) split ∙ (in_front front rest n low ∙ sym (ap (λ (t : Lines). slice_get t n) begun ∙ in_front front more n low));
      };
      none = λ s.
          let h = agreed front rest (lines_of s.report) (λ n low. ap (λ (t : Lines). slice_get t n) (sym split) ∙ s.alike n (omega (arith, low))) in
          let at = ap (λ (t : Lines). slice_get t (length front)) (sym split) ∙ (s.alike (length front) (omega arith) ∙ ap (λ (t : Lines). slice_get t (length front)) h.1) in
          none s.report h.0 s.formed h.1 (sym (behind_front front h.0) ∙ (sym at ∙ behind_front front rest));
    },
  )

  stopped : (r : Lines) → read text ≡ Err r → (n : ℕ) × (n + length r ≡ length text) × LosesForm run fields bytes n
  stopped r is =
      let st = form.stops text r is in
      loses st.front r st.split st.one st.more st.fits st.begun (λ y later fits begins same. go st y later fits begins r refl same)
    where
      go : (st : StopsAt (IsFormed run fields) (λ (report : Report). ended_lines (spell report)) text r) (y : Report) (later : Lines) → IsFormed run fields y → lines_of y ≡ st.front ++ later
          → (rest : Lines) → r ≡ rest → slice_get later 0 ≡ slice_get rest 0 → ⊥
      go st y later fits begins [] rest_is same =
          let none = none_first later same in
          let whole : text ≡ lines_of y ++ [] = st.split ∙ (ap (λ (t : Lines). st.front ++ t) (rest_is ∙ sym none) ∙ (sym begins ∙ sym (append-nil (lines_of y)))) in
          absurd (cc (sym is ∙ (ap read whole ∙ form.again y [] fits)))
      go st y later fits begins (line ∷ behind) rest_is same =
          let h = some_first later line same in
          st.none y line behind h.0 fits rest_is (begins ∙ ap (λ (t : Lines). st.front ++ t) h.1)

  went_on : (x : Report) (line : List ℕ) (rest : Lines) → read text ≡ Ok (x, line ∷ rest) → (n : ℕ) × (n + length (line ∷ rest) ≡ length text) × LosesForm run fields bytes n
  went_on x line rest is =
      let fit = form.fits text (line ∷ rest) x is in
      loses (lines_of x) (line ∷ rest) (form.written text (line ∷ rest) x is) x [] fit (sym (append-nil (lines_of x))) (λ y later fits begins same.
      let mine = form.again y [] fits in
      let its = ap read (append-nil (lines_of y) ∙ begins) ∙ form.again x later fit in
      let left : [] ≡ later = ap (λ (z : Report × Lines). z.1) (ok_is (y, []) (x, later) (sym mine ∙ its)) in
      absurd (cc (ap (λ (t : Lines). slice_get t 0) left ∙ same)))

  pub stops : (rest : Lines) → read_whole (read text) ≡ Err rest → (n : ℕ) × (n + length rest ≡ length text) × LosesForm run fields bytes n
  stops rest e = go (read text) refl e
    where
      go : (r : Reading Report) → read text ≡ r → read_whole r ≡ Err rest → (n : ℕ) × (n + length rest ≡ length text) × LosesForm run fields bytes n
      go (Err r) is f = subst (λ (t : Lines). (n : ℕ) × (n + length t ≡ length text) × LosesForm run fields bytes n) (err_is r rest f) (stopped r is)
      go (Ok (x, [])) is f = absurd cc
      go (Ok (x, line ∷ more)) is f = subst (λ (t : Lines). (n : ℕ) × (n + length t ≡ length text) × LosesForm run fields bytes n) (err_is (line ∷ more) rest f) (went_on x line more is)

  pub reads : (report : Report) → read_whole (read text) ≡ Ok report → TellsReport run fields bytes report
  reads report e = go (read text) refl e
    where
      told : (x : Report) → read text ≡ Ok (x, []) → TellsReport run fields bytes x
      told x is = record {
        formed = form.fits text [] x is;
        spelled = sym (joined bytes) ∙ (ap (λ (t : Lines). flat_map (λ (l : List ℕ). l) t) (form.written text [] x is ∙ append-nil (lines_of x)) ∙ joined (spell x));
      }

      go : (r : Reading Report) → read text ≡ r → read_whole r ≡ Ok report → TellsReport run fields bytes report
      go (Err r) is f = absurd cc
      go (Ok (x, [])) is f = subst (λ (y : Report). TellsReport run fields bytes y) (ok_is x report f) (told x is)
      go (Ok (x, line ∷ more)) is f = absurd cc

pub reading_judges : ReadingJudges
reading_judges = record {
  stops = λ run fields bytes read rest form e. stops run fields bytes read form rest e;
  reads = λ run fields bytes read report form e. reads run fields bytes read form report e;
}
