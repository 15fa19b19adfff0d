-- Some bytes have at most one verdict.
use Rattle.std.proofs.Common.{◌≡◌, ℕ, suc, ◌<◌, ◌≤◌, ◌⊎◌, inl, inr, List, refl, sym, ap, ◌∙◌, subst, arith}
use Rattle.std.proofs.lemmas.Bool.{cases_order}
use Rattle.std.specs.List.{slice_get}
use Rattle.map_history.specs.Report.{Report}
use Rattle.map_history.specs.LegalReport.{Run}
use Rattle.report_laws.proofs.PlainLemmas.{spells_one_formed_report}
use Rattle.audit_law.specs.TextLines.{ended_lines}
use Rattle.audit_law.specs.Points.{Point, Changes, Answers, Order, Scans, Full, Room, number_of, KeepsPoint, BreaksFirst}
use Rattle.audit_law.specs.Verdicts.{TellsReport, StandsTo, LosesForm, Fail, Verdict, Legal, Illegal, HasNoForm, IsVerdict}
use Rattle.audit_law.specs.Laws.{OneVerdict}

-- less, the same, or more
order : (m n : ℕ) → (m < n) ⊎ ((m ≡ n) ⊎ (n < m))
order m n = elim (cases_order m n) [
  | inl same ↦ inr (inl same)
  | inr other ↦ elim other [
    | inl low ↦ inl low
    | inr high ↦ inr (inr high)
  ]
]

number_same : (p q : Point) → number_of p ≡ number_of q → p ≡ q
number_same Changes Changes e = refl
number_same Answers Answers e = refl
number_same Order Order e = refl
number_same Scans Scans e = refl
number_same Full Full e = refl
number_same Room Room e = refl
number_same p q e = absurd (omega (arith, e))

fail_same : (x y : Fail) → x.line ≡ y.line → x.point ≡ y.point → x ≡ y
fail_same x y l p = λ i. record { line = l i; point = p i }

module _ (run : Run) (fields bytes : List ℕ) where
  -- the report that is told stands to any line
  told_stands : (report : Report) → TellsReport run fields bytes report → (count : ℕ) → StandsTo run fields bytes count
  told_stands report told count = record {
    report = report;
    formed = told.formed;
    alike = λ n low. ap (λ (b : List ℕ). slice_get (ended_lines b) n) told.spelled;
  }

  stands_less : (m n : ℕ) → m ≤ n → StandsTo run fields bytes n → StandsTo run fields bytes m
  stands_less m n le s = record { report = s.report; formed = s.formed; alike = λ k low. s.alike k (omega (arith, low, le)) }

  no_form : (report : Report) → TellsReport run fields bytes report → (f : Fail) → HasNoForm run fields bytes f → ⊥
  no_form report told f h = h.loses.none (told_stands report told (suc h.n))

  one_report : (r s : Report) → TellsReport run fields bytes r → TellsReport run fields bytes s → r ≡ s
  one_report r s a b = spells_one_formed_report run r s a.formed.form b.formed.form a.formed.plain b.formed.plain (sym a.spelled ∙ b.spelled)

  one_loss : (m n : ℕ) → LosesForm run fields bytes m → LosesForm run fields bytes n → m ≡ n
  one_loss m n a b = elim (order m n) [
    | inl low ↦ absurd (a.none (stands_less (suc m) n (omega (arith, low)) b.before))
    | inr more ↦ elim more [
      | inl same ↦ same
      | inr high ↦ absurd (b.none (stands_less (suc n) m (omega (arith, high)) a.before))
    ]
  ]

  one_break : (report : Report) (p q : Point) (m n : ℕ) → BreaksFirst run report p m → BreaksFirst run report q n → (number_of p ≡ number_of q) × (m ≡ n)
  one_break report p q m n a b = elim (order (number_of p) (number_of q)) [
    | inl low ↦ absurd (a.broken (b.points p low m))
    | inr more ↦ elim more [
      | inl same ↦ (same, line (number_same p q same))
      | inr high ↦ absurd (b.broken (a.points q high n))
    ]
  ]
    where
      line : p ≡ q → m ≡ n
      line is = let c = subst (λ (x : Point). BreaksFirst run report x m) is a in elim (order m n) [
        | inl low ↦ absurd (c.broken (b.lines m low))
        | inr more ↦ elim more [
          | inl same ↦ same
          | inr high ↦ absurd (b.broken (c.lines n high))
        ]
      ]

  pub bytes_have_one : (v w : Verdict) → IsVerdict run fields bytes v → IsVerdict run fields bytes w → v ≡ w
  bytes_have_one Legal Legal a b = refl
  bytes_have_one Legal (Illegal f) a (inl h) = absurd (no_form a.report a.told f h)
  bytes_have_one Legal (Illegal f) a (inr h) =
      let kept = subst (λ (r : Report). (p : Point) → KeepsPoint run r p) (one_report a.report h.report a.told h.told) a.keeps in
      absurd (h.breaks.broken (kept h.point h.n))
  bytes_have_one (Illegal f) Legal (inl h) b = absurd (no_form b.report b.told f h)
  bytes_have_one (Illegal f) Legal (inr h) b =
      let kept = subst (λ (r : Report). (p : Point) → KeepsPoint run r p) (one_report b.report h.report b.told h.told) b.keeps in
      absurd (h.breaks.broken (kept h.point h.n))
  bytes_have_one (Illegal f) (Illegal g) (inl h) (inl k) =
      ap Illegal (fail_same f g (h.is_line ∙ (ap suc (one_loss h.n k.n h.loses k.loses) ∙ sym k.is_line)) (h.is_point ∙ sym k.is_point))
  bytes_have_one (Illegal f) (Illegal g) (inl h) (inr k) = absurd (no_form k.report k.told f h)
  bytes_have_one (Illegal f) (Illegal g) (inr h) (inl k) = absurd (no_form h.report h.told g k)
  bytes_have_one (Illegal f) (Illegal g) (inr h) (inr k) =
      let moved = subst (λ (r : Report). BreaksFirst run r h.point h.n) (one_report h.report k.report h.told k.told) h.breaks in
      let same = one_break k.report h.point k.point h.n k.n moved k.breaks in
      ap Illegal (fail_same f g (h.is_line ∙ (ap suc same.1 ∙ sym k.is_line)) (h.is_point ∙ (same.0 ∙ sym k.is_point)))

pub bytes_have_one_verdict : OneVerdict
bytes_have_one_verdict run fields bytes v w a b = bytes_have_one run fields bytes v w a b
