-- What holds at each place of a short list, and of two that go together.
use Rattle.std.proofs.Common.{◌≡◌, ℕ, zero, suc, ◌<◌, Some, List, [], ◌∷◌, length, subst, get_or, arith}
use Rattle.std.specs.List.{slice_get, AllByRecursion, AllPairs}
use Rattle.map_history.specs.Report.{Answer, AnswerLine}
use Rattle.map_history.specs.LegalReport.{Line}

abbrev pub EachPlace : {A : Type 0} → (ℕ → A → Type 0) → List A → Type 0
EachPlace P [] = Unit {0}
EachPlace P (x ∷ xs) = P zero x × EachPlace (λ i. P (suc i)) xs

pub each_place : {A : Type 0} (P : ℕ → A → Type 0) (xs : List A) → EachPlace P xs → (i : ℕ) (x : A) → slice_get xs i ≡ Some x → P i x
each_place P [] a i x e = absurd cc
each_place P (y ∷ ys) a zero x e = let is : y ≡ x = cc in subst (P zero) is a.0
each_place P (y ∷ ys) a (suc i) x e = each_place (λ i. P (suc i)) ys a.1 i x e

-- of each line and its answer
abbrev pub EachAnswer : (Line → Answer → Type 0) → List Line → List AnswerLine → Type 0
EachAnswer P [] answers = Unit {0}
EachAnswer P (line ∷ lines) [] = Unit {0}
EachAnswer P (line ∷ lines) (answer ∷ answers) = P line answer.answer × EachAnswer P lines answers

pub each_answer : (P : Line → Answer → Type 0) (lines : List Line) (answers : List AnswerLine) → EachAnswer P lines answers → (i : ℕ) (line : Line) (answer : AnswerLine) → slice_get lines i ≡ Some line → slice_get answers i ≡ Some answer → P line answer.answer
each_answer P [] answers a i line answer e f = absurd cc
each_answer P (l ∷ ls) [] a i line answer e f = absurd cc
each_answer P (l ∷ ls) (r ∷ rs) a zero line answer e f =
    let is : l ≡ line = cc in
    let was : r ≡ answer = cc in
    subst (λ (w : AnswerLine). P line w.answer) was (subst (λ (v : Line). P v r.answer) is a.0)
each_answer P (l ∷ ls) (r ∷ rs) a (suc i) line answer e f = each_answer P ls rs a.1 i line answer e f

-- of each two of a list
abbrev pub EachTwo : {A : Type 0} → (A → A → Type 0) → List A → Type 0
EachTwo R [] = Unit {0}
EachTwo R (x ∷ xs) = AllByRecursion (R x) xs × EachTwo R xs

each_at : {A : Type 0} (P : A → Type 0) (xs : List A) (i : ℕ) (d : A) → i < length xs → AllByRecursion P xs → P (get_or xs i d)
each_at P [] i d h a = absurd (omega arith)
each_at P (x ∷ xs) zero d h a = a.0
each_at P (x ∷ xs) (suc i) d h a = each_at P xs i d (omega arith) a.1

pub each_two : {A : Type 0} (R : A → A → Type 0) (xs : List A) → EachTwo R xs → AllPairs R xs
each_two R [] a i j d lt below = absurd (omega arith)
each_two R (x ∷ xs) a zero zero d lt below = absurd (omega arith)
each_two R (x ∷ xs) a (suc i) zero d lt below = absurd (omega arith)
each_two R (x ∷ xs) a zero (suc j) d lt below = each_at (R x) xs j d (omega arith) a.0
each_two R (x ∷ xs) a (suc i) (suc j) d lt below = each_two R xs a.1 i j d (omega arith) (omega arith)
