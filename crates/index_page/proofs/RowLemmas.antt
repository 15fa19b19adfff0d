-- Rows by their numbers and by their places.
use Rattle.std.proofs.Common.{◌≡◌, ◌≢◌, ℕ, zero, suc, ◌<◌, ◌==◌, eq-eqb, Bool, true, false, cond, Some, None, List, [], ◌∷◌, ◌++◌, refl, sym, ap, ◌∙◌, subst, arith, length, take, drop}
use Rattle.std.proofs.lemmas.Bool.{ne_eqb}
use Rattle.std.proofs.lemmas.Bool.Decides.{nat_tests}
use Rattle.std.specs.List.{AllByRecursion, slice_get}
use Rattle.index_page.specs.Rows.{Row, find_row, first_of_rows, last_row_after, last_of_rows, IsAt}
use Rattle.index_page.specs.Page.{PlacesDiffer, RowsAscend}
use Rattle.index_page.specs.Laws.{StandsAt}
use Rattle.list_facts.proofs.Each.{each_right}

-- a list around the element with a number
pub get_split : {A : Type 0} (xs : List A) (i : ℕ) (x : A) → slice_get xs i ≡ Some x → xs ≡ take i xs ++ x ∷ drop (suc i) xs
get_split [] i x e = absurd cc
get_split (y ∷ xs) zero x e = let is : y ≡ x = cc in ap (λ z. z ∷ xs) is
get_split (y ∷ xs) (suc i) x e = ap (λ zs. y ∷ zs) (get_split xs i x e)

pub get_below : {A : Type 0} (xs : List A) (i : ℕ) (x : A) → slice_get xs i ≡ Some x → i < length xs
get_below [] i x e = absurd cc
get_below (y ∷ xs) zero x e = omega arith
get_below (y ∷ xs) (suc i) x e = omega (arith, get_below xs i x e)

-- the first row from a number on, and the last one up to it
pub first_of_rows-drop : (rows : List Row) (i : ℕ) → first_of_rows (drop i rows) ≡ slice_get rows i
first_of_rows-drop [] zero = refl
first_of_rows-drop [] (suc i) = refl
first_of_rows-drop (x ∷ rows) zero = refl
first_of_rows-drop (x ∷ rows) (suc i) = first_of_rows-drop rows i

last_row_after-take : (x : Row) (rows : List Row) (i : ℕ) → i < length (x ∷ rows) → Some (last_row_after x (take i rows)) ≡ slice_get (x ∷ rows) i
last_row_after-take x rows zero h = refl
last_row_after-take x [] (suc i) h = absurd (omega arith)
last_row_after-take x (y ∷ rows) (suc i) h = last_row_after-take y rows i (omega arith)

pub last_of_rows-take : (rows : List Row) (i : ℕ) → i < length rows → last_of_rows (take (suc i) rows) ≡ slice_get rows i
last_of_rows-take [] i h = absurd (omega arith)
last_of_rows-take (x ∷ rows) i h = last_row_after-take x rows i h

-- the row at a place is one of the rows
find_in_rest : (rows : List Row) (place : ℕ) (row x : Row) → StandsAt rows place row → StandsAt (x ∷ rows) place row
find_in_rest rows place row x s = record { left = x ∷ s.left; right = s.right; split = ap (λ zs. x ∷ zs) s.split; place_is = s.place_is }

pub find_stands : (rows : List Row) (place : ℕ) (row : Row) → find_row place rows ≡ Some row → StandsAt rows place row
find_stands [] place row e = absurd cc
find_stands (x ∷ rows) place row e = go (x.place == place) refl e (find_stands rows place row)
  where
    go : (b : Bool) → (x.place == place) ≡ b → cond b (Some x) (find_row place rows) ≡ Some row → (find_row place rows ≡ Some row → StandsAt rows place row) → StandsAt (x ∷ rows) place row
    go true q f more = let is : x ≡ row = cc in record { left = []; right = rows; split = ap (λ z. z ∷ rows) is; place_is = ap (λ (z : Row). z.place) (sym is) ∙ eqb_is x.place place q }
      where
        eqb_is : (m n : ℕ) → (m == n) ≡ true → m ≡ n
        eqb_is m n e = grind (arith, nat_tests)
    go false q f more = find_in_rest rows place row x (more f)

-- and each of the rows is the one at its place, where the places differ
pub find_among : (left : List Row) (row : Row) (right : List Row) → PlacesDiffer (left ++ row ∷ right) → find_row row.place (left ++ row ∷ right) ≡ Some row
find_among [] row right d = ap (λ b. cond b (Some row) (find_row row.place right)) (eq-eqb row.place row.place refl)
find_among (x ∷ left) row right d = ap (λ b. cond b (Some x) (find_row row.place (left ++ row ∷ right))) (ne_eqb x.place row.place (λ e. apart left row right x d.0 (sym e))) ∙ find_among left row right d.1
  where
    apart : (left : List Row) (row : Row) (right : List Row) (x : Row) → AllByRecursion (λ (y : Row). y.place ≢ x.place) (left ++ row ∷ right) → row.place ≢ x.place
    apart [] row right x a = a.0
    apart (y ∷ left) row right x a = apart left row right x a.1

pub find_get : (rows : List Row) (i : ℕ) (row : Row) → PlacesDiffer rows → slice_get rows i ≡ Some row → find_row row.place rows ≡ Some row
find_get rows i row d e =
    let s = get_split rows i row e in
    subst (λ (zs : List Row). find_row row.place zs ≡ Some row) (sym s) (find_among (take i rows) row (drop (suc i) rows) (subst PlacesDiffer s d))

pub find_none : (rows : List Row) (place : ℕ) → AllByRecursion (λ (y : Row). y.place ≢ place) rows → find_row place rows ≡ None
find_none [] place a = refl
find_none (x ∷ rows) place a = ap (λ b. cond b (Some x) (find_row place rows)) (ne_eqb x.place place a.0) ∙ find_none rows place a.1

-- parts of rising rows rise
pub ascends_right : (left right : List Row) → RowsAscend (left ++ right) → RowsAscend right
ascends_right [] right a = a
ascends_right (x ∷ left) right a = ascends_right left right a.1

-- what holds of each row holds of the one at a place
pub each_found : (P : Row → Type 0) (rows : List Row) (place : ℕ) (row : Row) → AllByRecursion P rows → find_row place rows ≡ Some row → P row
each_found P rows place row a e =
    let s = find_stands rows place row e in
    (each_right P s.left (row ∷ s.right) (subst (AllByRecursion P) s.split a)).0

-- the row with a number stands at its place
pub at_get : (rows : List Row) (i : ℕ) (row : Row) → PlacesDiffer rows → slice_get rows i ≡ Some row → IsAt rows (Some row.place) (slice_get rows i)
at_get rows i row d e = subst (IsAt rows (Some row.place)) (sym e) (refl, find_get rows i row d e)
