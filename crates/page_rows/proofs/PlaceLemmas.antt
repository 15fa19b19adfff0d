-- Rows that are read at a list of places, and the one at a place.
use Rattle.std.proofs.Common.{◌≡◌, ℕ, zero, suc, ◌==◌, eq-eqb, Bool, true, false, cond, Option, Some, None, IsSome, List, [], ◌∷◌, ◌++◌, map, length, refl, ap, arith}
use Rattle.std.proofs.lemmas.Bool.Decides.{nat_tests}
use Rattle.page_mirror.specs.Words.{next_origin}
use Rattle.index_page.specs.Rows.{find_row, first_of_rows, IsAt}
use Rattle.page_rows.specs.Reading.{places_from, row_in_bytes}

-- as many places as are asked for
pub length-places_from : (bytes : List ℕ) (at n : ℕ) → length (places_from bytes at n) ≡ n
unfolding places_from
length-places_from bytes at zero = refl
length-places_from bytes at (suc n) = ap suc (length-places_from bytes (next_origin bytes at) n)

-- a record of the list stands at the place
pub record IsListed (origin : ℕ → ℕ) (list : List ℕ) (place : ℕ) : Type 0 where
  pub low : List ℕ
  pub here : ℕ
  pub high : List ℕ
  pub is : list ≡ low ++ here ∷ high
  pub placed : origin here ≡ place

equal : (m n : ℕ) → (m == n) ≡ true → m ≡ n
equal m n e = grind (arith, nat_tests)

-- a place at which a row is found is that of a record of the list
pub found_listed : (bytes : List ℕ) (fields : ℕ) (origin : ℕ → ℕ) (list : List ℕ) (place : ℕ)
    → IsSome (find_row place (map (row_in_bytes bytes fields) (map origin list))) → IsListed origin list place
found_listed bytes fields origin [] place e = absurd cc
found_listed bytes fields origin (h ∷ hs) place e = go (origin h == place) refl e (found_listed bytes fields origin hs place)
  where
    go : (b : Bool) → (origin h == place) ≡ b
        → IsSome (cond b (Some (row_in_bytes bytes fields (origin h))) (find_row place (map (row_in_bytes bytes fields) (map origin hs))))
        → (IsSome (find_row place (map (row_in_bytes bytes fields) (map origin hs))) → IsListed origin hs place)
        → IsListed origin (h ∷ hs) place
    go true q f more = record { low = []; here = h; high = hs; is = refl; placed = equal (origin h) place q }
    go false q f more =
        let rest = more f in
        record { low = h ∷ rest.low; here = rest.here; high = rest.high; is = ap (λ (xs : List ℕ). h ∷ xs) rest.is; placed = rest.placed }

-- the row at the place of a record of the list is the one that is read there
pub listed_found : (bytes : List ℕ) (fields : ℕ) (origin : ℕ → ℕ) (low : List ℕ) (h : ℕ) (high : List ℕ)
    → find_row (origin h) (map (row_in_bytes bytes fields) (map origin (low ++ h ∷ high))) ≡ Some (row_in_bytes bytes fields (origin h))
listed_found bytes fields origin [] h high =
    ap (λ b. cond b (Some (row_in_bytes bytes fields (origin h))) (find_row (origin h) (map (row_in_bytes bytes fields) (map origin high))))
    (eq-eqb (origin h) (origin h) refl)
listed_found bytes fields origin (x ∷ low) h high = go (origin x == origin h) refl (listed_found bytes fields origin low h high)
  where
    go : (b : Bool) → (origin x == origin h) ≡ b
        → find_row (origin h) (map (row_in_bytes bytes fields) (map origin (low ++ h ∷ high))) ≡ Some (row_in_bytes bytes fields (origin h))
        → cond b (Some (row_in_bytes bytes fields (origin x))) (find_row (origin h) (map (row_in_bytes bytes fields) (map origin (low ++ h ∷ high))))
        ≡ Some (row_in_bytes bytes fields (origin h))
    go true q rest = ap (λ (p : ℕ). Some (row_in_bytes bytes fields p)) (equal (origin x) (origin h) q)
    go false q rest = rest

-- the place of the first record of a list
abbrev pub first_place : (ℕ → ℕ) → List ℕ → Option ℕ
first_place origin [] = None
first_place origin (h ∷ hs) = Some (origin h)

-- it is where the first of the rows is
pub first_is_at : (bytes : List ℕ) (fields : ℕ) (origin : ℕ → ℕ) (low high : List ℕ)
    → IsAt (map (row_in_bytes bytes fields) (map origin (low ++ high))) (first_place origin high) (first_of_rows (map (row_in_bytes bytes fields) (map origin high)))
first_is_at bytes fields origin low [] = refl
first_is_at bytes fields origin low (h ∷ high) = (refl, listed_found bytes fields origin low h high)
