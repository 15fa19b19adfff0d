-- Loads of rows.
use Rattle.std.proofs.Common.{◌≡◌, ℕ, zero, suc, ◌+◌, Some, List, [], ◌∷◌, ◌++◌, add-one, arith, take}
use Rattle.std.proofs.lemmas.List.Sums.{sum_by-cons, sum_by-append}
use Rattle.std.specs.List.{slice_get}
use Rattle.index_page.specs.Rows.{Row}
use Rattle.index_page.specs.Loads.{charge_of, load_of}

-- the charge of a row
abbrev pub row_charge : Row → ℕ
row_charge x = charge_of x.key x.body

pub load_of-cons : (x : Row) (rows : List Row) → load_of (x ∷ rows) ≡ row_charge x + load_of rows
load_of-cons x rows = sum_by-cons row_charge x rows

-- a row among others adds its charge
pub load_of-among : (below : List Row) (x : Row) (above : List Row) → load_of (below ++ x ∷ above) ≡ load_of (below ++ above) + row_charge x
load_of-among below x above = omega (arith, sum_by-append row_charge below (x ∷ above), sum_by-append row_charge below above, load_of-cons x above)

-- the load of one row more
pub load_of-more : (rows : List Row) (i : ℕ) (row : Row) → slice_get rows i ≡ Some row → load_of (take (suc i) rows) ≡ load_of (take i rows) + row_charge row
load_of-more [] i row e = absurd cc
load_of-more (y ∷ rows) zero row e =
    let same : row_charge y ≡ row_charge row = cc in
    omega (arith, load_of-cons y [])
load_of-more (y ∷ rows) (suc i) row e = omega (arith, load_of-cons y (take (suc i) rows), load_of-cons y (take i rows), load_of-more rows i row e)

-- a sum so far, and a row's charge
pub load_with : (rows : List Row) (i : ℕ) (row : Row) (sum n : ℕ) → slice_get rows i ≡ Some row → sum ≡ load_of (take i rows) → n ≡ row_charge row → sum + n ≡ load_of (take (i + 1) rows)
load_with rows i row sum n there so_far charged = rw add-one (omega (arith, load_of-more rows i row there, so_far, charged))
