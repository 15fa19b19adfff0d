-- The pool and the partitions, which a pass lacks.
use Rattle.std.proofs.Common.{◌≡◌, ◌≢◌, ℕ, ◌<◌, ◌⊎◌, inl, inr, sym, subst, refl, arith}
use Rattle.index_law.specs.Shape.{Shape}
use Rattle.forest_law.specs.Numbers.{pool_id, tree_id, part_id, frame_id}
use Rattle.call_law.specs.Hands.{LacksObject, HoldsNoPart, HoldsNoTable}
use Rattle.call_law.specs.Spoken.{View}

-- the number is that of a partition
abbrev pub IsPartNumber : Shape → ℕ → Type 0
IsPartNumber shape k = (j : ℕ) × (j < shape.parts) × (k ≡ part_id shape j)

-- the number is that of the pool, or of a partition
abbrev pub IsTableNumber : Shape → ℕ → Type 0
IsTableNumber shape k = (k ≡ pool_id) ⊎ IsPartNumber shape k

pub part_no_frame : (s : Shape) (k b : ℕ) → IsPartNumber s k → k ≢ frame_id s b
part_no_frame s k b is e = let below = is.1 in let part = is.2 in omega (arith, below, part, e)

pub table_no_frame : (s : Shape) (k b : ℕ) → IsTableNumber s k → k ≢ frame_id s b
table_no_frame s k b (inl pool) e = omega (arith, pool, e)
table_no_frame s k b (inr part) e = part_no_frame s k b part e

pub table_no_tree : (s : Shape) (k i : ℕ) → i < s.indexes → IsTableNumber s k → k ≢ tree_id i
table_no_tree s k i below (inl pool) e = omega (arith, pool, e)
table_no_tree s k i below (inr part) e = let number = part.2 in omega (arith, below, number, e)

-- where what was lacked of them is lacked, none of them is held
module _ (v v' : View) (same : v'.terms.shape ≡ v.terms.shape) where
  pub parts_lacked : ((k : ℕ) → IsPartNumber v.terms.shape k → LacksObject v k → LacksObject v' k)
      → HoldsNoPart v → HoldsNoPart v'
  parts_lacked lacked none k below =
      let there = subst (λ (s : Shape). k < s.parts) same below in
      subst (λ (s : Shape). LacksObject v' (part_id s k)) (sym same)
      (lacked (part_id v.terms.shape k) (k, there, refl) (none k there))

  pub tables_lacked : ((k : ℕ) → IsTableNumber v.terms.shape k → LacksObject v k
      → LacksObject v' k) → HoldsNoTable v → HoldsNoTable v'
  tables_lacked lacked none = record {
    pool = lacked pool_id (inl refl) none.pool;
    parts = parts_lacked (λ k part. lacked k (inr part)) none.parts;
  }
