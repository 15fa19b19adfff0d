-- How far a key agrees with rows is bounded by the key.
use Rattle.std.proofs.Common.{◌≡◌, ℕ, suc, zero, ◌+◌, ◌≤◌, Bool, true, false, cond, List, [], ◌∷◌, length, sym, subst, arith, Option, Some, None}
use Rattle.std.specs.Prelude.{nat_eq, ◌==◌, slice_index_or}
use Rattle.std.proofs.lemmas.List.Sums.{get_or-le-sum_by, sum_by-cons}
use Rattle.std.specs.Cmp.Lexicographic.{pointwise}
use Rattle.key_tuple.specs.Figures.{equal_bytes, equal_fields}
use Rattle.key_tuple.specs.Order.{FieldList, byte_count}
use Rattle.key_tuple.specs.declared.TheConstants.{MAX_KEY_BYTES}
use Rattle.key_tuple.specs.declared.mode.Match.{Match}
use Rattle.key_tuple.specs.declared.mode.Mode.{Mode}
use Rattle.learning.specs.Bounds.{AreFiguresOf}
use Rattle.index_page.specs.Rows.{Row, first_of_rows, last_of_rows}
use Rattle.index_page.specs.Search.{Finds, agreement}
use Rattle.index_page.specs.declared.spot.Spot.{Spot}
use Rattle.leaf_search.specs.Downs.{figures_at}

-- one more or none is at most one more
one_more_few : (b : Bool) (m n : ℕ) → m ≤ n → cond b (m + 1) 0 ≤ suc n
one_more_few true m n few = omega (arith, few)
one_more_few false m n few = omega arith

pub equal_bytes_few : (xs ys : List ℕ) → equal_bytes xs ys ≤ length xs
equal_bytes_few [] ys = omega arith
equal_bytes_few (x ∷ xs) [] = omega arith
equal_bytes_few (x ∷ xs) (y ∷ ys) =
    one_more_few (x == y) (equal_bytes xs ys) (length xs) (equal_bytes_few xs ys)

pub equal_fields_few : (t k : FieldList) → equal_fields t k ≤ length t
equal_fields_few [] k = omega arith
equal_fields_few (x ∷ xs) [] = omega arith
equal_fields_few (x ∷ xs) (y ∷ ys) =
    one_more_few (pointwise nat_eq x y) (equal_fields xs ys) (length xs) (equal_fields_few xs ys)

-- a field has no more bytes than all of them
pub field_few : (t : FieldList) (n : ℕ) → length (slice_index_or t n []) ≤ byte_count t
field_few [] n = omega arith
field_few (x ∷ xs) zero = get_or-le-sum_by length (x ∷ xs) 0 [] (omega arith)
field_few (x ∷ xs) (suc n) =
    let few : length (slice_index_or (x ∷ xs) (suc n) []) ≤ byte_count xs = field_few xs n in
    let all : byte_count (x ∷ xs) ≡ length x + byte_count xs = sum_by-cons length x xs in
    omega (arith, few, all)

-- how far a tuple may agree with a row
pub record IsMatchOf (fields : ℕ) (m : Match) : Type 0 where
  pub few : m.fields ≤ fields
  pub short : m.bytes ≤ MAX_KEY_BYTES

pub agreement_bounded : (t : FieldList) → byte_count t ≤ MAX_KEY_BYTES → (row : Option Row)
    → IsMatchOf (length t) (agreement t row)
agreement_bounded t short None = record { few = omega arith; short = omega arith }
agreement_bounded t short (Some row) = let n = equal_fields t row.key in
    let bytes = equal_bytes_few (slice_index_or t n []) (slice_index_or row.key n []) in
    let field = field_few t n in record {
      few = equal_fields_few t row.key;
      short = omega (arith, bytes, field, short);
    }

-- so it is with the figures of a search
pub figures_bounded : (mode : Mode) (t : FieldList) (rows : List Row) (spot : Spot) (fields : ℕ)
    → byte_count t ≤ MAX_KEY_BYTES → length t ≡ fields → Finds mode t rows spot
    → AreFiguresOf fields (figures_at spot)
figures_bounded mode t rows spot fields short whole finds =
    let low = subst (IsMatchOf (length t)) (sym finds.low)
    (agreement_bounded t short (last_of_rows finds.left)) in
    let up = subst (IsMatchOf (length t)) (sym finds.up)
    (agreement_bounded t short (first_of_rows finds.right)) in record {
      low_fields = subst (λ n. spot.low.fields ≤ n) whole low.few;
      up_fields = subst (λ n. spot.up.fields ≤ n) whole up.few;
      low_bytes = low.short;
      up_bytes = up.short;
    }
