-- Rows before FROM and from there on, and bounds beside it.
use Rattle.std.proofs.Common.{◌≡◌, ◌≢◌, inl, inr, ℕ, cond, ne_eqb, Bool, true, false, List, [], ◌∷◌, length, sym, ap, ◌∙◌, refl}
use Rattle.std.proofs.lemmas.Bool.{both_ways, cases_eq}
use Rattle.std.specs.List.{AllByRecursion}
use Rattle.list_facts.proofs.Each.{each_weaker}
use Rattle.key_tuple.specs.Order.{FieldList}
use Rattle.key_tuple.specs.KeyPlace.{KeyPlace, Start, At, End, before, not_below, above}
use Rattle.key_tuple.specs.Position.{position_cut, IsOfFields}
use Rattle.key_tuple.specs.declared.mode.Mode.TheVariants.{Ge}
use Rattle.key_tuple.proofs.PlaceLemmas.{before-itself, before-trans, before_not_after, End-before}
use Rattle.key_tuple.proofs.PositionLemmas.{mode_cut, position-whole}
use Rattle.index_page.specs.declared.spot.Spot.{Spot}
use Rattle.index_page.specs.Rows.{Row, last_row_after}
use Rattle.index_page.specs.Search.{Finds}
use Rattle.index_page.specs.Page.{RowsAscend}
use Rattle.scan_law.proofs.EdgeLemmas.{at_from}
use Rattle.scan_law.proofs.SaidLemmas.{from_on}
use Rattle.tree_cursor.specs.Starts.{BeginsAt}

-- a key below FROM is before it
pub before_from : (from key : FieldList) → not_below from (At key) ≡ false
    → before (At key) (At from) ≡ true
before_from from key out = go (before (At key) (At from)) refl
  where
    go : (b : Bool) → before (At key) (At from) ≡ b → b ≡ true
    go true e = refl
    go false e = absurd (both_ways (not_below from (At key)) out (from_on from key e))

-- the rows that a search for FROM parts
pub begins_from : (from : FieldList) (rows : List Row) (spot : Spot) → Finds Ge from rows spot
    → BeginsAt rows (At from) spot.after
begins_from from rows spot finds = record {
  fore = finds.left;
  on = finds.right;
  split = finds.split;
  sooner = each_weaker (λ (x : Row). not_below from (At x.key) ≡ false)
      (λ (x : Row). before (At x.key) (At from) ≡ true) (λ x out. before_from from x.key out)
      finds.left finds.out;
  later = each_weaker (λ (x : Row). not_below from (At x.key) ≡ true)
      (λ (x : Row). before (At x.key) (At from) ≡ false) (λ x past. at_from from x.key past)
      finds.right finds.past;
  at = finds.after_at;
}

-- where the last of some rows that ascend is before a place, each is
pub all_before : (x : Row) (xs : List Row) (place : KeyPlace) → RowsAscend (x ∷ xs)
    → before (At (last_row_after x xs).key) place ≡ true
    → AllByRecursion (λ (y : Row). before (At y.key) place ≡ true) (x ∷ xs)
all_before x [] place rise last = (last, tt)
all_before x (y ∷ ys) place rise last =
    let rest = all_before y ys place rise.1 last in
    (before-trans (At x.key) (At y.key) place rise.0.0 rest.0, rest)

-- the position of a tuple that is shorter than a key is the cut of its mode
shorter : (fields : ℕ) (from : FieldList) (place : KeyPlace) → length from ≢ fields
    → position_cut fields Ge from place ≡ not_below from place
shorter fields from place other =
    ap (λ b. cond b (above from place) (not_below from place)) (ne_eqb (length from) fields other)

-- what FROM's position isn't beyond isn't before it, and what it is beyond isn't after it
module _ (fields : ℕ) (from : FieldList) (place : KeyPlace)
    (suits : IsOfFields fields place) where
  short_low : not_below from place ≡ false → before (At from) place ≡ false
  short_low out = go (before (At from) place) refl
    where
      itself : not_below from (At from) ≡ true
      itself = from_on from from (before-itself (At from))

      go : (b : Bool) → before (At from) place ≡ b → b ≡ false
      go false e = refl
      go true e = absurd (both_ways (not_below from place) out
          ((mode_cut Ge from).rises (At from) place e itself))

  pub low_before : position_cut fields Ge from place ≡ false → before (At from) place ≡ false
  low_before out = elim (cases_eq (length from) fields) [
    | inl whole ↦ sym (position-whole fields Ge from place whole suits) ∙ out
    | inr other ↦ short_low (sym (shorter fields from place other) ∙ out)
  ]

  pub high_after : position_cut fields Ge from place ≡ true → before place (At from) ≡ false
  unfolding not_below
  high_after past = elim (cases_eq (length from) fields) [
    | inl whole ↦ before_not_after (At from) place
        (sym (position-whole fields Ge from place whole suits) ∙ past)
    | inr other ↦ past_from place (sym (shorter fields from place other) ∙ past)
  ]
    where
      past_from : (x : KeyPlace) → not_below from x ≡ true → before x (At from) ≡ false
      past_from Start e = absurd cc
      past_from (At k) e = at_from from k e
      past_from End e = End-before (At from)
