-- A spot for the rows not above a whole key that no row has is the key's own spot.
use Rattle.std.proofs.Common.{◌≡◌, ◌≢◌, Bool, true, false, not, List, [], ◌∷◌, ◌++◌, sym, ap, ◌∙◌, subst, length, is_lt, is_gt, Ordering, Less, Equal, Greater, refl}
use Rattle.std.proofs.lemmas.Bool.{both_ways}
use Rattle.std.specs.List.{AllByRecursion}
use Rattle.key_tuple.specs.Order.{FieldList, tuple_cmp}
use Rattle.key_tuple.specs.KeyPlace.{At, above, before, not_below}
use Rattle.key_tuple.specs.declared.mode.Match.{Match}
use Rattle.key_tuple.specs.declared.mode.Mode.TheVariants.{Ge, Le}
use Rattle.key_tuple.specs.Figures.{equal_fields}
use Rattle.key_tuple.proofs.PlaceLemmas.{before-tied}
use Rattle.key_tuple.proofs.TupleLemmas.{not_below_cut, tuple_cmp-whole}
use Rattle.list_facts.proofs.Each.{each_weaker, each_left}
use Rattle.index_page.specs.declared.spot.Spot.{Spot}
use Rattle.index_page.specs.Page.{PageRows, RowsAscend, IsRowOf, IsPageInOrder}
use Rattle.index_page.specs.Rows.{Row, last_of_rows, last_row_after}
use Rattle.index_page.specs.Search.{AllOut, Finds, agreement}
use Rattle.index_page.proofs.CutLemmas.{not_below-whole}
use Rattle.index_page.proofs.KeyLemmas.{equal_fields-itself}

false_unless : (b : Bool) → (b ≡ true → ⊥) → b ≡ false
false_unless true f = absurd (f refl)
false_unless false f = refl

key_at : (j k : FieldList) → At j ≡ At k → j ≡ k
key_at j k e = cc

-- what holds of each row holds of the last
each_last : (P : Row → Type 0) (x : Row) (xs : List Row) → AllByRecursion P (x ∷ xs)
    → P (last_row_after x xs)
each_last P x [] each = each.0
each_last P x (y ∷ ys) each = each_last P y ys each.1

-- the first of two lists rises where both together do
ascends_left : (left right : List Row) → RowsAscend (left ++ right) → RowsAscend left
ascends_left [] right rise = tt
ascends_left (x ∷ left) right rise = (
  each_left (λ (y : Row). before (At x.key) (At y.key) ≡ true) left right rise.0,
  ascends_left left right rise.1,
)

module _ (key : FieldList) where
  -- a key is admitted by the cut below the key, where the one above the key admits it
  past_both : (k : FieldList) → above key (At k) ≡ true → not_below key (At k) ≡ true
  unfolding above not_below
  past_both k past = go (tuple_cmp key k) past
    where
      go : (o : Ordering) → is_lt o ≡ true → not (is_gt o) ≡ true
      go Less e = refl
      go Equal e = refl
      go Greater e = absurd cc

  -- against a key of as many fields, to be above is to come behind
  pub above-whole : (k : FieldList) → length key ≡ length k
      → above key (At k) ≡ before (At key) (At k)
  unfolding above before
  above-whole k long = ap is_lt (tuple_cmp-whole key k long)

  -- another key that isn't above it is below it
  other_out : (k : FieldList) → length key ≡ length k → k ≢ key → above key (At k) ≡ false
      → not_below key (At k) ≡ false
  other_out k long other out = not_below-whole key k long ∙ ap not (go (before (At k) (At key)) refl)
    where
      go : (b : Bool) → before (At k) (At key) ≡ b → before (At k) (At key) ≡ true
      go true e = e
      go false e = absurd (other (key_at k key (before-tied (At k) (At key) e
          (sym (above-whole k long) ∙ out))))

  -- rows that rise to one below the key are below it
  all_out : (x : Row) (xs : List Row) → RowsAscend (x ∷ xs)
      → not_below key (At (last_row_after x xs).key) ≡ false → AllOut (not_below key) (x ∷ xs)
  all_out x [] rise out = (out, tt)
  all_out x (y ∷ ys) rise out = (
    false_unless (not_below key (At x.key)) (λ past. (let cut = not_below_cut key in
        both_ways (not_below key (At (last_row_after y ys).key)) out
        (cut.rises (At x.key) (At (last_row_after y ys).key)
        (each_last (λ (z : Row). before (At x.key) (At z.key) ≡ true) y ys rise.0) past))),
    all_out y ys rise.1 out,
  )

  module _ (page : PageRows) (spot : Spot) (order : IsPageInOrder page)
      (long : length key ≡ page.head.fields) (found : Finds Le key page.rows spot)
      (other : spot.low.fields ≢ length key) where
    suits : AllByRecursion (IsRowOf page.head) found.left
    suits = each_left (IsRowOf page.head) found.left found.right
        (subst (AllByRecursion (IsRowOf page.head)) found.split order.each)

    out_left : (left : List Row) → found.left ≡ left → AllOut (not_below key) left
    out_left [] is = tt
    out_left (x ∷ xs) is =
        let last = last_row_after x xs in
        let of : IsRowOf page.head last = each_last (IsRowOf page.head) x xs
        (subst (AllByRecursion (IsRowOf page.head)) is suits) in
        let figures : spot.low.fields ≡ equal_fields key last.key =
        ap (λ (m : Match). m.fields)
        (found.low ∙ ap (λ (zs : List Row). agreement key (last_of_rows zs)) is) in
        all_out x xs
        (subst RowsAscend is
        (ascends_left found.left found.right (subst RowsAscend found.split order.ascend)))
        (other_out last.key (long ∙ sym of.fields)
        (λ same. other (figures ∙ (ap (equal_fields key) same ∙ equal_fields-itself key)))
        (each_last (λ (z : Row). above key (At z.key) ≡ false) x xs
        (subst (AllOut (above key)) is found.out)))

    pub own_spot : Finds Ge key page.rows spot
    own_spot = record {
      left = found.left;
      right = found.right;
      split = found.split;
      out = out_left found.left refl;
      past = each_weaker (λ (x : Row). above key (At x.key) ≡ true)
          (λ (x : Row). not_below key (At x.key) ≡ true) (λ x. past_both x.key) found.right
          found.past;
      before_at = found.before_at;
      after_at = found.after_at;
      low = found.low;
      up = found.up;
      cut = found.cut;
    }
