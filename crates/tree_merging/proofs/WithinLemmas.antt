-- The keys of a page's rows, within its bounds.
use Rattle.std.proofs.Common.{◌≡◌, ℕ, ◌<◌, Bool, true, false, not, ◌&&◌, List, [], ◌∷◌, length, refl, sym, ap, subst, ◌∙◌, inl, inr, arith}
use Rattle.std.specs.List.{AllByRecursion}
use Rattle.std.proofs.lemmas.Bool.{cases_eq}
use Rattle.key_tuple.specs.Order.{FieldList}
use Rattle.key_tuple.specs.KeyPlace.{KeyPlace, Start, At, before, within}
use Rattle.key_tuple.proofs.PlaceLemmas.{before-itself, before-trans, before_upto}
use Rattle.list_facts.proofs.Each.{each_weaker, each_both, each_all, each_filter}
use Rattle.map_history.specs.Map.{Pair, slice}
use Rattle.index_page.specs.Page.{PageRows}
use Rattle.index_page.specs.Rows.{Row}
use Rattle.tree_law.specs.TreeShape.{first_from, Rise}
use Rattle.tree_law.specs.Pages.{from_place, is_empty, pointers_of, row_pairs}
use Rattle.tree_law.specs.PickLaws.{AreInner}
use Rattle.tree_law.proofs.FitLemmas.{from_some, from_key}
use Rattle.tree_law.proofs.LeafLemmas.{IsRow, rows_each, row_pairs-row}
use Rattle.tree_law.proofs.PageRowLemmas.{pointer_is}
use Rattle.forest_law.specs.declared.objects.Frame.{Frame}
use Rattle.forest_law.specs.State.{ForestState, maps_of}
use Rattle.forest_law.specs.Law.{IsLawful}
use Rattle.tree_facts.specs.TreeFrames.{IsTreeFrame, low_of, high_of}
use Rattle.tree_facts.proofs.FrameLemmas.{tells_page}
use Rattle.tree_facts.proofs.LeafLemmas.{slice_is}
use Rattle.tree_facts.proofs.KeyLemmas.{empty_before}
use Rattle.tree_facts.proofs.InnerLemmas.{inner_pages_point}

-- the place is before the end of a range, and not before its start
pub record IsInRange (low high x : KeyPlace) : Type 0 where
  pub from : before x low ≡ false
  pub to : before x high ≡ true

within_range : (low high x : KeyPlace) → within low high x ≡ true → IsInRange low high x
within_range low high x e = go (before x low) (before x high) refl refl e
  where
    go : (a b : Bool) → before x low ≡ a → before x high ≡ b → not a && b ≡ true
        → IsInRange low high x
    go true b p q e = absurd cc
    go false b p q e = record { from = p; to = q ∙ e }

-- on a leaf: the rows whose pairs are in a range
rows_in_range : (low high : KeyPlace) (rows : List Row) → AllByRecursion IsRow rows
    → AllByRecursion (λ (x : Pair). IsInRange low high (At x.key)) (row_pairs rows)
    → AllByRecursion (λ (x : Row). IsInRange low high (At x.key)) rows
rows_in_range low high [] r a = tt
rows_in_range low high (x ∷ rows) r a =
    let both = subst (AllByRecursion (λ (p : Pair). IsInRange low high (At p.key)))
    (row_pairs-row x rows r.0.0 r.0.1) a in
    (both.0, rows_in_range low high rows r.1 both.1)

-- above the leaves: the places of pointers that rise are in the range that they fill
record FillsRange (high : KeyPlace) (rows : List Row) : Type 0 where
  pub end : before high (first_from (pointers_of rows) high) ≡ false
  pub each : AllByRecursion (λ (x : Row). IsInRange (first_from (pointers_of rows) high) high
      (from_place x.key)) rows

fills_range : (high : KeyPlace) (rows : List Row) → AreInner rows → Rise (pointers_of rows) high
    → FillsRange high rows
fills_range high [] inner rise = record { end = before-itself high; each = tt }
fills_range high (x ∷ rows) inner rise =
    let here = from_place x.key in
    let is = pointer_is x inner.0.0 here rows (inner.0.1, refl) in
    let rises = subst (λ ps. Rise ps high) is rise in
    let first : first_from (pointers_of (x ∷ rows)) high ≡ here =
    ap (λ ps. first_from ps high) is in
    let rest = fills_range high rows inner.1 rises.1 in
    let to : before here high ≡ true =
    before_upto here (first_from (pointers_of rows) high) high rises.0 rest.end in
    let not_back : (z : KeyPlace) → before here z ≡ true → before z here ≡ false =
    λ z b. still here z (before z here) refl b in
    record {
      end = ap (before high) first ∙ not_back high to;
      each = subst (λ z. AllByRecursion (λ (y : Row). IsInRange z high (from_place y.key)) (x ∷ rows))
          (sym first) (
            record { from = before-itself here; to = to },
            each_weaker (λ (y : Row). IsInRange (first_from (pointers_of rows) high) high
                (from_place y.key))
                (λ (y : Row). IsInRange here high (from_place y.key))
                (λ y r. record {
                  from = not_back (from_place y.key)
                      (before_upto here (first_from (pointers_of rows) high) (from_place y.key)
                      rises.0 r.from);
                  to = r.to;
                })
                rows rest.each,
          );
    }
  where
    still : (p q : KeyPlace) (b : Bool) → before q p ≡ b → before p q ≡ true → before q p ≡ false
    still p q true e f = absurd (cc (before-trans p q p f e, before-itself p))
    still p q false e f = e

-- the start comes before each key
start_before : (at : FieldList) → before Start (At at) ≡ true
unfolding before
start_before at = refl

module _ (w : ForestState) (law : IsLawful w) (n : ℕ) (f : Frame) (page : PageRows)
    (is : IsTreeFrame w n f page) where
  leaf_keys : page.head.level ≡ 0
      → AllByRecursion (λ (x : Row). IsInRange (low_of f) (high_of f) (At x.key)) page.rows
  leaf_keys leaf =
      let map = maps_of w.lists page.head.index in
      let inside = subst (AllByRecursion (λ (x : Pair). IsInRange (low_of f) (high_of f) (At x.key)))
      (sym (slice_is w law n f page is leaf))
      (each_weaker (λ (x : Pair). (within (low_of f) (high_of f) (At x.key) ≡ true) × Unit {0})
      (λ (x : Pair). IsInRange (low_of f) (high_of f) (At x.key))
      (λ x h. within_range (low_of f) (high_of f) (At x.key) h.0)
      (slice (low_of f) (high_of f) map)
      (each_filter (λ (x : Pair). Unit {0})
      (λ (x : Pair). within (low_of f) (high_of f) (At x.key)) map
      (each_all (λ (x : Pair). Unit {0}) (λ x. tt) map))) in
      rows_in_range (low_of f) (high_of f) page.rows
      (rows_each page.head.level leaf page.rows (tells_page w law n f page is).order.bodies) inside

  inner_places : 0 < page.head.level
      → AllByRecursion (λ (x : Row). IsInRange (low_of f) (high_of f) (from_place x.key)) page.rows
  inner_places above = let fills = inner_pages_point w law n f page is above in
      subst (λ z. AllByRecursion (λ (x : Row). IsInRange z (high_of f) (from_place x.key)) page.rows)
      fills.begins (fills_range (high_of f) page.rows fills.inner fills.rise).each

  long : AllByRecursion (λ (x : Row). length x.key ≡ page.head.fields) page.rows
  long = (tells_page w law n f page is).order.keys

  -- where a page ends at a key that some place comes before, of as many fields, each row is below it
  pub below_high : (low : KeyPlace) (at : FieldList) → before low (from_place at) ≡ true
      → high_of f ≡ At at → length at ≡ page.head.fields
      → AllByRecursion (λ (x : Row). before (At x.key) (At at) ≡ true) page.rows
  below_high low at some ends fields = elim (cases_eq page.head.level 0) [
    | inl leaf ↦ each_weaker (λ (x : Row). IsInRange (low_of f) (high_of f) (At x.key))
        (λ (x : Row). before (At x.key) (At at) ≡ true)
        (λ x r. ap (before (At x.key)) (sym ends) ∙ r.to) page.rows (leaf_keys leaf)
    | inr inner ↦ each_both (λ (x : Row). length x.key ≡ page.head.fields)
        (λ (x : Row). IsInRange (low_of f) (high_of f) (from_place x.key))
        (λ (x : Row). before (At x.key) (At at) ≡ true)
        (λ x l r. place_below x (is_empty x.key) refl (l ∙ sym fields)
        (ap (before (from_place x.key)) (sym ends) ∙ r.to))
        page.rows long (inner_places (omega (arith, inner)))
  ]
    where
      place_below : (x : Row) (e : Bool) → is_empty x.key ≡ e → length x.key ≡ length at
          → before (from_place x.key) (At at) ≡ true → before (At x.key) (At at) ≡ true
      place_below x true e l b = empty_before x.key at e (from_some low at some) l
      place_below x false e l b = ap (λ z. before z (At at)) (sym (from_key x.key e)) ∙ b

  -- where a page begins at a key, no row is below it
  pub from_low : (at : FieldList) → low_of f ≡ At at
      → AllByRecursion (λ (x : Row). before (At x.key) (At at) ≡ false) page.rows
  from_low at begins = elim (cases_eq page.head.level 0) [
    | inl leaf ↦ each_weaker (λ (x : Row). IsInRange (low_of f) (high_of f) (At x.key))
        (λ (x : Row). before (At x.key) (At at) ≡ false)
        (λ x r. ap (before (At x.key)) (sym begins) ∙ r.from) page.rows (leaf_keys leaf)
    | inr inner ↦ each_weaker (λ (x : Row). IsInRange (low_of f) (high_of f) (from_place x.key))
        (λ (x : Row). before (At x.key) (At at) ≡ false)
        (λ x r. place_from x (is_empty x.key) refl
        (ap (before (from_place x.key)) (sym begins) ∙ r.from))
        page.rows (inner_places (omega (arith, inner)))
  ]
    where
      place_from : (x : Row) (e : Bool) → is_empty x.key ≡ e
          → before (from_place x.key) (At at) ≡ false → before (At x.key) (At at) ≡ false
      place_from x true e b = absurd (cc (start_before at, ap (λ z. before z (At at)) (sym (begin_at x e)) ∙ b))
        where
          begin_at : (x : Row) → is_empty x.key ≡ true → from_place x.key ≡ Start
          begin_at x e = rw e refl
      place_from x false e b = ap (λ z. before z (At at)) (sym (from_key x.key e)) ∙ b
