-- A leaf on which the check of a whole key passes has the key in its bounds.
use Rattle.std.proofs.Common.{◌≡◌, inl, inr, ℕ, Bool, true, false, not, ◌&&◌, None, List, [], ◌∷◌, ◌++◌, length, sym, ap, subst, ◌∙◌, refl}
use Rattle.key_tuple.specs.KeyPlace.{KeyPlace, Start, At, before, within, cut_of}
use Rattle.key_tuple.specs.Order.{FieldList}
use Rattle.key_tuple.specs.Position.{IsOfFields}
use Rattle.key_tuple.specs.declared.mode.Mode.{Mode}
use Rattle.key_tuple.specs.declared.mode.Mode.TheVariants.{Ge, G, Le, L}
use Rattle.key_tuple.proofs.PlaceLemmas.{before-End, before-Start, before_upto, key_exact, upto_before}
use Rattle.key_tuple.proofs.PositionLemmas.{before_left_out, position-whole, position_beyond, within_parts}
use Rattle.key_tuple.proofs.TupleLemmas.{tuple_cmp-whole}
use Rattle.map_history.specs.Map.{Map, Pair}
use Rattle.index_page.specs.Page.{FitsLevel}
use Rattle.index_page.specs.Rows.{RowBody, Bytes, Child, Row, first_of_rows, last_of_rows, last_row_after}
use Rattle.tree_law.specs.GuessCheck.{IsLeaf, MatchesAll, NextIsIn, PassesCheck, PrevIsOut}
use Rattle.tree_law.specs.Pages.{AreLawfulPages, Page, Pages, forest, high_place, low_place, outline}
use Rattle.tree_law.specs.TreeShape.{In, PrevFits, tag_of}
use Rattle.tree_law.proofs.LeafLemmas.{each_in, in_middle, pair_in}
use Rattle.tree_law.proofs.PageRowLemmas.{tree_is}
use Rattle.tree_law.proofs.SearchLemmas.{leaf_within, next_end}

both : (b : Bool) → b ≡ true → b ≡ false → ⊥
both true e f = absurd cc
both false e f = absurd cc

-- the last of some rows is among them
last_among : (x : Row) (xs ys : List Row) → In (last_row_after x xs) ((x ∷ xs) ++ ys)
last_among x [] ys = inl refl
last_among x (y ∷ xs) ys = inr (last_among y xs ys)

-- and so is the first of those behind
first_among : (xs : List Row) (row z : Row) (zs : List Row) → In z (xs ++ row ∷ z ∷ zs)
first_among [] row z zs = inr (inl refl)
first_among (x ∷ xs) row z zs = inr (first_among xs row z zs)

joined : (low high x : KeyPlace) → before x low ≡ false → before x high ≡ true
    → within low high x ≡ true
joined low high x out inside = ap (λ z. not z && before x high) out ∙ inside

module _ (indexes : ℕ) (fields_of heights : ℕ → ℕ) (maps : ℕ → Map) (pages : Pages)
    (law : AreLawfulPages indexes fields_of heights maps pages) (i n : ℕ) (page : Page)
    (leaf : IsLeaf pages i n page) where
  -- each row of a leaf carries a value
  value_of_row : (x : Row) → In x page.rows → (v : List ℕ) × (x.body ≡ Bytes v)
  value_of_row x among = pick x.body refl
    where
      fits : FitsLevel page.level x.body
      fits = each_in (λ (y : Row). FitsLevel page.level y.body) page.rows
          (law.orderly n page leaf.is).bodies x among

      pick : (b : RowBody) → x.body ≡ b → (v : List ℕ) × (x.body ≡ Bytes v)
      pick (Bytes v) e = (v, e)
      pick (Child m) e = absurd (subst (FitsLevel page.level) e fits leaf.leaf)

  -- and is within its bounds
  row_within : (x : Row) → In x page.rows
      → within (low_place page.low) (high_place page.high) (At x.key) ≡ true
  row_within x among = let v = value_of_row x among in
      (pair_in (λ (e : Pair). (within (low_place page.low) (high_place page.high) (At e.key)
      ≡ true) × Unit {0}) page.rows
      (leaf_within indexes fields_of heights maps pages law i n page leaf) x v.0 among v.1).0

  -- a leaf with none before it has all keys from the start
  starts : page.prev ≡ None → low_place page.low ≡ Start
  starts e = subst (PrevFits (forest pages) (tag_of (outline page))) e
      (law.shape.prevs n (outline page) (tree_is pages n page leaf.is leaf.tree))

  module _ (key : FieldList) (whole : length key ≡ page.fields) where
    row_fields : (x : Row) → In x page.rows → IsOfFields page.fields (At x.key)
    row_fields x among = each_in (λ (y : Row). length y.key ≡ page.fields) page.rows
        (law.orderly n page leaf.is).keys x among

    -- a row that a mode's cut leaves out isn't above the key
    not_above : (mode : Mode) (x : Row) → In x page.rows → cut_of mode key (At x.key) ≡ false
        → before (At key) (At x.key) ≡ false
    not_above mode x among out = pick (before (At key) (At x.key)) refl
      where
        pick : (b : Bool) → before (At key) (At x.key) ≡ b → before (At key) (At x.key) ≡ false
        pick false e = e
        pick true e = absurd (both (cut_of mode key (At x.key))
            (position_beyond page.fields mode key (At x.key)
            (position-whole page.fields mode key (At x.key) whole (row_fields x among) ∙ e)) out)

    -- and one that it admits isn't below it
    not_under : (mode : Mode) (x : Row) → cut_of mode key (At x.key) ≡ true
        → before (At x.key) (At key) ≡ false
    not_under mode x past = pick (before (At x.key) (At key)) refl
      where
        pick : (b : Bool) → before (At x.key) (At key) ≡ b → before (At x.key) (At key) ≡ false
        pick false e = e
        pick true e = absurd (both (cut_of mode key (At x.key)) past
            (before_left_out mode key (At x.key) e))

    -- so the key is within the low end, by such a row or where there is no leaf before
    low_by : (mode : Mode) (x : Row) → In x page.rows → cut_of mode key (At x.key) ≡ false
        → before (At key) (low_place page.low) ≡ false
    low_by mode x among out = pick (before (At key) (low_place page.low)) refl
      where
        pick : (b : Bool) → before (At key) (low_place page.low) ≡ b
            → before (At key) (low_place page.low) ≡ false
        pick false e = e
        pick true e = absurd (both (before (At key) (At x.key))
            (before_upto (At key) (low_place page.low) (At x.key) e
            (within_parts (low_place page.low) (high_place page.high) (At x.key)
            (row_within x among)).0) (not_above mode x among out))

    low_before : (mode : Mode) (xs ys : List Row) → page.rows ≡ xs ++ ys
        → PrevIsOut (cut_of mode key) page.prev (last_of_rows xs)
        → before (At key) (low_place page.low) ≡ false
    low_before mode [] ys parts none = subst (λ p. before (At key) p ≡ false) (sym (starts none))
        (before-Start (At key))
    low_before mode (x ∷ xs) ys parts out = low_by mode (last_row_after x xs)
        (subst (In (last_row_after x xs)) (sym parts) (last_among x xs ys)) out

    -- and within the high end
    high_by : (mode : Mode) (x : Row) → In x page.rows → cut_of mode key (At x.key) ≡ true
        → before (At key) (high_place page.high) ≡ true
    high_by mode x among past = upto_before (At key) (At x.key) (high_place page.high)
        (not_under mode x past)
        (within_parts (low_place page.low) (high_place page.high) (At x.key)
        (row_within x among)).1

    high_behind : (mode : Mode) (xs : List Row) (row : Row) (ys : List Row)
        → page.rows ≡ xs ++ row ∷ ys → NextIsIn (cut_of mode key) page.next (first_of_rows ys)
        → before (At key) (high_place page.high) ≡ true
    high_behind mode xs row [] parts none = subst (λ p. before (At key) p ≡ true)
        (sym (next_end indexes fields_of heights maps pages law i n page leaf none))
        (before-End key)
    high_behind mode xs row (z ∷ zs) parts past = high_by mode z
        (subst (In z) (sym parts) (first_among xs row z zs)) past

    module _ (xs : List Row) (row : Row) (ys : List Row) (parts : page.rows ≡ xs ++ row ∷ ys)
      where
        here : In row page.rows
        here = subst (In row) (sym parts) (in_middle xs row ys)

        -- a row of the key itself
        key_within : MatchesAll key page row.key
            → within (low_place page.low) (high_place page.high) (At key) ≡ true
        key_within meets = subst
            (λ k. within (low_place page.low) (high_place page.high) (At k) ≡ true)
            (sym (key_exact key row.key
            (sym (tuple_cmp-whole key row.key (whole ∙ sym (row_fields row here))) ∙ meets.1)))
            (row_within row here)

        -- so it is with each mode
        pub passed_within : (mode : Mode) → PassesCheck mode key page xs row ys
            → within (low_place page.low) (high_place page.high) (At key) ≡ true
        passed_within Ge (past, (inl meets)) = key_within meets
        passed_within Ge (past, (inr out)) = joined (low_place page.low) (high_place page.high)
            (At key) (low_before Ge xs (row ∷ ys) parts out) (high_by Ge row here past)
        passed_within G (past, out) = joined (low_place page.low) (high_place page.high) (At key)
            (low_before G xs (row ∷ ys) parts out) (high_by G row here past)
        passed_within Le (out, past) = joined (low_place page.low) (high_place page.high) (At key)
            (low_by Le row here out) (high_behind Le xs row ys parts past)
        passed_within L (out, past) = joined (low_place page.low) (high_place page.high) (At key)
            (low_by L row here out) (high_behind L xs row ys parts past)
