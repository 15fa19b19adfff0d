-- The worked example, step by step.
use Rattle.std.proofs.Common.{◌≡◌, ◌≢◌, ℕ, zero, suc, ◌==◌, eq-eqb, subst, Bool, false, cond, ltb, Option, Some, None, List, [], ◌∷◌, refl, sym, ap, arith, length}
use Rattle.std.proofs.lemmas.Bool.{both_ways}
use Rattle.std.proofs.lemmas.Bool.Decides.{nat_tests}
use Rattle.key_tuple.specs.Order.{FieldList}
use Rattle.key_tuple.specs.KeyPlace.{before}
use Rattle.map_history.specs.Map.{Map}
use Rattle.tree_law.specs.Pages.{Page, Pages, IsOrderly, HasFields, row_pairs, is_own, first_page, first_pages}
use Rattle.tree_law.specs.PageMoves.{SplitsPage, halves_changes, TwoStoreys, storeys_changes, WritesPage, write_changes, ChangesOutside, outside_changes, Writes, Splits, Raises, Outside}
use Rattle.tree_law.specs.MoveLaws.{AreReached, Opens, Moves}
use Rattle.tree_law.specs.Example.{key_a, key_b, key_c, empty, bare_row, to_page, root, leaf, fresh, table, one_map, one_height, three_rows, two_leaves, three_leaves, SplitsExample}
use Rattle.index_page.specs.Rows.{Row}

abbrev fields_of : ℕ → ℕ
fields_of i = 1

abbrev Reached : ℕ → Map → Pages → Type 0
Reached level m pages = AreReached 1 fields_of (one_height level) (one_map m) pages

not_same : (m n : ℕ) → (m == n) ≡ false → m ≢ n
not_same m n e f = both_ways (m == n) e (eq-eqb m n f)

-- a changed page is in order
leaves : (new : Page) → IsOrderly fields_of new → (page : Page) → Some new ≡ Some page → IsOrderly fields_of page
leaves new o page e = let same : new ≡ page = cc in subst (IsOrderly fields_of) same o

maps_kept : (m m' : Map) (i : ℕ) → i ≢ 0 → one_map m' i ≡ one_map m i
maps_kept m m' zero ne = absurd (ne refl)
maps_kept m m' (suc i) ne = refl

above_root : (i : ℕ) → i ≢ 0 → 0 ≡ one_height 1 i
above_root zero ne = absurd (ne refl)
above_root (suc i) ne = refl

-- no other page differs where a table is changed at some of its numbers
only_first : (x y : Page) (xs : List Page) (n : ℕ) → n ≢ 0 → table (y ∷ xs) n ≡ table (x ∷ xs) n
only_first x y xs zero ne = absurd (ne refl)
only_first x y xs (suc n) ne = refl

-- a row is put on the root, which is a leaf
abbrev one_row : List Row
one_row = bare_row 0 key_a ∷ []

abbrev two_rows : List Row
two_rows = bare_row 0 key_a ∷ bare_row 1 key_b ∷ []

abbrev all_rows : List Row
all_rows = bare_row 0 key_a ∷ bare_row 1 key_b ∷ bare_row 2 key_c ∷ []

rows_in_order : IsOrderly fields_of (root 0 all_rows)
rows_in_order = record { fields = refl; keys = (refl, (refl, (refl, tt))); low = tt; high = tt; bodies = (refl, (refl, (refl, tt))); places = ((not_same 1 0 refl, (not_same 2 0 refl, tt)), ((not_same 2 1 refl, tt), (tt, tt))) }

put_a : WritesPage (λ i. []) (one_map (row_pairs one_row)) 0
unfolding before
put_a = record { key = key_a; value = Some []; page = root 0 []; rows = one_row; tree = refl; leaf = refl; has = refl; row = refl; pointers = refl; map_is = refl; maps_kept = kept }
  where
    kept : (i : ℕ) → i ≢ 0 → one_map (row_pairs one_row) i ≡ []
    kept zero ne = absurd (ne refl)
    kept (suc i) ne = refl

put_b : WritesPage (one_map (row_pairs one_row)) (one_map (row_pairs two_rows)) 0
unfolding before
put_b = record { key = key_b; value = Some []; page = root 0 one_row; rows = two_rows; tree = refl; leaf = refl; has = refl; row = refl; pointers = refl; map_is = refl; maps_kept = maps_kept _ _ }

put_c : WritesPage (one_map (row_pairs two_rows)) (one_map three_rows) 0
unfolding before
put_c = record { key = key_c; value = Some []; page = root 0 two_rows; rows = all_rows; tree = refl; leaf = refl; has = refl; row = refl; pointers = refl; map_is = refl; maps_kept = maps_kept _ _ }

opened : (n : ℕ) → n ≢ 0 → table (root 0 one_row ∷ []) n ≡ first_pages fields_of 1 n
opened zero ne = absurd (ne refl)
opened (suc n) ne = let e : ltb (suc n) 1 ≡ false = grind (arith, nat_tests) in sym (ap (λ (t : Bool). cond t (Some (first_page fields_of (suc n))) None) e)

with_rows : AreReached 1 fields_of (λ i. 0) (one_map three_rows) (table (root 0 all_rows ∷ []))
unfolding put_a put_b put_c
with_rows =
    let one = Moves (λ i. 0) (λ i. 0) (λ i. []) (one_map (row_pairs one_row)) (first_pages fields_of 1) (table (root 0 one_row ∷ [])) Opens (write_changes (λ i. []) (one_map (row_pairs one_row)) 0 put_a)
    (record { each = ((refl, refl), tt); others = λ n ne. opened n ne.0 }) (Writes 0 put_a refl)
    (leaves (root 0 one_row) (record { fields = refl; keys = (refl, tt); low = tt; high = tt; bodies = (refl, tt); places = (tt, tt) }), tt) in
    let two = Moves (λ i. 0) (λ i. 0) (one_map (row_pairs one_row)) (one_map (row_pairs two_rows)) (table (root 0 one_row ∷ [])) (table (root 0 two_rows ∷ [])) one (write_changes (one_map (row_pairs one_row)) (one_map (row_pairs two_rows)) 0 put_b)
    (record { each = ((refl, refl), tt); others = λ n ne. only_first _ _ [] n ne.0 }) (Writes 0 put_b refl)
    (leaves (root 0 two_rows) (record { fields = refl; keys = (refl, (refl, tt)); low = tt; high = tt; bodies = (refl, (refl, tt)); places = ((not_same 1 0 refl, tt), (tt, tt)) }), tt) in
    Moves (λ i. 0) (λ i. 0) (one_map (row_pairs two_rows)) (one_map three_rows) (table (root 0 two_rows ∷ [])) (table (root 0 all_rows ∷ [])) two (write_changes (one_map (row_pairs two_rows)) (one_map three_rows) 0 put_c)
    (record { each = ((refl, refl), tt); others = λ n ne. only_first _ _ [] n ne.0 }) (Writes 0 put_c refl)
    (leaves (root 0 all_rows) rows_in_order, tt)

-- a new page comes behind the others
fresh_in_order : (n : ℕ) → IsOrderly fields_of (fresh n)
fresh_in_order n = record { fields = refl; keys = tt; low = tt; high = tt; bodies = tt; places = tt }

bring : (n : ℕ) → ChangesOutside n
bring n = record { old = None; new = Some (fresh n); was = tt; is = (eq-eqb n n refl, refl) }

brought_one : (x : Page) (n : ℕ) → n ≢ 1 → table (x ∷ fresh 1 ∷ []) n ≡ table (x ∷ []) n
brought_one x zero ne = refl
brought_one x (suc zero) ne = absurd (ne refl)
brought_one x (suc (suc n)) ne = refl

brought_two : (x y : Page) (n : ℕ) → n ≢ 2 → table (x ∷ y ∷ fresh 2 ∷ []) n ≡ table (x ∷ y ∷ []) n
brought_two x y zero ne = refl
brought_two x y (suc zero) ne = refl
brought_two x y (suc (suc zero)) ne = absurd (ne refl)
brought_two x y (suc (suc (suc n))) ne = refl

brought_three : (x y z : Page) (n : ℕ) → n ≢ 3 → table (x ∷ y ∷ z ∷ fresh 3 ∷ []) n ≡ table (x ∷ y ∷ z ∷ []) n
brought_three x y z zero ne = refl
brought_three x y z (suc zero) ne = refl
brought_three x y z (suc (suc zero)) ne = refl
brought_three x y z (suc (suc (suc zero))) ne = absurd (ne refl)
brought_three x y z (suc (suc (suc (suc n)))) ne = refl

-- the root is raised over page 1
abbrev one_leaf : Page
one_leaf = leaf None None None None all_rows

raise_root : TwoStoreys 0 1
raise_root = record { level = 0; fields = 1; fresh = fresh 1; rows = all_rows; moved = all_rows; pointer = to_page 0 empty 1; under_own = refl; under_empty = refl; same = (refl, refl, (refl, refl, (refl, refl, tt))); pointer_is = (refl, refl) }

raised_others : (x y z w : Page) (n : ℕ) → n ≢ 0 → n ≢ 1 → table (z ∷ w ∷ []) n ≡ table (x ∷ y ∷ []) n
raised_others x y z w zero n0 n1 = absurd (n0 refl)
raised_others x y z w (suc zero) n0 n1 = absurd (n1 refl)
raised_others x y z w (suc (suc n)) n0 n1 = refl

raised : Reached 1 three_rows (table (root 1 (to_page 0 empty 1 ∷ []) ∷ one_leaf ∷ []))
unfolding bring raise_root
raised =
    let come = Moves (λ i. 0) (λ i. 0) (one_map three_rows) (one_map three_rows) (table (root 0 all_rows ∷ [])) (table (root 0 all_rows ∷ fresh 1 ∷ [])) with_rows (outside_changes 1 (bring 1))
    (record { each = ((refl, refl), tt); others = λ n ne. brought_one _ n ne.0 }) (Outside 1 (bring 1) refl refl) (leaves (fresh 1) (fresh_in_order 1), tt) in
    Moves (λ i. 0) (one_height 1) (one_map three_rows) (one_map three_rows) (table (root 0 all_rows ∷ fresh 1 ∷ [])) (table (root 1 (to_page 0 empty 1 ∷ []) ∷ one_leaf ∷ [])) come (storeys_changes 0 1 raise_root)
    (record { each = ((refl, refl), ((refl, refl), tt)); others = λ n ne. raised_others _ _ _ _ n ne.0 ne.1.0 })
    (Raises 0 1 raise_root (record { height = refl; heights = above_root }) refl)
    (leaves (root 1 (to_page 0 empty 1 ∷ [])) (record { fields = refl; keys = (refl, tt); low = tt; high = tt; bodies = (not_same 1 0 refl, tt); places = (tt, tt) }), (leaves one_leaf (record { fields = refl; keys = (refl, (refl, (refl, tt))); low = tt; high = tt; bodies = (refl, (refl, (refl, tt))); places = rows_in_order.places }), tt))

-- its leaf is split at `c`, and the first half at `b`
split_at_c : SplitsPage 1 2 0
split_at_c = record {
  halves = record {
    page = leaf None None None None [];
    fresh = fresh 2;
    up = root 1 [];
    beyond = fresh 0;
    whole_prev = None;
    cut_prev = Some 2;
    at = key_c;
    lower = bare_row 0 key_a ∷ bare_row 1 key_b ∷ [];
    upper = bare_row 2 key_c ∷ [];
    moved = bare_row 7 key_c ∷ [];
    fore = [];
    this = to_page 0 empty 1;
    new = to_page 1 key_c 2;
    aft = [];
    left_tree = refl;
    right_own = refl;
    right_empty = refl;
    up_tree = refl;
    beyond_tree = λ n e. absurd cc;
    same = (refl, refl, tt);
    this_is = refl;
    new_is = refl;
  };
  stays = λ e. absurd cc;
  cuts = refl;
  key = refl;
  names = refl;
}

split_at_b : SplitsPage 1 3 0
split_at_b = record {
  halves = record {
    page = leaf None (Some 2) None (Some key_c) [];
    fresh = fresh 3;
    up = root 1 [];
    beyond = leaf None None (Some key_c) None (bare_row 7 key_c ∷ []);
    whole_prev = Some 1;
    cut_prev = Some 3;
    at = key_b;
    lower = bare_row 0 key_a ∷ [];
    upper = bare_row 1 key_b ∷ [];
    moved = bare_row 7 key_b ∷ [];
    fore = [];
    this = to_page 0 empty 1;
    new = to_page 2 key_b 3;
    aft = to_page 1 key_c 2 ∷ [];
    left_tree = refl;
    right_own = refl;
    right_empty = refl;
    up_tree = refl;
    beyond_tree = λ n e. let f : 2 ≡ n = cc in (subst (λ (m : ℕ). is_own m (Some 1) ≡ false) f refl, subst (λ (m : ℕ). is_own m (Some 3) ≡ false) f refl);
    same = (refl, refl, tt);
    this_is = refl;
    new_is = refl;
  };
  stays = λ e. absurd cc;
  cuts = refl;
  key = refl;
  names = refl;
}

split_others : (x y z u v w : Page) (n : ℕ) → n ≢ 1 → n ≢ 2 → n ≢ 0 → table (u ∷ v ∷ w ∷ []) n ≡ table (x ∷ y ∷ z ∷ []) n
split_others x y z u v w zero n1 n2 n0 = absurd (n0 refl)
split_others x y z u v w (suc zero) n1 n2 n0 = absurd (n1 refl)
split_others x y z u v w (suc (suc zero)) n1 n2 n0 = absurd (n2 refl)
split_others x y z u v w (suc (suc (suc n))) n1 n2 n0 = refl

later_others : (x y z q u v w r : Page) (n : ℕ) → n ≢ 1 → n ≢ 3 → n ≢ 0 → n ≢ 2 → table (u ∷ v ∷ w ∷ r ∷ []) n ≡ table (x ∷ y ∷ z ∷ q ∷ []) n
later_others x y z q u v w r zero n1 n3 n0 n2 = absurd (n0 refl)
later_others x y z q u v w r (suc zero) n1 n3 n0 n2 = absurd (n1 refl)
later_others x y z q u v w r (suc (suc zero)) n1 n3 n0 n2 = absurd (n2 refl)
later_others x y z q u v w r (suc (suc (suc zero))) n1 n3 n0 n2 = absurd (n3 refl)
later_others x y z q u v w r (suc (suc (suc (suc n)))) n1 n3 n0 n2 = refl

one_in_order : (prev next : Option ℕ) (low high : Option FieldList) (place : ℕ) (key : FieldList) → length key ≡ 1 → HasFields 1 low → HasFields 1 high → IsOrderly fields_of (leaf prev next low high (bare_row place key ∷ []))
one_in_order prev next low high place key e l h = record { fields = refl; keys = (e, tt); low = l; high = h; bodies = (refl, tt); places = (tt, tt) }

split_first : Reached 1 three_rows two_leaves
unfolding bring split_at_c
split_first =
    let come = Moves (one_height 1) (one_height 1) (one_map three_rows) (one_map three_rows) _ (table (root 1 (to_page 0 empty 1 ∷ []) ∷ one_leaf ∷ fresh 2 ∷ [])) raised (outside_changes 2 (bring 2))
    (record { each = ((refl, refl), tt); others = λ n ne. brought_two _ _ n ne.0 }) (Outside 2 (bring 2) refl refl) (leaves (fresh 2) (fresh_in_order 2), tt) in
    Moves (one_height 1) (one_height 1) (one_map three_rows) (one_map three_rows) (table (root 1 (to_page 0 empty 1 ∷ []) ∷ one_leaf ∷ fresh 2 ∷ [])) two_leaves come (halves_changes 1 2 0 split_at_c.halves)
    (record { each = ((refl, refl), ((refl, refl), ((refl, refl), tt))); others = λ n ne. split_others _ _ _ _ _ _ n ne.0 ne.1.0 ne.1.1.0 })
    (Splits 1 2 0 split_at_c refl refl) (
      leaves (leaf None (Some 2) None (Some key_c) (bare_row 0 key_a ∷ bare_row 1 key_b ∷ [])) (record { fields = refl; keys = (refl, (refl, tt)); low = tt; high = refl; bodies = (refl, (refl, tt)); places = ((not_same 1 0 refl, tt), (tt, tt)) }),
      (
        leaves (leaf (Some 1) None (Some key_c) None (bare_row 7 key_c ∷ [])) (one_in_order _ _ (Some key_c) None 7 key_c refl refl tt),
        (leaves (root 1 (to_page 0 empty 1 ∷ to_page 1 key_c 2 ∷ [])) (record { fields = refl; keys = (refl, (refl, tt)); low = tt; high = tt; bodies = (not_same 1 0 refl, (not_same 1 0 refl, tt)); places = ((not_same 1 0 refl, tt), (tt, tt)) }), tt),
      ),
    )

split_second : Reached 1 three_rows three_leaves
unfolding bring split_at_b
split_second =
    let here = table (
    root 1 (to_page 0 empty 1 ∷ to_page 1 key_c 2 ∷ [])
    ∷ leaf None (Some 2) None (Some key_c) (bare_row 0 key_a ∷ bare_row 1 key_b ∷ [])
    ∷ leaf (Some 1) None (Some key_c) None (bare_row 7 key_c ∷ [])
    ∷ fresh 3 ∷ []) in
    let come = Moves (one_height 1) (one_height 1) (one_map three_rows) (one_map three_rows) two_leaves here split_first (outside_changes 3 (bring 3))
    (record { each = ((refl, refl), tt); others = λ n ne. brought_three _ _ _ n ne.0 }) (Outside 3 (bring 3) refl refl) (leaves (fresh 3) (fresh_in_order 3), tt) in
    Moves (one_height 1) (one_height 1) (one_map three_rows) (one_map three_rows) here three_leaves come (halves_changes 1 3 0 split_at_b.halves)
    (record { each = ((refl, refl), ((refl, refl), ((refl, refl), ((refl, refl), tt)))); others = λ n ne. later_others _ _ _ _ _ _ _ _ n ne.0 ne.1.0 ne.1.1.0 ne.1.1.1.0 })
    (Splits 1 3 0 split_at_b refl refl) (
      leaves (leaf None (Some 3) None (Some key_b) (bare_row 0 key_a ∷ [])) (one_in_order _ _ None (Some key_b) 0 key_a refl tt refl),
      (
        leaves (leaf (Some 1) (Some 2) (Some key_b) (Some key_c) (bare_row 7 key_b ∷ [])) (one_in_order _ _ (Some key_b) (Some key_c) 7 key_b refl refl refl),
        (
          leaves (root 1 (to_page 0 empty 1 ∷ to_page 2 key_b 3 ∷ to_page 1 key_c 2 ∷ [])) (record { fields = refl; keys = (refl, (refl, (refl, tt))); low = tt; high = tt; bodies = (not_same 1 0 refl, (not_same 1 0 refl, (not_same 1 0 refl, tt))); places = ((not_same 2 0 refl, (not_same 1 0 refl, tt)), ((not_same 1 2 refl, tt), (tt, tt))) }),
          (leaves (leaf (Some 3) None (Some key_c) None (bare_row 7 key_c ∷ [])) (one_in_order _ _ (Some key_c) None 7 key_c refl refl tt), tt),
        ),
      ),
    )

pub worked_example : SplitsExample
worked_example = record { first_split = split_first; leaf_split = split_second }
