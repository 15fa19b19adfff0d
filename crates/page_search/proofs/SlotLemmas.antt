-- The rows up to a slot's owner, and those from it on.
use Rattle.std.proofs.Common.{◌≡◌, ℕ, zero, suc, ◌+◌, ◌<◌, ◌≤◌, Bool, true, false, List, [], ◌∷◌, ◌++◌, map, length, slice_index, get_or, refl, sym, ap, ap₂, subst, ◌∙◌, arith, length-append}
use Rattle.std.proofs.lemmas.List.{append_assoc, map-append, length-map}
use Rattle.std.proofs.lemmas.Grind.{flat_map-append}
use Rattle.std.proofs.lemmas.Bool.{false≢true}
use Rattle.std.specs.List.{AllByRecursion}
use Rattle.list_facts.proofs.Each.{each_left, each_right}
use Rattle.key_tuple.specs.KeyPlace.{KeyPlace, At, before, IsCut}
use Rattle.compact_record.specs.Reading.{IsRecordAt}
use Rattle.page_mirror.specs.Mirror.{origin_of}
use Rattle.page_mirror.specs.Steps.{HasOrigin}
use Rattle.page_heap.proofs.CellLemmas.{record_in_page}
use Rattle.page_directory.specs.Groups.{Group, members, records, owners}
use Rattle.page_directory.specs.Sizes.{group_sizes, IsSized}
use Rattle.page_directory.proofs.ListLemmas.{cut_at}
use Rattle.page_directory.proofs.OwnerLemmas.{owner_named, count_sizes}
use Rattle.index_page.specs.Rows.{Row}
use Rattle.index_page.specs.Page.{RowsAscend}
use Rattle.index_page.specs.Search.{AllOut, AllIn}
use Rattle.index_page.proofs.RowLemmas.{ascends_right}
use Rattle.page_rows.specs.Reading.{rows_in_bytes}
use Rattle.page_rows.specs.Spelling.{StandsAsRow, PageParts, SpellsRows}
use Rattle.page_rows.specs.Inserting.{place_before}
use Rattle.page_rows.proofs.SpellingLemmas.{row_of, rows_are, whole_list, infimum_at}
use Rattle.page_search.proofs.NextLemmas.{all_in, place_before_more}

-- how many records the first slots have, so many
abbrev pub reach : List Group → ℕ → ℕ
reach [] s = 0
reach (g ∷ gs) zero = 0
reach (g ∷ gs) (suc s) = length g.front + 1 + reach gs s

reach_owner : (low : List Group) (g : Group) (high : List Group) (s : ℕ) → length low ≡ s → reach (low ++ g ∷ high) (suc s) ≡ length (records low ++ g.front) + 1
reach_owner [] g [] s is = omega arith
reach_owner [] g (x ∷ high) zero is = omega arith
reach_owner [] g (x ∷ high) (suc s) is = absurd (omega arith)
reach_owner (x ∷ low) g high zero is = absurd (omega arith)
reach_owner (x ∷ low) g high (suc s) is =
    let r = reach_owner low g high s (omega arith) in
    omega (arith, r, length-append x.front (x.owner ∷ []), length-append (members x) (records low), length-append (records low) g.front, length-append (members x ++ records low) g.front)

pub reach_all : (gs : List Group) → reach gs (length gs) ≡ length (records gs)
reach_all [] = refl
reach_all (g ∷ gs) = omega (arith, reach_all gs, length-append g.front (g.owner ∷ []), length-append (members g) (records gs))

pub reach_step : (gs : List Group) (s : ℕ) → s < length gs → reach gs (suc s) ≡ reach gs s + get_or (group_sizes gs) s 0
reach_step [] s w = absurd (omega arith)
reach_step (g ∷ []) zero w = omega arith
reach_step (g ∷ x ∷ gs) zero w = omega arith
reach_step (g ∷ gs) (suc s) w = omega (arith, reach_step gs s (omega arith))

-- a slot's owner has seven others at most
pub reach_next : (gs : List Group) (s : ℕ) → IsSized (group_sizes gs) → s < length gs → reach gs (suc s) ≤ reach gs s + 8
reach_next gs s sized w =
    let most = (sized.each s (omega (arith, count_sizes gs))).most in
    omega (arith, reach_step gs s w, most)

pub reach_first : (gs : List Group) → IsSized (group_sizes gs) → reach gs 1 ≡ 1
reach_first [] sized = absurd (omega (arith, sized.two))
reach_first (g ∷ []) sized = absurd (omega (arith, sized.two))
reach_first (g ∷ x ∷ gs) sized =
    let one = (sized.each 0 (omega arith)).alone refl in
    omega (arith, one)

-- lists with another last element
last_off : (xs ys : List ℕ) (x y : ℕ) → xs ++ x ∷ [] ≡ ys ++ y ∷ [] → xs ≡ ys
last_off [] [] x y e = refl
last_off [] (b ∷ ys) x y e = absurd (omega (arith, ap length e, length-append ys (y ∷ [])))
last_off (a ∷ xs) [] x y e = absurd (omega (arith, ap length e, length-append xs (x ∷ [])))
last_off (a ∷ xs) (b ∷ ys) x y e =
    let tail : xs ++ x ∷ [] ≡ ys ++ y ∷ [] = cc in
    let head : a ≡ b = cc in
    let rest = last_off xs ys x y tail in cc

-- records of some groups have a first and a last one
first_record : (gs : List Group) → 1 ≤ length gs → (x : ℕ) × (xs : List ℕ) × (records gs ≡ x ∷ xs)
first_record [] w = absurd (omega arith)
first_record (g ∷ gs) w = go g.front
  where
    go : (front : List ℕ) → (x : ℕ) × (xs : List ℕ) × ((front ++ g.owner ∷ []) ++ records gs ≡ x ∷ xs)
    go [] = (g.owner, records gs, refl)
    go (y ∷ ys) = (y, (ys ++ g.owner ∷ []) ++ records gs, refl)

last_record : (gs : List Group) → 1 ≤ length gs → (xs : List ℕ) × (x : ℕ) × (records gs ≡ xs ++ x ∷ [])
last_record [] w = absurd (omega arith)
last_record (g ∷ []) w = (g.front, g.owner, simp append_assoc)
last_record (g ∷ h ∷ gs) w =
    let r = last_record (h ∷ gs) (omega arith) in
    (members g ++ r.0, r.1, ap (λ (xs : List ℕ). members g ++ xs) r.2 ∙ sym (append_assoc (members g) r.0 (r.1 ∷ [])))

-- the row of a slot's owner, among those before and behind it
pub record OwnerRow (bytes : List ℕ) (fields : ℕ) (p : PageParts) (s : ℕ) : Type 0 where
  pub here : ℕ
  pub left : List Row
  pub right : List Row
  pub rows : rows_in_bytes bytes fields ≡ left ++ row_of p here ∷ right
  pub count : length left + 2 ≡ reach p.groups (suc s)
  pub named : slice_index p.mirror.slots s ≡ here
  pub is : IsRecordAt bytes (origin_of p.mirror here) fields (p.of here)

pub owner_row : {bytes : List ℕ} {fields : ℕ} {p : PageParts} (s : ℕ) → SpellsRows bytes fields p [] → 1 ≤ s → s + 1 < length p.groups → OwnerRow bytes fields p s
owner_row {bytes} {fields} {p} s r low inner =
    let m = p.mirror in
    let c = cut_at p.groups s (omega arith) in
    let g = c.here in
    let size = ap length c.is ∙ length-append c.low (g ∷ c.high) in
    let a = first_record c.low (omega (arith, c.size)) in
    let z = last_record c.high (omega (arith, c.size, size)) in
    let front = a.1 ++ g.front in
    let list : 0 ∷ (p.inner ++ 1 ∷ []) ≡ a.0 ∷ ((front ++ g.owner ∷ z.0) ++ z.1 ∷ []) =
    sym r.list ∙ ap records c.is ∙ flat_map-append members c.low (g ∷ c.high) ∙ ap (λ (xs : List ℕ). xs ++ (members g ++ records c.high)) a.2
    ∙ ap (λ (xs : List ℕ). (a.0 ∷ a.1) ++ (members g ++ xs)) z.2 ∙ simp append_assoc in
    let tail : p.inner ++ 1 ∷ [] ≡ (front ++ g.owner ∷ z.0) ++ z.1 ∷ [] = cc in
    let is : p.inner ≡ front ++ g.owner ∷ z.0 = last_off p.inner (front ++ g.owner ∷ z.0) 1 z.1 tail in
    let inside = each_right (λ h. h < m.count) front (g.owner ∷ z.0) (subst (AllByRecursion (λ h. h < m.count)) is (each_left (λ h. h < m.count) p.inner (1 ∷ []) (whole_list r).inside.1)) in
    let stands = each_right (StandsAsRow fields m p.of) front (g.owner ∷ z.0) (subst (AllByRecursion (StandsAsRow fields m p.of)) is (each_left (StandsAsRow fields m p.of) p.inner p.free r.rows)) in
    let here = stands.0 in
    let at : HasOrigin bytes m g.owner (origin_of m g.owner) = record { is = r.page.is; within = inside.0; placed = refl } in
    let upto = ap (λ (gs : List Group). reach gs (suc s)) c.is ∙ reach_owner c.low g c.high s c.size in
    record {
      here = g.owner;
      left = map (row_of p) front;
      right = map (row_of p) z.0;
      rows = rows_are r ∙ ap (map (row_of p)) is ∙ map-append (row_of p) front (g.owner ∷ z.0);
      count = omega (arith, upto, ap length a.2, length-map front (row_of p), length-append a.1 g.front, length-append (records c.low) g.front);
      named = owner_named m.slots c.low g c.high s (r.page.groups.slots ∙ ap owners c.is) c.size;
      is = record_in_page fields (p.of g.owner) at here.cell here.sound here.count;
    }

-- its record stands where the slot says
pub owner_there : {bytes : List ℕ} {fields : ℕ} {p : PageParts} {s at : ℕ} → (o : OwnerRow bytes fields p s) → HasOrigin bytes p.mirror (slice_index p.mirror.slots s) at
    → IsRecordAt bytes at fields (p.of o.here)
owner_there {bytes} {fields} {p} o a = subst (λ (x : ℕ). IsRecordAt bytes x fields (p.of o.here)) (ap (origin_of p.mirror) (sym o.named) ∙ a.placed) o.is

-- the rows up to an owner, which the cut leaves out
pub record OutTo (bytes : List ℕ) (fields : ℕ) (p : KeyPlace → Bool) (parts : PageParts) (s : ℕ) : Type 0 where
  pub left : List Row
  pub right : List Row
  pub rows : rows_in_bytes bytes fields ≡ left ++ right
  pub count : length left + 1 ≡ reach parts.groups (suc s)
  pub place : place_before left ≡ origin_of parts.mirror (slice_index parts.mirror.slots s)
  pub out : AllOut p left

-- the rows from an owner on, which the cut admits
pub record InFrom (bytes : List ℕ) (fields : ℕ) (p : KeyPlace → Bool) (parts : PageParts) (s : ℕ) : Type 0 where
  pub left : List Row
  pub right : List Row
  pub rows : rows_in_bytes bytes fields ≡ left ++ right
  pub count : length left + 2 ≡ reach parts.groups (suc s)
  pub past : AllIn p right

-- the rows up to one that is left out are left out
pub all_out : (p : KeyPlace → Bool) → IsCut p → (xs : List Row) (row : Row) (ys : List Row) → RowsAscend (xs ++ row ∷ ys) → p (At row.key) ≡ false → AllOut p (xs ++ row ∷ [])
all_out p cut [] row ys a here = (here, tt)
all_out p cut (x ∷ xs) row ys a here =
    (go (p (At x.key)) refl, all_out p cut xs row ys a.1 here)
  where
    below : before (At x.key) (At row.key) ≡ true
    below = (each_right (λ (z : Row). before (At x.key) (At z.key) ≡ true) xs (row ∷ ys) a.0).0

    go : (b : Bool) → p (At x.key) ≡ b → p (At x.key) ≡ false
    go false e = e
    go true e = absurd (false≢true (sym here ∙ cut.rises (At x.key) (At row.key) below e))

-- where the cut leaves the owner out
abbrev pub owner_out : {bytes : List ℕ} {fields : ℕ} {parts : PageParts} {s : ℕ} (p : KeyPlace → Bool) → IsCut p → RowsAscend (rows_in_bytes bytes fields)
    → (o : OwnerRow bytes fields parts s) → p (At (parts.of o.here).key) ≡ false → OutTo bytes fields p parts s
owner_out {parts = parts} p cut ascend o here =
    let row = row_of parts o.here in
    record {
      left = o.left ++ row ∷ [];
      right = o.right;
      rows = o.rows ∙ sym (append_assoc o.left (row ∷ []) o.right);
      count = omega (arith, o.count, length-append o.left (row ∷ []));
      place = place_before_more o.left row ∙ ap (origin_of parts.mirror) (sym o.named);
      out = all_out p cut o.left row o.right (subst RowsAscend o.rows ascend) here;
    }

-- where the cut admits it
abbrev pub owner_in : {bytes : List ℕ} {fields : ℕ} {parts : PageParts} {s : ℕ} (p : KeyPlace → Bool) → IsCut p → RowsAscend (rows_in_bytes bytes fields)
    → (o : OwnerRow bytes fields parts s) → p (At (parts.of o.here).key) ≡ true → InFrom bytes fields p parts s
owner_in {parts = parts} p cut ascend o here =
    let row = row_of parts o.here in
    record {
      left = o.left;
      right = row ∷ o.right;
      rows = o.rows;
      count = o.count;
      past = all_in p cut row o.right (ascends_right o.left (row ∷ o.right) (subst RowsAscend o.rows ascend)) here;
    }

-- the first slot names infimum
first_owner : (g : Group) (gs : List Group) (xs : List ℕ) → IsSized (group_sizes (g ∷ gs)) → records (g ∷ gs) ≡ 0 ∷ xs → g.owner ≡ 0
first_owner g gs xs sized list = go g.front refl
  where
    go : (front : List ℕ) → g.front ≡ front → g.owner ≡ 0
    go [] e =
        let here : g.owner ∷ records gs ≡ 0 ∷ xs = ap (λ (ys : List ℕ). (ys ++ g.owner ∷ []) ++ records gs) (sym e) ∙ list in
        cc
    go (y ∷ ys) e =
        let alone : get_or (group_sizes (g ∷ gs)) 0 0 ≡ 1 = (sized.each 0 (omega (arith, sized.two))).alone refl in
        absurd (omega (arith, alone, ap length e))

pub first_slot : (slots : List ℕ) (gs : List Group) {xs : List ℕ} → IsSized (group_sizes gs) → records gs ≡ 0 ∷ xs → slots ≡ owners gs → slice_index slots 0 ≡ 0
first_slot slots [] sized list is = absurd (omega (arith, sized.two))
first_slot slots (g ∷ gs) {xs} sized list is = ap (λ (ys : List ℕ). slice_index ys 0) is ∙ first_owner g gs xs sized list

-- infimum stands before all rows, and supremum behind them
abbrev pub first_out : {bytes : List ℕ} {fields : ℕ} {parts : PageParts} (p : KeyPlace → Bool) → SpellsRows bytes fields parts [] → OutTo bytes fields p parts 0
first_out {bytes} {fields} {parts} p r = record {
  left = [];
  right = rows_in_bytes bytes fields;
  rows = refl;
  count = sym (reach_first parts.groups r.sizes);
  place = sym (infimum_at r.page.is).placed ∙ ap (origin_of parts.mirror) (sym (first_slot parts.mirror.slots parts.groups r.sizes r.list r.page.groups.slots));
  out = tt;
}

abbrev pub last_in : {bytes : List ℕ} {fields : ℕ} {parts : PageParts} (p : KeyPlace → Bool) (s : ℕ) → SpellsRows bytes fields parts [] → s + 1 ≡ length parts.groups → InFrom bytes fields p parts s
last_in {bytes} {fields} {parts} p s r last =
    let rows = rows_in_bytes bytes fields in
    let all : reach parts.groups (suc s) ≡ length (records parts.groups) = ap (reach parts.groups) (let e : suc s ≡ length parts.groups = omega arith in e) ∙ reach_all parts.groups in
    record {
      left = rows;
      right = [];
      rows = sym (append_none rows);
      count = omega (arith, all, ap length r.list, length-append parts.inner (1 ∷ []), ap length (rows_are r), length-map parts.inner (row_of parts));
      past = tt;
    }
  where
    append_none : (xs : List Row) → xs ++ [] ≡ xs
    append_none [] = refl
    append_none (x ∷ xs) = ap (λ (ys : List Row). x ∷ ys) (append_none xs)

-- what stands between two cuts of a list
pub record Between (left right left' right' : List Row) (n : ℕ) : Type 0 where
  pub middle : List Row
  pub is : right ≡ middle ++ right'
  pub low : left' ≡ left ++ middle
  pub count : n + length middle ≡ length left'

pub between : (left right left' right' : List Row) → left ++ right ≡ left' ++ right' → length left ≤ length left' → Between left right left' right' (length left)
between [] right left' right' e w = record { middle = left'; is = e; low = refl; count = omega arith }
between (x ∷ left) right [] right' e w = absurd (omega arith)
between (x ∷ left) right (y ∷ left') right' e w =
    let tail : left ++ right ≡ left' ++ right' = cc in
    let first : x ≡ y = cc in
    let r = between left right left' right' tail (omega arith) in
    record { middle = r.middle; is = r.is; low = ap₂ (λ (z : Row) (zs : List Row). z ∷ zs) (sym first) r.low; count = omega (arith, r.count) }
