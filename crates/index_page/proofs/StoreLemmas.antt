-- Rows that are stored by their places.
use Rattle.std.proofs.Common.{◌≡◌, ◌≢◌, ℕ, zero, suc, ◌+◌, ◌<◌, ◌≤◌, ◌==◌, Bool, true, false, cond, Option, Some, None, IsSome, List, [], ◌∷◌, ◌++◌, refl, sym, ap, ◌∙◌, subst, arith, length, get_or, set, append-nil, append_assoc, map, take, drop}
use Rattle.std.proofs.lemmas.Bool.Decides.{nat_tests}
use Rattle.std.proofs.lemmas.List.{get_or-set_same, get_or-set_other, get_or_append_left, take-append-drop, take-map, drop-map, map-append, length_push, length-set, length-map, same_from_push}
use Rattle.std.proofs.lemmas.List.Edits.{length-insert, length-remove}
use Rattle.std.specs.List.{AllByRecursion, slice_get, insert, remove}
use Rattle.index_page.specs.Rows.{Row, RowBody, Bytes, placed_row, find_row}
use Rattle.index_page.specs.Page.{PlacesDiffer}
use Rattle.index_page.specs.Store.{PlaceLists, Content, stored_row, rows_in, AllDiffer, IsStore, IsSpare, HasValueAt, Rewrites}
use Rattle.list_facts.proofs.Places.{same_some}
use Rattle.list_facts.proofs.Elements.{map_get}
use Rattle.list_facts.proofs.Each.{each_left, each_right, each_append, each_weaker}
use Rattle.index_page.proofs.RowLemmas.{find_none, get_split, get_below}

-- a place that is found is one of those listed, and its row is the one stored there
pub record IsStored (slots : List Content) (place : ℕ) (row : Row) : Type 0 where
  pub below : place < length slots
  pub is : row ≡ stored_row slots place

equal : (m n : ℕ) → (m == n) ≡ true → m ≡ n
equal m n e = grind (arith, nat_tests)

pub find_stored : (slots : List Content) (live : List ℕ) (place : ℕ) (row : Row) → AllByRecursion (λ (y : ℕ). y < length slots) live → find_row place (rows_in slots live) ≡ Some row → IsStored slots place row
find_stored slots [] place row a e = absurd cc
find_stored slots (x ∷ live) place row a e = go (x == place) refl e (find_stored slots live place row a.1)
  where
    go : (b : Bool) → (x == place) ≡ b → cond b (Some (stored_row slots x)) (find_row place (rows_in slots live)) ≡ Some row → (find_row place (rows_in slots live) ≡ Some row → IsStored slots place row) → IsStored slots place row
    go true q f more =
        let same : x ≡ place = equal x place q in
        let is : stored_row slots x ≡ row = cc in
        record { below = subst (λ (n : ℕ). n < length slots) same a.0; is = sym is ∙ ap (stored_row slots) same }
    go false q f more = more f

-- the places of stored rows differ where the listed ones do
listed : (slots : List Content) (place : ℕ) (live : List ℕ) → AllByRecursion (λ (y : ℕ). y ≢ place) live → AllByRecursion (λ (r : Row). r.place ≢ place) (rows_in slots live)
listed slots place [] a = tt
listed slots place (x ∷ live) a = (a.0, listed slots place live a.1)

pub places_differ : (slots : List Content) (live : List ℕ) → AllDiffer live → PlacesDiffer (rows_in slots live)
places_differ slots [] d = tt
places_differ slots (x ∷ live) d = (listed slots x live d.0, places_differ slots live d.1)

pub find_vacant : (slots : List Content) (place : ℕ) (live : List ℕ) → AllByRecursion (λ (y : ℕ). y ≢ place) live → find_row place (rows_in slots live) ≡ None
find_vacant slots place live a = find_none (rows_in slots live) place (listed slots place live a)

-- writing at a place leaves the rows at others
pub rows_in-set : (slots : List Content) (place : ℕ) (x : Content) (live : List ℕ) → AllByRecursion (λ (y : ℕ). y ≢ place) live → rows_in (set slots place x) live ≡ rows_in slots live
rows_in-set slots place x [] a = refl
rows_in-set slots place x (y ∷ live) a =
    let same : get_or (set slots place x) y (record { key = []; body = Bytes [] }) ≡ get_or slots y (record { key = []; body = Bytes [] }) = get_or-set_other slots place y x (record { key = []; body = Bytes [] }) a.0 in
    let rest = rows_in-set slots place x live a.1 in
    let here : stored_row (set slots place x) y ≡ stored_row slots y = ap (λ (z : Content). placed_row y z.key z.body) same in
    cc

-- a further slot leaves the rows
pub rows_in-append : (slots more : List Content) (live : List ℕ) → AllByRecursion (λ (y : ℕ). y < length slots) live → rows_in (slots ++ more) live ≡ rows_in slots live
rows_in-append slots more [] a = refl
rows_in-append slots more (y ∷ live) a =
    let same : get_or (slots ++ more) y (record { key = []; body = Bytes [] }) ≡ get_or slots y (record { key = []; body = Bytes [] }) = get_or_append_left slots more (record { key = []; body = Bytes [] }) y a.0 in
    let rest = rows_in-append slots more live a.1 in
    let here : stored_row (slots ++ more) y ≡ stored_row slots y = ap (λ (z : Content). placed_row y z.key z.body) same in
    cc

-- an element among others: all differ where it differs from the others, which differ
pub record DiffersFrom (x : ℕ) (ys : List ℕ) : Type 0 where
  pub apart : AllByRecursion (λ (y : ℕ). y ≢ x) ys
  pub rest : AllDiffer ys

pub differ_out : (xs : List ℕ) (x : ℕ) (ys : List ℕ) → AllDiffer (xs ++ x ∷ ys) → DiffersFrom x (xs ++ ys)
differ_out [] x ys d = record { apart = d.0; rest = d.1 }
differ_out (z ∷ xs) x ys d =
    let rest = differ_out xs x ys d.1 in
    let left = each_left (λ (y : ℕ). y ≢ z) xs (x ∷ ys) d.0 in
    let right = each_right (λ (y : ℕ). y ≢ z) xs (x ∷ ys) d.0 in
    record { apart = (λ e. right.0 (sym e), rest.apart); rest = (each_append (λ (y : ℕ). y ≢ z) xs ys left right.1, rest.rest) }

pub differ_in : (xs : List ℕ) (x : ℕ) (ys : List ℕ) → DiffersFrom x (xs ++ ys) → AllDiffer (xs ++ x ∷ ys)
differ_in [] x ys d = (d.apart, d.rest)
differ_in (z ∷ xs) x ys d =
    let left = each_left (λ (y : ℕ). y ≢ z) xs ys d.rest.0 in
    let right = each_right (λ (y : ℕ). y ≢ z) xs ys d.rest.0 in
    (each_append (λ (y : ℕ). y ≢ z) xs (x ∷ ys) left (λ e. d.apart.0 (sym e), right), differ_in xs x ys (record { apart = d.apart.1; rest = d.rest.1 }))

each_out : (P : ℕ → Type 0) (xs : List ℕ) (x : ℕ) (ys : List ℕ) → AllByRecursion P (xs ++ x ∷ ys) → P x × AllByRecursion P (xs ++ ys)
each_out P xs x ys a =
    let right = each_right P xs (x ∷ ys) a in
    (right.0, each_append P xs ys (each_left P xs (x ∷ ys) a) right.1)

each_in : (P : ℕ → Type 0) (xs : List ℕ) (x : ℕ) (ys : List ℕ) → P x → AllByRecursion P (xs ++ ys) → AllByRecursion P (xs ++ x ∷ ys)
each_in P xs x ys p a = each_append P xs (x ∷ ys) (each_left P xs ys a) (p, each_right P xs ys a)

-- places below a number, each listed once
pub record Listed (n : ℕ) (xs : List ℕ) : Type 0 where
  pub differ : AllDiffer xs
  pub slotted : AllByRecursion (λ (y : ℕ). y < n) xs

-- one such place, and others
pub record Spread (n x : ℕ) (xs : List ℕ) : Type 0 where
  pub here : x < n
  pub apart : AllByRecursion (λ (y : ℕ). y ≢ x) xs
  pub rest : Listed n xs

spread_out : (n : ℕ) (xs : List ℕ) (x : ℕ) (ys : List ℕ) → Listed n (xs ++ x ∷ ys) → Spread n x (xs ++ ys)
spread_out n xs x ys l =
    let d = differ_out xs x ys l.differ in
    let s = each_out (λ (y : ℕ). y < n) xs x ys l.slotted in
    record { here = s.0; apart = d.apart; rest = record { differ = d.rest; slotted = s.1 } }

spread_in : (n : ℕ) (xs : List ℕ) (x : ℕ) (ys : List ℕ) → Spread n x (xs ++ ys) → Listed n (xs ++ x ∷ ys)
spread_in n xs x ys s = record {
  differ = differ_in xs x ys (record { apart = s.apart; rest = s.rest.differ });
  slotted = each_in (λ (y : ℕ). y < n) xs x ys s.here s.rest.slotted;
}

pub all_listed : (slots : List Content) (places : PlaceLists) → IsStore slots places → Listed (length slots) (places.live ++ places.free)
all_listed slots places s = record { differ = s.differ; slotted = s.slotted }

-- the spare place is none of the others
pub spare_apart : (n : ℕ) (live free rest : List ℕ) (p : ℕ) → Listed n (live ++ free) → free ≡ rest ++ p ∷ [] → Spread n p (live ++ rest)
spare_apart n live free rest p l e =
    let last : live ++ free ≡ (live ++ rest) ++ p ∷ [] = ap (λ (f : List ℕ). live ++ f) e ∙ sym (append_assoc live rest (p ∷ [])) in
    subst (Spread n p) (append-nil (live ++ rest)) (spread_out n (live ++ rest) p [] (subst (Listed n) last l))

-- it stays listed where it is put among those of rows
pub claim_listed : (n : ℕ) (live rest : List ℕ) (at p : ℕ) → Spread n p (live ++ rest) → Listed n (insert live at p ++ rest)
claim_listed n live rest at p s =
    let parts : live ++ rest ≡ take at live ++ (drop at live ++ rest) = ap (λ (l : List ℕ). l ++ rest) (sym (take-append-drop at live)) ∙ append_assoc (take at live) (drop at live) rest in
    subst (Listed n) (sym (append_assoc (take at live) (p ∷ drop at live) rest)) (spread_in n (take at live) p (drop at live ++ rest) (subst (Spread n p) parts s))

-- a place of a row is none of the others
pub live_apart : (n : ℕ) (live free : List ℕ) (at p : ℕ) → slice_get live at ≡ Some p → Listed n (live ++ free) → Spread n p (remove live at ++ free)
live_apart n live free at p e l =
    let parts : live ++ free ≡ take at live ++ p ∷ (drop (suc at) live ++ free) = ap (λ (l : List ℕ). l ++ free) (get_split live at p e) ∙ append_assoc (take at live) (p ∷ drop (suc at) live) free in
    subst (Spread n p) (sym (append_assoc (take at live) (drop (suc at) live) free)) (spread_out n (take at live) p (drop (suc at) live ++ free) (subst (Listed n) parts l))

-- it stays listed where it becomes vacant
pub release_listed : (n : ℕ) (live free : List ℕ) (p : ℕ) → Spread n p (live ++ free) → Listed n (live ++ (free ++ p ∷ []))
release_listed n live free p s =
    subst (Listed n) (append_assoc live free (p ∷ [])) (spread_in n (live ++ free) p [] (subst (Spread n p) (sym (append-nil (live ++ free))) s))

-- a further place is listed as vacant
pub grow_listed : (n : ℕ) (live free : List ℕ) → Listed n (live ++ free) → Listed (n + 1) (live ++ (free ++ n ∷ []))
grow_listed n live free l = release_listed (n + 1) live free n (record {
  here = omega arith;
  apart = each_weaker (λ (y : ℕ). y < n) (λ (y : ℕ). y ≢ n) (λ y h. below_other y n h) (live ++ free) l.slotted;
  rest = record { differ = l.differ; slotted = each_weaker (λ (y : ℕ). y < n) (λ (y : ℕ). y < n + 1) (λ y h. omega arith) (live ++ free) l.slotted };
})
  where
    below_other : (y n : ℕ) → y < n → y ≢ n
    below_other y n h e = absurd (omega arith)

-- the rows at places after one was put in or taken out
pub rows_in-insert : (slots : List Content) (live : List ℕ) (at p : ℕ) → rows_in slots (insert live at p) ≡ insert (rows_in slots live) at (stored_row slots p)
rows_in-insert slots live at p =
    let f : ℕ → Row = stored_row slots in
    let before : map f (take at live) ≡ take at (map f live) = sym (take-map f at live) in
    let after : map f (drop at live) ≡ drop at (map f live) = sym (drop-map f at live) in
    map-append f (take at live) (p ∷ drop at live) ∙ cc (before, after)

pub rows_in-remove : (slots : List Content) (live : List ℕ) (at : ℕ) → rows_in slots (remove live at) ≡ remove (rows_in slots live) at
rows_in-remove slots live at =
    let f : ℕ → Row = stored_row slots in
    let before : map f (take at live) ≡ take at (map f live) = sym (take-map f at live) in
    let after : map f (drop (suc at) live) ≡ drop (suc at) (map f live) = sym (drop-map f (suc at) live) in
    map-append f (take at live) (drop (suc at) live) ∙ cc (before, after)

-- the row at a place that was just written
pub stored_row-set : (slots : List Content) (p : ℕ) (x : Content) → p < length slots → stored_row (set slots p x) p ≡ placed_row p x.key x.body
stored_row-set slots p x below = ap (λ (z : Content). placed_row p z.key z.body) (get_or-set_same slots p x (record { key = []; body = Bytes [] }) below)

-- the row at a place among all rows is the one stored there
pub record IsFound (slots : List Content) (rows : List Row) (place : ℕ) : Type 0 where
  pub below : place < length slots
  pub found : find_row place rows ≡ Some (stored_row slots place)

pub stored_at : (slots : List Content) (places : PlaceLists) (rows : List Row) (place : ℕ) → IsStore slots places → rows_in slots places.live ≡ rows → IsSome (find_row place rows) → IsFound slots rows place
stored_at slots places rows place s view some = go (find_row place rows) refl some
  where
    go : (o : Option Row) → find_row place rows ≡ o → IsSome o → IsFound slots rows place
    go None e h = absurd cc
    go (Some row) e h =
        let is = find_stored slots places.live place row (each_left (λ (y : ℕ). y < length slots) places.live places.free s.slotted) (ap (find_row place) view ∙ e) in
        record { below = is.below; found = e ∙ ap Some is.is }

pub listed_store : (slots : List Content) (places : PlaceLists) → Listed (length slots) (places.live ++ places.free) → length slots ≡ length places.live + length places.free → IsStore slots places
listed_store slots places l whole = record { differ = l.differ; slotted = l.slotted; whole = whole }

-- one slot and one vacant place more
pub grows : (slots : List Content) (places new : PlaceLists) (x : Content) → IsStore slots places → new.live ≡ places.live → new.free ≡ places.free ++ length slots ∷ [] → IsStore (slots ++ x ∷ []) new
grows slots places new x s live free =
    let longer : length (slots ++ x ∷ []) ≡ length slots + 1 = length_push slots x in
    let listed = grow_listed (length slots) places.live places.free (all_listed slots places s) in
    let all : new.live ++ new.free ≡ places.live ++ (places.free ++ length slots ∷ []) = cc in
    let lives : length new.live ≡ length places.live = ap length live in
    let frees : length new.free ≡ length places.free + 1 = ap length free ∙ length_push places.free (length slots) in
    listed_store (slots ++ x ∷ []) new (subst (λ (n : ℕ). Listed n (new.live ++ new.free)) (sym longer) (subst (Listed (length slots + 1)) (sym all) listed)) (omega (arith, s.whole))

-- a write at any place keeps the lists
pub written_store : (slots : List Content) (places : PlaceLists) (p : ℕ) (x : Content) → IsStore slots places → IsStore (set slots p x) places
written_store slots places p x s =
    let long : length (set slots p x) ≡ length slots = length-set slots p x in
    listed_store (set slots p x) places (subst (λ (n : ℕ). Listed n (places.live ++ places.free)) (sym long) (all_listed slots places s)) (long ∙ s.whole)

module _ (slots : List Content) (places : PlaceLists) (p : ℕ) (s : IsStore slots places) (spare : IsSpare places p) where
  others : Spread (length slots) p (places.live ++ spare.rest)
  others = spare_apart (length slots) places.live places.free spare.rest p (all_listed slots places s) spare.free

  pub spare_below : p < length slots
  spare_below = others.here

  pub spare_others : AllByRecursion (λ (y : ℕ). y ≢ p) places.live
  spare_others = each_left (λ (y : ℕ). y ≢ p) places.live spare.rest others.apart

  -- a write at the spare place leaves the rows
  pub written_rows : (x : Content) → rows_in (set slots p x) places.live ≡ rows_in slots places.live
  written_rows x = rows_in-set slots p x places.live spare_others

  -- and when it is claimed, the row that was written stands among them
  pub claimed_store : (x : Content) (new : PlaceLists) (at : ℕ) → at ≤ length places.live → new.live ≡ insert places.live at p → places.free ≡ new.free ++ p ∷ [] → IsStore (set slots p x) new
  claimed_store x new at le live free =
      let same : spare.rest ≡ new.free = (same_from_push spare.rest new.free p p (sym spare.free ∙ free)).0 in
      let listed = claim_listed (length slots) places.live spare.rest at p others in
      let all : insert places.live at p ++ spare.rest ≡ new.live ++ new.free = cc in
      let lives : length new.live ≡ length places.live + 1 = ap length live ∙ length-insert places.live at p le in
      let frees : length places.free ≡ length new.free + 1 = ap length free ∙ length_push new.free p in
      written_store slots new p x (listed_store slots new (subst (Listed (length slots)) all listed) (omega (arith, s.whole)))

  pub claimed_rows : (x : Content) (new : PlaceLists) (at : ℕ) → new.live ≡ insert places.live at p → rows_in (set slots p x) new.live ≡ insert (rows_in slots places.live) at (placed_row p x.key x.body)
  claimed_rows x new at live =
      ap (rows_in (set slots p x)) live ∙ rows_in-insert (set slots p x) places.live at p ∙ inserted (written_rows x) (stored_row-set slots p x spare_below)
    where
      inserted : {rows rows' : List Row} {r r' : Row} → rows ≡ rows' → r ≡ r' → insert rows at r ≡ insert rows' at r'
      inserted e f = cc

pub get_elem : {A : Type 0} (xs : List A) (i : ℕ) (d : A) → i < length xs → slice_get xs i ≡ Some (get_or xs i d)
get_elem [] i d h = absurd (omega arith)
get_elem (x ∷ xs) zero d h = refl
get_elem (x ∷ xs) (suc i) d h = get_elem xs i d (omega arith)

module _ (slots : List Content) (places new : PlaceLists) (at p : ℕ) (s : IsStore slots places) (there : slice_get places.live at ≡ Some p) (live : new.live ≡ remove places.live at) where
  left : Spread (length slots) p (remove places.live at ++ places.free)
  left = live_apart (length slots) places.live places.free at p there (all_listed slots places s)

  pub live_below : p < length slots
  live_below = left.here

  -- the place of a row is released and written
  pub released_store : (x : Content) → new.free ≡ places.free ++ p ∷ [] → IsStore (set slots p x) new
  released_store x free =
      let listed = release_listed (length slots) (remove places.live at) places.free p left in
      let all : remove places.live at ++ (places.free ++ p ∷ []) ≡ new.live ++ new.free = cc in
      let lives : length new.live + 1 ≡ length places.live = ap (λ (l : List ℕ). length l + 1) live ∙ length-remove places.live at (get_below places.live at p there) in
      let frees : length new.free ≡ length places.free + 1 = ap length free ∙ length_push places.free p in
      written_store slots new p x (listed_store slots new (subst (Listed (length slots)) all listed) (omega (arith, s.whole)))

  pub released_rows : (x : Content) → rows_in (set slots p x) new.live ≡ remove (rows_in slots places.live) at
  released_rows x =
      let rest = each_left (λ (y : ℕ). y ≢ p) (remove places.live at) places.free left.apart in
      ap (rows_in (set slots p x)) live ∙ rows_in-set slots p x (remove places.live at) rest ∙ rows_in-remove slots places.live at

-- the place of a row is read from the list of them
pub live_at : (slots : List Content) (live xs : List ℕ) (rows : List Row) (at : ℕ) → rows_in slots live ≡ rows → at < length rows → xs ≡ live → slice_get live at ≡ Some (get_or xs at 0)
live_at slots live xs rows at view below same =
    let long : length (rows_in slots live) ≡ length live = length-map live (stored_row slots) in
    get_elem live at 0 (omega (arith, ap length view)) ∙ ap (λ (l : List ℕ). Some (get_or l at 0)) (sym same)

-- stored rows stand at different places
pub stored_differ : (slots : List Content) (places : PlaceLists) → IsStore slots places → PlacesDiffer (rows_in slots places.live)
stored_differ slots places s = places_differ slots places.live (differ_left places.live places.free s.differ)
  where
    differ_left : (xs ys : List ℕ) → AllDiffer (xs ++ ys) → AllDiffer xs
    differ_left [] ys d = tt
    differ_left (x ∷ xs) ys d = (each_left (λ (y : ℕ). y ≢ x) xs ys d.0, differ_left xs ys d.1)

-- the row with a number is the one stored at its place
pub get_stored : (slots : List Content) (live : List ℕ) (at p : ℕ) → slice_get live at ≡ Some p → slice_get (rows_in slots live) at ≡ Some (stored_row slots p)
get_stored slots live at p e = map_get (stored_row slots) live at p e

-- a write at the place of a row changes that row alone
module _ (slots : List Content) (places : PlaceLists) (at p : ℕ) (s : IsStore slots places) (there : slice_get places.live at ≡ Some p) where
  rest : Spread (length slots) p (remove places.live at ++ places.free)
  rest = live_apart (length slots) places.live places.free at p there (all_listed slots places s)

  pub row_below : p < length slots
  row_below = rest.here

  others_differ : AllByRecursion (λ (y : ℕ). y ≢ p) (take at places.live ++ drop (suc at) places.live)
  others_differ = each_left (λ (y : ℕ). y ≢ p) (remove places.live at) places.free rest.apart

  pub written_row : (x : Content) → rows_in (set slots p x) places.live ≡ take at (rows_in slots places.live) ++ placed_row p x.key x.body ∷ drop (suc at) (rows_in slots places.live)
  written_row x =
      let low = take at places.live in
      let high = drop (suc at) places.live in
      let f : ℕ → Row = stored_row slots in
      let split = ap (rows_in (set slots p x)) (get_split places.live at p there) ∙ map-append (stored_row (set slots p x)) low (p ∷ high) in
      let below : rows_in (set slots p x) low ≡ take at (rows_in slots places.live) = rows_in-set slots p x low (each_left (λ (y : ℕ). y ≢ p) low high others_differ) ∙ sym (take-map f at places.live) in
      let above : rows_in (set slots p x) high ≡ drop (suc at) (rows_in slots places.live) = rows_in-set slots p x high (each_right (λ (y : ℕ). y ≢ p) low high others_differ) ∙ sym (drop-map f (suc at) places.live) in
      let here = stored_row-set slots p x row_below in
      split ∙ cc (below, above, here)

  -- the row of that number, written anew
  pub rewritten : (slot x : Content) (bytes : List ℕ) → slot ≡ get_or slots p (record { key = []; body = Bytes [] }) → x ≡ record { key = slot.key; body = Bytes bytes } → Rewrites (rows_in slots places.live) (rows_in (set slots p x) places.live) at bytes
  rewritten slot x bytes read e = record {
    row = stored_row slots p;
    there = get_stored slots places.live at p there;
    is = written_row x ∙ ap (λ (z : Content). take at (rows_in slots places.live) ++ placed_row p z.key z.body ∷ drop (suc at) (rows_in slots places.live)) (e ∙ ap (λ (z : Content). record { key = z.key; body = Bytes bytes }) read);
  }

  -- and what is stored there carries the value that it had
  pub carried : (has : HasValueAt (rows_in slots places.live) at) → slice_get slots p ≡ Some (record { key = (get_or slots p (record { key = []; body = Bytes [] })).key; body = Bytes has.value })
  carried has =
      let found = get_or slots p (record { key = []; body = Bytes [] }) in
      let same = same_some (stored_row slots p) has.row (sym (get_stored slots places.live at p there) ∙ has.there) in
      let body : found.body ≡ Bytes has.value = ap (λ (r : Row). r.body) same ∙ has.is in
      get_elem slots p (record { key = []; body = Bytes [] }) row_below ∙ ap (λ (b : RowBody). Some (record { key = found.key; body = b })) body

-- what is stored at a place, read from the list
pub read_at : {A : Type 0} (xs : List A) (i : ℕ) (x d : A) → slice_get xs i ≡ Some x → get_or xs i d ≡ x
read_at [] i x d e = absurd cc
read_at (y ∷ ys) zero x d e = same_some y x e
read_at (y ∷ ys) (suc i) x d e = read_at ys i x d e
