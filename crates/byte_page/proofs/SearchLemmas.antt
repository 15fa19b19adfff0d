-- The rows around a cut, and their places.
use Rattle.std.proofs.Common.{◌≡◌, ℕ, suc, ◌<◌, ◌≤◌, Bool, false, cond, Option, Some, None, IsSome, IfSome, unwrap_or, List, [], ◌∷◌, ◌++◌, map, length, take, drop, nat_eq, refl, sym, ap, subst, ◌∙◌, arith}
use Rattle.std.proofs.lemmas.List.{append_assoc, take_at, drop_at}
use Rattle.std.proofs.lemmas.Bool.{false≢true}
use Rattle.std.proofs.lemmas.Bool.Decides.{nat_tests}
use Rattle.std.specs.List.{AllByRecursion}
use Rattle.list_facts.proofs.Each.{each_left, each_right, each_both}
use Rattle.key_tuple.specs.Order.{FieldList}
use Rattle.key_tuple.specs.KeyPlace.{KeyPlace, not_below, above}
use Rattle.key_tuple.specs.declared.mode.Mode.TheVariants.{Ge}
use Rattle.page_mirror.specs.Cells.{end_in}
use Rattle.page_mirror.specs.Mirror.{origin_of}
use Rattle.index_page.specs.Rows.{Row, find_row, first_of_rows, last_row_after, last_of_rows, IsAt}
use Rattle.index_page.specs.Page.{PlacesDiffer, RowsAscend}
use Rattle.index_page.specs.declared.spot.Spot.{Spot}
use Rattle.index_page.specs.Search.{AllOut, AllIn, Finds}
use Rattle.index_page.specs.Changes.{PrevIs}
use Rattle.index_page.proofs.RowLemmas.{find_among, get_split, ascends_right}
use Rattle.index_page.proofs.KeyLemmas.{position_of}
use Rattle.page_rows.specs.Reading.{rows_in_bytes}
use Rattle.page_rows.specs.Spelling.{PageParts, IsPageOfRows}
use Rattle.page_rows.specs.Inserting.{place_before}
use Rattle.page_rows.proofs.PlaceLemmas.{first_place}
use Rattle.page_rows.proofs.SpellingLemmas.{row_of, rows_are, whole_list, told}
use Rattle.page_rows.proofs.DifferLemmas.{rows_differ}
use Rattle.page_search.specs.Cuts.{CutsRows, IsBehindRows}
use Rattle.page_search.proofs.NextLemmas.{before_rows}
use Rattle.byte_page.specs.Form.{page_in_bytes, IsBytePage}

-- each row stands behind infimum and supremum
rows_high : (p : PageParts) (hs : List ℕ) → AllByRecursion (λ h. 120 < origin_of p.mirror h) hs → AllByRecursion (λ (y : Row). 120 < y.place) (map (row_of p) hs)
rows_high p [] a = tt
rows_high p (h ∷ hs) a = (a.0, rows_high p hs a.1)

pub rows_behind : {bytes : List ℕ} {fields : ℕ} → IsPageOfRows bytes fields → AllByRecursion (λ (y : Row). 120 < y.place) (rows_in_bytes bytes fields)
rows_behind page =
    let p = page.parts in
    let m = p.mirror in
    let s = page.spells in
    let whole = whole_list s in
    let heap = s.page.is.heap in
    let end : end_in (m.cell 1) ≡ 120 = ap end_in heap.second in
    let inside = each_left (λ h. h < m.count) p.inner (1 ∷ []) whole.inside.1 in
    let other = each_both (λ h. h ≡ 0 → ⊥) (λ h. h ≡ 1 → ⊥) (λ h. 2 ≤ h) (λ h a b. omega (arith, a, b)) p.inner whole.low whole.high in
    let high = each_both (λ h. h < m.count) (λ h. 2 ≤ h) (λ h. 120 < origin_of m h) (λ h w b. let at : 1 < h = omega arith in let after = heap.apart 1 h at w in omega arith) p.inner inside other in
    rw (rows_are s) (rows_high p p.inner high)

-- the last of some rows, and those before it
last_split : (x : Row) (xs : List Row) → (ys : List Row) × (x ∷ xs ≡ ys ++ last_row_after x xs ∷ [])
last_split x [] = ([], refl)
last_split x (y ∷ ys) = let r = last_split y ys in (x ∷ r.0, ap (λ (l : List Row). x ∷ l) r.1)

place_apart : (a b : ℕ) → (a ≡ b → ⊥) → nat_eq a b ≡ false
place_apart a b other = grind (arith, nat_tests)

-- the place, if it isn't that of infimum
abbrev pub left_place : ℕ → Option ℕ
left_place place = cond (nat_eq place 99) None (Some place)

pub before_is_at : {bytes : List ℕ} {fields : ℕ} (place : ℕ) (left right : List Row) → IsPageOfRows bytes fields → rows_in_bytes bytes fields ≡ left ++ right → place ≡ place_before left
    → IsAt (rows_in_bytes bytes fields) (left_place place) (last_of_rows left)
before_is_at place [] right page rows is = rw is refl
before_is_at {bytes} {fields} place (x ∷ xs) right page rows is =
    let cut = last_split x xs in
    let last = last_row_after x xs in
    let shape : rows_in_bytes bytes fields ≡ cut.0 ++ last ∷ right = rows ∙ ap (λ (l : List Row). l ++ right) cut.1 ∙ append_assoc cut.0 (last ∷ []) right in
    let high = (each_right (λ (y : Row). 120 < y.place) cut.0 (last ∷ right) (subst (AllByRecursion (λ (y : Row). 120 < y.place)) shape (rows_behind page))).0 in
    let other : nat_eq place 99 ≡ false = place_apart place 99 (λ e. omega (arith, is, high, e)) in
    let found = find_among cut.0 last right (subst PlacesDiffer shape (rows_differ page)) in
    let told_is : left_place place ≡ Some last.place = rw other (ap Some is) in
    (told_is, subst (λ (l : List Row). find_row last.place l ≡ Some last) (sym shape) found)

pub after_is_at : {bytes : List ℕ} {fields : ℕ} {left right : List Row} {place : ℕ} (next : ℕ) → (b : IsBehindRows bytes fields left right place)
    → next ≡ origin_of b.page.parts.mirror (b.page.parts.mirror.next (before_rows b).here) → IsAt (rows_in_bytes bytes fields) (told next) (first_of_rows right)
after_is_at {bytes} {fields} {left} {right} next b leads = go (before_rows b).high (before_rows b).rows (before_rows b).leads
  where
    go : (high : List ℕ) → map (row_of b.page.parts) high ≡ right → told (origin_of b.page.parts.mirror (b.page.parts.mirror.next (before_rows b).here)) ≡ first_place (origin_of b.page.parts.mirror) high
        → IsAt (rows_in_bytes bytes fields) (told next) (first_of_rows right)
    go [] rows e = subst (λ (l : List Row). IsAt (rows_in_bytes bytes fields) (told next) (first_of_rows l)) rows (ap told leads ∙ e)
    go (k ∷ ks) rows e =
        let shape : rows_in_bytes bytes fields ≡ left ++ row_of b.page.parts k ∷ map (row_of b.page.parts) ks = b.rows ∙ ap (λ (l : List Row). left ++ l) (sym rows) in
        let found = find_among left (row_of b.page.parts k) (map (row_of b.page.parts) ks) (subst PlacesDiffer shape (rows_differ b.page)) in
        subst (λ (l : List Row). IsAt (rows_in_bytes bytes fields) (told next) (first_of_rows l)) rows
        (ap told leads ∙ e, subst (λ (l : List Row). find_row (origin_of b.page.parts.mirror k) l ≡ Some (row_of b.page.parts k)) (sym shape) found)

-- a row stands at its place
pub row_is_there : (rows : List Row) (place : Option ℕ) (row : Option Row) → IsAt rows place row → IfSome place (λ p. IsSome (find_row p rows))
row_is_there rows place None a = subst (λ (o : Option ℕ). IfSome o (λ p. IsSome (find_row p rows))) (sym a) tt
row_is_there rows place (Some row) a = subst (λ (o : Option ℕ). IfSome o (λ p. IsSome (find_row p rows))) (sym a.0) (subst (λ (o : Option Row). IsSome o) (sym a.1) refl)

-- what stands on both sides of the cut, where the page's rows are these
pub record Sides (bytes : List ℕ) (fields : ℕ) (left right : List Row) (before after : Option ℕ) : Type 0 where
  pub before_at : IsAt (rows_in_bytes bytes fields) before (last_of_rows left)
  pub after_at : IsAt (rows_in_bytes bytes fields) after (first_of_rows right)

-- behind the cut there is the right part
abbrev pub right_ascends : {bytes : List ℕ} {fields place : ℕ} {p : KeyPlace → Bool} → IsBytePage bytes fields → (c : CutsRows (rows_in_bytes bytes fields) p place) → IsBehindRows bytes fields c.left c.right place
right_ascends b c = record { page = b.rows; ascend = ascends_right c.left c.right (subst RowsAscend c.split b.order.ascend); rows = c.split; before_is = c.before_is }

pub sides : {bytes : List ℕ} {fields place : ℕ} {p : KeyPlace → Bool} (next : ℕ) (before after : Option ℕ) → (b : IsBytePage bytes fields) → (c : CutsRows (rows_in_bytes bytes fields) p place)
    → next ≡ origin_of b.rows.parts.mirror (b.rows.parts.mirror.next (before_rows (right_ascends b c)).here) → before ≡ left_place place → after ≡ told next
    → Sides bytes fields c.left c.right before after
sides {bytes} {fields} {place} next before after b c leads before_is after_is = record {
  before_at = subst (λ (o : Option ℕ). IsAt (rows_in_bytes bytes fields) o (last_of_rows c.left)) (sym before_is) (before_is_at place c.left c.right b.rows c.split c.before_is);
  after_at = subst (λ (o : Option ℕ). IsAt (rows_in_bytes bytes fields) o (first_of_rows c.right)) (sym after_is) (after_is_at next (right_ascends b c) leads);
}

-- the rows that are below a row's key are those before it
pub prev_is : {bytes : List ℕ} {fields : ℕ} (place : ℕ) (row : Row) (before : ℕ) → (b : IsBytePage bytes fields) → find_row place (rows_in_bytes bytes fields) ≡ Some row
    → CutsRows (rows_in_bytes bytes fields) (not_below row.key) before → PrevIs (rows_in_bytes bytes fields) place (left_place before)
prev_is {bytes} {fields} place row before b found c =
    let rows = rows_in_bytes bytes fields in
    let k = length c.left in
    let low : take k rows ≡ c.left = ap (take k) c.split ∙ take_at c.left c.right k refl in
    let high : drop k rows ≡ c.right = ap (drop k) c.split ∙ drop_at c.left c.right k refl in
    let at = position_of (page_in_bytes bytes fields) place row k b.order found (subst (AllOut (not_below row.key)) (sym low) c.out) (subst (AllIn (not_below row.key)) (sym high) c.past) in
    record {
      left = take k rows;
      row = at.row;
      right = drop (suc k) rows;
      split = get_split rows k at.row at.there;
      place_is = at.place_is;
      prev_at = subst (λ (l : List Row). IsAt rows (left_place before) (last_of_rows l)) (sym low) (before_is_at before c.left c.right b.rows c.split c.before_is);
    }

-- the tuple without fields is above no key
none_above : (rows : List Row) → AllIn (above []) rows → rows ≡ []
unfolding above
none_above [] a = refl
none_above (x ∷ rows) a = absurd (false≢true a.0)

-- so a cut there leaves out all rows
pub last_is : {bytes : List ℕ} {fields : ℕ} (before : ℕ) → IsPageOfRows bytes fields → CutsRows (rows_in_bytes bytes fields) (above []) before
    → IsAt (rows_in_bytes bytes fields) (left_place before) (last_of_rows (rows_in_bytes bytes fields))
last_is {bytes} {fields} before page c =
    let whole : rows_in_bytes bytes fields ≡ c.left = c.split ∙ ap (λ (l : List Row). c.left ++ l) (none_above c.right c.past) ∙ append_none c.left in
    subst (λ (l : List Row). IsAt (rows_in_bytes bytes fields) (left_place before) (last_of_rows l)) (sym whole) (before_is_at before c.left c.right page c.split c.before_is)
  where
    append_none : (xs : List Row) → xs ++ [] ≡ xs
    append_none [] = refl
    append_none (x ∷ xs) = ap (λ (ys : List Row). x ∷ ys) (append_none xs)

-- a place, and where there is none that of infimum
place_or_infimum : (rows left : List Row) (place : Option ℕ) → IsAt rows place (last_of_rows left) → unwrap_or place 99 ≡ place_before left
place_or_infimum rows [] place at = ap (λ (o : Option ℕ). unwrap_or o 99) at
place_or_infimum rows (x ∷ xs) place at = ap (λ (o : Option ℕ). unwrap_or o 99) at.0

-- the row before a key's spot is the last below the key
pub spot_below : (key : FieldList) (rows : List Row) (spot : Spot) (before : ℕ) → Finds Ge key rows spot → before ≡ unwrap_or spot.before 99 → CutsRows rows (not_below key) before
spot_below key rows spot before found is = record {
  left = found.left;
  right = found.right;
  split = found.split;
  before_is = is ∙ place_or_infimum rows found.left spot.before found.before_at;
  out = found.out;
  past = found.past;
}
