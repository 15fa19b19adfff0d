-- The last rows of a page go.
use Rattle.std.proofs.Common.{◌≡◌, ℕ, ◌+◌, ◌<◌, ◌≤◌, Option, Some, None, IsSome, List, [], ◌∷◌, ◌++◌, length, refl, sym, ap, ap₂, subst, ◌∙◌, arith, length-append, append-nil}
use Rattle.std.proofs.lemmas.List.{append_assoc}
use Rattle.index_page.specs.declared.head.PageHead.{PageHead}
use Rattle.index_page.specs.Rows.{Row, find_row, SameRows}
use Rattle.index_page.specs.Page.{PageRows, IsPageInOrder, RowsAscend, PlacesDiffer}
use Rattle.index_page.specs.Changes.{Deletes}
use Rattle.index_page.specs.Moves.{MovesTail}
use Rattle.index_page.specs.Loads.{load_of}
use Rattle.index_page.proofs.RowLemmas.{find_among, find_stands, ascends_right}
use Rattle.index_page.proofs.LoadLemmas.{row_charge}
use Rattle.std.proofs.lemmas.List.Sums.{sum_by-append}
use Rattle.page_rows.specs.Inserting.{place_before}
use Rattle.byte_page.specs.Form.{GappedPage}
use Rattle.byte_page.specs.Moving.{CanAppendRows, AppendsRows, PopsRow, KeepsFirst}
use Rattle.byte_page.proofs.MovingLemmas.{cut_alike}

last_off : (xs ys : List Row) (x y : Row) → xs ++ x ∷ [] ≡ ys ++ y ∷ [] → (xs ≡ ys) × (x ≡ y)
last_off [] [] x y e = let head : x ≡ y = cc in (refl, head)
last_off [] (b ∷ ys) x y e = absurd (omega (arith, ap length e, length-append ys (y ∷ [])))
last_off (a ∷ xs) [] x y e = absurd (omega (arith, ap length e, length-append xs (x ∷ [])))
last_off (a ∷ xs) (b ∷ ys) x y e =
    let tail : xs ++ x ∷ [] ≡ ys ++ y ∷ [] = cc in
    let head : a ≡ b = cc in
    let rest = last_off xs ys x y tail in
    (ap₂ (λ (z : Row) (zs : List Row). z ∷ zs) head rest.0, rest.1)

-- rows with a last one
pub record HasLast (rows : List Row) : Type 0 where
  pub front : List Row
  pub row : Row
  pub is : rows ≡ front ++ row ∷ []
  pub place : place_before rows ≡ row.place

last_of : (x : Row) (xs : List Row) → HasLast (x ∷ xs)
last_of x [] = record { front = []; row = x; is = refl; place = refl }
last_of x (y ∷ ys) =
    let r = last_of y ys in
    record { front = x ∷ r.front; row = r.row; is = ap (λ (l : List Row). x ∷ l) r.is; place = r.place }

pub has_last : (rows : List Row) → 0 < length rows → HasLast rows
has_last [] some = absurd (omega arith)
has_last (x ∷ xs) some = last_of x xs

-- the last one is there
pub last_there : (rows : List Row) (last : ℕ) → 0 < length rows → PlacesDiffer rows → last ≡ place_before rows → IsSome (find_row last rows)
last_there rows last some differ is =
    let r = has_last rows some in
    let found : find_row r.row.place rows ≡ Some r.row = subst (λ (l : List Row). find_row r.row.place l ≡ Some r.row) (sym r.is) (find_among r.front r.row [] (subst PlacesDiffer r.is differ)) in
    subst (λ o. IsSome o) (sym (ap (λ (p : ℕ). find_row p rows) (is ∙ r.place) ∙ found)) refl

-- it is the one that goes
pub pops : (old new : PageRows) (last : ℕ) → 0 < length old.rows → PlacesDiffer old.rows → last ≡ place_before old.rows → Deletes old new last → PopsRow old new last
pops old new last some differ is d =
    let r = has_last old.rows some in
    let same : d.left ++ d.row ∷ d.right ≡ r.front ++ r.row ∷ [] = sym d.was ∙ r.is in
    let place : d.row.place ≡ r.row.place = d.place_is ∙ is ∙ r.place in
    let none : d.right ≡ [] = cut_alike d.left r.front d.row r.row d.right [] (subst PlacesDiffer d.was differ) same place in
    let whole : d.left ++ d.row ∷ [] ≡ r.front ++ r.row ∷ [] = ap (λ (l : List Row). d.left ++ d.row ∷ l) (sym none) ∙ same in
    let front = (last_off d.left r.front d.row r.row whole).0 in
    record {
      front = r.front;
      row = r.row;
      was = r.is;
      place_is = sym (is ∙ r.place);
      is = d.is ∙ ap (λ (l : List Row). d.left ++ l) none ∙ append-nil d.left ∙ front;
      head = d.head;
      differ = differ;
    }

-- rows that are left while the last ones go
pub record IsPopping (old now : PageRows) (left : List Row) (row : Row) (right : List Row) (count : ℕ) : Type 0 where
  pub rest : List Row
  pub rows : now.rows ≡ left ++ row ∷ rest
  pub head : now.head ≡ old.head
  pub counted : length rest + count ≤ length right

pub has_rows : {old now : PageRows} {left : List Row} {row : Row} {right : List Row} {count : ℕ} → IsPopping old now left row right count → 0 < length now.rows
has_rows {left = left} {row = row} i = omega (arith, ap length i.rows, length-append left (row ∷ i.rest))

pub pops_first : {old now new : PageRows} {left : List Row} {row : Row} {right : List Row} {count place : ℕ} → IsPopping old now left row right count → PopsRow now new place → row.place ≡ place
    → KeepsFirst old new left
pops_first {left = left} {row = row} i p is =
    let whole : left ++ row ∷ i.rest ≡ p.front ++ p.row ∷ [] = sym i.rows ∙ p.was in
    let none : i.rest ≡ [] = cut_alike left p.front row p.row i.rest [] (subst PlacesDiffer i.rows p.differ) whole (is ∙ sym p.place_is) in
    let front = (last_off left p.front row p.row (ap (λ (l : List Row). left ++ row ∷ l) (sym none) ∙ whole)).0 in
    record { rows = p.is ∙ sym front; head = p.head ∙ i.head }

pub pops_other : {old now new : PageRows} {left : List Row} {row : Row} {right : List Row} {count place : ℕ} → IsPopping old now left row right count → PopsRow now new place → (row.place ≡ place → ⊥)
    → IsPopping old new left row right (count + 1)
pops_other {old} {now} {new} {left} {row} {right} {count} {place} i p other = go i.rest i.rows i.counted
  where
    go : (rest : List Row) → now.rows ≡ left ++ row ∷ rest → length rest + count ≤ length right → IsPopping old new left row right (count + 1)
    go [] rows few =
        let same = (last_off left p.front row p.row (sym rows ∙ p.was)).1 in
        absurd (other (ap (λ (x : Row). x.place) same ∙ p.place_is))
    go (y ∷ ys) rows few =
        let r = last_of y ys in
        let whole : (left ++ row ∷ r.front) ++ r.row ∷ [] ≡ p.front ++ p.row ∷ [] =
        append_assoc left (row ∷ r.front) (r.row ∷ []) ∙ ap (λ (l : List Row). left ++ row ∷ l) (sym r.is) ∙ sym rows ∙ p.was in
        let front = (last_off (left ++ row ∷ r.front) p.front r.row p.row whole).0 in
        record { rest = r.front; rows = p.is ∙ sym front; head = p.head ∙ i.head; counted = omega (arith, few, ap length r.is, length-append r.front (r.row ∷ [])) }

-- the rows from one on may come to a page without rows
pub record TailStands (page : PageRows) (first : ℕ) : Type 0 where
  pub left : List Row
  pub row : Row
  pub right : List Row
  pub split : page.rows ≡ left ++ row ∷ right
  pub place_is : row.place ≡ first
  pub there : find_row row.place page.rows ≡ Some row

pub tail_stands : (page : PageRows) (first : ℕ) → IsPageInOrder page → IsSome (find_row first page.rows) → TailStands page first
tail_stands page first order there = go (find_row first page.rows) refl there
  where
    go : (o : Option Row) → find_row first page.rows ≡ o → IsSome o → TailStands page first
    go (Some row) e some =
        let s = find_stands page.rows first row e in
        record { left = s.left; row = row; right = s.right; split = s.split; place_is = s.place_is; there = subst (λ (p : ℕ). find_row p page.rows ≡ Some row) (sym s.place_is) e }
    go None e some = absurd cc

pub tail_may_go : (from to old : GappedPage) (first : ℕ) → IsPageInOrder from.page → (t : TailStands from.page first) → to.page.rows ≡ [] → to.page.head ≡ old.page.head → to.garbage ≡ 0
    → old.page.head.level ≡ from.page.head.level → old.page.head.fields ≡ from.page.head.fields → CanAppendRows to from (Some first) t.left (t.row ∷ t.right)
tail_may_go from to old first order t none head tight level fields =
    let load : load_of to.page.rows ≡ 0 = ap load_of none in
    record {
      split = t.split;
      first_at = (ap Some (sym t.place_is), t.there);
      level = ap (λ (h : PageHead). h.level) head ∙ level;
      fields = ap (λ (h : PageHead). h.fields) head ∙ fields;
      ascend = subst (λ (xs : List Row). RowsAscend (xs ++ t.row ∷ t.right)) (sym none) (ascends_right t.left (t.row ∷ t.right) (subst RowsAscend t.split order.ascend));
      room = omega (arith, order.fits, load, ap load_of t.split, sum_by-append row_charge t.left (t.row ∷ t.right));
      tight = tight;
    }

-- they went there
pub tail_moved : (old new to_old to_new : PageRows) (cleared : GappedPage) (to : GappedPage) (first : ℕ) → (t : TailStands old first) → KeepsFirst old new t.left → cleared.page.rows ≡ [] → cleared.page.head ≡ to_old.head
    → AppendsRows cleared to (t.row ∷ t.right) → to.page ≡ to_new → MovesTail old new to_old to_new first
tail_moved old new to_old to_new cleared to first t k none head a is =
    let rows = a.rows ∙ ap (λ (xs : List Row). xs ++ a.moved) none in
    record {
      left = t.left;
      row = t.row;
      right = t.right;
      was = t.split;
      place_is = t.place_is;
      stay = k.rows;
      go = subst (λ (p : PageRows). SameRows (t.row ∷ t.right) p.rows) is (subst (SameRows (t.row ∷ t.right)) (sym rows) a.same);
      head = k.head;
      to_head = subst (λ (p : PageRows). p.head ≡ to_old.head) is (a.head ∙ head);
    }
