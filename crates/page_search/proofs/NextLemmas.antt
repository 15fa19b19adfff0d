-- The row behind a place.
use Rattle.std.proofs.Common.{◌≡◌, ℕ, ◌<◌, Bool, true, false, Some, None, List, [], ◌∷◌, ◌++◌, map, nat_eq, refl, sym, ap, subst, ◌∙◌, arith}
use Rattle.std.proofs.lemmas.List.{append_assoc}
use Rattle.std.proofs.lemmas.Bool.Decides.{nat_tests}
use Rattle.std.specs.List.{AllByRecursion}
use Rattle.list_facts.proofs.Each.{each_left, each_right, each_weaker}
use Rattle.key_tuple.specs.KeyPlace.{KeyPlace, At, before, IsCut}
use Rattle.compact_record.specs.Reading.{IsRecordAt}
use Rattle.page_mirror.specs.Mirror.{origin_of}
use Rattle.page_mirror.specs.Steps.{HasOrigin}
use Rattle.page_heap.proofs.CellLemmas.{record_in_page}
use Rattle.page_directory.specs.Groups.{AreLinked}
use Rattle.page_directory.proofs.ListLemmas.{linked_right}
use Rattle.index_page.specs.Rows.{Row, last_row_after}
use Rattle.index_page.specs.Page.{RowsAscend}
use Rattle.index_page.specs.Search.{AllIn}
use Rattle.page_rows.specs.Spelling.{StandsAsRow, PageParts}
use Rattle.page_rows.specs.Inserting.{place_before}
use Rattle.page_rows.proofs.PlaceLemmas.{first_place}
use Rattle.page_rows.proofs.SpellingLemmas.{row_of, whole_list, told, told_first}
use Rattle.page_rows.proofs.InsertRowLemmas.{row_gap}
use Rattle.page_search.specs.Cuts.{IsBehindRows}

-- the record at a place before a gap
pub record BeforeRows (bytes : List ℕ) (fields : ℕ) (p : PageParts) (right : List Row) (place : ℕ) : Type 0 where
  pub here : ℕ
  pub at : HasOrigin bytes p.mirror here place
  pub high : List ℕ
  pub rows : map (row_of p) high ≡ right
  pub inside : AllByRecursion (λ k. k < p.mirror.count) high
  pub stands : AllByRecursion (StandsAsRow fields p.mirror p.of) high
  pub leads : told (origin_of p.mirror (p.mirror.next here)) ≡ first_place (origin_of p.mirror) high

pub before_rows : {bytes : List ℕ} {fields : ℕ} {left right : List Row} {place : ℕ} → (b : IsBehindRows bytes fields left right place) → BeforeRows bytes fields b.page.parts right place
before_rows {bytes} {fields} {left} {right} {place} b =
    let p = b.page.parts in
    let s = b.page.spells in
    let m = p.mirror in
    let r = row_gap 0 s b.rows in
    let g = r.gap in
    let whole = whole_list s in
    let list : 0 ∷ (p.inner ++ 1 ∷ []) ≡ g.low ++ g.p ∷ (r.high ++ 1 ∷ []) =
    ap (λ (xs : List ℕ). 0 ∷ (xs ++ 1 ∷ [])) r.inner ∙ append_assoc (0 ∷ r.low) r.high (1 ∷ [])
    ∙ ap (λ (xs : List ℕ). xs ++ (r.high ++ 1 ∷ [])) (sym r.at.before) ∙ append_assoc g.low (g.p ∷ []) (r.high ++ 1 ∷ []) in
    let inside = each_right (λ k. k < m.count) g.low (g.p ∷ (r.high ++ 1 ∷ [])) (subst (AllByRecursion (λ k. k < m.count)) list whole.inside) in
    let linked = linked_right m.next g.low (g.p ∷ (r.high ++ 1 ∷ [])) (subst (AreLinked m.next) list whole.linked) in
    let low = each_right (λ k. k ≡ 0 → ⊥) r.low r.high (subst (AllByRecursion (λ k. k ≡ 0 → ⊥)) r.inner whole.low) in
    let high = each_right (λ k. k ≡ 1 → ⊥) r.low r.high (subst (AllByRecursion (λ k. k ≡ 1 → ⊥)) r.inner whole.high) in
    let rows = subst (AllByRecursion (StandsAsRow fields m p.of)) r.inner (each_left (StandsAsRow fields m p.of) p.inner p.free s.rows) in
    record {
      here = g.p;
      at = record { is = s.page.is; within = inside.0; placed = sym (b.before_is ∙ r.place) };
      high = r.high;
      rows = r.right;
      inside = each_left (λ k. k < m.count) r.high (1 ∷ []) inside.1;
      stands = each_right (StandsAsRow fields m p.of) r.low r.high rows;
      leads = told_first s.page.is g.p r.high inside.1 linked low high;
    }

-- supremum has no row behind the place, and any other place is that of the next row
pub record NextRow (bytes : List ℕ) (fields : ℕ) (p : PageParts) (right : List Row) (next : ℕ) : Type 0 where
  pub here : ℕ
  pub rest : List Row
  pub rows : right ≡ row_of p here ∷ rest
  pub placed : origin_of p.mirror here ≡ next
  pub is : IsRecordAt bytes next fields (p.of here)

told_equal : (a b : ℕ) → a ≡ b → nat_eq a b ≡ true
told_equal a b e = grind (arith, nat_tests)

told_apart : (a b : ℕ) → (a ≡ b → ⊥) → nat_eq a b ≡ false
told_apart a b other = grind (arith, nat_tests)

pub none_behind : {bytes : List ℕ} {fields : ℕ} {p : PageParts} {right : List Row} {place : ℕ} (next : ℕ) → (b : BeforeRows bytes fields p right place)
    → next ≡ origin_of p.mirror (p.mirror.next b.here) → next ≡ 112 → right ≡ []
none_behind {p = p} next b leads is = go b.high b.rows b.leads
  where
    go : {right : List Row} (high : List ℕ) → map (row_of p) high ≡ right → told (origin_of p.mirror (p.mirror.next b.here)) ≡ first_place (origin_of p.mirror) high → right ≡ []
    go [] rows e = sym rows
    go (k ∷ ks) rows e =
        let here : nat_eq (origin_of p.mirror (p.mirror.next b.here)) 112 ≡ true = told_equal _ 112 (sym leads ∙ is) in
        let none : told (origin_of p.mirror (p.mirror.next b.here)) ≡ None = rw here refl in
        absurd cc

pub row_behind : {bytes : List ℕ} {fields : ℕ} {p : PageParts} {right : List Row} {place : ℕ} (next : ℕ) → (b : BeforeRows bytes fields p right place)
    → next ≡ origin_of p.mirror (p.mirror.next b.here) → (next ≡ 112 → ⊥) → NextRow bytes fields p right next
row_behind {bytes} {fields} {p} {right} next b leads other = go b.high b.rows b.inside b.stands b.leads
  where
    some : told (origin_of p.mirror (p.mirror.next b.here)) ≡ Some (origin_of p.mirror (p.mirror.next b.here))
    some = let here : nat_eq (origin_of p.mirror (p.mirror.next b.here)) 112 ≡ false = told_apart _ 112 (λ e. other (leads ∙ e)) in rw here refl

    go : (high : List ℕ) → map (row_of p) high ≡ right → AllByRecursion (λ k. k < p.mirror.count) high → AllByRecursion (StandsAsRow fields p.mirror p.of) high
        → told (origin_of p.mirror (p.mirror.next b.here)) ≡ first_place (origin_of p.mirror) high → NextRow bytes fields p right next
    go [] rows inside stands e = absurd (let same = some in cc)
    go (k ∷ ks) rows inside stands e =
        let same = some in
        let placed : origin_of p.mirror k ≡ origin_of p.mirror (p.mirror.next b.here) = cc in
        let s = stands.0 in
        let at : HasOrigin bytes p.mirror k next = record { is = b.at.is; within = inside.0; placed = placed ∙ sym leads } in
        record {
          here = k;
          rest = map (row_of p) ks;
          rows = sym rows;
          placed = placed ∙ sym leads;
          is = record_in_page fields (p.of k) at s.cell s.sound s.count;
        }

-- the rows from an admitted one on are admitted
pub all_in : (p : KeyPlace → Bool) → IsCut p → (row : Row) (rest : List Row) → RowsAscend (row ∷ rest) → p (At row.key) ≡ true → AllIn p (row ∷ rest)
all_in p cut row rest a here =
    (here, each_weaker (λ (z : Row). before (At row.key) (At z.key) ≡ true) (λ (z : Row). p (At z.key) ≡ true) (λ z b. cut.rises (At row.key) (At z.key) b here) rest a.0)

-- one row more on the left
pub place_before_more : (left : List Row) (row : Row) → place_before (left ++ row ∷ []) ≡ row.place
place_before_more [] row = refl
place_before_more (x ∷ xs) row = last_more x xs row
  where
    last_more : (x : Row) (xs : List Row) (row : Row) → (last_row_after x (xs ++ row ∷ [])).place ≡ row.place
    last_more x [] row = refl
    last_more x (y ∷ ys) row = last_more y ys row
