-- The rows of a page with one more.
use Rattle.std.proofs.Common.{◌≡◌, ◌≢◌, ℕ, ◌<◌, Some, List, [], ◌∷◌, ◌++◌, map, refl, sym, ap, ap₂, subst, ◌∙◌, arith}
use Rattle.std.proofs.lemmas.List.{append_assoc, map-append}
use Rattle.std.specs.List.{AllByRecursion}
use Rattle.list_facts.proofs.Each.{each_left, each_right}
use Rattle.key_tuple.specs.Order.{FieldList}
use Rattle.compact_record.specs.declared.kind.RecordKind.{RecordKind}
use Rattle.compact_record.specs.Record.{PlacedRecord}
use Rattle.page_mirror.specs.Cells.{Cell, origin_in}
use Rattle.page_mirror.specs.Mirror.{Mirrors, changed, origin_of}
use Rattle.page_mirror.specs.Steps.{HasOrigin}
use Rattle.page_mirror.proofs.KeptLemmas.{changed-same, changed-other}
use Rattle.page_heap.specs.Heap.{cell_of, record_from}
use Rattle.page_directory.specs.Groups.{records}
use Rattle.page_list.specs.Entering.{Gap, CanEnter, Enters}
use Rattle.index_page.specs.Rows.{Row, placed_row, find_row, last_row_after}
use Rattle.index_page.specs.Page.{PlacesDiffer}
use Rattle.index_page.proofs.RowLemmas.{find_none, find_among}
use Rattle.page_rows.specs.Reading.{rows_in_bytes, row_of_record, body_of_kind}
use Rattle.page_rows.specs.Spelling.{PageParts, SpellsRows, IsPageOfRows}
use Rattle.page_rows.specs.Inserting.{taken_parts, CanTake, IsTaken, place_before, CanInsertRow, InsertsInBytes}
use Rattle.page_rows.proofs.SpellingLemmas.{row_of, rows_are, whole_list, infimum_at}
use Rattle.page_rows.proofs.RoomLemmas.{page_sums}
use Rattle.page_rows.proofs.DifferLemmas.{places_apart, rows_differ}
use Rattle.page_rows.proofs.InsertedLemmas.{GapAt, inserted_parts, inserted_spells}

-- rows in two parts are those of the records in two parts
pub record MapCut {X Y : Type 0} (f : X → Y) (xs : List X) (ys zs : List Y) : Type 0 where
  pub low : List X
  pub high : List X
  pub is : xs ≡ low ++ high
  pub left : map f low ≡ ys
  pub right : map f high ≡ zs

pub map_cut : {X Y : Type 0} (f : X → Y) (xs : List X) (ys zs : List Y) → map f xs ≡ ys ++ zs → MapCut f xs ys zs
map_cut f xs [] zs e = record { low = []; high = xs; is = refl; left = refl; right = e }
map_cut f [] (y ∷ ys) zs e = absurd cc
map_cut {X} {Y} f (x ∷ xs) (y ∷ ys) zs e =
    let head : f x ≡ y = cc in
    let tail : map f xs ≡ ys ++ zs = cc in
    let r = map_cut f xs ys zs tail in
    record { low = x ∷ r.low; high = r.high; is = ap (λ (l : List X). x ∷ l) r.is; left = ap₂ (λ (a : Y) (l : List Y). a ∷ l) head r.left; right = r.right }

-- the last of some records
pub record LastOf (p : PageParts) (x : ℕ) (xs : List ℕ) : Type 0 where
  pub front : List ℕ
  pub here : ℕ
  pub is : front ++ here ∷ [] ≡ x ∷ xs
  pub place : (last_row_after (row_of p x) (map (row_of p) xs)).place ≡ origin_of p.mirror here

last_of : (p : PageParts) (x : ℕ) (xs : List ℕ) → LastOf p x xs
last_of p x [] = record { front = []; here = x; is = refl; place = refl }
last_of p x (y ∷ ys) =
    let r = last_of p y ys in
    record { front = x ∷ r.front; here = r.here; is = ap (λ (l : List ℕ). x ∷ l) r.is; place = r.place }

-- the record before a gap, and its place
pub record BeforeGap (p : PageParts) (low : List ℕ) : Type 0 where
  pub front : List ℕ
  pub here : ℕ
  pub is : front ++ here ∷ [] ≡ 0 ∷ low
  pub place : place_before (map (row_of p) low) ≡ origin_of p.mirror here

pub before_gap : {bytes : List ℕ} (p : PageParts) → Mirrors bytes p.mirror → (low : List ℕ) → BeforeGap p low
before_gap p is [] = record { front = []; here = 0; is = refl; place = sym (infimum_at is).placed }
before_gap p is (x ∷ xs) =
    let r = last_of p x xs in
    record { front = 0 ∷ r.front; here = r.here; is = ap (λ (l : List ℕ). 0 ∷ l) r.is; place = r.place }

-- the record behind it
pub first_behind : (high : List ℕ) → (n : ℕ) × (rest : List ℕ) × (n ∷ rest ≡ high ++ 1 ∷ [])
first_behind [] = (1, [], refl)
first_behind (x ∷ xs) = (x, xs ++ 1 ∷ [], refl)

-- where a row comes
pub record RowGap (p : PageParts) (below above : List Row) (h : ℕ) : Type 0 where
  pub low : List ℕ
  pub high : List ℕ
  pub inner : p.inner ≡ low ++ high
  pub left : map (row_of p) low ≡ below
  pub right : map (row_of p) high ≡ above
  pub gap : Gap
  pub new : gap.new ≡ h
  pub at : GapAt low high gap
  pub place : place_before below ≡ origin_of p.mirror gap.p

pub row_gap : {bytes : List ℕ} {fields : ℕ} {p : PageParts} {below above : List Row} (h : ℕ) → SpellsRows bytes fields p [] → rows_in_bytes bytes fields ≡ below ++ above
    → RowGap p below above h
row_gap {bytes} {fields} {p} {below} {above} h s rows =
    let cut = map_cut (row_of p) p.inner below above (sym (rows_are s) ∙ rows) in
    let b = before_gap p s.page.is cut.low in
    let n = first_behind cut.high in
    record {
      low = cut.low;
      high = cut.high;
      inner = cut.is;
      left = cut.left;
      right = cut.right;
      gap = record { low = b.front; p = b.here; new = h; n = n.0; high = n.1 };
      new = refl;
      at = record { before = b.is; behind = n.2 };
      place = ap place_before (sym cut.left) ∙ b.place;
    }

-- the parts of the page with the record, before it is in the list
abbrev pub parts_with : {bytes : List ℕ} {fields : ℕ} {p : PageParts} {kind : RecordKind} {key : FieldList} {tail : List ℕ} {at : ℕ} → IsTaken bytes fields p kind key tail at → PageParts
parts_with {p = p} {kind = kind} {key = key} {tail = tail} t = taken_parts p t.h (record_from t.start t.h kind key tail) t.count t.top t.first t.garbage t.free

pub can_take : {bytes : List ℕ} {fields : ℕ} {below above : List Row} {before : ℕ} {kind : RecordKind} {key : FieldList} {tail : List ℕ} {size : ℕ}
    → (c : CanInsertRow bytes fields below above before kind key tail size) → CanTake bytes fields c.page.parts kind key tail size
can_take c = record { spells = c.page.spells; sound = c.sound; count = c.count; size_is = c.size_is; room = c.room }

-- the record may come into the list
pub can_enter : {b0 b1 : List ℕ} {fields : ℕ} {below above : List Row} {before : ℕ} {kind : RecordKind} {key : FieldList} {tail : List ℕ} {size at : ℕ}
    → (c : CanInsertRow b0 fields below above before kind key tail size) → (t : IsTaken b1 fields c.page.parts kind key tail at) → (r : RowGap c.page.parts below above t.h)
    → CanEnter b1 (parts_with t).mirror c.page.parts.groups t.free r.gap before at
can_enter {b0} {b1} {fields} {below} {above} {before} {kind} {key} {tail} {size} {at} c t r =
    let p = c.page.parts in
    let q = parts_with t in
    let m = p.mirror in
    let h = t.h in
    let g = r.gap in
    let cell : Cell = cell_of (record_from t.start h kind key tail) in
    let s = t.spells in
    let list : records p.groups ≡ (g.low ++ g.p ∷ []) ++ g.n ∷ g.high =
    s.list ∙ ap (λ (xs : List ℕ). 0 ∷ (xs ++ 1 ∷ [])) r.inner ∙ append_assoc (0 ∷ r.low) r.high (1 ∷ [])
    ∙ ap (λ (xs : List ℕ). xs ++ (r.high ++ 1 ∷ [])) (sym r.at.before) ∙ ap (λ (xs : List ℕ). (g.low ++ g.p ∷ []) ++ xs) (sym r.at.behind) in
    let p_not : ℕ → Type 0 = λ k. k ≡ h → ⊥ in
    let in_list : AllByRecursion p_not ((g.low ++ g.p ∷ []) ++ g.n ∷ g.high) = subst (AllByRecursion p_not) list (each_left p_not (records p.groups) t.free t.apart) in
    let p_apart = (each_right p_not g.low (g.p ∷ []) (each_left p_not (g.low ++ g.p ∷ []) (g.n ∷ g.high) in_list)).0 in
    let inside : AllByRecursion (λ k. k < q.mirror.count) ((g.low ++ g.p ∷ []) ++ g.n ∷ g.high) =
    subst (AllByRecursion (λ k. k < q.mirror.count)) list (each_left (λ k. k < q.mirror.count) (records p.groups) t.free s.page.order.inside) in
    let p_in = (each_right (λ k. k < q.mirror.count) g.low (g.p ∷ []) (each_left (λ k. k < q.mirror.count) (g.low ++ g.p ∷ []) (g.n ∷ g.high) inside)).0 in
    let few = (page_sums s).few in
    record {
      gap = record {
        page = s.page;
        sizes = s.sizes;
        list = list;
        apart = subst (λ (x : ℕ). AllByRecursion (λ k. k ≡ x → ⊥) (records p.groups ++ t.free)) (sym r.new) t.apart;
        none = ap q.mirror.owned r.new ∙ changed-same m.owned h 0;
        before_at = record { is = s.page.is; within = p_in; placed = ap origin_in (changed-other m.cell h cell g.p p_apart) ∙ sym r.place ∙ sym c.before_is };
        new_at = subst (λ (x : ℕ). HasOrigin b1 q.mirror x at) (sym r.new) t.new_at;
        few = omega arith;
      };
      room = t.room;
    }

-- rows of records that stay
rows_still : (p : PageParts) (h : ℕ) (r : PlacedRecord) (cell : Cell) (q : PageParts) → ((k : ℕ) → q.mirror.cell k ≡ changed p.mirror.cell h cell k) → ((k : ℕ) → q.of k ≡ changed p.of h r k)
    → (ks : List ℕ) → AllByRecursion (λ k. k ≡ h → ⊥) ks → map (row_of q) ks ≡ map (row_of p) ks
rows_still p h r cell q cells of [] apart = refl
rows_still p h r cell q cells of (k ∷ ks) apart =
    ap₂ (λ (x : Row) (xs : List Row). x ∷ xs)
    (ap₂ (λ (c : Cell) (y : PlacedRecord). row_of_record (origin_in c) y) (cells k ∙ changed-other p.mirror.cell h cell k apart.0) (of k ∙ changed-other p.of h r k apart.0))
    (rows_still p h r cell q cells of ks apart.1)

-- the rows with the new one
pub row_inserted : {b0 b1 b2 : List ℕ} {fields : ℕ} {below above : List Row} {before : ℕ} {kind : RecordKind} {key : FieldList} {tail : List ℕ} {size at : ℕ}
    → (c : CanInsertRow b0 fields below above before kind key tail size) → (t : IsTaken b1 fields c.page.parts kind key tail at) → (r : RowGap c.page.parts below above t.h)
    → Enters b2 (parts_with t).mirror t.free r.gap → InsertsInBytes b0 b2 fields below above (placed_row at key (body_of_kind kind tail))
row_inserted {b0} {b1} {b2} {fields} {below} {above} {before} {kind} {key} {tail} {size} {at} c t r e =
    let p = c.page.parts in
    let q = parts_with t in
    let h = t.h in
    let g = r.gap in
    let new : PlacedRecord = record_from t.start h kind key tail in
    let cell : Cell = cell_of new in
    let p_not : ℕ → Type 0 = λ k. k ≡ h → ⊥ in
    let final = inserted_parts q g r.low r.high e.0 e.1 in
    let spells : SpellsRows b2 fields final [] =
    inserted_spells {q = q} g r.low r.high e.0 e.1 (subst (λ (x : ℕ). SpellsRows b1 fields q (x ∷ [])) (sym r.new) t.spells) r.inner
    (subst (λ (x : ℕ). AllByRecursion (λ k. k ≡ x → ⊥) (records p.groups ++ t.free)) (sym r.new) t.apart) r.at e.2 in
    let page : IsPageOfRows b2 fields = record { parts = final; spells = spells } in
    let in_list : AllByRecursion p_not (0 ∷ (p.inner ++ 1 ∷ [])) = subst (AllByRecursion p_not) t.spells.list (each_left p_not (records p.groups) t.free t.apart) in
    let in_inner = each_left p_not p.inner (1 ∷ []) in_list.1 in
    let parts : AllByRecursion p_not (r.low ++ r.high) = subst (AllByRecursion p_not) r.inner in_inner in
    let low_is = rows_still p h new cell final (λ k. refl) (λ k. refl) r.low (each_left p_not r.low r.high parts) in
    let high_is = rows_still p h new cell final (λ k. refl) (λ k. refl) r.high (each_right p_not r.low r.high parts) in
    let here : row_of final h ≡ placed_row at key (body_of_kind kind tail) =
    ap₂ (λ (x : ℕ) (y : PlacedRecord). row_of_record x y) t.new_at.placed (changed-same p.of h new) in
    let rows : rows_in_bytes b2 fields ≡ below ++ placed_row at key (body_of_kind kind tail) ∷ above =
    rows_are spells ∙ map-append (row_of final) r.low (g.new ∷ r.high)
    ∙ ap₂ (λ (xs ys : List Row). xs ++ ys) (low_is ∙ r.left) (ap₂ (λ (x : Row) (xs : List Row). x ∷ xs) (ap (row_of final) r.new ∙ here) (high_is ∙ r.right)) in
    let old_inside = each_left (λ k. k < p.mirror.count) p.inner (1 ∷ []) (whole_list c.page.spells).inside.1 in
    let new_inside = each_left (λ k. k < q.mirror.count) p.inner (1 ∷ []) (whole_list t.spells).inside.1 in
    let others : map (row_of q) p.inner ≡ map (row_of p) p.inner = rows_still p h new cell q (λ k. refl) (λ k. refl) p.inner in_inner in
    let apart : AllByRecursion (λ (y : Row). y.place ≢ at) (map (row_of q) p.inner) = places_apart q t.spells.page.is h at t.new_at.within t.new_at.placed p.inner new_inside in_inner in
    record {
      page = page;
      rows = rows;
      vacant = find_none (rows_in_bytes b0 fields) at (subst (AllByRecursion (λ (y : Row). y.place ≢ at)) (others ∙ sym (rows_are c.page.spells)) apart);
      stands = subst (λ (xs : List Row). find_row at xs ≡ Some (placed_row at key (body_of_kind kind tail))) (sym rows)
          (find_among below (placed_row at key (body_of_kind kind tail)) above (subst PlacesDiffer rows (rows_differ page)));
      low = λ k w. spells.page.is.fixed.front k w ∙ sym (c.page.spells.page.is.fixed.front k w);
      high = λ k v w. spells.page.is.fixed.back k v w ∙ sym (c.page.spells.page.is.fixed.back k v w);
    }
