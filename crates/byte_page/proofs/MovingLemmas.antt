-- Rows put behind all others of a page.
use Rattle.std.proofs.Common.{◌≡◌, ◌≢◌, ℕ, ◌+◌, ◌-◌, ◌≤◌, Bool, true, false, Option, Some, None, List, [], ◌∷◌, ◌++◌, length, nat_lt, refl, sym, ap, subst, ◌∙◌, arith, length-append, append-nil, unwrap_or}
use Rattle.std.proofs.lemmas.List.{append_assoc}
use Rattle.std.proofs.lemmas.List.Sums.{sum_by-append}
use Rattle.std.proofs.lemmas.Bool.Decides.{nat_tests}
use Rattle.std.specs.List.{AllByRecursion}
use Rattle.list_facts.proofs.Each.{each_left, each_right, each_append}
use Rattle.key_tuple.specs.Order.{FieldList}
use Rattle.key_tuple.specs.KeyPlace.{At, before}
use Rattle.compact_record.specs.declared.kind.RecordKind.{RecordKind}
use Rattle.compact_record.specs.declared.kind.RecordKind.TheVariants as kinds
use Rattle.compact_record.specs.Bytes.{u16_at}
use Rattle.compact_record.specs.Kind.{status_bits}
use Rattle.page_heap.specs.Heap.{record_from}
use Rattle.index_page.specs.declared.TheConstants.{PAGE_ROOM, MAX_CHARGE}
use Rattle.index_page.specs.declared.head.PageHead.{PageHead}
use Rattle.index_page.specs.declared.room.Gaps.{Gaps}
use Rattle.index_page.specs.Rows.{Row, placed_row, find_row, first_of_rows, last_of_rows, IsAt, SameRows}
use Rattle.index_page.specs.Page.{PageRows, IsPageInOrder, IsRowOf, HasShortValue, RowsAscend, PlacesDiffer}
use Rattle.index_page.specs.Changes.{NextIs}
use Rattle.index_page.specs.Loads.{charge_of, load_of}
use Rattle.index_page.specs.Refusals.{takes, ample_gaps, room_refusal}
use Rattle.index_page.specs.Store.{Appends}
use Rattle.index_page.proofs.RowLemmas.{each_found}
use Rattle.index_page.proofs.RoomLemmas.{charge_within}
use Rattle.index_page.proofs.PartLemmas.{suits_too}
use Rattle.index_page.proofs.LoadLemmas.{row_charge, load_of-cons}
use Rattle.index_page.proofs.AppendLemmas.{load_same, appended_order}
use Rattle.page_rows.specs.Reading.{rows_in_bytes, body_of_kind}
use Rattle.page_rows.specs.Inserting.{place_before}
use Rattle.page_rows.specs.Appending.{CanAppendRow, AppendsInBytes}
use Rattle.page_rows.proofs.SumLemmas.{charge_of_record}
use Rattle.page_rows.proofs.DifferLemmas.{rows_differ}
use Rattle.page_search.proofs.NextLemmas.{place_before_more}
use Rattle.byte_page.specs.Form.{head_in_bytes, GappedPage, form_in_bytes, IsBytePage}
use Rattle.byte_page.specs.Moving.{CanAppend, AppendsRow, CanAppendRows, AppendsRows, StaysUnless}
use Rattle.byte_page.proofs.FrontLemmas.{head_same}
use Rattle.byte_page.proofs.FormLemmas.{may_be_written}

pub some_is : (x y : Row) → Some x ≡ Some y → x ≡ y
some_is x y e = cc

-- a row's value is short, and a pointer's tail is a number
tail_short : (kind : RecordKind) (tail : List ℕ) → HasShortValue (body_of_kind kind tail) → (kind ≢ kinds.Row → length tail ≡ 4) → (length tail ≤ 2048) × (status_bits kind ≡ 1 → length tail ≡ 4)
tail_short kinds.Row tail short child = (short, λ e. absurd (omega arith))
tail_short kinds.Pointer tail short child = let four = child (λ e. cc) in (omega arith, λ e. four)
tail_short kinds.LeftmostPointer tail short child = let four = child (λ e. cc) in (omega arith, λ e. four)

-- the same row may be written behind all others
pub can_append : {bytes : List ℕ} {fields : ℕ} (form from : GappedPage) (last place size : ℕ) (kind : RecordKind) (key : FieldList) (tail : List ℕ)
    → form_in_bytes bytes fields ≡ form → IsBytePage bytes fields → CanAppend form from last place → find_row place from.page.rows ≡ Some (placed_row place key (body_of_kind kind tail))
    → IsPageInOrder from.page → (kind ≢ kinds.Row → length tail ≡ 4) → size + 1 ≡ charge_of key (body_of_kind kind tail) → CanAppendRow bytes fields last kind key tail size
can_append {bytes} {fields} form from last place size kind key tail is b c there order child charged =
    let row : Row = placed_row place key (body_of_kind kind tail) in
    let same : c.row ≡ row = some_is c.row row (sym c.there ∙ there) in
    let suits = each_found (IsRowOf from.page.head) from.page.rows place row order.each there in
    let t = tail_short kind tail suits.short child in
    let room = subst (λ (x : Row). load_of form.page.rows + charge_of x.key x.body ≤ PAGE_ROOM) same c.room in
    record {
      page = b.rows;
      tight = ap (λ (f : GappedPage). f.garbage) is ∙ c.tight;
      before_is = c.last_is ∙ ap (λ (f : GappedPage). place_before f.page.rows) (sym is);
      sound = may_be_written kind key tail suits.limits t.0 t.1;
      count = suits.fields ∙ sym c.fields ∙ ap (λ (f : GappedPage). f.page.head.fields) (sym is);
      size_is = omega (arith, charged, charge_of_record place (record_from 0 0 kind key tail));
      room = omega (arith, charged, room, ap (λ (f : GappedPage). load_of f.page.rows) is);
      small = omega (arith, charged, charge_within from.page.head row suits);
    }

-- rows that rise with one above them
ascends_one : (xs : List Row) (x : Row) → RowsAscend xs → AllByRecursion (λ (y : Row). before (At y.key) (At x.key) ≡ true) xs → RowsAscend (xs ++ x ∷ [])
ascends_one [] x a above = (tt, tt)
ascends_one (y ∷ xs) x a above = (each_append (λ (z : Row). before (At y.key) (At z.key) ≡ true) xs (x ∷ []) a.0 (above.0, tt), ascends_one xs x a.1 above.1)

-- the page with the same row behind all others
pub record IsAppended (old new : List ℕ) (fields : ℕ) (row : Row) : Type 0 where
  pub page : IsBytePage new fields
  pub rows : rows_in_bytes new fields ≡ rows_in_bytes old fields ++ row ∷ []
  pub head : head_in_bytes new fields ≡ head_in_bytes old fields
  pub tight : u16_at new 46 ≡ 0

pub is_appended : {old new : List ℕ} {fields : ℕ} (form from : GappedPage) (last place at : ℕ) (row : Row) → form_in_bytes old fields ≡ form → IsBytePage old fields → CanAppend form from last place
    → find_row place from.page.rows ≡ Some row → IsPageInOrder from.page → AppendsInBytes old new fields (placed_row at row.key row.body) → IsAppended old new fields (placed_row at row.key row.body)
is_appended {old} {new} {fields} form from last place at row is b c there order a =
    let i = a.inserts in
    let rows = rows_in_bytes old fields in
    let same : c.row ≡ row = some_is c.row row (sym c.there ∙ there) in
    let suits = suits_too from.page.head form.page.head c.level c.fields row (each_found (IsRowOf from.page.head) from.page.rows place row order.each there) in
    let head = head_same fields (record { low = i.low; high = i.high }) in
    let above = subst (λ (x : Row). AllByRecursion (λ (y : Row). before (At y.key) (At x.key) ≡ true) rows) same (subst (λ (f : GappedPage). AllByRecursion (λ (y : Row). before (At y.key) (At c.row.key) ≡ true) f.page.rows) (sym is) c.above) in
    let room = subst (λ (x : Row). load_of form.page.rows + charge_of x.key x.body ≤ PAGE_ROOM) same c.room in
    let appends : Appends rows (rows_in_bytes new fields) (row ∷ []) = record { moved = placed_row at row.key row.body ∷ []; rows = i.rows; same = (refl, refl, tt); differ = rows_differ i.page } in
    let in_order = appended_order (head_in_bytes old fields) rows (rows_in_bytes new fields) (row ∷ []) appends b.order.each (subst (λ (f : GappedPage). IsRowOf f.page.head row) (sym is) suits, tt)
    (ascends_one rows row b.order.ascend above) (omega (arith, room, ap (λ (f : GappedPage). load_of f.page.rows) is, load_of-cons row [])) b.order.prev b.order.next in
    record {
      page = record {
        rows = i.page;
        order = subst IsPageInOrder (ap (λ (h : PageHead). let q : PageRows = record { head = h; rows = rows_in_bytes new fields } in q) (sym head)) in_order;
      };
      rows = i.rows;
      head = head;
      tight = a.tight;
    }

-- how far rows of another page have come
pub record IsAppending (old now from : GappedPage) (next : Option ℕ) (last : ℕ) (others : List Row) (count : ℕ) : Type 0 where
  pub done : List Row
  pub rest : List Row
  pub moved : List Row
  pub split : others ≡ done ++ rest
  pub rows : now.page.rows ≡ old.page.rows ++ moved
  pub same : SameRows done moved
  pub head : now.page.head ≡ old.page.head
  pub tight : now.garbage ≡ 0
  pub last_is : last ≡ place_before now.page.rows
  pub next_at : IsAt from.page.rows next (first_of_rows rest)
  pub counted : length done ≡ count

-- the place of the last row, and that of infimum where there is none
pub place_told : (all rows : List Row) (o : Option ℕ) → IsAt all o (last_of_rows rows) → unwrap_or o 99 ≡ place_before rows
place_told all [] o e = ap (λ (x : Option ℕ). unwrap_or x 99) e
place_told all (x ∷ xs) o e = ap (λ (x : Option ℕ). unwrap_or x 99) e.0

pub begins : {form from : GappedPage} {first : Option ℕ} {left others : List Row} (last : ℕ) → CanAppendRows form from first left others → last ≡ place_before form.page.rows
    → IsAppending form form from first last others 0
begins {form} {others = others} last c is = record {
  done = [];
  rest = others;
  moved = [];
  split = refl;
  rows = sym (append-nil form.page.rows);
  same = tt;
  head = refl;
  tight = c.tight;
  last_is = is;
  next_at = c.first_at;
  counted = refl;
}

-- a row that is next
record IsNextRow (rows : List Row) (place : ℕ) (rest : List Row) : Type 0 where
  pub row : Row
  pub more : List Row
  pub is : rest ≡ row ∷ more
  pub place_is : row.place ≡ place
  pub there : find_row place rows ≡ Some row

next_row : (rows : List Row) (place : ℕ) (rest : List Row) → IsAt rows (Some place) (first_of_rows rest) → IsNextRow rows place rest
next_row rows place [] e = absurd cc
next_row rows place (x ∷ xs) e =
    let at : Some place ≡ Some x.place = e.0 in
    let is : place ≡ x.place = cc in
    record { row = x; more = xs; is = refl; place_is = sym is; there = subst (λ (q : ℕ). find_row q rows ≡ Some x) (sym is) e.1 }

below_last : (xs : List Row) (x : Row) (ys : List Row) → RowsAscend (xs ++ x ∷ ys) → AllByRecursion (λ (y : Row). before (At y.key) (At x.key) ≡ true) xs
below_last [] x ys a = tt
below_last (z ∷ xs) x ys a = ((each_right (λ (y : Row). before (At z.key) (At y.key) ≡ true) xs (x ∷ ys) a.0).0, below_last xs x ys a.1)

below_same : (xs ys : List Row) (x : Row) → SameRows xs ys → AllByRecursion (λ (y : Row). before (At y.key) (At x.key) ≡ true) xs → AllByRecursion (λ (y : Row). before (At y.key) (At x.key) ≡ true) ys
below_same [] [] x s a = tt
below_same [] (z ∷ ys) x s a = absurd s
below_same (z ∷ xs) [] x s a = absurd s
below_same (z ∷ xs) (w ∷ ys) x s a = (subst (λ (k : FieldList). before (At k) (At x.key) ≡ true) s.0 a.0, below_same xs ys x s.2 a.1)

pub may_append : {old now from : GappedPage} {first next : Option ℕ} {left others : List Row} {place last count : ℕ} → CanAppendRows old from first left others
    → IsAppending old now from next last others count → next ≡ Some place → CanAppend now from last place
may_append {old} {now} {from} {others = others} {place = place} c i is =
    let n = next_row from.page.rows place i.rest (subst (λ (o : Option ℕ). IsAt from.page.rows o (first_of_rows i.rest)) is i.next_at) in
    let row = n.row in
    let whole : old.page.rows ++ others ≡ (old.page.rows ++ i.done) ++ row ∷ n.more =
    ap (λ (xs : List Row). old.page.rows ++ xs) (i.split ∙ ap (λ (xs : List Row). i.done ++ xs) n.is) ∙ sym (append_assoc old.page.rows i.done (row ∷ n.more)) in
    let below = below_last (old.page.rows ++ i.done) row n.more (subst RowsAscend whole c.ascend) in
    let mine = each_left (λ (y : Row). before (At y.key) (At row.key) ≡ true) old.page.rows i.done below in
    let others_below = below_same i.done i.moved row i.same (each_right (λ (y : Row). before (At y.key) (At row.key) ≡ true) old.page.rows i.done below) in
    let loads : load_of others ≡ load_of i.done + (row_charge row + load_of n.more) =
    ap load_of (i.split ∙ ap (λ (xs : List Row). i.done ++ xs) n.is) ∙ sum_by-append row_charge i.done (row ∷ n.more) ∙ ap (λ (k : ℕ). load_of i.done + k) (load_of-cons row n.more) in
    record {
      row = row;
      there = n.there;
      last_is = i.last_is;
      level = ap (λ (h : PageHead). h.level) i.head ∙ c.level;
      fields = ap (λ (h : PageHead). h.fields) i.head ∙ c.fields;
      above = subst (AllByRecursion (λ (y : Row). before (At y.key) (At row.key) ≡ true)) (sym i.rows)
          (each_append (λ (y : Row). before (At y.key) (At row.key) ≡ true) old.page.rows i.moved mine others_below);
      room = omega (arith, c.room, loads, ap load_of i.rows, sum_by-append row_charge old.page.rows i.moved, load_same i.done i.moved i.same);
      tight = i.tight;
    }

-- rows cut at one place are cut alike
pub cut_alike : (xs ys : List Row) (x y : Row) (r s : List Row) → PlacesDiffer (xs ++ x ∷ r) → xs ++ x ∷ r ≡ ys ++ y ∷ s → x.place ≡ y.place → r ≡ s
cut_alike [] [] x y r s d e p = cc
cut_alike [] (b ∷ ys) x y r s d e p =
    let head : x ≡ b = cc in
    let tail : r ≡ ys ++ y ∷ s = cc in
    absurd ((each_right (λ (z : Row). z.place ≢ x.place) ys (y ∷ s) (subst (AllByRecursion (λ (z : Row). z.place ≢ x.place)) tail d.0)).0 (sym p))
cut_alike (a ∷ xs) [] x y r s d e p =
    let head : a ≡ y = cc in
    absurd ((each_right (λ (z : Row). z.place ≢ a.place) xs (x ∷ r) d.0).0 (p ∙ ap (λ (z : Row). z.place) (sym head)))
cut_alike (a ∷ xs) (b ∷ ys) x y r s d e p =
    let tail : xs ++ x ∷ r ≡ ys ++ y ∷ s = cc in
    cut_alike xs ys x y r s d.1 tail p

same_more : (xs ys : List Row) (x : Row) (at : ℕ) → SameRows xs ys → SameRows (xs ++ x ∷ []) (ys ++ placed_row at x.key x.body ∷ [])
same_more [] [] x at s = (refl, refl, tt)
same_more [] (z ∷ ys) x at s = absurd s
same_more (z ∷ xs) [] x at s = absurd s
same_more (z ∷ xs) (w ∷ ys) x at s = (s.0, s.1, same_more xs ys x at s.2)

pub goes_on : {old now new from : GappedPage} {first here : Option ℕ} {left others : List Row} {place last count : ℕ} (next : Option ℕ) (at : ℕ) → CanAppendRows old from first left others
    → IsAppending old now from here last others count → here ≡ Some place → IsPageInOrder from.page → ((row : Row) → find_row place from.page.rows ≡ Some row → AppendsRow now new row at)
    → NextIs from.page.rows place next → IsAppending old new from next at others (count + 1)
goes_on {old} {now} {new} {from} {left = left} {others = others} {place = place} next at c i is order appends n =
    let r = next_row from.page.rows place i.rest (subst (λ (o : Option ℕ). IsAt from.page.rows o (first_of_rows i.rest)) is i.next_at) in
    let row = r.row in
    let a = appends row r.there in
    let split : others ≡ (i.done ++ row ∷ []) ++ r.more = i.split ∙ ap (λ (xs : List Row). i.done ++ xs) r.is ∙ sym (append_assoc i.done (row ∷ []) r.more) in
    let whole : from.page.rows ≡ (left ++ i.done) ++ row ∷ r.more =
    c.split ∙ ap (λ (xs : List Row). left ++ xs) (i.split ∙ ap (λ (xs : List Row). i.done ++ xs) r.is) ∙ sym (append_assoc left i.done (row ∷ r.more)) in
    let rest : r.more ≡ n.right = cut_alike (left ++ i.done) n.left row n.row r.more n.right (subst PlacesDiffer whole order.places) (sym whole ∙ n.split) (r.place_is ∙ sym n.place_is) in
    record {
      done = i.done ++ row ∷ [];
      rest = r.more;
      moved = i.moved ++ placed_row at row.key row.body ∷ [];
      split = split;
      rows = a.rows ∙ ap (λ (xs : List Row). xs ++ placed_row at row.key row.body ∷ []) i.rows ∙ append_assoc old.page.rows i.moved (placed_row at row.key row.body ∷ []);
      same = same_more i.done i.moved row at i.same;
      head = a.head ∙ i.head;
      tight = a.tight;
      last_is = sym (ap place_before a.rows ∙ place_before_more now.page.rows (placed_row at row.key row.body));
      next_at = subst (λ (xs : List Row). IsAt from.page.rows next (first_of_rows xs)) (sym rest) n.next_at;
      counted = omega (arith, length-append i.done (row ∷ []), i.counted);
    }

all_done : {old now from : GappedPage} {next : Option ℕ} {last : ℕ} {others : List Row} {count : ℕ} → (i : IsAppending old now from next last others count) → i.rest ≡ [] → AppendsRows old now others
all_done {others = others} i none = record {
  moved = i.moved;
  rows = i.rows;
  same = subst (λ (xs : List Row). SameRows xs i.moved) (sym (i.split ∙ ap (λ (xs : List Row). i.done ++ xs) none ∙ append-nil i.done)) i.same;
  head = i.head;
  tight = i.tight;
}

none_next : (rows rest : List Row) → IsAt rows None (first_of_rows rest) → rest ≡ []
none_next rows [] e = refl
none_next rows (x ∷ xs) e = let at : None ≡ Some x.place = e.0 in absurd cc

pub ends_none : {old now from : GappedPage} {next : Option ℕ} {last : ℕ} {others : List Row} {count : ℕ} → IsAppending old now from next last others count → next ≡ None
    → AppendsRows old now others
ends_none {from = from} i is = all_done i (none_next from.page.rows i.rest (subst (λ (o : Option ℕ). IsAt from.page.rows o (first_of_rows i.rest)) is i.next_at))

no_rows : (xs : List Row) → length xs ≡ 0 → xs ≡ []
no_rows [] e = refl
no_rows (x ∷ xs) e = absurd (omega arith)

pub ends_all : {old now from : GappedPage} {first next : Option ℕ} {last : ℕ} {left others : List Row} {count : ℕ} → CanAppendRows old from first left others
    → IsAppending old now from next last others count → length from.page.rows ≤ count → AppendsRows old now others
ends_all {left = left} {others = others} c i full =
    all_done i (no_rows i.rest (omega (arith, full, i.counted, ap length c.split, length-append left others, ap length i.split, length-append i.done i.rest)))

-- where a gap takes the row, the gaps refuse none
pub same_refusal : (free need : ℕ) (g : Gaps) → (need ≤ free → takes g (need - 1) ≡ true) → need ≤ MAX_CHARGE → room_refusal need free g ≡ room_refusal need free ample_gaps
same_refusal free need g fits most = go (nat_lt free need) refl
  where
    not_less : nat_lt free need ≡ false → need ≤ free
    not_less e = grind (arith, nat_tests)

    ample : takes ample_gaps (need - 1) ≡ true
    ample = grind (arith, nat_tests)

    go : (b : Bool) → nat_lt free need ≡ b → room_refusal need free g ≡ room_refusal need free ample_gaps
    go true e = rw e refl
    go false e =
        let here = fits (not_less e) in
        let there = ample in
        rw (e, here, there) refl

-- the rows of the page as it was may come to the page without rows
pub all_may_come : (old kept cleared : GappedPage) (first : Option ℕ) → IsPageInOrder old.page → kept ≡ old → cleared.page.rows ≡ [] → cleared.page.head ≡ old.page.head → cleared.garbage ≡ 0
    → IsAt kept.page.rows first (first_of_rows kept.page.rows) → CanAppendRows cleared kept first [] old.page.rows
all_may_come old kept cleared first order same none head tight at =
    let rows : kept.page.rows ≡ old.page.rows = ap (λ (f : GappedPage). f.page.rows) same in
    let load : load_of cleared.page.rows ≡ 0 = ap load_of none in
    record {
      split = rows;
      first_at = subst (λ (xs : List Row). IsAt kept.page.rows first (first_of_rows xs)) rows at;
      level = ap (λ (h : PageHead). h.level) head ∙ sym (ap (λ (f : GappedPage). f.page.head.level) same);
      fields = ap (λ (h : PageHead). h.fields) head ∙ sym (ap (λ (f : GappedPage). f.page.head.fields) same);
      ascend = subst (λ (xs : List Row). RowsAscend (xs ++ old.page.rows)) (sym none) order.ascend;
      room = omega (arith, order.fits, load);
      tight = tight;
    }

above_same : (k : FieldList) (xs ys : List Row) → SameRows xs ys → AllByRecursion (λ (z : Row). before (At k) (At z.key) ≡ true) xs → AllByRecursion (λ (z : Row). before (At k) (At z.key) ≡ true) ys
above_same k [] [] s a = tt
above_same k [] (y ∷ ys) s a = absurd s
above_same k (x ∷ xs) [] s a = absurd s
above_same k (x ∷ xs) (y ∷ ys) s a = (subst (λ (j : FieldList). before (At k) (At j) ≡ true) s.0 a.0, above_same k xs ys s.2 a.1)

ascends_replaced : (xs ys zs : List Row) → SameRows xs ys → RowsAscend (xs ++ zs) → RowsAscend (ys ++ zs)
ascends_replaced [] [] zs s a = a
ascends_replaced [] (y ∷ ys) zs s a = absurd s
ascends_replaced (x ∷ xs) [] zs s a = absurd s
ascends_replaced (x ∷ xs) (y ∷ ys) zs s a =
    let low = above_same x.key xs ys s.2 (each_left (λ (z : Row). before (At x.key) (At z.key) ≡ true) xs zs a.0) in
    let high = each_right (λ (z : Row). before (At x.key) (At z.key) ≡ true) xs zs a.0 in (
      subst (λ (k : FieldList). AllByRecursion (λ (z : Row). before (At k) (At z.key) ≡ true) (ys ++ zs)) s.0
          (each_append (λ (z : Row). before (At x.key) (At z.key) ≡ true) ys zs low high),
      ascends_replaced xs ys zs s.2 a.1,
    )

-- what stays of a page that may have got new places
pub record IsAgain (old new : PageRows) (others : List Row) : Type 0 where
  pub head : new.head ≡ old.head
  pub load : load_of new.rows ≡ load_of old.rows
  pub ascend : RowsAscend (new.rows ++ others)

pub is_again : (again : Bool) (old new : PageRows) (others : List Row) → StaysUnless again old new → RowsAscend (old.rows ++ others) → IsAgain old new others
is_again true old new others r a = record { head = r.head; load = sym (load_same old.rows new.rows r.same); ascend = ascends_replaced old.rows new.rows others r.same a }
is_again false old new others e a = record {
  head = ap (λ (p : PageRows). p.head) e;
  load = ap (λ (p : PageRows). load_of p.rows) e;
  ascend = subst (λ (p : PageRows). RowsAscend (p.rows ++ others)) (sym e) a;
}

pub all_may_go : (from old to : GappedPage) (again : Bool) (first : Option ℕ) → StaysUnless again old.page to.page → to.garbage ≡ 0 → old.page.head.level ≡ from.page.head.level → old.page.head.fields ≡ from.page.head.fields
    → RowsAscend (old.page.rows ++ from.page.rows) → load_of old.page.rows + load_of from.page.rows ≤ PAGE_ROOM → IsAt from.page.rows first (first_of_rows from.page.rows) → CanAppendRows to from first [] from.page.rows
all_may_go from old to again first stays tight level fields ascend fits at =
    let r = is_again again old.page to.page from.page.rows stays ascend in
    record {
      split = refl;
      first_at = at;
      level = ap (λ (h : PageHead). h.level) r.head ∙ level;
      fields = ap (λ (h : PageHead). h.fields) r.head ∙ fields;
      ascend = r.ascend;
      room = omega (arith, fits, r.load);
      tight = tight;
    }
