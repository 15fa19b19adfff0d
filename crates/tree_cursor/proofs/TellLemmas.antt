-- A piece is told of a leaf in hand: what was read of it, what was taken, and what is said of that.
use Rattle.std.proofs.Common.{◌≡◌, ℕ, ◌+◌, ◌-◌, ◌<◌, ◌≤◌, true, Option, Some, None, Result, Ok, Err, List, length, drop, sym, ap, subst, ◌∙◌, refl, arith, length-append, IfOk, OnErr}
use Rattle.std.proofs.Math.Seq.{drop-append_seam}
use Rattle.std.specs.List.{AllByRecursion}
use Rattle.list_facts.proofs.Each.{each_left, each_right, each_weaker}
use Rattle.key_tuple.specs.declared.error.NoMemory.{NoMemory}
use Rattle.key_tuple.specs.Order.{FieldList}
use Rattle.key_tuple.specs.KeyPlace.{KeyPlace}
use Rattle.latch_law.specs.Fitting.{DidRead}
use Rattle.latch_space.specs.Has.{IsKnown, SameHands}
use Rattle.latch_space.specs.Passes.{view}
use Rattle.map_history.specs.Map.{Map}
use Rattle.map_history.specs.Operation.{Ask}
use Rattle.map_history.specs.Report.{Columns}
use Rattle.index_page.specs.Page.{PageRows, IsRowOf}
use Rattle.index_page.specs.Rows.{Row, first_of_rows, IsAt}
use Rattle.tree_law.specs.Pages.{row_pairs}
use Rattle.tree_law.proofs.LeafLemmas.{IsRow, rows_each}
use Rattle.index_law.specs.Answers.{Piece}
use Rattle.index_law.specs.Rightness.{IsRight}
use Rattle.forest_law.specs.declared.objects.Frame.{Frame}
use Rattle.forest_law.specs.Law.{IsLawful}
use Rattle.forest_law.specs.References.{IsReference}
use Rattle.forest_world.specs.Held.{TreePass, HasFrame}
use Rattle.buffer_pool.specs.Frames.{GivesFrame}
use Rattle.tree_descent.specs.Ways.{HoldsPage}
use Rattle.page_view.specs.declared.taking.Stop.{Stop}
use Rattle.page_view.specs.declared.taking.Stop.TheVariants.{AtLimit, AtTo, AtPageEnd}
use Rattle.page_view.specs.Taking.{rows_from_place, StopsAt}
use Rattle.page_view.proofs.TakingLemmas.{ends_with}
use Rattle.tree_cursor.specs.declared.cursor.Cursor.{Cursor}
use Rattle.tree_cursor.specs.declared.filling.Ending.{Ending}
use Rattle.tree_cursor.specs.declared.filling.Ending.TheVariants.{Full, Past, Onward}
use Rattle.tree_cursor.specs.declared.pieces.Step.{Step}
use Rattle.tree_cursor.specs.Fills.{Fills}
use Rattle.tree_cursor.specs.MapRows.{AreMapRows}
use Rattle.tree_cursor.specs.Telling.{MayTell, end_of, is_end, TellsLeaf, TellsAndGives, GivesBoth, TellsAndGivesBoth}
use Rattle.tree_cursor.proofs.EndingLemmas.{pairs_count, piece_reaches}
use Rattle.tree_cursor.proofs.ReadLemmas.{found_is, found_paged}

-- no more rows are taken than are left
pub few_taken : (to : Option FieldList) (left n : ℕ) (rest : List Row) (stop : Stop)
    → StopsAt to left n rest stop → n ≤ left
few_taken to left n rest AtLimit why = omega (arith, why)
few_taken to left n rest AtTo why = let fewer = why.0 in omega (arith, fewer)
few_taken to left n rest AtPageEnd why = let fewer = why.0 in omega (arith, fewer)

-- an ending that doesn't go on ends the scan
pub not_onward : (ending : Ending) → (ending ≡ Onward → ⊥) → is_end ending ≡ true
not_onward Full other = refl
not_onward Past other = refl
not_onward Onward other = absurd (other refl)

module _ (p : TreePass) (known : IsKnown p) (b i : ℕ) (found : Frame)
    (reads : (f g : Frame) → HasFrame p b f g → found ≡ g) (start : Option ℕ)
    (to : Option FieldList) (left : ℕ) (old new : Map) (ending : Ending) (c c' : Cursor)
    (ok : (page : PageRows) → found.page ≡ Some page
    → Fills found page b start to left old new ending c c') where
  pub fills_at : (h : HoldsPage (view p) b i 0)
      → Fills h.frame h.is.page b start to left old new ending c c'
  fills_at h = subst (λ (f : Frame). Fills f h.is.page b start to left old new ending c c')
      (found_is p known b i h found reads) (ok h.is.page (found_paged p known b i h found reads))

  abbrev pub taken_at : HoldsPage (view p) b i 0 → List Row
  taken_at h = (fills_at h).took.taken

  taken_values : (h : HoldsPage (view p) b i 0) → AllByRecursion IsRow (taken_at h)
  taken_values h =
      let fills = fills_at h in let s = ends_with start h.is.page.rows in
      let rows = rows_from_place start h.is.page.rows in
      let suits = each_right (IsRowOf h.is.page.head) s.0 rows
      (subst (AllByRecursion (IsRowOf h.is.page.head)) s.1 fills.order.each) in
      each_left IsRow fills.took.taken fills.took.rest
      (subst (AllByRecursion IsRow) fills.took.split
      (rows_each h.is.page.head.level h.is.at_level rows
      (each_weaker (IsRowOf h.is.page.head) _ (λ x of. of.body) rows suits)))

  -- the new rows are those behind the old ones
  pub dropped : (h : HoldsPage (view p) b i 0) → drop (length old) new ≡ row_pairs (taken_at h)
  dropped h = ap (drop (length old)) (fills_at h).took.all
      ∙ drop-append_seam old (row_pairs (taken_at h))

  pub counted : (h : HoldsPage (view p) b i 0) → length new ≡ length old + length (taken_at h)
  counted h =
      let all = ap length (fills_at h).took.all in
      let both = length-append old (row_pairs (taken_at h)) in
      let pairs = pairs_count (taken_at h) (taken_values h) in
      omega (arith, all, both, pairs)

  pub few : (h : HoldsPage (view p) b i 0) → length new ≤ length old + left
  few h =
      let fills = fills_at h in
      let count = counted h in
      let most = few_taken to left (length fills.took.taken) fills.took.rest fills.stop
      fills.took.why in
      omega (arith, count, most)

  -- they are the map's up to where the piece ends
  pub told_rows : (low : KeyPlace) → (may : MayTell (view p) b i start low c) → 0 < left
      → AreMapRows (view p) i low (end_of to low (drop (length old) new) c' ending)
      (drop (length old) new)
  told_rows low may some_left =
      let h = may.holds in let fills = fills_at h in
      subst (λ m. AreMapRows (view p) i low (end_of to low m c' ending) m) (sym (dropped h))
      (piece_reaches (view p) b i h start low fills.order may.map_rows may.later may.high to left
      old new ending c c' fills some_left).map_rows

  -- and this is told of them
  pub tells_leaf : (h : HoldsPage (view p) b i 0) (low : KeyPlace) (ask : Ask) (columns : Columns)
      (step : Step) (q : TreePass) → step.count ≡ length new - length old
      → step.end ≡ is_end ending
      → DidRead IsLawful IsRight IsReference (view p) i
      (Piece ask low (end_of to low (drop (length old) new) c' ending) (drop (length old) new) None
      columns) step.point (view q)
      → SameHands p q
      → TellsLeaf p b i h start low ask to left columns old new step c c' q
  tells_leaf h low ask columns step q count end_is did kept = record {
    ending = ending;
    fills = fills_at h;
    count = (let all = counted h in omega (arith, count, all));
    end_is = end_is;
    did = subst
        (λ m. DidRead IsLawful IsRight IsReference (view p) i
        (Piece ask low (end_of to low m c' ending) m None columns) step.point (view q)) (dropped h)
        did;
    kept = kept;
  }

-- the leaf went back behind the piece
pub gives_if : (result : Result Step NoMemory) (p : TreePass) (b i : ℕ) (start : Option ℕ)
    (low : KeyPlace) (ask : Ask) (to : Option FieldList) (left : ℕ) (columns : Columns)
    (old new : Map) (c c' : Cursor) (r q : TreePass)
    → IfOk result (λ step. (h : HoldsPage (view p) b i 0)
    → TellsLeaf p b i h start low ask to left columns old new step c c' r)
    → GivesFrame r b q
    → IfOk result (λ step. TellsAndGives p b i start low ask to left columns old new step c c' q)
gives_if (Ok step) p b i start low ask to left columns old new c c' r q tells gave = record {
  between = r;
  tells = tells;
  gave = gave;
}
gives_if (Err e) p b i start low ask to left columns old new c c' r q tells gave = tt

-- so did both leaves
pub gives_both_if : (result : Result Step NoMemory) (p : TreePass) (b m i : ℕ) (start : Option ℕ)
    (low : KeyPlace) (ask : Ask) (to : Option FieldList) (left : ℕ) (columns : Columns)
    (old new : Map) (c c' : Cursor) (r q : TreePass)
    → IfOk result (λ step. (h : HoldsPage (view p) m i 0)
    → TellsLeaf p m i h start low ask to left columns old new step c c' r)
    → ((h : HoldsPage (view p) m i 0) → IsAt h.is.page.rows start (first_of_rows h.is.page.rows))
    → GivesBoth r b m q
    → IfOk result (λ step. TellsAndGivesBoth p b m i low ask to left columns old new step c c' q)
gives_both_if (Ok step) p b m i start low ask to left columns old new c c' r q tells first gave =
    record { start = start; first = first; between = r; tells = tells; gave = gave }
gives_both_if (Err e) p b m i start low ask to left columns old new c c' r q tells first gave = tt

-- where memory lacked, they went back at once
pub both_back : (result : Result Step NoMemory) (p : TreePass) (b m : ℕ) (r q : TreePass)
    → OnErr result (r ≡ p) → GivesBoth r b m q → OnErr result (GivesBoth p b m q)
both_back (Ok step) p b m r q same gave = tt
both_back (Err e) p b m r q same gave = subst (λ z. GivesBoth z b m q) same gave
