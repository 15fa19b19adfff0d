-- What a piece took: how many rows, and where they stand.
use Rattle.std.proofs.Common.{◌≡◌, inl, inr, ℕ, ◌+◌, ◌<◌, ◌≤◌, true, false, not, Option, ◌++◌, length, length-append, sym, ap, subst, ◌∙◌, arith}
use Rattle.std.proofs.lemmas.Bool.{both_ways, cases_eq}
use Rattle.std.specs.List.{AllByRecursion}
use Rattle.list_facts.proofs.Each.{each_filter, each_left, each_weaker}
use Rattle.key_tuple.specs.Order.{FieldList}
use Rattle.key_tuple.specs.KeyPlace.{KeyPlace, At, before}
use Rattle.latch_law.specs.declared.knows.Terms.{Terms}
use Rattle.latch_space.specs.Passes.{view}
use Rattle.map_history.specs.Map.{Map}
use Rattle.map_history.specs.Operation.{Ask}
use Rattle.map_history.specs.Report.{Columns}
use Rattle.index_page.specs.Rows.{Row}
use Rattle.tree_law.specs.Pages.{row_pairs}
use Rattle.tree_law.proofs.LeafLemmas.{IsRow, rows_each}
use Rattle.index_law.specs.Shape.{Shape}
use Rattle.forest_law.specs.State.{fields_for}
use Rattle.forest_world.specs.Held.{TreePass}
use Rattle.scan_law.specs.ScanPieces.{piece_with}
use Rattle.tree_cursor.specs.declared.cursor.Cursor.{Cursor}
use Rattle.tree_cursor.specs.declared.pieces.Step.{Step}
use Rattle.tree_cursor.specs.Pieces.{TellsPiece, rows_not_before}
use Rattle.tree_cursor.specs.Starts.{place_of}
use Rattle.tree_cursor.proofs.EndingLemmas.{pairs_count}
use Rattle.tree_cursor.proofs.TellLemmas.{few_taken}
use Rattle.index_scans.specs.ScanSteps.{GoesFrom, piece_of}

module _ (p : TreePass) (b i : ℕ) (ask : Ask) (to : Option FieldList) (c : Cursor)
    (place : KeyPlace) (left : ℕ) (columns : Columns) (old new : Map) (step : Step) (c' : Cursor)
    (q : TreePass) (t : TellsPiece p b i ask to c place left columns old new step c' q) where
  -- the rows that it might take have values
  values : AllByRecursion IsRow t.leaf.rows
  values = elim t.leaf.which [
    | inl here ↦ subst (AllByRecursion IsRow) (sym here.rows_are)
        (each_weaker
        (λ (x : Row). (not (before (At x.key) (place_of c)) ≡ true) × IsRow x) IsRow
        (λ x both. both.1) (rows_not_before (place_of c) t.holds.is.page.rows)
        (each_filter IsRow (λ (x : Row). not (before (At x.key) (place_of c))) t.holds.is.page.rows
        (rows_each t.holds.is.page.head.level t.holds.is.at_level t.holds.is.page.rows
        t.holds.order.bodies)))
    | inr next ↦ subst (AllByRecursion IsRow) (sym next.rows_are)
        (rows_each next.beside.is.page.head.level next.beside.is.at_level next.beside.is.page.rows
        next.beside.order.bodies)
  ]

  pairs_long : length (row_pairs t.took.taken) ≡ length t.took.taken
  pairs_long = pairs_count t.took.taken
      (each_left IsRow t.took.taken t.took.rest
      (subst (AllByRecursion IsRow) t.took.split values))

  rows_piece : t.range.piece.rows ≡ row_pairs t.took.taken
  rows_piece = ap (λ z. z.rows) t.piece

  -- the step tells how many rows the piece has, which are no more than are left
  pub count_is : step.count ≡ length t.range.piece.rows
  count_is = t.count ∙ (sym pairs_long ∙ ap length (sym rows_piece))

  pub few : length t.range.piece.rows ≤ left
  few = let most = few_taken to left (length t.took.taken) t.took.rest t.stop t.took.why in
      let is = count_is in let told = t.count in omega (arith, most, is, told)

  pub rows_behind : new ≡ old ++ t.range.piece.rows
  rows_behind = t.took.all ∙ ap (λ xs. old ++ xs) (sym rows_piece)

  pub longer : length new ≡ length old + step.count
  longer = ap length rows_behind
      ∙ (length-append old t.range.piece.rows ∙ ap (λ n. length old + n) (sym count_is))

  -- it is the piece that is put in the list
  pub piece_told : piece_with (piece_of step columns) t.range.piece.rows ≡ t.range.piece
  piece_told = λ k. record {
    point = sym (ap (λ z. z.point) t.piece) k;
    rows = t.range.piece.rows;
    columns = sym (ap (λ z. z.columns) t.piece) k;
  }

  -- where the scan goes on, rows are left, and it goes on from the cursor
  module _ (going : step.end ≡ false) where
    pub some_left : step.count < left
    some_left = elim (cases_eq step.count left) [
      | inl all ↦ absurd (both_ways step.end going (t.cause_ends (inl all)))
      | inr other ↦ (let most = few in let is = count_is in omega (arith, other, most, is))
    ]

    pub ends_at : t.range.high ≡ place_of c'
    ends_at = (t.goes_on going).ends

    pub goes_from : length c.key.tuple ≡ fields_for (view p).terms.shape i
        → c.key.room ≡ fields_for (view p).terms.shape i → GoesFrom (view q) i c'
    goes_from fields room = let on = t.goes_on going in
        let same = ap (λ (z : Terms Shape). fields_for z.shape i) (sym t.does.adds.numbers.terms) in
        record {
          referred = on.referred;
          of_index = on.of_index;
          fields = on.fields ∙ (fields ∙ same);
          room = on.room ∙ (room ∙ same);
        }
