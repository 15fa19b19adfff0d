-- A whole scan: its first piece, and those after it.
use Rattle.std.proofs.Common.{◌≡◌, ◌≢◌, inl, inr, ℕ, ◌-◌, ◌<◌, Bool, true, false, Option, None, List, [], ◌∷◌, ◌++◌, append_assoc, length, sym, ap, subst, ◌∙◌, refl, arith}
use mathlib.Core.Option.{some}
use lib.ListN.{get_elem?}
use Rattle.std.specs.List.{list_all}
use Rattle.key_tuple.specs.Order.{FieldList}
use Rattle.key_tuple.specs.KeyPlace.{KeyPlace, At, End}
use Rattle.key_tuple.proofs.PlaceLemmas.{End-before}
use Rattle.latch_space.specs.Passes.{view, count}
use Rattle.map_history.specs.Columns.{may_stand, pieces_may_stand}
use Rattle.map_history.specs.Map.{Map}
use Rattle.map_history.specs.Operation.{Scan}
use Rattle.map_history.specs.Report.{Columns}
use Rattle.map_history.specs.declared.reply.Piece.{Piece}
use Rattle.search_info.specs.declared.knows.Knows.{Knows}
use Rattle.search_info.specs.Tries.{TriesAfter}
use Rattle.index_law.specs.State.{Entries}
use Rattle.forest_world.specs.Held.{TreePass, shape_of_pass}
use Rattle.buffer_pool.specs.AsTaken.{Exception, NoException}
use Rattle.buffer_pool.specs.Forests.{IsFittedTree}
use Rattle.buffer_pool.proofs.AsTakenLemmas.{as_taken_but}
use Rattle.scan_law.specs.SaidScans.{EndsScan}
use Rattle.scan_law.specs.ScanPieces.{scan_pieces}
use Rattle.tree_cursor.specs.declared.cursor.Cursor.{Cursor}
use Rattle.tree_cursor.specs.EmptyPieces.{empty_range}
use Rattle.tree_cursor.specs.Pieces.{GivesUp}
use Rattle.tree_cursor.specs.Starts.{place_of}
use Rattle.index_seeks.specs.SeekTraces.{AreAsTakenBy}
use Rattle.index_scans.specs.declared.scan_call.FirstLeaf.{FirstLeaf}
use Rattle.index_scans.specs.FirstLeaves.{FindsFirst}
use Rattle.index_scans.specs.ScanSteps.{columns_first, columns_later, piece_of, GoesFrom, TakesFirst, TellsNone, TellsFrom, StopsLater, GoesToEnd, GoesUntil}
use Rattle.index_scans.specs.Scans.{TellsOfScan, StopsScan, TriesForScan, SaysSoFar, RunsOn, IsOfLesson}
use Rattle.index_scans.proofs.ChainLemmas.{chain_more, later_more}
use Rattle.index_scans.proofs.ColumnLemmas.{columns_in_list, first_stands, later_stands, chain_stands, pieces_stand, stands_later}
use Rattle.index_scans.proofs.ComeLemmas.{GoesSilently, ComesSilently, comes_then_none, comes_then_piece, comes_then_up, silent_weaker}
use Rattle.index_scans.proofs.FoundLemmas.{but_of, found_comes, found_taken, found_lesson}
use Rattle.index_scans.proofs.SoFarLemmas.{seen_there, so_far_but, so_far_more, so_far_none, so_far_silent}
use Rattle.index_scans.proofs.TakenLemmas.{count_is, ends_at, few, goes_from, longer, piece_told, rows_behind, some_left}
use Rattle.index_scans.proofs.ToldLemmas.{says, once, rises}

-- memory lacked for a later piece
stops_silently : (p : TreePass) (i : ℕ) (q : TreePass) → StopsLater p i q
    → GoesSilently NoException (view p) (view q)
stops_silently p i q stops = record {
  added = stops.added;
  adds = stops.adds;
  silent = stops.silent;
  spares = stops.spares;
  as_taken = as_taken_but NoException stops.added.references stops.as_taken;
}

module _ (p q : TreePass) (i : ℕ) (from : FieldList) (to : Option FieldList) (limit : ℕ)
    (leaf : FirstLeaf) (but : Exception) (comes : ComesSilently but (view p) (view q))
    (first : (zs : Entries) × (get_elem? (view p).seen i ≡ some zs)) where
  -- the piece without rows is all
  pub none_whole : (pieces : List Piece) (r : TreePass)
      → TellsNone q i from to limit leaf pieces r
      → SaysSoFar but (view p) (view r) i from to limit End pieces []
  none_whole pieces r t = subst
      (λ ps. SaysSoFar but (view p) (view r) i from to limit End ps []) (sym t.pieces_are)
      (so_far_more but (view p) i from to limit first (view p) (view r) (At from) [] []
      (so_far_none but (view p) i from to limit)
      (empty_range (At from) t.point (columns_first leaf))
      (record { point = t.point; count = 0; how = leaf.how; note = leaf.note }) []
      (comes_then_none but (view p) q r leaf.block i (Scan from to limit) (At from)
      (columns_first leaf) t.point comes t.tells)
      refl (record { in_order = End-before (At from); below = tt }) (omega arith) refl refl refl)

  -- or the first piece was told from a cursor on
  module _ (end : Bool) (pieces : List Piece) (rows : Map) (c : Cursor) (r : TreePass)
      (t : TellsFrom q i from to limit leaf end pieces rows c r) where
    abbrev high : KeyPlace
    high = t.first.tells.range.high

    pub from_whole : SaysSoFar but (view p) (view r) i from to limit high pieces rows
    from_whole =
        let ask = Scan from to limit in let columns = columns_first leaf in
        let step = t.first.step in let tells = t.first.tells in
        let no_more = few q leaf.block i ask to t.cursor (At from) limit columns [] rows step c r
        tells in
        subst (λ ps. SaysSoFar but (view p) (view r) i from to limit high ps rows)
        (sym t.first.pieces_are)
        (so_far_more but (view p) i from to limit first (view p) (view r) (At from) [] []
        (so_far_none but (view p) i from to limit) tells.range (piece_of step columns) rows
        (comes_then_piece but (view p) q r leaf.block i ask to t.cursor (At from) limit columns []
        rows step c comes tells)
        tells.low tells.is_for (omega (arith, no_more))
        (piece_told q leaf.block i ask to t.cursor (At from) limit columns [] rows step c r tells)
        (count_is q leaf.block i ask to t.cursor (At from) limit columns [] rows step c r tells)
        (rows_behind q leaf.block i ask to t.cursor (At from) limit columns [] rows step c r tells))

    rows_first : length rows ≡ t.first.step.count
    rows_first = let all = longer q leaf.block i (Scan from to limit) to t.cursor (At from) limit
        (columns_first leaf) [] rows t.first.step c r t.first.tells in omega (arith, all)

    pub from_ends : end ≡ true → EndsScan to (limit - length rows) high
    from_ends e = subst (λ n. EndsScan to (limit - n) high) (sym rows_first)
        (t.first.tells.ends (sym t.first.end_is ∙ e))

    pub from_at : end ≡ false → high ≡ place_of c
    from_at e = ends_at q leaf.block i (Scan from to limit) to t.cursor (At from) limit
        (columns_first leaf) [] rows t.first.step c r t.first.tells (sym t.first.end_is ∙ e)

-- later pieces up to the last
module _ (p s q : TreePass) (i : ℕ) (from : FieldList) (to : Option FieldList) (limit : ℕ)
    (but : Exception) (first : (zs : Entries) × (get_elem? (view p).seen i ≡ some zs)) (c : Cursor)
    (pieces : List Piece) (rows : Map)
    (so_far : SaysSoFar but (view p) (view s) i from to limit (place_of c) pieces rows)
    (pieces' : List Piece) (rows' : Map) where
  module _ (goes : GoesToEnd s i from to limit c pieces rows pieces' rows' q) where
    abbrev end_at : KeyPlace
    end_at = goes.ends.tells.range.high

    pub end_whole : SaysSoFar but (view p) (view q) i from to limit end_at pieces' rows'
    end_whole = subst (λ ps. SaysSoFar but (view p) (view q) i from to limit end_at ps rows')
        (append_assoc pieces goes.going (goes.last ∷ []) ∙ sym goes.pieces_are)
        (later_more goes.between i from to limit goes.cursor goes.so_far true goes.last rows'
        goes.after q goes.ends but (view p) first (pieces ++ goes.going)
        (chain_more i from to limit but (view p) first s c rows goes.going pieces goes.between
        goes.cursor goes.so_far so_far goes.goes))

    pub end_ends : EndsScan to (limit - length rows') end_at
    end_ends =
        let later = goes.ends in let left = limit - length goes.so_far in
        let more = longer later.between later.block i (Scan from to limit) to goes.cursor
        (place_of goes.cursor) left (columns_later later.word) goes.so_far rows' later.step
        goes.after q later.tells in
        subst (λ n. EndsScan to n end_at) (omega (arith, more))
        (later.tells.ends (sym later.end_is))

    pub end_stands : list_all stands_later (goes.going ++ goes.last ∷ []) ≡ true
    end_stands = chain_stands i from to limit s c rows goes.going goes.between goes.cursor
        goes.so_far goes.last goes.goes
        (later_stands goes.between i from to limit goes.cursor goes.so_far true goes.last rows'
        goes.after q goes.ends)

  -- or until memory lacked
  pub until_whole : (goes : GoesUntil s i from to limit c pieces rows pieces' rows' q)
      → (at : KeyPlace) × SaysSoFar but (view p) (view q) i from to limit at pieces' rows'
  until_whole goes = (
    place_of goes.cursor,
    subst (λ ps. SaysSoFar but (view p) (view q) i from to limit (place_of goes.cursor) ps rows')
        (sym goes.pieces_are)
        (so_far_silent but (view p) i from to limit first (view goes.between) (view q)
        (place_of goes.cursor) (pieces ++ goes.going) rows'
        (chain_more i from to limit but (view p) first s c rows goes.going pieces goes.between
        goes.cursor rows' so_far goes.goes)
        (silent_weaker but (view goes.between) (view q) (stops_silently goes.between i q goes.stops))),
  )

-- the whole is told
module _ (p q r : TreePass) (l m : Knows) (i : ℕ) (from : FieldList) (to : Option FieldList)
    (limit : ℕ) (leaf : FirstLeaf) (none : count p ≡ 0) (below : i < (view p).terms.indexes)
    (finds : FindsFirst p l i from leaf q m) where
  abbrev but : Exception
  but = but_of p q l m i from leaf none finds

  comes : ComesSilently but (view p) (view q)
  comes = found_comes p q l m i from leaf none finds

  there : (zs : Entries) × (get_elem? (view p).seen i ≡ some zs)
  there = seen_there p i below

  module _ (fitted : IsFittedTree (view r)) (pieces : List Piece) (rows : Map) where
    tells_so : (at : KeyPlace) → SaysSoFar but (view p) (view r) i from to limit at pieces rows
        → EndsScan to (limit - length rows) at → (one : Piece) (later : List Piece)
        → pieces ≡ one ∷ later → columns_in_list one ≡ columns_first leaf
        → list_all stands_later later ≡ true
        → TellsOfScan (view p) (view r) m i from to limit pieces rows
    unfolding once
    tells_so at so_far ended one later are columns rest =
        let stands = subst (λ ps. pieces_may_stand (scan_pieces ps rows) ≡ true) (sym are)
        (pieces_stand one later rows
        (ap may_stand columns ∙ first_stands p q l m i from leaf finds) rest) in
        let some : pieces ≢ [] = λ e. no_one one later (sym are ∙ e) in
        record {
          first = one;
          later = later;
          pieces_are = are;
          once = once but (view p) (view r) i from to limit at pieces rows so_far ended fitted
              stands some;
          rises = rises but (view p) (view r) i from to limit at pieces rows so_far ended
              fitted stands some;
          says = says but (view p) (view r) i from to limit at pieces rows so_far ended fitted
              stands some;
          counted = so_far.counted;
          as_taken = subst
              (λ h. AreAsTakenBy (shape_of_pass p) i m h so_far.added.references)
              (sym (ap (λ (z : Columns). z.how) columns))
              (found_taken p q l m i from leaf none finds so_far.added.references so_far.as_taken);
          spares = so_far.spares;
        }
      where
        no_one : (x : Piece) (xs : List Piece) → x ∷ xs ≡ [] → ⊥
        no_one x xs e = absurd cc

    -- of a scan that runs on to its end
    pub runs_told : RunsOn q i from to limit leaf pieces rows r
        → TellsOfScan (view p) (view r) m i from to limit pieces rows
    runs_told (inl (t, empty)) = tells_so End
        (subst (SaysSoFar but (view p) (view r) i from to limit End pieces) (sym empty)
        (none_whole p q i from to limit leaf but comes there pieces r t))
        (inr (inl refl))
        (record { point = t.point; count = 0; how = leaf.how; note = leaf.note }) [] t.pieces_are
        refl refl
    runs_told (inr (inl (c, t))) = tells_so t.first.tells.range.high
        (from_whole p q i from to limit leaf but comes there true pieces rows c r t)
        (from_ends p q i from to limit leaf but comes there true pieces rows c r t refl)
        (piece_of t.first.step (columns_first leaf)) [] t.first.pieces_are refl refl
    runs_told (inr (inr (c, s, firsts, so_far, t, goes))) =
        let begun = subst
        (λ at. SaysSoFar but (view p) (view s) i from to limit at firsts so_far)
        (from_at p q i from to limit leaf but comes there false firsts so_far c s t refl)
        (from_whole p q i from to limit leaf but comes there false firsts so_far c s t) in
        tells_so goes.ends.tells.range.high
        (end_whole p s r i from to limit but there c firsts so_far begun pieces rows goes)
        (end_ends p s r i from to limit but there c firsts so_far begun pieces rows goes)
        (piece_of t.first.step (columns_first leaf)) (goes.going ++ goes.last ∷ [])
        (goes.pieces_are ∙ ap (λ ps. ps ++ (goes.going ++ goes.last ∷ [])) t.first.pieces_are)
        refl
        (end_stands p s r i from to limit but there c firsts so_far begun pieces rows goes)

  -- where memory lacked, what was said is in the lists
  stops_so : (at : KeyPlace) (pieces : List Piece) (rows : Map)
      → SaysSoFar but (view p) (view r) i from to limit at pieces rows
      → StopsScan (view p) (view r) m i from to limit pieces rows
  stops_so at pieces rows so_far = record {
    at = at;
    says = so_far_but but (IsOfLesson (shape_of_pass p) i m) (view p) (view r) i from to limit at
        pieces rows (found_lesson p q l m i from leaf none finds) so_far;
  }

  pub stops_first : GivesUp q leaf.block i r
      → StopsScan (view p) (view r) m i from to limit [] []
  stops_first up = stops_so (At from) [] []
      (so_far_silent but (view p) i from to limit there (view p) (view r) (At from) [] []
      (so_far_none but (view p) i from to limit)
      (comes_then_up but (view p) q r leaf.block i comes up))

  pub stops_later : (c : Cursor) (s : TreePass) (firsts : List Piece) (so_far : Map)
      → TellsFrom q i from to limit leaf false firsts so_far c s
      → (pieces : List Piece) (rows : Map)
      → GoesUntil s i from to limit c firsts so_far pieces rows r
      → StopsScan (view p) (view r) m i from to limit pieces rows
  stops_later c s firsts so_far t pieces rows goes =
      let begun = subst
      (λ at. SaysSoFar but (view p) (view s) i from to limit at firsts so_far)
      (from_at p q i from to limit leaf but comes there false firsts so_far c s t refl)
      (from_whole p q i from to limit leaf but comes there false firsts so_far c s t) in
      let whole = until_whole p s r i from to limit but there c firsts so_far begun pieces rows goes
      in stops_so whole.0 pieces rows whole.1

-- memory lacked before anything was done
pub stops_at_once : (p : TreePass) (m : Knows) (i : ℕ) (from : FieldList) (to : Option FieldList)
    (limit : ℕ) → StopsScan (view p) (view p) m i from to limit [] []
stops_at_once p m i from to limit = record {
  at = At from;
  says = so_far_none (IsOfLesson (shape_of_pass p) i m) (view p) i from to limit;
}

-- a scan that ends with its first piece
pub runs_none : (q : TreePass) (i : ℕ) (from : FieldList) (to : Option FieldList) (limit : ℕ)
    (leaf : FirstLeaf) (pieces : List Piece) (rows : Map) (r : TreePass)
    → TakesFirst q i from to limit leaf None pieces rows r
    → RunsOn q i from to limit leaf pieces rows r
runs_none q i from to limit leaf pieces rows r (inl none) = inl none
runs_none q i from to limit leaf pieces rows r (inr one) = inr (inl one)

-- or goes on from its cursor
module _ (q : TreePass) (i : ℕ) (from : FieldList) (to : Option FieldList) (limit : ℕ)
    (leaf : FirstLeaf) (firsts : List Piece) (so_far : Map) (c : Cursor) (s : TreePass)
    (t : TellsFrom q i from to limit leaf false firsts so_far c s) where
  pub from_goes : GoesFrom (view s) i c
  from_goes = let stored = t.stored i t.first.tells.holds in
      goes_from q leaf.block i (Scan from to limit) to t.cursor (At from) limit
      (columns_first leaf) [] so_far t.first.step c s t.first.tells (sym t.first.end_is)
      stored.fields stored.room

  pub from_left : length so_far < limit
  from_left =
      let some = some_left q leaf.block i (Scan from to limit) to t.cursor (At from) limit
      (columns_first leaf) [] so_far t.first.step c s t.first.tells (sym t.first.end_is) in
      let all = longer q leaf.block i (Scan from to limit) to t.cursor (At from) limit
      (columns_first leaf) [] so_far t.first.step c s t.first.tells in
      omega (arith, some, all)

-- what was tried of the learner, by the first piece
module _ (l m : Knows) (i : ℕ) (leaf : FirstLeaf) (tried : TriesAfter l i leaf.how m) where
  pub tried_none : (q : TreePass) (from : FieldList) (to : Option FieldList) (limit : ℕ)
      (pieces : List Piece) (rows : Map) (r : TreePass)
      → TakesFirst q i from to limit leaf None pieces rows r → TriesForScan l i pieces m
  tried_none q from to limit pieces rows r (inl (t, empty)) =
      subst (λ ps. TriesForScan l i ps m) (sym t.pieces_are) tried
  tried_none q from to limit pieces rows r (inr (c, t)) =
      subst (λ ps. TriesForScan l i ps m) (sym t.first.pieces_are) tried

  pub tried_more : (q : TreePass) (from : FieldList) (to : Option FieldList) (limit : ℕ)
      (firsts : List Piece) (so_far : Map) (c : Cursor) (s : TreePass)
      → TellsFrom q i from to limit leaf false firsts so_far c s → (pieces more : List Piece)
      → pieces ≡ firsts ++ more → TriesForScan l i pieces m
  tried_more q from to limit firsts so_far c s t pieces more are =
      subst (λ ps. TriesForScan l i ps m)
      (sym (are ∙ ap (λ ps. ps ++ more) t.first.pieces_are)) tried
