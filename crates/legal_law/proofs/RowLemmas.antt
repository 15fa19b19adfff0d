-- Rows that changes make are rows, and so are those that a map tells.
use Rattle.std.proofs.Common.{◌≡◌, ◌≢◌, ℕ, zero, suc, ◌+◌, ◌-◌, ◌<◌, ◌≤◌, Bool, true, false, cond, Option, Some, None, List, [], ◌∷◌, ◌++◌, map, take, length, refl, sym, ap, ◌∙◌, subst, arith}
use Rattle.std.specs.Ordering.{is_eq}
use Rattle.std.specs.List.{filter, AllByRecursion}
use Rattle.list_facts.proofs.Each.{each_append, each_weaker, each_filter}
use Rattle.key_tuple.specs.Order.{FieldList, key_cmp}
use Rattle.key_tuple.specs.KeyPlace.{KeyPlace, At, before, cut_of, looks_ahead}
use Rattle.key_tuple.specs.declared.mode.Mode.{Mode}
use Rattle.map_history.specs.Map.{Pair, Map, MapChange, Put, Set, Del, value_at, key_of, value_of, is_allowed, write, row_of, slice, after_change, after_changes, map_after}
use Rattle.map_history.specs.Operation.{Ask, Get, Make, Seek, Scan}
use Rattle.map_history.specs.Reply.{MapReply, Value, Row, Done, Absent, Duplicate, first_after, last_before, sought, or_else, value_reply, row_reply, refusal, reply_of}
use Rattle.map_history.specs.Report.{ScanPiece}
use Rattle.map_history.specs.Scans.{IsScan, ArePieces, is_below, rows_from, cut_after}
use Rattle.audit_law.specs.Verdicts.{IsKey, IsRow, TellsRow, ChangesRow}

module _ (fields : ℕ) where
  abbrev Rows : Map → Type 0
  Rows m = AllByRecursion (IsRow fields) m

  filtered : (t : Pair → Bool) (m : Map) → Rows m → Rows (filter t m)
  filtered t m rows = each_weaker (λ (x : Pair). (t x ≡ true) × IsRow fields x) (IsRow fields) (λ x h. h.1) (filter t m) (each_filter (IsRow fields) t m rows)

  written : (k : FieldList) (v : Option (List ℕ)) (m : Map) → Rows (row_of k v) → Rows m → Rows (write k v m)
  written k v m new rows =
      each_append (IsRow fields) (filter (λ (e : Pair). before (At e.key) (At k)) m ++ row_of k v) (filter (λ (e : Pair). before (At k) (At e.key)) m)
      (each_append (IsRow fields) (filter (λ (e : Pair). before (At e.key) (At k)) m) (row_of k v) (filtered _ m rows) new) (filtered _ m rows)

  new_row : (c : MapChange) → ChangesRow fields c → Rows (row_of (key_of c) (value_of c))
  new_row (Put k v) h = (h, tt)
  new_row (Set k v) h = (h, tt)
  new_row (Del k) h = tt

  changed : (m : Map) (c : MapChange) → ChangesRow fields c → Rows m → Rows (after_change m c)
  changed m c h rows = go (is_allowed m c)
    where
      go : (b : Bool) → Rows (cond b (write (key_of c) (value_of c) m) m)
      go true = written (key_of c) (value_of c) m (new_row c h) rows
      go false = rows

  after : (m : Map) (cs : List MapChange) → AllByRecursion (ChangesRow fields) cs → Rows m → Rows (after_changes m cs)
  after m [] all rows = rows
  after m (c ∷ cs) all rows = after (after_change m c) cs all.1 (changed m c all.0 rows)

  taken : (n : ℕ) (cs : List MapChange) → AllByRecursion (ChangesRow fields) cs → AllByRecursion (ChangesRow fields) (take n cs)
  taken zero cs all = tt
  taken (suc n) [] all = tt
  taken (suc n) (c ∷ cs) all = (all.0, taken n cs all.1)

  pub rows_at : (n : ℕ) (cs : List MapChange) → AllByRecursion (ChangesRow fields) cs → Rows (map_after (take n cs))
  rows_at n cs all = after [] (take n cs) (taken n cs all) tt

  -- a value that is found
  found : (k : FieldList) (m : Map) → Rows m → TellsRow fields (value_reply (value_at k m))
  found k [] rows = tt
  found k (x ∷ m) rows = go (is_eq (key_cmp k x.key)) (found k m rows.1)
    where
      go : (b : Bool) → TellsRow fields (value_reply (value_at k m)) → TellsRow fields (value_reply (cond b (Some x.value) (value_at k m)))
      go true more = rows.0.1
      go false more = more

  -- a row that is sought
  abbrev Told : Option Pair → Type 0
  Told o = TellsRow fields (row_reply o)

  first : (p : KeyPlace → Bool) (m : Map) → Rows m → Told (first_after p m)
  first p [] rows = tt
  first p (x ∷ m) rows = go (p (At x.key)) (first p m rows.1)
    where
      go : (b : Bool) → Told (first_after p m) → Told (cond b (Some x) (first_after p m))
      go true more = rows.0
      go false more = more

  last : (p : KeyPlace → Bool) (m : Map) → Rows m → Told (last_before p m)
  last p [] rows = tt
  last p (x ∷ m) rows = go (last_before p m) (p (At x.key)) (last p m rows.1)
    where
      go : (o : Option Pair) (b : Bool) → Told o → Told (or_else o (cond b None (Some x)))
      go (Some y) b more = more
      go None true more = tt
      go None false more = rows.0

  sought_row : (mode : Mode) (tuple : FieldList) (m : Map) → Rows m → Told (sought mode tuple m)
  sought_row mode tuple m rows = go (looks_ahead mode)
    where
      go : (b : Bool) → Told (cond b (first_after (cut_of mode tuple) m) (last_before (cut_of mode tuple) m))
      go true = first (cut_of mode tuple) m rows
      go false = last (cut_of mode tuple) m rows

  pub reply_row : (m : Map) (ask : Ask) → Rows m → TellsRow fields (reply_of m ask)
  reply_row m (Get k) rows = found k m rows
  reply_row m (Make c) rows = go c (is_allowed m c)
    where
      go : (c : MapChange) (b : Bool) → TellsRow fields (cond b Done (refusal c))
      go c true = tt
      go (Put k v) false = tt
      go (Set k v) false = tt
      go (Del k) false = tt
  reply_row m (Seek mode tuple) rows = sought_row mode tuple m rows
  reply_row m (Scan from to limit) rows = tt

  piece_row : (from : FieldList) (to : Option FieldList) (cs : List MapChange) (begin : KeyPlace) (piece : ScanPiece) (later : List ScanPiece) → AllByRecursion (ChangesRow fields) cs
      → piece.point ≤ length cs
      → piece.rows ≡ filter (λ (row : Pair). is_below to (At row.key)) (slice begin (cut_after from begin (map_after (take piece.point cs)) piece.rows later) (rows_from from (map_after (take piece.point cs))))
      → (piece.point ≤ length cs) × Rows piece.rows
  piece_row from to cs begin piece later all within is = (
    within,
    subst Rows (sym is) (filtered _ (slice begin (cut_after from begin (map_after (take piece.point cs)) piece.rows later) (rows_from from (map_after (take piece.point cs))))
        (filtered _ (rows_from from (map_after (take piece.point cs))) (filtered _ (map_after (take piece.point cs)) (rows_at piece.point cs all)))),
  )

  -- the rows of pieces
  pub piece_rows : (from : FieldList) (to : Option FieldList) (cs : List MapChange) (left : ℕ) (begin : KeyPlace) (pieces : List ScanPiece) → AllByRecursion (ChangesRow fields) cs
      → ArePieces from to cs left begin pieces → AllByRecursion (λ (piece : ScanPiece). (piece.point ≤ length cs) × Rows piece.rows) pieces
  piece_rows from to cs left begin [] all are = tt
  piece_rows from to cs left begin (piece ∷ []) all are = (piece_row from to cs begin piece [] all are.0 are.1, tt)
  piece_rows from to cs left begin (piece ∷ next ∷ later) all are =
      (piece_row from to cs begin piece (next ∷ later) all are.0 are.1, piece_rows from to cs (left - length piece.rows) (cut_after from begin (map_after (take piece.point cs)) piece.rows (next ∷ later)) (next ∷ later) all are.3)
