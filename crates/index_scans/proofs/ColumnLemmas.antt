-- The columns of a scan's pieces may stand.
use Rattle.std.proofs.Common.{◌≡◌, inl, inr, ℕ, ◌&&◌, Bool, true, false, Option, List, [], ◌∷◌, ◌++◌, drop, ap, ap₂, ◌∙◌, refl}
use Rattle.std.specs.List.{list_all}
use Rattle.key_tuple.specs.Order.{FieldList}
use Rattle.map_history.specs.Columns.{may_stand, may_stand_later, pieces_may_stand}
use Rattle.map_history.specs.Map.{Map}
use Rattle.map_history.specs.Report.{Columns, ScanPiece}
use Rattle.map_history.specs.declared.columns.How.{How}
use Rattle.map_history.specs.declared.reply.Piece.{Piece}
use Rattle.search_info.specs.declared.knows.Knows.{Knows}
use Rattle.forest_world.specs.Held.{TreePass}
use Rattle.leaf_search.specs.Downs.{figures_at}
use Rattle.leaf_search.proofs.SearchLemmas.{hit_stands}
use Rattle.index_seeks.proofs.SeekLearnLemmas.{way_stands}
use Rattle.scan_law.specs.ScanPieces.{scan_pieces}
use Rattle.tree_cursor.specs.declared.cursor.Cursor.{Cursor}
use Rattle.tree_cursor.specs.declared.cursor.Stale.{Stale}
use Rattle.tree_cursor.specs.declared.cursor.Stale.TheVariants.{Busy, Moved, Last}
use Rattle.index_scans.specs.declared.scan_call.FirstLeaf.{FirstLeaf}
use Rattle.index_scans.specs.FirstLeaves.{FindsFirst}
use Rattle.index_scans.specs.ScanSteps.{columns_first, columns_later, how_of_stale, FindsAgain, TellsLater, GoesOnBy}

-- the columns of a piece in the list
abbrev pub columns_in_list : Piece → Columns
columns_in_list p = record { how = p.how; note = p.note }

-- those of the first piece
pub first_stands : (p q : TreePass) (l m : Knows) (i : ℕ) (from : FieldList) (leaf : FirstLeaf)
    → FindsFirst p l i from leaf q m → may_stand (columns_first leaf) ≡ true
first_stands p q l m i from leaf (inl hit) =
    ap₂ (λ h n. may_stand (record { how = h; note = n })) hit.how_is hit.note_is
    ∙ hit_stands hit.learn
first_stands p q l m i from leaf (inr way) =
    ap (λ h. may_stand (record { how = h; note = leaf.note })) way.how_is
    ∙ way_stands way.down.between q way.read m i way.way.block (figures_at way.way.spot) leaf.note
    way.down.taught way.cause

-- those of a later one
stale_stands : (cause : Stale) → may_stand_later (columns_later (how_of_stale cause)) ≡ true
stale_stands (Busy n) = refl
stale_stands (Moved kept found) = refl
stale_stands Last = refl

again_stands : (p q : TreePass) (i : ℕ) (c : Cursor) (b : ℕ) (word : How)
    → FindsAgain p i c b word q → may_stand_later (columns_later word) ≡ true
again_stands p q i c b word (inl clock) =
    ap (λ h. may_stand_later (columns_later h)) clock.how_is
again_stands p q i c b word (inr search) =
    ap (λ h. may_stand_later (columns_later h)) search.how_is ∙ stale_stands search.cause

abbrev pub stands_later : Piece → Bool
stands_later p = may_stand_later (columns_in_list p)

pub later_stands : (p : TreePass) (i : ℕ) (from : FieldList) (to : Option FieldList) (limit : ℕ)
    (c : Cursor) (rows : Map) (end : Bool) (piece : Piece) (rows' : Map) (c' : Cursor)
    (q : TreePass) → TellsLater p i from to limit c rows end piece rows' c' q
    → stands_later piece ≡ true
later_stands p i from to limit c rows end piece rows' c' q later =
    ap stands_later later.piece_is
    ∙ again_stands p later.between i c later.block later.word later.finds

and_both : (a b : Bool) → a ≡ true → b ≡ true → (a && b) ≡ true
and_both a b one two = ap₂ (λ x y. x && y) one two

pub chain_stands : (i : ℕ) (from : FieldList) (to : Option FieldList) (limit : ℕ) (p : TreePass)
    (c : Cursor) (rows : Map) (going : List Piece) (q : TreePass) (d : Cursor) (rows' : Map)
    (last : Piece) → GoesOnBy i from to limit p c rows going q d rows' → stands_later last ≡ true
    → list_all stands_later (going ++ last ∷ []) ≡ true
chain_stands i from to limit p c rows [] q d rows' last goes stands =
    and_both (stands_later last) true stands refl
chain_stands i from to limit p c rows (piece ∷ going) q d rows' last
    (s, e, between, later, rest) stands =
    and_both (stands_later piece) (list_all stands_later (going ++ last ∷ []))
    (later_stands p i from to limit c rows false piece between e s later)
    (chain_stands i from to limit s e between going q d rows' last rest stands)

-- so those of the pieces with their rows
rows_stand : (ps : List Piece) (rows : Map) → list_all stands_later ps ≡ true
    → list_all (λ (x : ScanPiece). may_stand_later x.columns) (scan_pieces ps rows) ≡ true
rows_stand [] rows all = refl
rows_stand (p ∷ ps) rows all =
    let both = and_parts (stands_later p) (list_all stands_later ps) all in
    and_both (stands_later p)
    (list_all (λ (x : ScanPiece). may_stand_later x.columns) (scan_pieces ps (drop p.count rows)))
    both.0 (rows_stand ps (drop p.count rows) both.1)
  where
    and_parts : (a b : Bool) → (a && b) ≡ true → (a ≡ true) × (b ≡ true)
    and_parts true b e = (refl, e)
    and_parts false b e = absurd cc

pub pieces_stand : (first : Piece) (later : List Piece) (rows : Map)
    → may_stand (columns_in_list first) ≡ true → list_all stands_later later ≡ true
    → pieces_may_stand (scan_pieces (first ∷ later) rows) ≡ true
pieces_stand first later rows one rest =
    and_both (may_stand (columns_in_list first))
    (list_all (λ (x : ScanPiece). may_stand_later x.columns)
    (scan_pieces later (drop first.count rows)))
    one (rows_stand later (drop first.count rows) rest)
