-- The later pieces of a scan, one after another.
use Rattle.std.proofs.Common.{◌≡◌, ℕ, ◌-◌, ◌<◌, true, false, Option, List, [], ◌∷◌, ◌++◌, append_assoc, append-nil, length, sym, ap, subst, ◌∙◌, refl, arith}
use Rattle.key_tuple.specs.Order.{FieldList}
use Rattle.latch_law.specs.declared.knows.Terms.{Terms}
use Rattle.latch_space.specs.Passes.{view, count}
use Rattle.map_history.specs.Map.{Map}
use Rattle.map_history.specs.Operation.{Scan}
use Rattle.map_history.specs.Report.{Columns}
use Rattle.map_history.specs.declared.columns.How.{How}
use Rattle.map_history.specs.declared.reply.Piece.{Piece}
use Rattle.index_law.specs.Shape.{Shape}
use Rattle.forest_law.specs.State.{fields_for}
use Rattle.forest_world.specs.Held.{TreePass}
use Rattle.buffer_pool.specs.AsTaken.{NoException}
use Rattle.buffer_pool.proofs.AsTakenLemmas.{none_but}
use Rattle.tree_cursor.specs.declared.cursor.Cursor.{Cursor}
use Rattle.tree_cursor.specs.declared.pieces.Step.{Step}
use Rattle.tree_cursor.specs.Pieces.{GivesUp, TellsPiece}
use Rattle.tree_cursor.specs.Starts.{place_of}
use Rattle.key_tuple.specs.KeyPlace.{KeyPlace}
use Rattle.index_scans.specs.ScanSteps.{columns_later, GoesFrom, FindsAgain, TellsLater, TakesLater, StopsLater, GoesOnBy, GoesToEnd, GoesUntil}
use Rattle.index_scans.proofs.ChainLemmas.{again_comes, goes_snoc, none_silent}
use Rattle.index_scans.proofs.ComeLemmas.{GoesSilently, comes_then_up}
use Rattle.index_scans.proofs.TakenLemmas.{goes_from, longer, some_left}

-- pieces that go on were put behind the others
pub record GoesSoFar (p : TreePass) (i : ℕ) (from : FieldList) (to : Option FieldList) (limit : ℕ)
    (c : Cursor) (pieces : List Piece) (rows : Map) (pieces' : List Piece) (q : TreePass)
    (d : Cursor) (rows' : Map) : Type 0 where
  pub going : List Piece
  pub are : pieces' ≡ pieces ++ going
  pub goes : GoesOnBy i from to limit p c rows going q d rows'

-- what was done without a word, with nothing in hand
silent_stops : (p : TreePass) (i : ℕ) (q : TreePass) → GoesSilently NoException (view p) (view q)
    → StopsLater p i q
silent_stops p i q goes = record {
  added = goes.added;
  adds = goes.adds;
  silent = goes.silent;
  spares = goes.spares;
  as_taken = none_but goes.added.references goes.as_taken;
}

pub stops_none : (p : TreePass) (i : ℕ) → StopsLater p i p
stops_none p i = silent_stops p i p (none_silent NoException (view p))

pub stops_up : (p r q : TreePass) (i : ℕ) (c : Cursor) (b : ℕ) (word : How) → count p ≡ 0
    → FindsAgain p i c b word r → GivesUp r b i q → StopsLater p i q
stops_up p r q i c b word none finds up = silent_stops p i q
    (comes_then_up NoException (view p) r q b i (again_comes p r i c b word none finds) up)

-- what a piece's call tells of the scan that it is about
pub tells_about : (p : TreePass) (b : ℕ) (c : Cursor) (place : KeyPlace) (old new : Map)
    (step : Step) (c' : Cursor) (q : TreePass) (i j : ℕ) (from from' : FieldList)
    (to to' : Option FieldList) (limit limit' left left' : ℕ) (columns columns' : Columns) → i ≡ j
    → from ≡ from' → to ≡ to' → limit ≡ limit' → left ≡ left' → columns ≡ columns'
    → TellsPiece p b i (Scan from to limit) to c place left columns old new step c' q
    → TellsPiece p b j (Scan from' to' limit') to' c place left' columns' old new step c' q
tells_about p b c place old new step c' q i j from from' to to' limit limit' left left' columns
    columns' ei ef et el en ec t =
    subst (λ x. TellsPiece p b j (Scan from' to' limit') to' c place left' x old new step c' q) ec
    (subst (λ x. TellsPiece p b j (Scan from' to' limit') to' c place x columns old new step c' q) en
    (subst (λ x. TellsPiece p b j (Scan from' to' x) to' c place left columns old new step c' q) el
    (subst (λ x. TellsPiece p b j (Scan from' x limit) x c place left columns old new step c' q) et
    (subst (λ x. TellsPiece p b j (Scan x to limit) to c place left columns old new step c' q) ef
    (subst (λ x. TellsPiece p b x (Scan from to limit) to c place left columns old new step c' q) ei
    t)))))

module _ (p : TreePass) (i : ℕ) (from : FieldList) (to : Option FieldList) (limit : ℕ) (c : Cursor)
    (pieces : List Piece) (rows : Map) (s : TreePass) (d : Cursor) (pieces' : List Piece)
    (rows' : Map) (so_far : GoesSoFar p i from to limit c pieces rows pieces' s d rows') where
  -- a piece more goes on
  module _ (pieces'' : List Piece) (rows'' : Map) (e : Cursor) (q : TreePass)
      (takes : TakesLater s i from to limit d pieces' rows' false pieces'' rows'' e q)
      (goes : GoesFrom (view s) i d) where
    pub one_more : GoesSoFar p i from to limit c pieces rows pieces'' q e rows''
    one_more = record {
      going = so_far.going ++ takes.piece ∷ [];
      are = takes.pieces_are ∙ (ap (λ ps. ps ++ takes.piece ∷ []) so_far.are
          ∙ append_assoc pieces so_far.going (takes.piece ∷ []));
      goes = goes_snoc i from to limit p c rows so_far.going s d rows' takes.piece q e rows''
          so_far.goes takes.later;
    }

    abbrev later : TellsLater s i from to limit d rows' false takes.piece rows'' e q
    later = takes.later

    then_adds : (view later.between).terms ≡ (view s).terms
    then_adds = (again_comes s later.between i d later.block later.word later.nothing
        later.finds).way.adds.numbers.terms

    pub from_then : GoesFrom (view q) i e
    from_then =
        let same = ap (λ (z : Terms Shape). fields_for z.shape i) (sym then_adds) in
        goes_from later.between later.block i (Scan from to limit) to d (place_of d)
        (limit - length rows') (columns_later later.word) rows' rows'' later.step e q later.tells
        (sym later.end_is) (goes.fields ∙ same) (goes.room ∙ same)

    pub left_then : length rows'' < limit
    left_then =
        let some = some_left later.between later.block i (Scan from to limit) to d (place_of d)
        (limit - length rows') (columns_later later.word) rows' rows'' later.step e q later.tells
        (sym later.end_is) in
        let long = longer later.between later.block i (Scan from to limit) to d (place_of d)
        (limit - length rows') (columns_later later.word) rows' rows'' later.step e q later.tells in
        omega (arith, some, long)

  -- a piece more ends the scan
  pub last_one : (pieces'' : List Piece) (rows'' : Map) (e : Cursor) (q : TreePass)
      → TakesLater s i from to limit d pieces' rows' true pieces'' rows'' e q
      → GoesToEnd p i from to limit c pieces rows pieces'' rows'' q
  last_one pieces'' rows'' e q takes = record {
    going = so_far.going;
    between = s;
    cursor = d;
    so_far = rows';
    goes = so_far.goes;
    last = takes.piece;
    after = e;
    ends = takes.later;
    pieces_are = takes.pieces_are ∙ (ap (λ ps. ps ++ takes.piece ∷ []) so_far.are
        ∙ append_assoc pieces so_far.going (takes.piece ∷ []));
  }

  -- memory lacked
  pub until_then : (q : TreePass) → StopsLater s i q
      → GoesUntil p i from to limit c pieces rows pieces' rows' q
  until_then q stops = record {
    going = so_far.going;
    between = s;
    cursor = d;
    goes = so_far.goes;
    stops = stops;
    pieces_are = so_far.are;
  }

-- before the first of them
pub goes_none : (p : TreePass) (i : ℕ) (from : FieldList) (to : Option FieldList) (limit : ℕ)
    (c : Cursor) (pieces : List Piece) (rows : Map)
    → GoesSoFar p i from to limit c pieces rows pieces p c rows
goes_none p i from to limit c pieces rows =
    record { going = []; are = sym (append-nil pieces); goes = (refl, refl, refl) }
