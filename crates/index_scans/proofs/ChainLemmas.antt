-- Pieces one after another: what a later one says, and what they say together.
use Rattle.std.proofs.Common.{◌≡◌, inl, inr, ℕ, ◌-◌, false, Bool, Option, List, [], ◌∷◌, ◌++◌, append_assoc, append-nil, length, sym, subst, ◌∙◌, refl}
use mathlib.Core.Option.{some}
use lib.ListN.{get_elem?}
use Rattle.key_tuple.specs.Order.{FieldList}
use Rattle.key_tuple.specs.declared.mode.Mode.TheVariants.{Ge}
use Rattle.latch_law.specs.declared.knows.Reference.{Reference}
use Rattle.latch_space.specs.Passes.{view, count}
use Rattle.map_history.specs.Map.{Map}
use Rattle.map_history.specs.Operation.{Scan}
use Rattle.map_history.specs.declared.columns.How.{How}
use Rattle.map_history.specs.declared.reply.Piece.{Piece}
use Rattle.index_law.specs.State.{Entries}
use Rattle.forest_law.specs.declared.objects.Object.{Object}
use Rattle.forest_world.specs.Held.{TreePass}
use Rattle.call_law.specs.Spoken.{View}
use Rattle.buffer_pool.specs.AsTaken.{Exception, IsAsTaken, NoException}
use Rattle.buffer_pool.specs.Tries.{tries_alone}
use Rattle.buffer_pool.proofs.AddedLemmas.{none_added, held_adds, none_spares}
use Rattle.buffer_pool.proofs.AsTakenLemmas.{as_taken_but, held_in}
use Rattle.tree_descent.specs.declared.descending.Leaf.{Leaf}
use Rattle.tree_descent.specs.Descents.{Descends}
use Rattle.tree_cursor.specs.declared.cursor.Cursor.{Cursor}
use Rattle.tree_cursor.specs.Starts.{place_of}
use Rattle.index_scans.specs.ScanSteps.{columns_later, piece_of, FindsAgain, TellsLater, GoesOnBy}
use Rattle.index_scans.specs.Scans.{SaysSoFar}
use Rattle.index_scans.proofs.ComeLemmas.{GoesSilently, ComesSilently, SaysOne, silent_both, comes_then_piece, hand_by_rest, one_weaker}
use Rattle.index_scans.proofs.SoFarLemmas.{so_far_more}
use Rattle.index_scans.proofs.TakenLemmas.{count_is, few, rows_behind, piece_told, ends_at}

-- nothing was done
pub none_silent : (but : Exception) (v : View) → GoesSilently but v v
none_silent but v = record {
  added = none_added;
  adds = held_adds v v v.held refl;
  silent = refl;
  spares = none_spares v.terms.shape;
  as_taken = tt;
}

-- a way down, by a pass with nothing in hand
pub down_comes : (p q : TreePass) (i : ℕ) (tuple : FieldList) (way : Leaf) → count p ≡ 0
    → Descends p i Ge tuple way q → ComesSilently NoException (view p) (view q)
down_comes p q i tuple way none went = record {
  way = record {
    added = went.silently.added;
    adds = went.silently.does.adds;
    silent = went.silently.silent;
    spares = went.silently.does.spares;
    as_taken = as_taken_but NoException went.silently.added.references went.as_taken;
  };
  hand = λ r held. inl (by_rest r held);
}
  where
    by_rest : (r : Reference Object) → held_in (view q) r → IsAsTaken r.taken r.released
    by_rest r held = hand_by_rest p q way.block none went.silently.does.adds.numbers
        went.silently.does.rest went.held_as_taken r held

-- the leaf of a later piece was found again
pub again_comes : (p q : TreePass) (i : ℕ) (c : Cursor) (b : ℕ) (word : How) → count p ≡ 0
    → FindsAgain p i c b word q → ComesSilently NoException (view p) (view q)
again_comes p q i c b word none (inl clock) = record {
  way = record {
    added = tries_alone [];
    adds = clock.restored.2.does.adds;
    silent = refl;
    spares = clock.restored.2.does.spares;
    as_taken = tt;
  };
  hand = λ r held. inl (hand_by_rest p q c.block none clock.restored.2.does.adds.numbers
      clock.restored.2.does.rest clock.restored.2.held_as_taken r held);
}
again_comes p q i c b word none (inr search) =
    let first = search.restored.0.got in let s = search.between in
    let comes = down_comes s q i c.key.tuple search.way (first.count ∙ none) search.went in
    record {
      way = silent_both NoException (view p) (view s) (view q)
          (record {
            added = first.silently.added;
            adds = first.silently.does.adds;
            silent = first.silently.silent;
            spares = first.silently.does.spares;
            as_taken = as_taken_but NoException first.silently.added.references
                search.restored.0.as_taken;
          })
          comes.way;
      hand = comes.hand;
    }

module _ (p : TreePass) (i : ℕ) (from : FieldList) (to : Option FieldList) (limit : ℕ) (c : Cursor)
    (rows : Map) (end : Bool) (piece : Piece) (rows' : Map) (c' : Cursor) (q : TreePass)
    (later : TellsLater p i from to limit c rows end piece rows' c' q) where
  -- a later piece says its range, and nothing else
  pub later_one : SaysOne NoException (view p) (view q) i (Scan from to limit) later.tells.range
  later_one = comes_then_piece NoException (view p) later.between q later.block i
      (Scan from to limit) to c (place_of c) (limit - length rows) (columns_later later.word) rows
      rows' later.step c'
      (again_comes p later.between i c later.block later.word later.nothing later.finds)
      later.tells

  -- and stands behind what was said before
  module _ (but : Exception) (v : View) (first : (zs : Entries) × (get_elem? v.seen i ≡ some zs))
      (pieces : List Piece)
      (so_far : SaysSoFar but v (view p) i from to limit (place_of c) pieces rows) where
    pub later_more : SaysSoFar but v (view q) i from to limit later.tells.range.high
        (pieces ++ piece ∷ []) rows'
    later_more =
        let columns = columns_later later.word in let left = limit - length rows in
        let ask = Scan from to limit in
        subst (λ x. SaysSoFar but v (view q) i from to limit later.tells.range.high
        (pieces ++ x ∷ []) rows') (sym later.piece_is)
        (so_far_more but v i from to limit first (view p) (view q) (place_of c) pieces rows so_far
        later.tells.range (piece_of later.step columns) rows'
        (one_weaker but (view p) (view q) i ask later.tells.range later_one) later.tells.low
        later.tells.is_for
        (few later.between later.block i ask to c (place_of c) left columns rows rows' later.step c'
        q later.tells)
        (piece_told later.between later.block i ask to c (place_of c) left columns rows rows'
        later.step c' q later.tells)
        (count_is later.between later.block i ask to c (place_of c) left columns rows rows'
        later.step c' q later.tells)
        (rows_behind later.between later.block i ask to c (place_of c) left columns rows rows'
        later.step c' q later.tells))

-- where the scan goes on, it does so from where the range ends
pub later_at : (p : TreePass) (i : ℕ) (from : FieldList) (to : Option FieldList) (limit : ℕ)
    (c : Cursor) (rows : Map) (piece : Piece) (rows' : Map) (c' : Cursor) (q : TreePass)
    → (later : TellsLater p i from to limit c rows false piece rows' c' q)
    → later.tells.range.high ≡ place_of c'
later_at p i from to limit c rows piece rows' c' q later =
    ends_at later.between later.block i (Scan from to limit) to c (place_of c)
    (limit - length rows) (columns_later later.word) rows rows' later.step c' q later.tells
    (sym later.end_is)

-- so do all that go on
pub chain_more : (i : ℕ) (from : FieldList) (to : Option FieldList) (limit : ℕ) (but : Exception)
    (v : View) (first : (zs : Entries) × (get_elem? v.seen i ≡ some zs)) (p : TreePass) (c : Cursor)
    (rows : Map) (going pieces : List Piece) (q : TreePass) (d : Cursor) (rows' : Map)
    → SaysSoFar but v (view p) i from to limit (place_of c) pieces rows
    → GoesOnBy i from to limit p c rows going q d rows'
    → SaysSoFar but v (view q) i from to limit (place_of d) (pieces ++ going) rows'
chain_more i from to limit but v first p c rows [] pieces q d rows' so_far goes =
    subst (λ ps. SaysSoFar but v (view q) i from to limit (place_of d) ps rows')
    (sym (append-nil pieces))
    (subst (λ m. SaysSoFar but v (view q) i from to limit (place_of d) pieces m) goes.2
    (subst (λ e. SaysSoFar but v (view q) i from to limit (place_of e) pieces rows) goes.1
    (subst (λ r. SaysSoFar but v (view r) i from to limit (place_of c) pieces rows) goes.0 so_far)))
chain_more i from to limit but v first p c rows (piece ∷ going) pieces q d rows' so_far
    (s, e, between, later, rest) =
    subst (λ ps. SaysSoFar but v (view q) i from to limit (place_of d) ps rows')
    (append_assoc pieces (piece ∷ []) going)
    (chain_more i from to limit but v first s e between going (pieces ++ piece ∷ []) q d rows'
    (subst (λ z. SaysSoFar but v (view s) i from to limit z (pieces ++ piece ∷ []) between)
    (later_at p i from to limit c rows piece between e s later)
    (later_more p i from to limit c rows false piece between e s later but v first pieces so_far))
    rest)

-- and one more goes on from the last
pub goes_snoc : (i : ℕ) (from : FieldList) (to : Option FieldList) (limit : ℕ) (p : TreePass)
    (c : Cursor) (rows : Map) (going : List Piece) (q : TreePass) (d : Cursor) (rows' : Map)
    (piece : Piece) (r : TreePass) (e : Cursor) (rows'' : Map)
    → GoesOnBy i from to limit p c rows going q d rows'
    → TellsLater q i from to limit d rows' false piece rows'' e r
    → GoesOnBy i from to limit p c rows (going ++ piece ∷ []) r e rows''
goes_snoc i from to limit p c rows [] q d rows' piece r e rows'' goes later = (
  r,
  e,
  rows'',
  subst (λ m. TellsLater p i from to limit c m false piece rows'' e r) (sym goes.2)
      (subst (λ k. TellsLater p i from to limit k rows' false piece rows'' e r) (sym goes.1)
      (subst (λ x. TellsLater x i from to limit d rows' false piece rows'' e r) (sym goes.0)
      later)),
  (refl, refl, refl),
)
goes_snoc i from to limit p c rows (x ∷ going) q d rows' piece r e rows''
    (s, f, between, first, rest) later = (
      s,
      f,
      between,
      first,
      goes_snoc i from to limit s f between going q d rows' piece r e rows'' rest later,
    )
