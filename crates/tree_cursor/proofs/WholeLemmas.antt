-- What a whole call tells of its piece, or where memory lacked.
use Rattle.std.proofs.Common.{◌≡◌, ◌⊎◌, ℕ, ◌<◌, Option, Some, None, Result, Ok, Err, List, [], ◌∷◌, sym, ap, subst, ◌∙◌, refl, IfOk, OnErr, IsSome}
use Rattle.key_tuple.specs.declared.error.NoMemory.{NoMemory}
use Rattle.key_tuple.specs.Order.{FieldList}
use Rattle.key_tuple.specs.KeyPlace.{KeyPlace}
use Rattle.latch_space.specs.Has.{IsKnown}
use Rattle.latch_space.specs.Passes.{view}
use Rattle.map_history.specs.Map.{Map}
use Rattle.map_history.specs.Operation.{Ask}
use Rattle.map_history.specs.Report.{Columns}
use Rattle.index_page.specs.Page.{PageRows, PlacesDiffer}
use Rattle.index_page.specs.Rows.{Row, first_of_rows, IsAt}
use Rattle.index_page.proofs.RowLemmas.{find_among}
use Rattle.forest_world.specs.Held.{TreePass}
use Rattle.buffer_pool.specs.Forests.{IsFittedTree}
use Rattle.buffer_pool.specs.Frames.{GivesFrame}
use Rattle.engine_law.proofs.KnownLemmas.{one_frame, same_page}
use Rattle.page_view.proofs.TakingLemmas.{from_place}
use Rattle.tree_neighbours.specs.declared.side.Side.TheVariants.{Right}
use Rattle.tree_neighbours.specs.LeafHands.{HoldsLeavesAlone}
use Rattle.tree_neighbours.specs.Neighbours.{TakesBeside, IsLastOn}
use Rattle.tree_neighbours.proofs.HandLemmas.{beside_keeps}
use Rattle.tree_cursor.specs.declared.cursor.Cursor.{Cursor}
use Rattle.tree_cursor.specs.declared.pieces.Step.{Step}
use Rattle.tree_cursor.specs.Pieces.{HoldsStand, TellsPiece, GivesUp}
use Rattle.tree_cursor.specs.Starts.{place_of, BeginsAt}
use Rattle.tree_cursor.specs.Telling.{MayTellNext, TellsAndGives, GivesBoth, TellsAndGivesBoth}
use Rattle.tree_cursor.proofs.NextLemmas.{tell_next, may_tell_next, next_leaf, tells_next, gives_both_up}
use Rattle.tree_cursor.proofs.PieceLemmas.{tells_held, gives_up}

-- the leaf in hand is the last one
pub last_here : (p : TreePass) (b i : ℕ) (c : Cursor) (low : KeyPlace)
    (stand : HoldsStand (view p) b i c low) (q : TreePass) (last : IsLastOn p b i Right q)
    → stand.holds.is.page.head.next ≡ None
last_here p b i c low stand q last =
    let one = one_frame (view p) b last.holds.frame stand.holds.frame last.holds.knows
    stand.holds.knows in
    ap (λ (x : PageRows). x.head.next)
    (sym (same_page stand.holds.frame last.holds.frame stand.holds.is.page last.holds.is.page one
    stand.holds.is.paged last.holds.is.paged))
    ∙ last.last

module _ (p : TreePass) (b i : ℕ) (c : Cursor) (low : KeyPlace) (start : Option ℕ)
    (stand : HoldsStand (view p) b i c low)
    (begins : BeginsAt stand.holds.is.page.rows (place_of c) start)
    (only : HoldsLeavesAlone p (b ∷ [])) where
  -- of the leaf in hand
  pub held_if : (result : Result Step NoMemory) (ask : Ask) (to : Option FieldList) (left : ℕ)
      (columns : Columns) (old new : Map) (c' : Cursor) (s q : TreePass) → s ≡ p
      → IsFittedTree (view p) → 0 < left
      → IsSome start ⊎ (stand.holds.is.page.head.next ≡ None)
      → IfOk result (λ step. TellsAndGives s b i start low ask to left columns old new step c c' q)
      → IfOk result (λ step. TellsPiece p b i ask to c low left columns old new step c' q)
  held_if (Ok step) ask to left columns old new c' s q same fitted some_left why tells =
      tells_held p b i c low start stand begins only fitted ask to left columns old new step c' q
      some_left why
      (subst (λ z. TellsAndGives z b i start low ask to left columns old new step c c' q) same tells)
  held_if (Err e) ask to left columns old new c' s q same fitted some_left why tells = tt

  pub held_up_if : (result : Result Step NoMemory) (s q : TreePass) → s ≡ p
      → OnErr result (GivesFrame s b q) → OnErr result (GivesUp p b i q)
  held_up_if (Ok step) s q same gave = tt
  held_up_if (Err e) s q same gave = gives_up p q b i only stand.holds
      (subst (λ z. GivesFrame z b q) same gave)

-- the first of some rows stands at a place
first_there : (rows : List Row) → PlacesDiffer rows
    → (start : Option ℕ) × IsAt rows start (first_of_rows rows)
first_there [] differ = (None, refl)
first_there (x ∷ rows) differ = (Some x.place, (refl, find_among [] x rows differ))

-- of the one behind it
module _ (p : TreePass) (b i : ℕ) (c : Cursor) (low : KeyPlace)
    (stand : HoldsStand (view p) b i c low)
    (begins : BeginsAt stand.holds.is.page.rows (place_of c) None) (m : ℕ) (s : TreePass)
    (took : TakesBeside p b i Right m s) (known : IsKnown s) (fitted : IsFittedTree (view s)) where
  abbrev next : MayTellNext (view s) b m i low c
  next = may_tell_next p b i c low stand begins m s took fitted

  pub next_if : (result : Result Step NoMemory) (ask : Ask) (to : Option FieldList) (left : ℕ)
      (columns : Columns) (old new : Map) (c' : Cursor) (q : TreePass) → 0 < left
      → IfOk result (λ step. TellsAndGivesBoth s b m i low ask to left columns old new step c c' q)
      → IfOk result (λ step. TellsPiece p b i ask to c low left columns old new step c' q)
  unfolding tell_next
  next_if (Ok step) ask to left columns old new c' q some_left t =
      let may = tell_next (view s) b m i low c t.start next (t.first next.holds) in
      tells_next p s b m i c low stand.holds took.silently took.none took.lacked
      (beside_keeps p b i Right m s took stand.holds) took.beside.other t.start may
      (from_place [] next.holds.is.page.rows t.start next.holds.order.places (t.first next.holds))
      (next_leaf p b i c low stand begins m s took fitted) known took.held_as_taken fitted ask to left
      columns old new
      step c' t.between q some_left (t.tells next.holds) t.gave
  next_if (Err e) ask to left columns old new c' q some_left t = tt

  pub next_up_if : (result : Result Step NoMemory) (q : TreePass)
      → OnErr result (GivesBoth s b m q) → OnErr result (GivesUp p b i q)
  unfolding tell_next
  next_up_if (Ok step) q gave = tt
  next_up_if (Err e) q gave =
      let at = first_there next.holds.is.page.rows next.holds.order.places in
      let may = tell_next (view s) b m i low c at.0 next at.1 in
      gives_both_up p s b m i c low stand.holds took.silently took.none took.lacked
      (beside_keeps p b i Right m s took stand.holds) took.beside.other at.0 may
      (from_place [] next.holds.is.page.rows at.0 next.holds.order.places at.1)
      (next_leaf p b i c low stand begins m s took fitted) known took.held_as_taken q gave
