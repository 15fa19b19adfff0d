-- The way down to a leaf, on which pages are split.
use Rattle.std.specs.Prelude.{ℕ, ◌≡◌, ◌≢◌, ◌<◌, ◌+◌, ◌≤◌, false, List, [], ◌∷◌, length}
use Rattle.std.specs.List.{AllByRecursion}
use Rattle.key_tuple.specs.Order.{FieldList}
use Rattle.latch_law.specs.declared.knows.Holding.{Holding}
use Rattle.latch_law.specs.Rule.{Holds}
use Rattle.latch_space.specs.Has.{IsKnown}
use Rattle.latch_space.specs.Passes.{view, count}
use Rattle.index_law.specs.Answers.{Where}
use Rattle.forest_law.specs.declared.objects.Object.{Object}
use Rattle.forest_law.specs.declared.objects.Pool.{Pool}
use Rattle.forest_law.specs.declared.objects.Tree.{Tree}
use Rattle.forest_law.specs.Numbers.{tree_id, frame_id}
use Rattle.forest_law.specs.State.{fields_for}
use Rattle.forest_world.specs.Held.{TreePass, shape_of_pass}
use Rattle.call_law.specs.Hands.{KnowsTree}
use Rattle.call_law.specs.Spoken.{View, spoken}
use Rattle.call_law.specs.Trace.{Added, Adds, AreGivenAt, fulls}
use Rattle.buffer_pool.specs.declared.error.PoolError.{PoolError}
use Rattle.buffer_pool.specs.declared.error.PoolError.TheVariants.{SpaceFull, NoMemory}
use Rattle.buffer_pool.specs.NewPages.{HasNoneFree, HeldPool}
use Rattle.tree_growth.specs.declared.looking.PageInHand.{PageInHand}
use Rattle.tree_growth.specs.Growing.{HadRoom}
use Rattle.tree_growth.specs.Pages.{HasRoomForAny, IsPageInHand, HoldsChild, HoldsBothHalves}

-- the pass holds nothing but the index's tree and the frames of these blocks
abbrev pub HoldsOnly : View → ℕ → List ℕ → Type 0
HoldsOnly v i bs = (k : ℕ) (h : Holding Object) → Holds v k h → k ≢ tree_id i
    → AllByRecursion (λ (b : ℕ). k ≢ frame_id v.terms.shape b) bs → ⊥

-- the pass goes down an index for a key: it holds the index's tree and nothing else but the frames
-- of these blocks, and each is what it is known to be
pub record IsGoingDown (p : TreePass) (i : ℕ) (key : FieldList) (bs : List ℕ) : Type 0 where
  pub index : i < (shape_of_pass p).indexes
  pub few : (shape_of_pass p).pages ≤ 65536
  pub fields : length key ≡ fields_for (shape_of_pass p) i
  pub tree : Tree
  pub knows : KnowsTree (view p) i tree
  pub only : HoldsOnly (view p) i bs
  pub known : IsKnown p
  pub count : count p ≡ length bs + 1

-- the pass knows what it knew, and this besides, and has said nothing
pub record GoesOn (p q : TreePass) : Type 0 where
  pub added : Added
  pub adds : Adds (view p) (view q) added
  pub silent : added.said ≡ []

-- the pass has said at the list of the index that no page number was free in the pool, as it was
-- held, once
pub record SaysFull (p : TreePass) (i : ℕ) (q : TreePass) : Type 0 where
  pub added : Added
  pub adds : Adds (view p) (view q) added
  pub given : AreGivenAt i (view p).low added.said
  pub silent : spoken added.said ≡ []
  pub places : List Where
  pub full : fulls added.said ≡ places ∷ []
  pub pool : Pool
  pub held : HeldPool added pool
  pub none : HasNoneFree pool

-- what was said before the error
abbrev pub SaysError : TreePass → ℕ → PoolError → TreePass → Type 0
SaysError p i SpaceFull q = SaysFull p i q
SaysError p i NoMemory q = GoesOn p q

-- the pass stopped on its way by this error, with the index's tree alone in hand
pub record StopsOnWay (p : TreePass) (i : ℕ) (key : FieldList) (error : PoolError)
    (q : TreePass) : Type 0 where
  pub says : SaysError p i error q
  pub way : IsGoingDown q i key []

-- the pass has come to this page, which alone is in hand beside the index's tree
pub record ArrivesAt (p : TreePass) (i : ℕ) (key : FieldList) (need : ℕ) (at : PageInHand)
    (q : TreePass) : Type 0 where
  pub goes : GoesOn p q
  pub way : IsGoingDown q i key (at.block ∷ [])
  pub is : IsPageInHand (view q) i key need at

-- the pass has come to this page, which isn't full
pub record ArrivesWithRoom (p : TreePass) (i : ℕ) (key : FieldList) (need : ℕ) (at : PageInHand)
    (q : TreePass) : Type 0 where
  pub reaches : ArrivesAt p i key need at q
  pub fits : at.is_full ≡ false

-- the pass went down to the leaf of the key, which had room, and gave that back too
pub record WalksDown (p : TreePass) (i : ℕ) (key : FieldList) (need : ℕ) (q : TreePass)
    : Type 0 where
  pub goes : GoesOn p q
  pub way : IsGoingDown q i key []
  pub room : HadRoom (shape_of_pass p) i key need goes.added

-- the child, or the half of it that has the key, is in hand, on the child's level, and isn't full
pub record GrowsChild (p : TreePass) (parent child i : ℕ) (key : FieldList) (need : ℕ)
    (at : PageInHand) (q : TreePass) : Type 0 where
  pub reaches : ArrivesAt p i key need at q
  pub level : (held : HoldsChild (view p) parent child i key) → at.level ≡ held.level
  pub fits : at.is_full ≡ false

-- the half that has the key is in hand, and it isn't full where both have room for any row
pub record KeepsHalf (p : TreePass) (left right i : ℕ) (key : FieldList) (need : ℕ)
    (at : PageInHand) (q : TreePass) : Type 0 where
  pub reaches : ArrivesAt p i key need at q
  pub level : (halves : HoldsBothHalves (view p) left right i key) → at.level ≡ halves.level
  pub room : (halves : HoldsBothHalves (view p) left right i key)
      → HasRoomForAny halves.is_lower.page → HasRoomForAny halves.is_upper.page
      → at.is_full ≡ false
