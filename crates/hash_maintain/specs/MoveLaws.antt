-- Rows that move between two frames in hand: what keeps their partition exact of both, and the hash.
use Rattle.std.specs.Prelude.{ℕ, ◌≡◌, ◌≢◌, ◌<◌, ◌⊎◌, Option, Some, List, [], ◌∷◌}
use Rattle.key_tuple.specs.declared.mode.Params.{Params}
use Rattle.index_page.specs.Page.{PageRows}
use Rattle.chain_arena.specs.declared.node.Node.{Node}
use Rattle.hash_partition.specs.Part.{Part}
use Rattle.hash_law.specs.Blocks.{part_for, IsTidy}
use Rattle.hash_upkeep.specs.declared.moves.Move.{Move}
use Rattle.hash_upkeep.specs.declared.upkeep.Upkeep.{Upkeep}
use Rattle.hash_upkeep.specs.Laws.{AreBothExact}
use Rattle.hash_upkeep.specs.Moves.{AreBothCovered}
use Rattle.index_law.specs.Shape.{Shape}
use Rattle.forest_law.specs.declared.objects.Frame.{Frame}
use Rattle.forest_law.specs.Counted.{SuitsHash}
use Rattle.forest_law.specs.Numbers.{frames_of}
use Rattle.forest_law.specs.Hashed.{hash_block}
use Rattle.forest_law.specs.HashStays.{HasNoRows}
use Rattle.forest_law.specs.HashSteps.{KeepsHashing}
use Rattle.forest_world.specs.Held.{TreePass, shape_of_pass, HasFrame, HasPart}
use Rattle.forest_world.specs.HashHands.{IsHashedIn, HashRestsBeyond, HandKeepsHash}
use Rattle.hash_maintain.specs.Moves.{KeepsUpBoth, MovedSinceExact, MovesInHand, first_hashed, move_in}
use Rattle.hash_maintain.specs.Upkeep.{IsExactIn}

-- the frame has this page, of the index, with keys of so many fields
pub record HasPageOf (index fields : ℕ) (f : Frame) (page : PageRows) : Type 0 where
  pub page_is : f.page ≡ Some page
  pub index_is : page.head.index ≡ index
  pub fields_are : page.head.fields ≡ fields

-- rows moved from the page of the frame f, which is x now, to that of the frame g, which is y now. All
-- pages are of one index with keys of as many fields, the frames are hashed as they were, the rows
-- stay on their level, the page that took them had none or the other has none, and nodes of both blocks
-- that are exact, where the block that took the rows is hashed as it was, have the folds of their rows
pub record MovesRows (index fields : ℕ) (f x g y : Frame) : Type 0 where
  pub from : PageRows
  pub left : PageRows
  pub to : PageRows
  pub got : PageRows
  pub from_is : HasPageOf index fields f from
  pub left_is : HasPageOf index fields x left
  pub to_is : HasPageOf index fields g to
  pub got_is : HasPageOf index fields y got
  pub gave : KeepsHashing f x
  pub took : KeepsHashing g y
  pub level : got.head.level ≡ from.head.level
  pub leaf : (i : ℕ) → g.hashed ≡ Some i → got.head.level ≡ 0
  pub empty : (to.rows ≡ []) ⊎ (left.rows ≡ [])
  pub covered : (m : Move) (nodes : List Node) → m.to_built ≡ g.figures.built
      → AreBothExact m from to nodes → AreBothCovered m left got nodes

-- a frame is tidy; it was hashed with these parameters, if it was, for no index but this one, and is
-- hashed in no partition but that of the index
pub record StaysTidyIn (shape : Shape) (index : ℕ) (built : Option Params)
    (old new : Frame) : Type 0 where
  pub was_for : (i : ℕ) → old.hashed ≡ Some i → i ≡ index
  pub was_built : old.figures.built ≡ built
  pub is_in : IsHashedIn shape (part_for shape.parts index) new
  pub tidy : IsTidy (hash_block new)

-- the block's frame is in hand so
pub record HoldsTidyIn (p : TreePass) (index : ℕ) (built : Option Params) (b : ℕ)
    (old new : Frame) : Type 0 where
  pub below : b < frames_of (shape_of_pass p)
  pub frame : HasFrame p b old new
  pub stays : StaysTidyIn (shape_of_pass p) index built old new

-- the page that took rows had none, or that which gave them has none
abbrev pub OneIsEmpty : (gave_new took_old : Frame) → Type 0
OneIsEmpty gave_new took_old = HasNoRows took_old.page ⊎ HasNoRows gave_new.page

-- the partition of the index and both frames of the move are in hand, the partition exact of both
-- blocks now and of others with the nodes that it is known to have, and the hash rests beyond
pub record HasMoved (p : TreePass) (m : Move) : Type 0 where
  pub known : Part
  pub now : Part
  pub gave_old : Frame
  pub gave_new : Frame
  pub took_old : Frame
  pub took_new : Frame
  pub part : HasPart p (part_for (shape_of_pass p).parts m.index) known now
  pub apart : m.from ≢ m.to
  pub gave : HoldsTidyIn p m.index m.from_built m.from gave_old gave_new
  pub took : HoldsTidyIn p m.index m.to_built m.to took_old took_new
  pub empty : OneIsEmpty gave_new took_old
  pub bits : m.bits ≡ (shape_of_pass p).fold_bits
  pub keeps : KeepsUpBoth m gave_new took_new known now
  pub beyond : HashRestsBeyond p (part_for (shape_of_pass p).parts m.index ∷ [])
      (m.from ∷ m.to ∷ [])

-- once rows moved between two tidy frames of whose blocks a partition is exact, `move_between` may keep
-- up with them, which leaves both frames tidy; and then the hash is kept
pub record MovesKeepTheHash : Type 0 where
  pub ready : (p : TreePass) (index fields a b : ℕ) (f x g y : Frame) → SuitsHash (shape_of_pass p)
      → MovesRows index fields f x g y → IsTidy (hash_block f) → IsTidy (hash_block g) → a ≢ b
      → (i : ℕ) → first_hashed x y ≡ Some i
      → IsExactIn p (part_for (shape_of_pass p).parts i) a f
      → IsExactIn p (part_for (shape_of_pass p).parts i) b g
      → MovedSinceExact p (part_for (shape_of_pass p).parts i) (move_in p i a b x y) x y
  pub stay : (p q : TreePass) (index fields a b : ℕ) (f x g y x' y' : Frame) (answer : Upkeep)
      → MovesRows index fields f x g y → IsTidy (hash_block f) → IsTidy (hash_block g)
      → (i : ℕ) → first_hashed x y ≡ Some i
      → MovesInHand p (part_for (shape_of_pass p).parts i) (move_in p i a b x y) x y x' y' answer q
      → StaysTidyIn (shape_of_pass p) i x.figures.built f x'
      × StaysTidyIn (shape_of_pass p) i y.figures.built g y' × OneIsEmpty x' g
  pub keeps : (p : TreePass) (m : Move) → HasMoved p m → HandKeepsHash p
