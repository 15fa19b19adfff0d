-- Changes of the leaf that a pass holds.
use Rattle.std.specs.Prelude.{ℕ, ◌≡◌, ◌⊎◌, ◌+◌, ◌<◌, ◌≤◌, ◌==◌, Option, Some, None, List, length}
use Rattle.key_tuple.specs.Order.{FieldList}
use Rattle.latch_space.specs.Has.{SameBut, IsKnown}
use Rattle.latch_space.specs.Passes.{view, count}
use Rattle.index_page.specs.declared.error.PageError.{PageError}
use Rattle.index_page.specs.declared.error.PageError.TheVariants as refused
use Rattle.index_page.specs.declared.spot.Spot.{Spot}
use Rattle.index_page.specs.declared.TheConstants.{PAGE_ROOM}
use Rattle.index_page.specs.Loads.{charge_of, load_of}
use Rattle.index_page.specs.Page.{PageRows}
use Rattle.index_page.specs.Rows.{Bytes}
use Rattle.hash_upkeep.specs.declared.upkeep.Upkeep.{Upkeep}
use Rattle.forest_law.specs.declared.objects.Frame.{Frame}
use Rattle.forest_law.specs.HashSteps.{KeepsHashing}
use Rattle.forest_law.specs.Numbers.{frame_id}
use Rattle.forest_world.specs.Held.{TreePass, shape_of_pass, HasFrame}
use Rattle.hash_maintain.specs.Leaves.{kept_frame, without_row}
use Rattle.leaf_rows.specs.Changing.{LacksRow, PutsRow, WasPut, HasRowOf, HasSomeRow, TakesRowOut, frame_without, hashed_as}
use Rattle.page_view.specs.Finding.{HasRow, HasSpot}
use Rattle.leaf_rows.specs.Setting.{frame_with, IsNoLonger, SetsValue, value_refusal, LacksRoomFor}
use Rattle.leaf_changes.specs.Hashed.{KeepsHashed}
use Rattle.leaf_changes.specs.Holds.{HoldsLeaf, KeepsNumber, StaysKnown}
use Rattle.engine_law.specs.Says.{OnlyLooks}
use Rattle.hash_upkeep.specs.declared.upkeep.Upkeep.TheVariants.{Kept}

-- the frame has a leaf, on which the key belongs at the spot
pub record HasSpotIn (f : Frame) (key : FieldList) (spot : Spot) : Type 0 where
  pub page : PageRows
  pub paged : f.page ≡ Some page
  pub finds : HasSpot page key spot

-- the frame has a leaf, on which the key's row stands at the place
pub record HasKeyRowIn (f : Frame) (key : FieldList) (place : ℕ) : Type 0 where
  pub page : PageRows
  pub paged : f.page ≡ Some page
  pub level : page.head.level ≡ 0
  pub row : HasRow page place key

-- the key's row stands at the place of the frame's leaf; a del takes it out, a set gives it a value
-- that is no longer, and another value is refused only where it has no room
pub record HasOldRow (f : Frame) (key : FieldList) (place : ℕ) : Type 0 where
  pub has : HasRowOf f place key
  pub goes : TakesRowOut f place key
  pub sets : (value : List ℕ) → length value ≤ length has.has.value
      → SetsValue f (frame_with place value (length value == length has.has.value) f) key value
  pub lacks : (value : List ℕ) (e : PageError) → value_refusal f place value ≡ Some e
      → LacksRoomFor f key value

-- the place of the key's row; none where the frame's leaf lacks the key
abbrev pub FindsRow : Frame → FieldList → Spot → Option ℕ → Type 0
FindsRow f key spot None = LacksRow f key spot
FindsRow f key spot (Some place) = HasOldRow f key place

-- the pass holds the leaf as it is known to be, and it lacks the key, which belongs at the spot
pub record HoldsLacking (p : TreePass) (b i : ℕ) (key : FieldList) (spot : Spot) : Type 0 where
  pub frame : Frame
  pub holds : HoldsLeaf p b i key frame frame
  pub lacks : LacksRow frame key spot

-- the pass holds the leaf, which lacked the key, and into which its row was put at the place
pub record HoldsInserted (p : TreePass) (b i place : ℕ) (key : FieldList)
    (value : List ℕ) : Type 0 where
  pub known : Frame
  pub made : Frame
  pub holds : HoldsLeaf p b i key known made
  pub puts : PutsRow known made place key value
  pub hash : KeepsHashing known made

-- the same, and the hash is kept
pub record HoldsNewRow (p : TreePass) (b i place : ℕ) (key : FieldList)
    (value : List ℕ) : Type 0 where
  pub index : Option ℕ
  pub known : Frame
  pub made : Frame
  pub holds : HoldsLeaf p b i key known made
  pub puts : PutsRow known made place key value
  pub hash : KeepsHashed p index b known made made

-- the pass holds the leaf as it is known to be; where it wasn't memory that lacked, the leaf has
-- too little room for the key's row
pub record HoldsRefusing (p : TreePass) (b i : ℕ) (key : FieldList) (value : List ℕ)
    (e : PageError) : Type 0 where
  pub frame : Frame
  pub holds : HoldsLeaf p b i key frame frame
  pub why : (e ≡ refused.NoMemory)
      ⊎ (PAGE_ROOM < load_of holds.leaf.page.is.page.rows + charge_of key (Bytes value))

-- the pass knows and holds as much as before, and has in hand what it had beside the block's frame
pub record KnowsSame (p q : TreePass) (b : ℕ) : Type 0 where
  pub view : view q ≡ view p
  pub count : count q ≡ count p
  pub others : SameBut p q (frame_id (shape_of_pass p) b)

-- the pass holds the block's frame, into which some row was put at the place
pub record HoldsPutRow (p : TreePass) (b place : ℕ) : Type 0 where
  pub known : Frame
  pub now : Frame
  pub has : HasFrame p b known now
  pub put : WasPut now place

-- the row that was put into a leaf is out again, and the leaf is what it is known to be, but for
-- how it is hashed
abbrev pub TookBack : TreePass → TreePass → (b place : ℕ) → Type 0
TookBack p q b place = (key : FieldList) (value : List ℕ) (f g : Frame) → HasFrame p b f g
    → PutsRow f g place key value → HasFrame q b f (hashed_as g f)

-- the pass holds the block's frame, on which some row stands at the place
pub record HoldsRowAt (p : TreePass) (b place : ℕ) : Type 0 where
  pub known : Frame
  pub now : Frame
  pub has : HasFrame p b known now
  pub stands : HasSomeRow now place

-- that row is out, and the frame is known to be what it was known to be
abbrev pub TookOut : TreePass → TreePass → (b place : ℕ) → Type 0
TookOut p q b place = (f g : Frame) → HasFrame p b f g → HasFrame q b f (frame_without place g)

-- the pass holds the leaf, on which the key's row stands at the place, and which is to become this
-- one, without it; the partition is exact of that already
pub record HoldsOldRow (p : TreePass) (b i place : ℕ) (key : FieldList)
    (next : Frame) : Type 0 where
  pub index : Option ℕ
  pub known : Frame
  pub answer : Upkeep
  pub stays : answer ≡ Kept
  pub holds : HoldsLeaf p b i key known (kept_frame answer known)
  pub row : HasOldRow known key place
  pub next_is : next ≡ frame_without place (kept_frame answer known)
  pub hash : KeepsHashed p index b known (kept_frame answer known)
      (without_row place (kept_frame answer known))

-- the pass holds the leaf, on which the key's row stands at the place, as it is known to be
pub record HoldsRowOf (p : TreePass) (b i place : ℕ) (key : FieldList) : Type 0 where
  pub index : Option ℕ
  pub known : Frame
  pub holds : HoldsLeaf p b i key known known
  pub row : HasOldRow known key place
  pub hash : KeepsHashed p index b known known known
  pub all : IsKnown p

-- the pass holds the leaf, on which the key's row stands at the place, and which is to become this
-- one, where the row has this value, which is no longer
pub record HoldsRowToSet (p : TreePass) (b i place : ℕ) (key : FieldList) (value : List ℕ)
    (next : Frame) : Type 0 where
  pub index : Option ℕ
  pub known : Frame
  pub holds : HoldsLeaf p b i key known known
  pub row : HasOldRow known key place
  pub hash : KeepsHashed p index b known known known
  pub all : IsKnown p
  pub no_longer : IsNoLonger known place value
  pub next_is : next ≡ frame_with place value (length value == length row.has.has.value) known

-- the pass holds the block's frame, on which some row stands at the place, and the value is no
-- longer than that row's
pub record HoldsRowAsLong (p : TreePass) (b place : ℕ) (value : List ℕ) : Type 0 where
  pub known : Frame
  pub now : Frame
  pub has : HasFrame p b known now
  pub stands : HasSomeRow now place
  pub no_longer : IsNoLonger now place value

-- that row has the value, and the frame is known to be what it was known to be
abbrev pub RowIsSet : TreePass → TreePass → (b place : ℕ) → List ℕ → Type 0
RowIsSet p q b place value = (f g : Frame) (key : FieldList) → (has : HasRowOf g place key)
    → HasFrame p b f g
    → HasFrame q b f (frame_with place value (length value == length has.has.value) g)

-- nothing was answered, since the row wasn't taken, and what was held is held as it is known to be,
-- the leaf with its number
pub record RefusesHolding (p q : TreePass) (b i : ℕ) (key : FieldList) (value : List ℕ)
    (e : PageError) : Type 0 where
  pub looks : OnlyLooks (view p) (view q) i
  pub holds : HoldsRefusing q b i key value e
  pub number : KeepsNumber (view p) b holds.frame
  pub stays : StaysKnown p q

-- the pass knows and holds as much as before
pub record KnowsAsMuch (p q : TreePass) : Type 0 where
  pub view : view q ≡ view p
  pub count : count q ≡ count p

-- the pass holds the leaf, and all else, as it is known to be, the partition besides, and the leaf
-- lacks the key, which belongs at the spot
pub record HoldsToPut (p : TreePass) (b i : ℕ) (key : FieldList) (spot : Spot) : Type 0 where
  pub index : Option ℕ
  pub lacking : HoldsLacking p b i key spot
  pub hash : KeepsHashed p index b lacking.frame lacking.frame lacking.frame
  pub known : IsKnown p

-- the pass holds the block's frame, into which some row was put at the place, and the hash is kept
pub record HoldsNewRowAt (p : TreePass) (b place : ℕ) : Type 0 where
  pub index : Option ℕ
  pub known : Frame
  pub now : Frame
  pub key : FieldList
  pub value : List ℕ
  pub has : HasFrame p b known now
  pub puts : PutsRow known now place key value
  pub hash : KeepsHashed p index b known now now
