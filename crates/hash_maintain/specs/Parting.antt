-- A partition in hand: found there or taken, taken out of its place, and put back.
use Rattle.std.specs.Prelude.{ℕ, ◌≡◌, ◌+◌, ◌<◌, ◌⊎◌, Some, None, List, []}
use mathlib.Core.Option.{some}
use lib.ListN.{get_elem?}
use Rattle.latch_law.specs.declared.knows.Refusal.{Refusal}
use Rattle.latch_law.specs.Fitting.{AreTriesOf, WasHeld}
use Rattle.latch_law.specs.Rule.{Holds}
use Rattle.latch_law.specs.Views.{holding, with_held, with_refused, refusing, releasing}
use Rattle.latch_space.specs.declared.taking.Take.{Take}
use Rattle.latch_space.specs.declared.taking.Take.TheVariants.{Taken, Busy}
use Rattle.latch_space.specs.Has.{SameBut, SameHands}
use Rattle.latch_space.specs.Passes.{view, values, count, Lacks}
use Rattle.hash_partition.specs.Part.{Part}
use Rattle.forest_law.specs.declared.objects.Frame.{Frame}
use Rattle.forest_law.specs.declared.objects.Object.{Object}
use Rattle.forest_law.specs.declared.objects.Object.TheVariants as object
use Rattle.forest_law.specs.Law.{IsLawful}
use Rattle.forest_law.specs.Numbers.{part_id, frame_id}
use Rattle.forest_law.specs.Hashed.{IsExactFor}
use Rattle.forest_law.specs.References.{IsReference}
use Rattle.index_law.specs.Rightness.{IsRight}
use Rattle.forest_world.specs.Held.{TreePass, shape_of_pass, HasPart, HoldsPart}

-- the pass lacks partition k
abbrev pub LacksPart : TreePass → ℕ → Type 0
LacksPart p k = Lacks p (part_id (shape_of_pass p) k)

-- where the pass lacks partition k, it may hold one object more
abbrev pub HasRoomFor : TreePass → ℕ → Type 0
HasRoomFor p k = LacksPart p k → count p < 16

-- it holds the block's frame, in hand or taken out, which is known to be f
abbrev pub KnowsFrameIn : TreePass → ℕ → Frame → Type 0
KnowsFrameIn p b f = (t : Object)
    × Holds (view p) (frame_id (shape_of_pass p) b) (holding t (object.Frame f))

-- partition k, which is this one, was taken after some refused tries; it is exact of each block that
-- is held, as its frame is known
pub record ComesToHand (p : TreePass) (k : ℕ) (part : Part) (q : TreePass) : Type 0 where
  pub lacked : LacksPart p k
  pub refused : List (Refusal Object)
  pub tries : AreTriesOf (view p) (part_id (shape_of_pass p) k) refused
  pub view : view q
      ≡ with_held (with_refused (view p) refused) (part_id (shape_of_pass p) k)
      (Some (holding (object.Part part) (object.Part part)))
  pub exact : (b : ℕ) (f : Frame) → KnowsFrameIn p b f
      → IsExactFor (shape_of_pass p) k b part f
  pub count : count q ≡ count p + 1

-- partition k was taken, and is held as it was then
pub record TakesPartition (p : TreePass) (k : ℕ) (q : TreePass) : Type 0 where
  pub part : Part
  pub comes : ComesToHand p k part q
  pub has : HasPart q k part part
  pub others : SameBut p q (part_id (shape_of_pass p) k)

-- the pass n, another one, held partition k: one refused try more, and nothing else
pub record RefusesPart (p : TreePass) (k n : ℕ) (q : TreePass) : Type 0 where
  pub was_held : WasHeld IsLawful IsRight IsReference (view p) (part_id (shape_of_pass p) k) n
  pub view : view q ≡ refusing (view p) (part_id (shape_of_pass p) k) n
  pub same : SameHands p q

-- what the answer of a try tells: the partition was taken with no refused try, or it is another's
abbrev pub TellsPart : TreePass → ℕ → Take → TreePass → Type 0
TellsPart p k Taken q = (took : TakesPartition p k q) × (took.comes.refused ≡ [])
TellsPart p k (Busy n) q = RefusesPart p k n q

-- partition k was in hand, and nothing was taken
pub record StaysInHand (p : TreePass) (k : ℕ) (known was : Part) (q : TreePass) : Type 0 where
  pub has : HasPart p k known was
  pub view : view q ≡ view p
  pub count : count q ≡ count p

-- partition k, known so, was in hand as `was`, or it came to hand as it is known
abbrev pub IsFoundOrTaken : TreePass → ℕ → (known was : Part) → TreePass → Type 0
IsFoundOrTaken p k known was q =
    StaysInHand p k known was q ⊎ (ComesToHand p k known q × (was ≡ known))

-- it holds partition k, which is known to be x and was taken out
pub record HasPartOut (p : TreePass) (k : ℕ) (x : Part) : Type 0 where
  pub held : (t : Object)
      × Holds (view p) (part_id (shape_of_pass p) k) (holding t (object.Part x))
  pub out : get_elem? (values p) (part_id (shape_of_pass p) k) ≡ some None

-- partition k was taken out of its place in hand, and all else is as it was
pub record TakesPartOut (p : TreePass) (k : ℕ) (part : Part) (q : TreePass) : Type 0 where
  pub out : (x y : Part) → HasPart p k x y → HasPartOut q k x × (part ≡ y)
  pub others : SameBut p q (part_id (shape_of_pass p) k)
  pub view : view q ≡ view p
  pub count : count q ≡ count p

-- a partition was put there, and all else is as it was
pub record PutsPartBack (p : TreePass) (k : ℕ) (part : Part) (q : TreePass) : Type 0 where
  pub has : (x : Part) → HasPartOut p k x → HasPart q k x part
  pub others : SameBut p q (part_id (shape_of_pass p) k)
  pub view : view q ≡ view p
  pub count : count q ≡ count p

-- partition k was found in hand or taken, and is out of its place, as `was`
pub record HoldsPartOut (p : TreePass) (k : ℕ) (was : Part) (q : TreePass) : Type 0 where
  pub known : Part
  pub before : IsFoundOrTaken p k known was q
  pub out : HasPartOut q k known
  pub others : SameBut p q (part_id (shape_of_pass p) k)
  pub terms : (view q).terms ≡ (view p).terms

-- where partition k is held, it isn't taken out
abbrev pub IsInPlace : TreePass → ℕ → Type 0
IsInPlace p k = (LacksPart p k → ⊥) → HoldsPart p k

-- partition k went out as it was known, and a reference to it was kept
pub record GivesPart (p : TreePass) (k : ℕ) (q : TreePass) : Type 0 where
  pub taken : Object
  pub part : Part
  pub held : Holds (view p) (part_id (shape_of_pass p) k) (holding taken (object.Part part))
  pub view : view q
      ≡ releasing (view p) (part_id (shape_of_pass p) k) (holding taken (object.Part part))
  pub lacks : LacksPart q k
  pub others : SameBut p q (part_id (shape_of_pass p) k)
  pub count : count q + 1 ≡ count p
