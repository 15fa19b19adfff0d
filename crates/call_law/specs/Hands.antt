-- What a pass holds, by what it knows.
use Rattle.std.specs.Prelude.{ℕ, ◌≡◌, ◌≢◌, ◌<◌, List, None}
use Rattle.std.specs.List.{AllByRecursion}
use mathlib.Core.Option.{some}
use lib.ListN.{get_elem?}
use Rattle.latch_law.specs.Rule.{Holds}
use Rattle.latch_law.specs.Views.{holding, knowns}
use Rattle.forest_law.specs.declared.objects.Frame.{Frame}
use Rattle.forest_law.specs.declared.objects.Tree.{Tree}
use Rattle.forest_law.specs.declared.objects.Object.{Object}
use Rattle.forest_law.specs.declared.objects.Object.TheVariants as object
use Rattle.hash_partition.specs.Part.{Part}
use Rattle.forest_law.specs.Numbers.{pool_id, tree_id, part_id, frame_id, frames_of}
use Rattle.forest_law.specs.Outside.{HasNoneOutside}
use Rattle.call_law.specs.Spoken.{View}

-- it holds the block's frame, which is known to be f
abbrev pub KnowsFrame : View → ℕ → Frame → Type 0
KnowsFrame v b f = (taken : Object) × Holds v (frame_id v.terms.shape b)
    (holding taken (object.Frame f))

-- it holds the index's tree, which is known to be t
abbrev pub KnowsTree : View → ℕ → Tree → Type 0
KnowsTree v i t = (taken : Object) × Holds v (tree_id i) (holding taken (object.Tree t))

-- it holds partition k, which is known to be this one
abbrev pub KnowsPart : View → ℕ → Part → Type 0
KnowsPart v k part = (taken : Object)
    × Holds v (part_id v.terms.shape k) (holding taken (object.Part part))

-- the object k is there, and it isn't held
abbrev pub LacksObject : View → ℕ → Type 0
LacksObject v k = get_elem? v.held k ≡ some None

-- it holds no frame but those of these blocks
abbrev pub HoldsNoFrameBut : View → List ℕ → Type 0
HoldsNoFrameBut v bs = (c : ℕ) → c < frames_of v.terms.shape → AllByRecursion (λ (b : ℕ). c ≢ b) bs
    → LacksObject v (frame_id v.terms.shape c)

-- no frame that it holds is known to have a page outside the trees
abbrev pub HoldsNoOutside : View → Type 0
HoldsNoOutside v = HasNoneOutside v.terms.shape (knowns v.held)

-- it holds no partition
abbrev pub HoldsNoPart : View → Type 0
HoldsNoPart v = (k : ℕ) → k < v.terms.shape.parts → LacksObject v (part_id v.terms.shape k)

-- it holds neither the pool nor a partition, which are taken last
pub record HoldsNoTable (v : View) : Type 0 where
  pub pool : LacksObject v pool_id
  pub parts : HoldsNoPart v

-- it holds what it held, and that is known to be what it was, but for the objects of these numbers
abbrev pub HoldsTheRest : View → View → List ℕ → Type 0
HoldsTheRest v v' ks = (k : ℕ) → AllByRecursion (λ (j : ℕ). k ≢ j) ks
    → get_elem? v'.held k ≡ get_elem? v.held k
