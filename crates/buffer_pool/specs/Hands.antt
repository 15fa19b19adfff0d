-- What stays in hand while one object is taken, changed or given back.
use Rattle.std.specs.Prelude.{ℕ, ◌≡◌, ◌≢◌, ◌<◌, List, None}
use Rattle.std.specs.List.{AllByRecursion}
use mathlib.Core.Option.{some}
use lib.ListN.{get_elem?}
use Rattle.latch_law.specs.Rule.{Holds}
use Rattle.latch_law.specs.Views.{holding}
use Rattle.latch_space.specs.Has.{SameBut}
use Rattle.latch_space.specs.Passes.{view, values, Lacks}
use Rattle.forest_law.specs.declared.objects.Frame.{Frame}
use Rattle.forest_law.specs.declared.objects.Pool.{Pool}
use Rattle.forest_law.specs.declared.objects.Tree.{Tree}
use Rattle.forest_law.specs.declared.objects.Object.{Object}
use Rattle.forest_law.specs.declared.objects.Object.TheVariants as object
use Rattle.forest_law.specs.Numbers.{pool_id, tree_id, frame_id}
use Rattle.forest_law.specs.Outside.{HasNoOutside}
use Rattle.forest_world.specs.Held.{TreePass, shape_of_pass, HasFrame, HasTree, HasPool, RestsBeyond}
pub use Rattle.forest_world.specs.Held.{HoldsFrame}

-- the pass lacks the block's frame
abbrev pub LacksFrame : TreePass → ℕ → Type 0
LacksFrame p b = Lacks p (frame_id (shape_of_pass p) b)

-- it holds the block's frame, which is what it is known to be and has no page outside the trees, so
-- that it may be given back
abbrev pub MayGiveBack : TreePass → ℕ → Type 0
MayGiveBack p b = (f : Frame) × HasFrame p b f f × HasNoOutside f

-- it holds the block's frame, which is known to be f and was taken out
pub record HasOut (p : TreePass) (b : ℕ) (f : Frame) : Type 0 where
  pub held : (t : Object)
      × Holds (view p) (frame_id (shape_of_pass p) b) (holding t (object.Frame f))
  pub out : get_elem? (values p) (frame_id (shape_of_pass p) b) ≡ some None

-- what is in hand beside the block's frame stays in hand
pub record KeepsBeside (p q : TreePass) (b : ℕ) : Type 0 where
  pub terms : (view q).terms ≡ (view p).terms
  pub others : SameBut p q (frame_id (shape_of_pass p) b)
  pub frames : (c : ℕ) (f g : Frame) → c ≢ b → HasFrame p c f g → HasFrame q c f g
  pub outs : (c : ℕ) (f : Frame) → c ≢ b → HasOut p c f → HasOut q c f
  pub lacks : (c : ℕ) → c ≢ b → LacksFrame p c → LacksFrame q c
  pub trees : (i : ℕ) (t u : Tree) → i < (shape_of_pass p).indexes → HasTree p i t u
      → HasTree q i t u
  pub pool : (x y : Pool) → HasPool p x y → HasPool q x y

-- what is in hand beside the index's tree stays in hand
pub record KeepsBesideTree (p q : TreePass) (i : ℕ) : Type 0 where
  pub terms : (view q).terms ≡ (view p).terms
  pub others : SameBut p q (tree_id i)
  pub frames : (c : ℕ) (f g : Frame) → HasFrame p c f g → HasFrame q c f g
  pub lacks : (c : ℕ) → LacksFrame p c → LacksFrame q c
  pub trees : (j : ℕ) (t u : Tree) → j ≢ i → HasTree p j t u → HasTree q j t u
  pub pool : (x y : Pool) → HasPool p x y → HasPool q x y

-- what is in hand beside the pool stays in hand
pub record KeepsBesidePool (p q : TreePass) : Type 0 where
  pub terms : (view q).terms ≡ (view p).terms
  pub others : SameBut p q pool_id
  pub frames : (c : ℕ) (f g : Frame) → HasFrame p c f g → HasFrame q c f g
  pub lacks : (c : ℕ) → LacksFrame p c → LacksFrame q c
  pub trees : (i : ℕ) (t u : Tree) → HasTree p i t u → HasTree q i t u

-- what rests in hand, but for some objects, rests still
abbrev pub KeepsRest : TreePass → TreePass → Type 0
KeepsRest p q = (ks : List ℕ) → RestsBeyond p ks → RestsBeyond q ks

-- the number is among these
abbrev pub IsAmong : ℕ → List ℕ → Type 0
IsAmong k ks = AllByRecursion (λ (j : ℕ). k ≢ j) ks → ⊥

-- what rests in hand, but for the object k and perhaps others, rests still
abbrev pub KeepsRestBut : TreePass → TreePass → ℕ → Type 0
KeepsRestBut p q k = (ks : List ℕ) → IsAmong k ks → RestsBeyond p ks → RestsBeyond q ks
