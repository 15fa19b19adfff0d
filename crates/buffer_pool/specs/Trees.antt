-- What the calls on an index's tree do.
use Rattle.std.specs.Prelude.{ℕ, ◌≡◌, ◌+◌, List, Some}
use Rattle.latch_law.specs.declared.knows.Refusal.{Refusal}
use Rattle.latch_law.specs.Fitting.{AreTriesOf}
use Rattle.latch_law.specs.Rule.{Holds}
use Rattle.latch_law.specs.Views.{holding, with_held, with_refused, releasing}
use Rattle.latch_space.specs.Passes.{view, count, Lacks}
use Rattle.forest_law.specs.declared.objects.Tree.{Tree}
use Rattle.forest_law.specs.declared.objects.Object.{Object}
use Rattle.forest_law.specs.declared.objects.Object.TheVariants as object
use Rattle.forest_law.specs.Numbers.{tree_id}
use Rattle.forest_world.specs.Held.{TreePass, HasTree}
use Rattle.buffer_pool.specs.Forests.{WasObject}
use Rattle.buffer_pool.specs.Hands.{KeepsBesideTree, KeepsRest, KeepsRestBut}

-- the pass lacks the index's tree
abbrev pub LacksTree : TreePass → ℕ → Type 0
LacksTree p i = Lacks p (tree_id i)

-- it holds the index's tree
abbrev pub HoldsTree : TreePass → ℕ → Type 0
HoldsTree p i = (t : Tree) × (u : Tree) × HasTree p i t u

-- it holds the index's tree, which is what it is known to be
abbrev pub HoldsKnownTree : TreePass → ℕ → Type 0
HoldsKnownTree p i = (t : Tree) × HasTree p i t t

-- the index's tree was taken after some refused tries of it, and is held as it was then: its root
-- is the page of the index's number
pub record TakesTree (p : TreePass) (i : ℕ) (q : TreePass) : Type 0 where
  pub tree : Tree
  pub index : tree.index ≡ i
  pub root : tree.root ≡ i
  pub refused : List (Refusal Object)
  pub tries : AreTriesOf (view p) (tree_id i) refused
  pub was : WasObject (with_refused (view p) refused) (tree_id i) (object.Tree tree)
  pub view : view q
      ≡ with_held (with_refused (view p) refused) (tree_id i)
      (Some (holding (object.Tree tree) (object.Tree tree)))
  pub has : HasTree q i tree tree
  pub hand : KeepsBesideTree p q i
  pub rest : KeepsRest p q
  pub count : count q ≡ count p + 1

-- the index's tree in hand has become this one, and all else is as it was
pub record ChangesTree (p : TreePass) (i : ℕ) (u : Tree) (q : TreePass) : Type 0 where
  pub has : (t s : Tree) → HasTree p i t s → HasTree q i t u
  pub hand : KeepsBesideTree p q i
  pub rest : KeepsRestBut p q (tree_id i)
  pub view : view q ≡ view p
  pub count : count q ≡ count p

-- the index's tree went out as it was known, and a reference to it was kept
pub record GivesTree (p : TreePass) (i : ℕ) (q : TreePass) : Type 0 where
  pub taken : Object
  pub tree : Tree
  pub held : Holds (view p) (tree_id i) (holding taken (object.Tree tree))
  pub view : view q ≡ releasing (view p) (tree_id i) (holding taken (object.Tree tree))
  pub lacks : LacksTree q i
  pub hand : KeepsBesideTree p q i
  pub rest : KeepsRest p q
  pub count : count q + 1 ≡ count p
