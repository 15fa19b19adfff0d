-- What the calls on the pool do.
use Rattle.std.specs.Prelude.{◌≡◌, ◌+◌, List, Some, None}
use mathlib.Core.Option.{some}
use lib.ListN.{get_elem?}
use Rattle.latch_law.specs.declared.knows.Refusal.{Refusal}
use Rattle.latch_law.specs.Fitting.{AreTriesOf}
use Rattle.latch_law.specs.Rule.{Holds}
use Rattle.latch_law.specs.Views.{holding, with_held, with_refused, releasing}
use Rattle.latch_space.specs.Passes.{view, values, count, Lacks}
use Rattle.forest_law.specs.declared.objects.Pool.{Pool}
use Rattle.forest_law.specs.declared.objects.Object.{Object}
use Rattle.forest_law.specs.declared.objects.Object.TheVariants as object
use Rattle.forest_law.specs.Numbers.{pool_id}
use Rattle.forest_world.specs.Held.{TreePass, HasPool}
use Rattle.buffer_pool.specs.Forests.{WasObject}
use Rattle.buffer_pool.specs.Hands.{KeepsBesidePool, KeepsRest, KeepsRestBut}

-- the pass lacks the pool
abbrev pub LacksPool : TreePass → Type 0
LacksPool p = Lacks p pool_id

-- it holds the pool
abbrev pub HoldsPool : TreePass → Type 0
HoldsPool p = (x : Pool) × (y : Pool) × HasPool p x y

-- it holds the pool, which is what it is known to be
abbrev pub HoldsKnownPool : TreePass → Type 0
HoldsKnownPool p = (x : Pool) × HasPool p x x

-- it holds the pool, which is known to be x and was taken out
pub record HasPoolOut (p : TreePass) (x : Pool) : Type 0 where
  pub held : (t : Object) × Holds (view p) pool_id (holding t (object.Pool x))
  pub out : get_elem? (values p) pool_id ≡ some None

-- the pool was taken after some refused tries of it, and is held as it was then
pub record TakesPool (p q : TreePass) : Type 0 where
  pub pool : Pool
  pub refused : List (Refusal Object)
  pub tries : AreTriesOf (view p) pool_id refused
  pub was : WasObject (with_refused (view p) refused) pool_id (object.Pool pool)
  pub view : view q
      ≡ with_held (with_refused (view p) refused) pool_id
      (Some (holding (object.Pool pool) (object.Pool pool)))
  pub has : HasPool q pool pool
  pub hand : KeepsBesidePool p q
  pub rest : KeepsRest p q
  pub count : count q ≡ count p + 1

-- the pool was taken out of its place in hand, and all else is as it was
pub record TakesPoolOut (p : TreePass) (pool : Pool) (q : TreePass) : Type 0 where
  pub out : (x y : Pool) → HasPool p x y → HasPoolOut q x × (pool ≡ y)
  pub hand : KeepsBesidePool p q
  pub rest : KeepsRestBut p q pool_id
  pub view : view q ≡ view p
  pub count : count q ≡ count p

-- a pool was put there, and all else is as it was
pub record PutsPoolBack (p : TreePass) (pool : Pool) (q : TreePass) : Type 0 where
  pub has : (x : Pool) → HasPoolOut p x → HasPool q x pool
  pub hand : KeepsBesidePool p q
  pub rest : KeepsRestBut p q pool_id
  pub view : view q ≡ view p
  pub count : count q ≡ count p

-- the pool went out as it was known, and a reference to it was kept
pub record GivesPool (p q : TreePass) : Type 0 where
  pub taken : Object
  pub pool : Pool
  pub held : Holds (view p) pool_id (holding taken (object.Pool pool))
  pub view : view q ≡ releasing (view p) pool_id (holding taken (object.Pool pool))
  pub lacks : LacksPool q
  pub hand : KeepsBesidePool p q
  pub rest : KeepsRest p q
  pub count : count q + 1 ≡ count p
