-- Kinds of objects, and what becomes of each in a step.
use Rattle.std.proofs.Common.{◌≡◌, ◌⊎◌, ℕ, List, Option, Some, refl, sym, ap, subst}
use mathlib.Core.Option.{some}
use lib.ListN.{get_elem?}
use Rattle.hash_partition.specs.Part.{Part}
use Rattle.forest_law.specs.declared.objects.Frame.{Frame}
use Rattle.forest_law.specs.declared.objects.Pool.{Pool}
use Rattle.forest_law.specs.declared.objects.Tree.{Tree}
use Rattle.forest_law.specs.declared.objects.Where.{Where}
use Rattle.forest_law.specs.declared.objects.Where.TheVariants.{Free, InFrame, Image}
use Rattle.forest_law.specs.declared.objects.Object.{Object}
use Rattle.forest_law.specs.declared.objects.Object.TheVariants as object
use Rattle.forest_law.specs.Objects.{Becomes}
use Rattle.forest_law.specs.Kinds.{KeepsKind}

-- the frame that an object is
abbrev the_frame : Frame → Object → Frame
the_frame d (object.Frame f) = f
the_frame d (object.Part p) = d
the_frame d (object.Pool p) = d
the_frame d (object.Tree t) = d

-- objects that are one are one frame
pub same_frame : (x y : Frame) → object.Frame x ≡ object.Frame y → x ≡ y
same_frame x y e = ap (the_frame x) e

-- the partition that an object is
abbrev the_part : Part → Object → Part
the_part d (object.Part p) = p
the_part d (object.Frame f) = d
the_part d (object.Pool p) = d
the_part d (object.Tree t) = d

-- objects that are one are one partition
pub same_part : (p q : Part) → object.Part p ≡ object.Part q → p ≡ q
same_part p q e = ap (the_part p) e

-- the tree that an object is
abbrev the_tree : Tree → Object → Tree
the_tree d (object.Tree t) = t
the_tree d (object.Frame f) = d
the_tree d (object.Part p) = d
the_tree d (object.Pool p) = d

-- objects that are one are one tree
pub same_tree : (x y : Tree) → object.Tree x ≡ object.Tree y → x ≡ y
same_tree x y e = ap (the_tree x) e

-- the block of a place
abbrev block_of : Where → ℕ
block_of (InFrame b) = b
block_of Free = 0
block_of Image = 0

-- places that are one are one block's
pub same_block : (b c : ℕ) → InFrame b ≡ InFrame c → b ≡ c
same_block b c e = ap block_of e

-- the object wasn't in hand, and stays
pub record Stays (xs ys : List Object) (before news : List (Option Object)) (k : ℕ) : Type 0 where
  pub same : get_elem? ys k ≡ get_elem? xs k
  pub free : (x : Object) → get_elem? before k ≡ some (Some x) → ⊥

-- the object was in hand, and is what it was made there
pub record Changes (xs ys : List Object) (before news : List (Option Object)) (k : ℕ) : Type 0 where
  pub old : Object
  pub new : Object
  pub becomes : Becomes before news k old new
  pub was : get_elem? xs k ≡ some old
  pub is : get_elem? ys k ≡ some new

-- a step from objects to objects by what is in hand
pub record Leads (xs ys : List Object) (before news : List (Option Object)) : Type 0 where
  pub fate : (k : ℕ) → Stays xs ys before news k ⊎ Changes xs ys before news k
  pub was : (k : ℕ) (x : Object) → get_elem? before k ≡ some (Some x) → get_elem? xs k ≡ some x
  pub is : (k : ℕ) (y : Object) → get_elem? news k ≡ some (Some y) → get_elem? ys k ≡ some y

-- whether an object is a tree
abbrev IsTree : Object → Type 0
IsTree (object.Tree t) = Unit {0}
IsTree (object.Frame f) = ⊥
IsTree (object.Part p) = ⊥
IsTree (object.Pool p) = ⊥

-- a frame is no tree
pub not_tree_frame : (f : Frame) (t : Tree) → object.Frame f ≡ object.Tree t → ⊥
not_tree_frame f t e = subst IsTree (sym e) tt

-- nor is a partition
pub not_tree_part : (p : Part) (t : Tree) → object.Part p ≡ object.Tree t → ⊥
not_tree_part p t e = subst IsTree (sym e) tt

-- nor is the pool
pub not_tree_pool : (p : Pool) (t : Tree) → object.Pool p ≡ object.Tree t → ⊥
not_tree_pool p t e = subst IsTree (sym e) tt

-- a frame becomes a frame
pub kept_frame : (f : Frame) (y : Object) → KeepsKind (object.Frame f) y
    → (g : Frame) × (y ≡ object.Frame g)
kept_frame f (object.Frame g) k = (g, refl)
kept_frame f (object.Part p) k = absurd k
kept_frame f (object.Pool p) k = absurd k
kept_frame f (object.Tree t) k = absurd k

-- a pool a pool
pub kept_pool : (p : Pool) (y : Object) → KeepsKind (object.Pool p) y
    → (q : Pool) × (y ≡ object.Pool q)
kept_pool p (object.Pool q) k = (q, refl)
kept_pool p (object.Frame f) k = absurd k
kept_pool p (object.Part q) k = absurd k
kept_pool p (object.Tree t) k = absurd k

-- a partition a partition
pub kept_part : (p : Part) (y : Object) → KeepsKind (object.Part p) y
    → (q : Part) × (y ≡ object.Part q)
kept_part p (object.Part q) k = (q, refl)
kept_part p (object.Frame f) k = absurd k
kept_part p (object.Pool q) k = absurd k
kept_part p (object.Tree t) k = absurd k

-- and a tree the tree of its index
pub kept_tree : (t : Tree) (y : Object) → KeepsKind (object.Tree t) y
    → (u : Tree) × (y ≡ object.Tree u) × (u.index ≡ t.index) × (u.root ≡ t.root)
kept_tree t (object.Tree u) k = (u, refl, k.0, k.1)
kept_tree t (object.Frame f) k = absurd k
kept_tree t (object.Part p) k = absurd k
kept_tree t (object.Pool p) k = absurd k

-- what is a frame was one
pub was_frame : (x : Object) (g : Frame) → KeepsKind x (object.Frame g)
    → (f : Frame) × (x ≡ object.Frame f)
was_frame (object.Frame f) g k = (f, refl)
was_frame (object.Part p) g k = absurd k
was_frame (object.Pool p) g k = absurd k
was_frame (object.Tree p) g k = absurd k

-- and what is a partition was one
pub was_part : (x : Object) (q : Part) → KeepsKind x (object.Part q)
    → (p : Part) × (x ≡ object.Part p)
was_part (object.Part p) q k = (p, refl)
was_part (object.Frame f) q k = absurd k
was_part (object.Pool p) q k = absurd k
was_part (object.Tree t) q k = absurd k
