-- The objects of a space of trees, and their numbers.
use Rattle.std.proofs.Common.{◌≡◌, ℕ, ◌<◌, ◌^◌, Some, sym, ap, subst, ◌∙◌, arith}
use Rattle.list_facts.proofs.Places.{inside}
use Rattle.latch_law.specs.declared.knows.Holding.{Holding}
use Rattle.latch_law.specs.declared.knows.Terms.{Terms}
use Rattle.latch_law.specs.Fitting.{MayRelease}
use Rattle.latch_law.specs.Rule.{Holds}
use Rattle.latch_law.specs.Views.{holding}
use Rattle.latch_space.specs.declared.space.SpaceOf.{SpaceOf}
use Rattle.latch_space.specs.Has.{Has}
use Rattle.latch_space.specs.Passes.{view}
use Rattle.latch_space.specs.Spaces.{IsPassOf}
use Rattle.index_law.specs.Answers.{MadeChange, Saying}
use Rattle.index_law.specs.Rightness.{IsRight}
use Rattle.index_law.specs.Shape.{Shape}
use Rattle.forest_law.specs.declared.objects.Object.{Object}
use Rattle.forest_law.specs.Law.{IsLawful}
use Rattle.forest_law.specs.Numbers.{frame_id, frames_of}
use Rattle.forest_law.specs.Outside.{MayGoBack}
use Rattle.forest_law.specs.References.{IsReference}
use Rattle.forest_law.proofs.WorldLemmas.{releases_stay_lawful}
use Rattle.forest_world.specs.Held.{TreePass, shape_of_pass}
use Rattle.buffer_pool.specs.Forests.{TreeView, IsForest}

-- a pass of such a space knows of as many objects
pub objects_of : {Q : Type 0} (s : SpaceOf Shape Object MadeChange Saying Q) (p : TreePass)
    → IsForest s → IsPassOf s p
    → (view p).terms.objects ≡ frame_id (shape_of_pass p) (frames_of (shape_of_pass p))
objects_of s p forest own =
    ap (λ (t : Terms Shape). t.objects) own.1
    ∙ (forest.objects ∙ ap (λ (t : Terms Shape). frame_id t.shape (frames_of t.shape)) (sym own.1))

-- the number of a frame fits
pub number_fits : (s s' : Shape) (b n : ℕ) → s' ≡ s → b < frames_of s
    → n ≡ frame_id s (frames_of s) → n < 2 ^ 32 → frame_id s' b < 2 ^ 32
number_fits s s' b n same below is few = let e = ap (λ (z : Shape). z.indexes) same in
    let parts = ap (λ (z : Shape). z.parts) same in omega (arith, e, parts, below, is, few)

-- a frame that is known is one of the frames
pub known_below : (p : TreePass) (b : ℕ) (t x : Object)
    → Holds (view p) (frame_id (shape_of_pass p) b) (holding t x)
    → (view p).terms.objects ≡ frame_id (shape_of_pass p) (frames_of (shape_of_pass p))
    → b < frames_of (shape_of_pass p)
known_below p b t x held objects =
    let room =
    inside (view p).held (frame_id (shape_of_pass p) b) (Some (holding t x)) held in
    let all = p.all in omega (arith, room, all.0, objects)

-- and so is one in hand
pub held_below : (p : TreePass) (b : ℕ) (x y : Object) → Has p (frame_id (shape_of_pass p) b) x y
    → (view p).terms.objects ≡ frame_id (shape_of_pass p) (frames_of (shape_of_pass p))
    → b < frames_of (shape_of_pass p)
held_below p b x y has objects = known_below p b has.held.0 x has.held.1 objects

-- an object is given back lawfully where it is known to be one that may be
pub may_release : (v : TreeView) (k j : ℕ) (h : Holding Object) → j ≡ k → Holds v k h
    → MayGoBack h.known → MayRelease IsLawful IsRight IsReference v j
may_release v k j h same held may w law fits = releases_stay_lawful w j h.known law
    (fits.known j h (subst (λ n. Holds v n h) (sym same) held)) may
