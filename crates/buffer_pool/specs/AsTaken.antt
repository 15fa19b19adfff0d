-- Frames that kept their pages, and are as they were taken.
use Rattle.std.specs.Prelude.{ℕ, ◌≡◌, ◌⊎◌, List, Some}
use Rattle.std.specs.List.{AllByRecursion}
use Rattle.latch_law.specs.declared.knows.Holding.{Holding}
use Rattle.latch_law.specs.declared.knows.Reference.{Reference}
use Rattle.latch_law.specs.Rule.{Holds}
use Rattle.latch_law.specs.Views.{holding}
use Rattle.latch_space.specs.Passes.{view}
use Rattle.index_page.specs.Page.{PageRows}
use Rattle.forest_law.specs.declared.objects.Frame.{Frame}
use Rattle.forest_law.specs.declared.objects.Object.{Object}
use Rattle.forest_law.specs.declared.objects.Object.TheVariants as object
use Rattle.forest_law.specs.Numbers.{frame_id}
use Rattle.forest_world.specs.Held.{TreePass, shape_of_pass}
use Rattle.call_law.specs.Spoken.{View}
use Rattle.buffer_pool.specs.Calls.{GetsNothing}

-- the frame, once f and now g, kept its page: it had one of this number, and has one
pub record KeptPage (f g : Frame) : Type 0 where
  pub was : PageRows
  pub had : f.page ≡ Some was
  pub is : PageRows
  pub has : g.page ≡ Some is
  pub number : is.head.number ≡ was.head.number

-- a frame that kept its page since it was taken is as it was then: so are its clock, what it counts
-- of helps and what it advises
abbrev pub IsAsTaken : Object → Object → Type 0
IsAsTaken taken now = (f g : Frame) → taken ≡ object.Frame f → now ≡ object.Frame g
    → KeptPage f g → g ≡ f

-- each frame that was given back with the page that it was taken with was as it was taken
abbrev pub AreAsTaken : List (Reference Object) → Type 0
AreAsTaken qs =
    AllByRecursion (λ (q : Reference Object). IsAsTaken q.taken q.released) qs

-- the pass holds what it held, has said nothing, and has given back so
pub record GaveAsTaken (p q : TreePass) : Type 0 where
  pub got : GetsNothing p q
  pub as_taken : AreAsTaken got.silently.added.references

-- the block's frame, where it is held with the page that it was taken with, is as it was taken
abbrev pub HoldsAsTaken : View → ℕ → Type 0
HoldsAsTaken v b = (h : Holding Object) → Holds v (frame_id v.terms.shape b) h
    → IsAsTaken h.taken h.known

-- what may be an exception among references
abbrev pub Exception : Type 1
Exception = Reference Object → Type 0

-- nothing is one
abbrev pub NoException : Exception
NoException q = ⊥

-- so it is with what was given back, but for exceptions
abbrev pub AreAsTakenBut : Exception → List (Reference Object) → Type 0
AreAsTakenBut but qs =
    AllByRecursion (λ (q : Reference Object). IsAsTaken q.taken q.released ⊎ but q) qs

-- the object k was held so in v
abbrev pub WasHeldSo : View → (k : ℕ) → Object → Object → Type 0
WasHeldSo v k taken known = Holds v k (holding taken known)

-- what is in hand, and what was given back, was held so before, or is as it was taken
pub record KeepsAsHeld (v v' : View) (qs : List (Reference Object)) : Type 0 where
  pub hand : (k : ℕ) (h : Holding Object) → Holds v' k h
      → WasHeldSo v k h.taken h.known ⊎ IsAsTaken h.taken h.known
  pub gave : AreAsTakenBut (λ (q : Reference Object). WasHeldSo v q.object q.taken q.released) qs

-- the block's frame, where it was held, is held since the same take, and known to be g
abbrev pub StaysTaken : TreePass → TreePass → ℕ → Frame → Type 0
StaysTaken p q b g = (h : Holding Object) → Holds (view p) (frame_id (shape_of_pass p) b) h
    → Holds (view q) (frame_id (shape_of_pass p) b) (holding h.taken (object.Frame g))
