-- What is at rest, and a frame that makes a step, become later ones.
use Rattle.std.proofs.Common.{◌≡◌, inl, inr, ℕ, sym, ap, subst, ◌∙◌, Some}
use Rattle.list_facts.proofs.Places.{same_some}
use Rattle.tree_law.specs.Pages.{Page}
use Rattle.clock_law.specs.ModifyClock.{GuardStays, IsLater}
use Rattle.clock_law.proofs.LaterLemmas.{later_itself, rises_later, stays_later, guard_itself}
use Rattle.forest_law.specs.declared.objects.Frame.{Frame}
use Rattle.forest_law.specs.declared.objects.Object.{Object}
use Rattle.forest_law.specs.declared.objects.Object.TheVariants as object
use Rattle.forest_law.specs.State.{page_within, page_if, numbered_if, mark_of, object_mark}
use Rattle.forest_law.specs.Kinds.{KeepsKind}
use Rattle.forest_law.specs.Turns.{HasPage}
use Rattle.forest_law.specs.Clocked.{IsLaterObject}
use Rattle.forest_law.specs.Steps.{FrameRests, Rests, FrameStep, ClockSuits}

-- what is at rest stays of its kind
pub rests_kind : (x y : Object) → Rests x y → KeepsKind x y
rests_kind (object.Frame x) (object.Frame y) r = tt
rests_kind (object.Part x) (object.Part y) r = tt
rests_kind (object.Pool x) (object.Pool y) r = tt
rests_kind (object.Tree x) (object.Tree y) r = (ap (λ t. t.index) r, ap (λ t. t.root) r)
rests_kind x y r = absurd r

-- a frame at rest is a later one
frame_rests_later : (x y : Frame) → FrameRests x y → IsLater (mark_of x) (mark_of y)
frame_rests_later x y r = stays_later (mark_of x) (mark_of y) r.clock
    (subst (GuardStays (numbered_if x.page x.low x.high))
    (λ i. numbered_if (sym r.page i) (sym r.low i) (sym r.high i))
    (guard_itself (numbered_if x.page x.low x.high)))

-- and so is any object at rest
pub rests_later : (x y : Object) → Rests x y → IsLaterObject x y
rests_later (object.Frame x) (object.Frame y) r = frame_rests_later x y r
rests_later (object.Part x) (object.Part y) r = later_itself (object_mark (object.Part x))
rests_later (object.Pool x) (object.Pool y) r = later_itself (object_mark (object.Pool x))
rests_later (object.Tree x) (object.Tree y) r = later_itself (object_mark (object.Tree x))
rests_later x y r = absurd r

-- what the clock of a frame with this page guards
pub guards_of : (f : Frame) (n : ℕ) (page : Page) → HasPage f n page
    → numbered_if f.page f.low f.high ≡ Some (record { number = n; page = page })
guards_of f n page has = let same : page_within has.rows f.low f.high ≡ page =
    same_some (page_within has.rows f.low f.high) page
    (sym (ap (λ p. page_if p f.low f.high) has.paged) ∙ has.is) in
    ap (λ p. numbered_if p f.low f.high) has.paged
    ∙ (λ i. Some (record { number = has.number i; page = same i }))

-- a frame that makes a step is a later one
pub step_later : (s : FrameStep) → HasPage s.hand.old s.number s.was
    → HasPage s.hand.new s.number s.is → ClockSuits s
    → IsLater (mark_of s.hand.old) (mark_of s.hand.new)
step_later s had has (inl rises) = rises_later (mark_of s.hand.old) (mark_of s.hand.new) rises
step_later s had has (inr kept) = stays_later (mark_of s.hand.old) (mark_of s.hand.new) kept.0
    (subst (λ z. GuardStays z (mark_of s.hand.new).guards)
    (sym (guards_of s.hand.old s.number s.was had))
    (subst (GuardStays (Some (record { number = s.number; page = s.was })))
    (sym (guards_of s.hand.new s.number s.is has)) kept.1))
