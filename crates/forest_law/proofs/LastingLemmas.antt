-- What is known of a reference lasts.
use Rattle.std.proofs.Common.{◌≡◌, inl, inr, ℕ, sym, ap, subst, ◌∙◌}
use mathlib.Core.Option.{some, some-injective}
use lib.ListN.{get_elem?}
use Rattle.latch_law.specs.declared.knows.Reference.{Reference}
use Rattle.latch_law.specs.Whole.{reference}
use Rattle.latch_law.specs.Moves.{Moves, Next}
use Rattle.clock_law.proofs.LaterLemmas.{later_itself, later_through}
use Rattle.forest_law.specs.declared.objects.Object.{Object}
use Rattle.forest_law.specs.State.{ForestState, object_mark}
use Rattle.forest_law.specs.Clocked.{IsLaterObject}
use Rattle.forest_law.specs.Law.{MayFollow}
use Rattle.index_law.specs.Rightness.{IsRight}
use Rattle.forest_law.specs.References.{IsReference}
use Rattle.forest_law.proofs.FollowingLemmas.{step_leads}

-- an object is a later one of itself
pub object_itself : (x : Object) → IsLaterObject x x
object_itself x = later_itself (object_mark x)

-- and a later one of a later one is a later one
pub object_through : (x y z : Object) → IsLaterObject x y → IsLaterObject y z → IsLaterObject x z
object_through x y z a b = later_through (object_mark x) (object_mark y) (object_mark z) a b

-- the object is there in the state, and a later one
pub record HasLater (w' : ForestState) (k : ℕ) (x : Object) : Type 0 where
  pub now : Object
  pub there : get_elem? w'.objects k ≡ some now
  pub later : IsLaterObject x now

-- so it is in each next state
pub next_later : (name : ℕ) (w w' : ForestState)
    → Next IsRight IsReference MayFollow name w w'
    → (k : ℕ) (x : Object) → get_elem? w.objects k ≡ some x → HasLater w' k x
next_later name w w' next k x at = elim (next.1) [
  | inl take ↦ rest (ap (λ (z : ForestState). z.objects) take.2)
  | inr other ↦ elim other [
    | inl release ↦ rest (ap (λ (z : ForestState). z.objects) release.2)
    | inr moves ↦ moved moves
  ]
]
  where
    rest : w'.objects ≡ w.objects → HasLater w' k x
    rest same =
        record { now = x; there = ap (λ z. get_elem? z k) same ∙ at; later = object_itself x }

    moved : Moves IsRight IsReference MayFollow name w w' → HasLater w' k x
    moved moves = elim ((step_leads name w w' moves).fate k) [
      | inl stays ↦ record { now = x; there = stays.same ∙ at; later = object_itself x }
      | inr c ↦ record {
        now = c.new;
        there = c.is;
        later = subst (λ z. IsLaterObject z c.new) (some-injective c.old x (sym c.was ∙ at))
            (moves.follow.clocks k c.old c.new c.becomes);
      }
    ]

-- what is known of a reference stays so
pub reference_stays : (name : ℕ) (w w' : ForestState)
    → Next IsRight IsReference MayFollow name w w'
    → (q : Reference Object) → IsReference w q → IsReference w' q
reference_stays name w w' next q so = let on = next_later name w w' next q.object so.now so.there in
    record {
      now = on.now;
      there = on.there;
      held = so.held;
      later = object_through q.released so.now on.now so.later on.later;
    }

-- what the holder makes of the object is a later one of what it took
pub reference_held : (name : ℕ) (w w' : ForestState)
    → Next IsRight IsReference MayFollow name w w'
    → (k : ℕ) (t x y : Object) → get_elem? w.objects k ≡ some x → get_elem? w'.objects k ≡ some y
    → IsReference w (reference k t x) → IsReference w' (reference k t y)
reference_held name w w' next k t x y at at' so = let on = next_later name w w' next k x at in
    let same : on.now ≡ y = some-injective on.now y (sym on.there ∙ at') in
    record {
      now = y;
      there = at';
      held = object_through t x y so.held (subst (IsLaterObject x) same on.later);
      later = object_itself y;
    }
