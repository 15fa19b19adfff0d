-- Passes of one number each, in order.
use Rattle.std.specs.Prelude.{ℕ, ◌≡◌, ◌+◌, ◌<◌, ◌≤◌, List, [], ◌∷◌, ◌++◌, length, cond, nat_eq}
use mathlib.Core.Option.{some}
use lib.ListN.{get_elem?}
use Rattle.call_law.specs.Spoken.{OwnAnswer, View}
use Rattle.lane_threads.specs.Engine.{Engine, EnginePass, known, lessons_of, IsOf}

-- the answers of the number n
abbrev pub said_by : ℕ → List OwnAnswer → List OwnAnswer
said_by n [] = []
said_by n (q ∷ qs) = cond (nat_eq q.by n) (q ∷ said_by n qs) (said_by n qs)

-- each answer has one of the pass's own numbers
abbrev pub IsSigned : View → Type 0
IsSigned v = (j : ℕ) (q : OwnAnswer) → get_elem? v.said j ≡ some q → (v.low ≤ q.by) × (q.by < v.end)

-- the pass is the engine's, and has the one number n
pub record IsLane (engine : Engine) (n : ℕ) (p : EnginePass) : Type 0 where
  pub own : IsOf engine p
  pub low : (known p).low ≡ n
  pub end : (known p).end ≡ n + 1

-- the passes have one number each, from n on
abbrev pub AreLanes : Engine → ℕ → List EnginePass → Type 0
AreLanes engine n passes = (k : ℕ) (p : EnginePass) → get_elem? passes k ≡ some p
    → IsLane engine (n + k) p

-- the pass, whose number is n, has what was said by it, and has seen all that the whole had seen;
-- where the whole had tried nothing, it hasn't
pub record IsShare (whole : EnginePass) (n : ℕ) (p : EnginePass) : Type 0 where
  pub sizes : p.sizes ≡ whole.sizes
  pub said : IsSigned (known whole) → (known p).said ≡ said_by n (known whole).said
  pub seen : (known p).seen ≡ (known whole).seen
  pub references : (known p).references ≡ (known whole).references
  pub untaught : (lessons_of whole).tries ≡ [] → (lessons_of p).tries ≡ []

-- there is a pass for each number of the whole, in order, and each has its share
pub record AreDealt (engine : Engine) (whole : EnginePass) (passes : List EnginePass) : Type 0 where
  pub long : (known whole).low + length passes ≡ (known whole).end
  pub lanes : AreLanes engine (known whole).low passes
  pub shares : (k : ℕ) (p : EnginePass) → get_elem? passes k ≡ some p
      → IsShare whole ((known whole).low + k) p

-- none has said or tried anything
abbrev pub AreFresh : List EnginePass → Type 0
AreFresh passes = (k : ℕ) (p : EnginePass) → get_elem? passes k ≡ some p
    → ((known p).said ≡ []) × ((lessons_of p).tries ≡ [])

-- the dealt passes were put behind the others
pub record AddsDealt (engine : Engine) (whole : EnginePass)
    (old new : List EnginePass) : Type 0 where
  pub passes : List EnginePass
  pub added : new ≡ old ++ passes
  pub dealt : AreDealt engine whole passes
