-- Passes that follow one another, and the one that they make.
use Rattle.std.specs.Prelude.{ℕ, ◌≡◌, ◌+◌, List, [], ◌∷◌, length, flat_map}
use mathlib.Core.Option.{some}
use lib.ListN.{get_elem?}
use Rattle.list_facts.specs.Parts.{longer}
use Rattle.call_law.specs.Spoken.{OwnAnswer}
use Rattle.index_law.specs.State.{Entries}
use Rattle.search_info.specs.declared.knows.Try.{Try}
use Rattle.lane_threads.specs.Engine.{Engine, EnginePass, known, lessons_of, IsOf}

-- each is a pass of the engine
abbrev pub ArePassesOf : Engine → List EnginePass → Type 0
ArePassesOf engine passes = (k : ℕ) (p : EnginePass) → get_elem? passes k ≡ some p → IsOf engine p

-- each ends where the next begins
abbrev pub AreInRow : List EnginePass → Type 0
AreInRow passes = (k : ℕ) (p q : EnginePass) → get_elem? passes k ≡ some p
    → get_elem? passes (k + 1) ≡ some q → (known p).end ≡ (known q).low

-- what they said, one behind another
abbrev pub all_said : List EnginePass → List OwnAnswer
all_said passes = flat_map (λ (p : EnginePass). (known p).said) passes

-- what they tried, one behind another
abbrev pub all_tried : List EnginePass → List Try
all_tried passes = flat_map (λ (p : EnginePass). (lessons_of p).tries) passes

-- of each index the longest list that any of them has seen
abbrev pub all_seen : List EnginePass → List Entries
all_seen [] = []
all_seen (p ∷ ps) = longer (known p).seen (all_seen ps)

-- One pass of the engine has the numbers from the first of the first pass up to the end of the
-- last, and it said, has seen and has tried what they did.
pub record Gathers (engine : Engine) (passes : List EnginePass) (whole : EnginePass) : Type 0 where
  pub own : IsOf engine whole
  pub low : (p : EnginePass) → get_elem? passes 0 ≡ some p → (known whole).low ≡ (known p).low
  pub end : (k : ℕ) (p : EnginePass) → get_elem? passes k ≡ some p → length passes ≡ k + 1
      → (known whole).end ≡ (known p).end
  pub sizes : (p : EnginePass) → get_elem? passes 0 ≡ some p → whole.sizes ≡ p.sizes
  pub said : (known whole).said ≡ all_said passes
  pub seen : (known whole).seen ≡ all_seen passes
  pub tries : (lessons_of whole).tries ≡ all_tried passes
  pub references : (known whole).references
      ≡ flat_map (λ (p : EnginePass). (known p).references) passes
