-- What a clause says of an engine and its passes.
use Rattle.std.specs.Prelude.{ℕ, ◌≡◌, ◌≤◌, Option, IfSome, length}
use denote.Ref.{Bor}
use mathlib.Core.Option.{some}
use lib.ListN.{get_elem?}
use Rattle.key_tuple.specs.Order.{FieldList}
use Rattle.key_tuple.specs.Parts.{Buffered}
use Rattle.latch_space.specs.Passes.{view, IsSamePass}
use Rattle.latch_space.specs.Spaces.{IsPassOf}
use Rattle.search_info.specs.declared.knows.Knows.{Knows}
use Rattle.search_info.specs.Passes.{knowledge, IsLearnPassOf, IsSameLearnPass}
use Rattle.forest_law.specs.State.{fields_for}
use Rattle.call_law.specs.Spoken.{View}
use Rattle.index_engine.specs.declared.engine.Engine.{Engine}
use Rattle.index_engine.specs.declared.engine.EnginePass.{EnginePass}

-- what the pass knows
abbrev pub known : EnginePass → View
known pass = view pass.world

-- what the pass has learnt, and tried to teach
abbrev pub lessons_of : EnginePass → Knows
lessons_of pass = knowledge pass.learn

-- it is a pass of this engine
abbrev pub IsOf : Engine → EnginePass → Type 0
IsOf engine pass = IsPassOf engine.space pass.world × IsLearnPassOf engine.learner pass.learn

-- it is the same pass, and its engine's sizes are the same
pub record IsSame (p q : EnginePass) : Type 0 where
  pub pass : IsSamePass p.world q.world
  pub learn : IsSameLearnPass p.learn q.learn
  pub sizes : q.sizes ≡ p.sizes

-- it has all numbers, so that there is no other pass
abbrev pub IsOnlyPass : View → Type 0
IsOnlyPass v = (v.low ≡ 0) × (v.end ≡ v.terms.passes)

-- how many indexes there are
abbrev pub indexes_of : Engine → ℕ
indexes_of engine = engine.space.terms.indexes

-- the key has as many fields as those of the index
abbrev pub FitsKey : Engine → ℕ → FieldList → Type 0
FitsKey engine i key = get_elem? engine.space.terms.shape.fields i ≡ some (length key)

-- the tuple has at most as many fields as the keys of the index
abbrev pub FitsTuple : Engine → ℕ → FieldList → Type 0
FitsTuple engine i tuple = length tuple ≤ fields_for engine.space.terms.shape i

-- so does the tuple at which a scan ends, if there is one
abbrev pub FitsEnd : Engine → ℕ → Option (Bor Buffered) → Type 0
FitsEnd engine i to = IfSome to (λ t. FitsTuple engine i t.now.fields)
