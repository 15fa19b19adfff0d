-- What the learner of an engine knows of its indexes.
use Rattle.std.specs.Prelude.{ℕ, ◌≡◌, List, length, map, replicate}
use Rattle.learning.specs.Opening.{opening_info}
use Rattle.search_info.specs.declared.knows.Knows.{Knows}
use Rattle.search_info.specs.declared.learner.Learner.{Learner}
use Rattle.search_info.specs.History.{Start}
use Rattle.search_info.specs.Passes.{opening, opened_with, first_knows}
use Rattle.index_law.specs.Shape.{Shape}

-- each index has its number of fields in the learner
pub record KnowsFields (learner : Learner) (shape : Shape) : Type 0 where
  pub fields : map (λ (s : Start). s.1) (opening learner).starts ≡ shape.fields
  pub all : length shape.fields ≡ shape.indexes

-- what is known at first of indexes with so many fields each, by so many passes: nothing is learnt
abbrev pub nothing_learnt : List ℕ → ℕ → Knows
nothing_learnt fields passes =
    first_knows (opened_with (replicate (length fields) opening_info) fields passes)
