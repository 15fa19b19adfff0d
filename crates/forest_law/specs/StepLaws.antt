-- Which steps of a holder follow, where they keep the hash exact.
use Rattle.std.specs.Prelude.{ℕ, Option, Some, None, List, []}
use Rattle.index_law.specs.Answers.{MadeChange}
use Rattle.index_law.specs.Shape.{Shape}
use Rattle.forest_law.specs.declared.objects.Object.{Object}
use Rattle.forest_law.specs.HashKept.{KeepsHash}
use Rattle.forest_law.specs.Law.{Follows}
use Rattle.forest_law.specs.Steps.{MakeSteps}
use Rattle.forest_law.specs.Restructures.{SplitsInHand, MergesInHand, RaisesInHand, LiftsInHand, RearrangesInHand}
use Rattle.forest_law.specs.RowSteps.{ChangesLeaf}
use Rattle.forest_law.specs.PoolSteps.{BringsPage, TakesPage, EvictsPage, RestoresPage}

-- a change of a leaf's row follows, and so does a step in which all is at rest
pub record RowChangesFollow : Type 0 where
  pub rest : (shape : Shape) (before news : List (Option Object))
      → MakeSteps shape before news [] [] → KeepsHash shape before news
      → Follows shape before news None
  pub row : (shape : Shape) (before news : List (Option Object)) (d : ℕ × MadeChange)
      → ChangesLeaf shape before news d → KeepsHash shape before news
      → Follows shape before news (Some d)

-- a split, a merge, a raise, a lift and a page rearranged follow
pub record RestructuresFollow : Type 0 where
  pub split : (shape : Shape) (before news : List (Option Object))
      → SplitsInHand shape before news → KeepsHash shape before news
      → Follows shape before news None
  pub merge : (shape : Shape) (before news : List (Option Object))
      → MergesInHand shape before news → KeepsHash shape before news
      → Follows shape before news None
  pub raise : (shape : Shape) (before news : List (Option Object))
      → RaisesInHand shape before news → KeepsHash shape before news
      → Follows shape before news None
  pub lift : (shape : Shape) (before news : List (Option Object))
      → LiftsInHand shape before news → KeepsHash shape before news
      → Follows shape before news None
  pub rearrange : (shape : Shape) (before news : List (Option Object))
      → RearrangesInHand shape before news → KeepsHash shape before news
      → Follows shape before news None

-- a page outside the trees that comes or goes follows, and so does a page that goes to its image or
-- comes from it
pub record PagesComeAndGo : Type 0 where
  pub brings : (shape : Shape) (before news : List (Option Object))
      → BringsPage shape before news → KeepsHash shape before news
      → Follows shape before news None
  pub takes : (shape : Shape) (before news : List (Option Object))
      → TakesPage shape before news → KeepsHash shape before news
      → Follows shape before news None
  pub evicts : (shape : Shape) (before news : List (Option Object))
      → EvictsPage shape before news → KeepsHash shape before news
      → Follows shape before news None
  pub restores : (shape : Shape) (before news : List (Option Object))
      → RestoresPage shape before news → KeepsHash shape before news
      → Follows shape before news None
