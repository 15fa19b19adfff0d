-- Pages that follow one another under one parent, in frames.
use Rattle.std.specs.Prelude.{ℕ, suc, ◌≡◌, ◌≢◌, true, false, Some, List, ◌∷◌, ◌++◌}
use Rattle.std.specs.List.{AllByRecursion}
use Rattle.key_tuple.specs.Order.{FieldList}
use Rattle.key_tuple.specs.KeyPlace.{At, before}
use Rattle.index_page.specs.Page.{PageRows}
use Rattle.index_page.specs.Rows.{Row, Child}
use Rattle.forest_law.specs.declared.objects.Frame.{Frame}
use Rattle.forest_law.specs.State.{ForestState, bound}
use Rattle.forest_law.specs.Law.{IsLawful}
use Rattle.tree_facts.specs.TreeFrames.{IsTreeFrame}

-- the key parts two lists of rows: each of the first is below it, and none of the second is
pub record PartsAt (at : FieldList) (lower upper : List Row) : Type 0 where
  pub below : AllByRecursion (λ (x : Row). before (At x.key) (At at) ≡ true) lower
  pub from : AllByRecursion (λ (x : Row). before (At x.key) (At at) ≡ false) upper

-- the second page, of the same index and level, follows the first one, and a key parts their rows,
-- at which the first one ends and the second one begins
pub record FollowsIn (l r : Frame) (page other : PageRows) (at : FieldList) : Type 0 where
  pub index : other.head.index ≡ page.head.index
  pub level : other.head.level ≡ page.head.level
  pub fields : other.head.fields ≡ page.head.fields
  pub next : page.head.next ≡ Some other.head.number
  pub prev : other.head.prev ≡ Some page.head.number
  pub high : bound l.high ≡ Some at
  pub low : bound r.low ≡ Some at
  pub parts : PartsAt at page.rows other.rows

-- pages that follow one another under one parent do so at the second pointer's key, a level below
-- it, and the page after both is neither of them
pub record AreSiblings (l r : Frame) (up page other : PageRows) (at : FieldList) : Type 0 where
  pub level : up.head.level ≡ suc page.head.level
  pub index : page.head.index ≡ up.head.index
  pub follows : FollowsIn l r page other at
  pub around : (m : ℕ) → other.head.next ≡ Some m → m ≢ page.head.number

-- so it is in each lawful state
abbrev pub SiblingsFit : Type 0
SiblingsFit =
    (w : ForestState) → IsLawful w → (b : ℕ) (f : Frame) (up : PageRows) → IsTreeFrame w b f up
    → (fore : List Row) (x y : Row) (aft : List Row) → up.rows ≡ fore ++ x ∷ y ∷ aft
    → (l r : Frame) (page other : PageRows)
    → (c : ℕ) → IsTreeFrame w c l page → x.body ≡ Child page.head.number
    → (d : ℕ) → IsTreeFrame w d r other → y.body ≡ Child other.head.number
    → AreSiblings l r up page other y.key
