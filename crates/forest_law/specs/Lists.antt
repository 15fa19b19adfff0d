-- Each change is allowed where it is made.
use Rattle.std.specs.Prelude.{ℕ, ◌≡◌, true, false, Option, Some, None, List}
use Rattle.key_tuple.specs.KeyPlace.{At, within}
use mathlib.Core.Option.{some}
use lib.ListN.{get_elem?}
use Rattle.map_history.specs.Map.{MapChange, is_allowed, key_of, AreLawful}
use Rattle.tree_law.specs.Pages.{Page, is_own, low_place, high_place, row_pairs}
use Rattle.index_law.specs.Answers.{MadeChange}
use Rattle.index_law.specs.Shape.{Shape}
use Rattle.index_law.specs.State.{Entries, changes}
use Rattle.forest_law.specs.declared.objects.Object.{Object}
use Rattle.forest_law.specs.Turns.{IsInHand}

-- each change of a list is allowed by the map of those before it
abbrev pub AreLawfulLists : List Entries → Type 0
AreLawfulLists lists = (i : ℕ) (xs : Entries) → get_elem? lists i ≡ some xs → AreLawful (changes xs)

-- the page is a leaf of the trees, of this index, which has the change's key in its bounds and
-- whose rows allow the change
pub record AllowsChange (number : ℕ) (page : Page) (i : ℕ) (c : MapChange) : Type 0 where
  pub tree : is_own number page.prev ≡ false
  pub index : page.index ≡ i
  pub leaf : page.level ≡ 0
  pub inside : within (low_place page.low) (high_place page.high) (At (key_of c)) ≡ true
  pub allowed : is_allowed (row_pairs page.rows) c ≡ true

-- a leaf in hand allows the change of the index
pub record IsOnLeaf (shape : Shape) (before : List (Option Object)) (i : ℕ)
    (c : MapChange) : Type 0 where
  pub number : ℕ
  pub block : ℕ
  pub page : Page
  pub hand : IsInHand shape before number block page
  pub allows : AllowsChange number page i c

-- the change, if there is one, is allowed on a held leaf
abbrev pub MayChange : Shape → List (Option Object) → Option (ℕ × MadeChange) → Type 0
MayChange shape before None = Unit {0}
MayChange shape before (Some d) = IsOnLeaf shape before d.0 d.1.change
