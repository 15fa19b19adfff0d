-- How many levels a tree may have.
use Rattle.std.specs.Prelude.{ℕ, suc, ◌<◌, ◌≡◌, Some}
use Rattle.tree_law.specs.Pages.{Page}
use Rattle.forest_law.specs.State.{ForestState, pages_of, heights_of}
use Rattle.forest_law.specs.Law.{IsLawful}

-- where there is a page outside the trees, each tree has fewer levels than there are page numbers
abbrev pub LevelsAreFew : Type 0
LevelsAreFew =
    (w : ForestState) → IsLawful w → (i : ℕ) → i < w.shape.indexes
    → (n : ℕ) (page : Page) → pages_of w.shape w.objects n ≡ Some page → page.prev ≡ Some n
    → suc (heights_of w.objects i) < w.shape.pages
