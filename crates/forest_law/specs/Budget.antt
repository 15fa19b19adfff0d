-- What the pages of the trees weigh, and what a change of a list pays for.
use Rattle.std.specs.Prelude.{ℕ, ◌+◌, ◌≤◌, if◌then◌else◌, Option, Some, None, List}
use Rattle.map_history.specs.Map.{Map, writes}
use Rattle.index_page.specs.Loads.{charge_of}
use Rattle.tree_law.specs.Pages.{Pages}
use Rattle.tree_law.specs.PageChanges.{PageChange, LeadTo}
use Rattle.tree_law.specs.PageBudget.{short_keys, total_weight, IsWithinBudget}
use Rattle.tree_law.specs.BudgetLaws.{AreWeighed}
use Rattle.index_law.specs.Answers.{MadeChange}
use Rattle.index_law.specs.Shape.{Shape}
use Rattle.index_law.specs.State.{Entries, written_in_all}
use Rattle.forest_law.specs.declared.objects.Object.{Object}
use Rattle.forest_law.specs.State.{pages_of, fields_for}
use Rattle.forest_law.specs.Trees.{MapsLead}

-- what the pages of the trees weigh together
abbrev pub weight_of : Shape → Pages → ℕ
weight_of shape pages = total_weight short_keys charge_of shape.indexes shape.pages pages

-- it is no more than the indexes, and the puts and sets of all lists, pay for
abbrev pub ArePaid : Shape → List Object → List Entries → Type 0
ArePaid shape objects lists = IsWithinBudget short_keys charge_of shape.indexes shape.pages
    (written_in_all lists) (pages_of shape objects)

-- what a change pays: a put or a set pays for a leaf that it makes full
abbrev pub paid : Option (ℕ × MadeChange) → ℕ
paid None = 0
paid (Some d) = if writes d.1.change then short_keys.full else 0

-- changes of pages, whatever the trees and maps of others are, add no more to the weight than the
-- change of a list pays
abbrev pub Pays : Shape → Option (ℕ × MadeChange) → List PageChange → Type 0
Pays shape change turned =
    (heights : ℕ → ℕ) (maps maps' : ℕ → Map) → MapsLead change maps maps' → (pages pages' : Pages)
    → AreWeighed short_keys shape.indexes shape.pages (fields_for shape) heights maps pages
    → LeadTo pages pages' turned → weight_of shape pages' ≤ weight_of shape pages + paid change
