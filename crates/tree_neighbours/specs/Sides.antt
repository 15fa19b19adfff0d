-- The sides of a leaf.
use Rattle.std.specs.Prelude.{ℕ, ◌≡◌, Option, if◌then◌else◌}
use Rattle.key_tuple.specs.KeyPlace.{looks_ahead}
use Rattle.key_tuple.specs.declared.mode.Mode.{Mode}
use Rattle.index_page.specs.declared.spot.Spot.{Spot}
use Rattle.index_page.specs.Page.{PageRows}
use Rattle.forest_law.specs.declared.objects.Frame.{Frame}
use Rattle.tree_facts.specs.TreeFrames.{low_of, high_of}
use Rattle.tree_neighbours.specs.declared.side.Side.{Side}
use Rattle.tree_neighbours.specs.declared.side.Side.TheVariants.{Left, Right}

-- the side on which a search with this mode goes on
abbrev pub side_of : Mode → Side
side_of mode = if looks_ahead mode then Right else Left

-- the place of the row that a spot has on this side
abbrev pub row_on : Side → Spot → Option ℕ
row_on Left spot = spot.before
row_on Right spot = spot.after

-- the number of the page that a page leads to on this side
abbrev pub page_on : Side → PageRows → Option ℕ
page_on Left page = page.head.prev
page_on Right page = page.head.next

-- on this side of the first frame's page, where its bounds end, those of the second one's begin
abbrev pub Meets : Side → Frame → Frame → Type 0
Meets Left f g = high_of g ≡ low_of f
Meets Right f g = low_of g ≡ high_of f
