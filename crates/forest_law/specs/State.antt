-- A whole state of the trees' space, and the pages, heights and maps that it is.
use Rattle.std.specs.Prelude.{ℕ, Option, Some, None, List, []}
use mathlib.Core.Option.{some}
use mathlib.Core.Option as maybe
use lib.ListN.{get_elem?}
use Rattle.key_tuple.specs.Order.{FieldList}
use Rattle.key_tuple.specs.declared.key.Key.{Key}
use Rattle.latch_law.specs.Whole.{Whole}
use Rattle.map_history.specs.Map.{Map, map_after}
use Rattle.index_page.specs.Page.{PageRows}
use Rattle.tree_law.specs.Pages.{Page, Pages}
use Rattle.clock_law.specs.ModifyClock.{NumberedPage, ClockMark}
use Rattle.index_law.specs.Answers.{MadeChange}
use Rattle.index_law.specs.Shape.{Shape}
use Rattle.index_law.specs.State.{Entries, changes}
use Rattle.forest_law.specs.declared.objects.Frame.{Frame}
use Rattle.forest_law.specs.declared.objects.Stored.{Stored}
use Rattle.forest_law.specs.declared.objects.Where.{Where}
use Rattle.forest_law.specs.declared.objects.Where.TheVariants.{Free, InFrame, Image}
use Rattle.forest_law.specs.declared.objects.Object.{Object}
use Rattle.forest_law.specs.declared.objects.Object.TheVariants as object
use Rattle.forest_law.specs.Numbers.{pool_id, tree_id, frame_id}

-- a whole state: the shape, the objects and who holds each, and the lists
abbrev pub ForestState : Type 0
ForestState = Whole Shape Object MadeChange

-- an end of a page's range
abbrev pub bound : Option Key → Option FieldList
bound None = None
bound (Some key) = Some key.tuple

-- a page within its bounds, as the law of trees sees it
abbrev pub page_within : PageRows → Option Key → Option Key → Page
page_within p low high = record {
  index = p.head.index;
  level = p.head.level;
  fields = p.head.fields;
  prev = p.head.prev;
  next = p.head.next;
  low = bound low;
  high = bound high;
  rows = p.rows;
}

-- the same, if there is a page
abbrev pub page_if : Option PageRows → Option Key → Option Key → Option Page
page_if None low high = None
page_if (Some p) low high = Some (page_within p low high)

-- the page of a frame, if it has one
abbrev pub page_in : Frame → Option Page
page_in f = page_if f.page f.low f.high

-- the page of an image, if there is one
abbrev pub page_stored : Option Stored → Option Page
page_stored None = None
page_stored (Some s) = Some (page_within s.page s.low s.high)

-- a page within its bounds with its number, if there is one
abbrev pub numbered_if : Option PageRows → Option Key → Option Key → Option NumberedPage
numbered_if None low high = None
numbered_if (Some p) low high =
    Some (record { number = p.head.number; page = page_within p low high })

-- what a reference to a frame looks at
abbrev pub mark_of : Frame → ClockMark
mark_of f = record { clock = f.clock; guards = numbered_if f.page f.low f.high }

-- what a reference to an object looks at: what is no frame guards nothing
abbrev pub object_mark : Object → ClockMark
object_mark (object.Frame f) = mark_of f
object_mark (object.Part p) = record { clock = 0; guards = None }
object_mark (object.Pool p) = record { clock = 0; guards = None }
object_mark (object.Tree t) = record { clock = 0; guards = None }

-- the page of an object, if it is a frame that has one
abbrev pub page_of : maybe.Option Object → Option Page
page_of (some (object.Frame f)) = page_in f
page_of (some (object.Part p)) = None
page_of (some (object.Pool p)) = None
page_of (some (object.Tree t)) = None
page_of maybe.none = None

-- where each page is, by the pool; no places where the object is no pool
abbrev pub places_of : maybe.Option Object → List Where
places_of (some (object.Pool p)) = p.place.items
places_of (some (object.Frame f)) = []
places_of (some (object.Part p)) = []
places_of (some (object.Tree t)) = []
places_of maybe.none = []

-- the images of the pages, by the pool; none where the object is no pool
abbrev pub images_of : maybe.Option Object → List (Option Stored)
images_of (some (object.Pool p)) = p.images.items
images_of (some (object.Frame f)) = []
images_of (some (object.Part p)) = []
images_of (some (object.Tree t)) = []
images_of maybe.none = []

-- the ages of the blocks, by the pool; none where the object is no pool
abbrev pub ages_of : maybe.Option Object → List ℕ
ages_of (some (object.Pool p)) = p.ages
ages_of (some (object.Frame f)) = []
ages_of (some (object.Part p)) = []
ages_of (some (object.Tree t)) = []
ages_of maybe.none = []

-- a tree's height, 0 where the object is no tree
abbrev pub height_of : maybe.Option Object → ℕ
height_of (some (object.Tree t)) = t.height
height_of (some (object.Pool p)) = 0
height_of (some (object.Frame f)) = 0
height_of (some (object.Part p)) = 0
height_of maybe.none = 0

-- a place, or that the number is free where there is none
abbrev pub where_of : maybe.Option Where → Where
where_of (some x) = x
where_of maybe.none = Free

-- where the page of this number is
abbrev pub where_at : List Where → ℕ → Where
where_at places n = where_of (get_elem? places n)

-- the places of the pages, by the pool among all objects
abbrev pub places : List Object → List Where
places objects = places_of (get_elem? objects pool_id)

-- an entry of the images, none where there is no entry
abbrev pub image_of : maybe.Option (Option Stored) → Option Stored
image_of (some x) = x
image_of maybe.none = None

-- the image of the page of this number, if it has one
abbrev pub image_at : List (Option Stored) → ℕ → Option Stored
image_at images n = image_of (get_elem? images n)

-- the images of the pages, by the pool among all objects
abbrev pub images : List Object → List (Option Stored)
images objects = images_of (get_elem? objects pool_id)

-- the ages of the blocks, by the pool among all objects
abbrev pub ages : List Object → List ℕ
ages objects = ages_of (get_elem? objects pool_id)

-- the page of this number, at such a place
abbrev pub page_where : Shape → List Object → ℕ → Where → Option Page
page_where shape objects n Free = None
page_where shape objects n (InFrame b) = page_of (get_elem? objects (frame_id shape b))
page_where shape objects n Image = page_stored (image_at (images objects) n)

-- the pages by their numbers, each found through the pool's places
abbrev pub pages_of : Shape → List Object → Pages
pages_of shape objects n = page_where shape objects n (where_at (places objects) n)

-- the heights of the trees, by their indexes
abbrev pub heights_of : List Object → ℕ → ℕ
heights_of objects i = height_of (get_elem? objects (tree_id i))

-- a list of changes, if there is one
abbrev pub list_of : maybe.Option Entries → Entries
list_of (some xs) = xs
list_of maybe.none = []

-- the maps that the lists make, by their indexes
abbrev pub maps_of : List Entries → ℕ → Map
maps_of lists i = map_after (changes (list_of (get_elem? lists i)))

-- a number, 0 where there is none
abbrev pub or_zero : maybe.Option ℕ → ℕ
or_zero (some n) = n
or_zero maybe.none = 0

-- how many fields the keys of an index have
abbrev pub fields_for : Shape → ℕ → ℕ
fields_for shape i = or_zero (get_elem? shape.fields i)
