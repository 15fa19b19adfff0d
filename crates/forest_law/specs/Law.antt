-- Which whole states are lawful, and which steps may be made with what is held.
use Rattle.std.specs.Prelude.{ℕ, ◌⊎◌, Option, List}
use Rattle.std.specs.List.{AllByRecursion}
use Rattle.latch_law.specs.declared.knows.Knows.{Knows}
use Rattle.latch_law.specs.Views.{knowns}
use Rattle.map_history.specs.Map.{Map}
use Rattle.tree_law.specs.Pages.{AreLawfulPages}
use Rattle.tree_law.specs.PageChanges.{LeaveOrder}
use Rattle.index_law.specs.Answers.{MadeChange, Saying}
use Rattle.forest_law.specs.Lists.{AreLawfulLists}
use Rattle.index_law.specs.Shape.{Shape}
use Rattle.index_law.specs.State.{Entries}
use Rattle.forest_law.specs.declared.objects.Frame.{Frame}
use Rattle.forest_law.specs.declared.objects.Object.{Object}
use Rattle.forest_law.specs.declared.objects.Object.TheVariants as object
use Rattle.forest_law.specs.Numbers.{frame_id}
use Rattle.forest_law.specs.State.{ForestState, pages_of, heights_of, maps_of, fields_for}
use Rattle.forest_law.specs.Objects.{Becomes}
use Rattle.forest_law.specs.Counted.{AreCounted}
use Rattle.forest_law.specs.Kinds.{AreKinds, KeepsKind}
use Rattle.forest_law.specs.Turns.{Turn, page_changes, IsTurn}
use Rattle.forest_law.specs.Placed.{ArePlaced, KeepsPage, TurnsPage, PlacesStay, PlacesTurn}
use Rattle.forest_law.specs.Trees.{HeightsLead, MapsLead, IsStep}
use Rattle.forest_law.specs.Lists.{MayChange}
use Rattle.forest_law.specs.Hashed.{IsHashExact}
use Rattle.forest_law.specs.HashKept.{KeepsHash}
use Rattle.forest_law.specs.Clocked.{IsLaterObject}
use Rattle.forest_law.specs.Budget.{ArePaid, Pays}
use Rattle.forest_law.specs.Outside.{AreOutsideHeld, KeepsOneOutside}

-- lawful objects and lists: all is counted and of its kind, each page has one place, in a frame or
-- as an image, the hash is exact, each list is lawful, and the pages form the trees that hold the
-- lists' maps
pub record AreLawfulObjects (shape : Shape) (objects : List Object)
    (entries : List Entries) : Type 0 where
  pub counted : AreCounted shape objects entries
  pub kinds : AreKinds shape objects
  pub placed : ArePlaced shape objects
  pub hashed : IsHashExact shape objects
  pub lists : AreLawfulLists entries
  pub pages : AreLawfulPages shape.indexes (fields_for shape) (heights_of objects)
      (maps_of entries) (pages_of shape objects)

-- a lawful state: its objects and lists are lawful, puts and sets have paid for its pages, and each
-- page outside the trees is in somebody's hand
pub record IsLawful (w : ForestState) : Type 0 where
  pub objects : AreLawfulObjects w.shape w.objects w.lists
  pub budget : ArePaid w.shape w.objects w.lists
  pub outside : AreOutsideHeld w

-- what may follow: each held object stays of its kind and becomes a later one; the pages that take
-- part are seen in hand and make one move, whatever the trees and maps of others are; each other
-- held frame keeps its page; the pool names the places and has the images; the pages that are left
-- are in order; the change is allowed, and pays for what the pages weigh more; one page outside the
-- trees is in hand at most; and what is in hand keeps the hash exact
pub record Follows (shape : Shape) (before news : List (Option Object))
    (change : Option (ℕ × MadeChange)) : Type 0 where
  pub kinds : (k : ℕ) (x y : Object) → Becomes before news k x y → KeepsKind x y
  pub turns : List Turn
  pub each : AllByRecursion (IsTurn shape before news) turns
  pub frames : (b : ℕ) (x y : Frame)
      → Becomes before news (frame_id shape b) (object.Frame x) (object.Frame y)
      → KeepsPage turns b x y ⊎ TurnsPage turns b x y
  pub pool : PlacesStay before news turns ⊎ PlacesTurn before news turns
  pub pages : (heights heights' : ℕ → ℕ) → HeightsLead before news heights heights'
      → (maps maps' : ℕ → Map) → MapsLead change maps maps'
      → IsStep heights heights' maps maps' (page_changes turns)
  pub order : LeaveOrder (fields_for shape) (page_changes turns)
  pub allowed : MayChange shape before change
  pub clocks : (k : ℕ) (x y : Object) → Becomes before news k x y → IsLaterObject x y
  pub pays : Pays shape change (page_changes turns)
  pub outside : KeepsOneOutside shape before news turns
  pub hash : KeepsHash shape before news

-- what a pass may do by what it knows
abbrev pub MayFollow : Knows Shape Object MadeChange Saying → List (Option Object)
    → Option (ℕ × MadeChange) → Type 0
MayFollow v news change = Follows v.terms.shape (knowns v.held) news change
