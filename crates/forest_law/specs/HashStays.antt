-- A hashed leaf stays hashed, unless there is no room for it, or its page is to go.
use Rattle.std.specs.Prelude.{ℕ, ◌≡◌, ◌≢◌, ◌<◌, ◌+◌, ◌⊎◌, false, Option, Some, None, List, [], length}
use Rattle.key_tuple.specs.declared.mode.Params.{Params}
use Rattle.index_page.specs.Page.{PageRows}
use Rattle.index_page.specs.Rows.{Row}
use Rattle.map_history.specs.Map.{MapChange}
use Rattle.hash_partition.specs.Part.{Part}
use Rattle.hash_law.specs.Blocks.{part_for}
use Rattle.hash_law.specs.Entries.{entries}
use Rattle.tree_law.specs.Pages.{is_own}
use Rattle.index_law.specs.Shape.{Shape}
use Rattle.forest_law.specs.declared.objects.Frame.{Frame}
use Rattle.forest_law.specs.declared.objects.Pool.{Pool}
use Rattle.forest_law.specs.declared.objects.Object.{Object}
use Rattle.forest_law.specs.declared.objects.Object.TheVariants as object
use Rattle.forest_law.specs.Numbers.{pool_id, part_id, frame_id}
use Rattle.forest_law.specs.Objects.{Becomes}
use Rattle.forest_law.specs.Hashed.{folds_for}
use Rattle.forest_law.specs.RowSteps.{ChangesRow}

-- the frame has a leaf of the trees
pub record HasTreeLeaf (f : Frame) : Type 0 where
  pub page : PageRows
  pub page_is : f.page ≡ Some page
  pub leaf : page.head.level ≡ 0
  pub inside : is_own page.head.number page.head.prev ≡ false

-- the frame is hashed for this index with these parameters
pub record IsHashedWith (index : ℕ) (params : Params) (f : Frame) : Type 0 where
  pub hashed : f.hashed ≡ Some index
  pub built : f.figures.built ≡ Some params

-- how many entries these rows of the block have, hashed so
abbrev pub entries_needed : Shape → (b index : ℕ) → Params → List Row → ℕ
entries_needed shape b index params rows =
    length (entries params.left (folds_for shape index params) b rows)

-- the same of the rows of a page, if there is one
abbrev pub page_needs : Shape → (b index : ℕ) → Params → Option PageRows → ℕ
page_needs shape b index params None = 0
page_needs shape b index params (Some page) = entries_needed shape b index params page.rows

-- the page of the frame is as it was, and there was no room for its rows once one of them was changed,
-- which was undone
pub record LackedRoom (shape : Shape) (spare b index : ℕ) (params : Params)
    (x y : Frame) : Type 0 where
  pub stays : y.page ≡ x.page
  pub page : PageRows
  pub page_is : y.page ≡ Some page
  pub change : MapChange
  pub rows : List Row
  pub clock : ℕ
  pub later : ℕ
  pub changes : ChangesRow change page.rows rows clock later
  pub lacks : spare < entries_needed shape b index params rows

-- so few nodes are spare that there is no room for the leaf's rows, or was none while one of them was
-- changed
abbrev pub LacksRoom : Shape → (spare b index : ℕ) → Params → Frame → Frame → Type 0
LacksRoom shape spare b index params x y =
    (spare < page_needs shape b index params y.page)
    ⊎ LackedRoom shape spare b index params x y

-- these parameters, or else those
abbrev pub params_or : Option Params → Params → Params
params_or None other = other
params_or (Some params) other = params

-- the page, if there is one, has no rows
abbrev pub HasNoRows : Option PageRows → Type 0
HasNoRows None = Unit {0}
HasNoRows (Some page) = page.rows ≡ []

-- another block in hand isn't hashed then either, and there is no room for the rows of both, that one
-- hashed as it was, or else as this one. Of both pages one had no rows, or has none then: a split or a
-- merge moved them
pub record LacksRoomForBoth (shape : Shape) (before news : List (Option Object))
    (spare b index : ℕ) (params : Params) (x y : Frame) : Type 0 where
  pub other : ℕ
  pub apart : other ≢ b
  pub old : Frame
  pub new : Frame
  pub becomes : Becomes before news (frame_id shape other) (object.Frame old) (object.Frame new)
  pub bare : new.hashed ≡ None
  pub empty : HasNoRows old.page ⊎ (HasNoRows x.page ⊎ HasNoRows y.page)
  pub lacks : spare < page_needs shape b index params y.page
      + page_needs shape other index (params_or old.figures.built params) new.page

-- the page of the frame is as it was, and the leaf was hashed anew, as is advised, or there was no
-- room for that
pub record IsHashedAnew (shape : Shape) (spare b index : ℕ) (x y : Frame) : Type 0 where
  pub stays : y.page ≡ x.page
  pub as_advised : IsHashedWith index y.figures.advice y
      ⊎ (spare < page_needs shape b index y.figures.advice y.page)

-- the partition of the index is in hand, and has no room for the leaf's rows, alone or together with
-- those of another block, or the leaf was hashed anew
pub record IsRehashed (shape : Shape) (before news : List (Option Object)) (b index : ℕ)
    (params : Params) (x y : Frame) : Type 0 where
  pub old : Part
  pub new : Part
  pub becomes : Becomes before news (part_id shape (part_for shape.parts index)) (object.Part old)
      (object.Part new)
  pub cause : LacksRoom shape new.spare b index params x y
      ⊎ (LacksRoomForBoth shape before news new.spare b index params x y
      ⊎ IsHashedAnew shape new.spare b index x y)

-- the page of the frame is as it was, and the pool is in hand, so that it may go
pub record MayGoToImage (before news : List (Option Object)) (x y : Frame) : Type 0 where
  pub stays : y.page ≡ x.page
  pub old : Pool
  pub new : Pool
  pub pool : Becomes before news pool_id (object.Pool old) (object.Pool new)

-- where the frame was hashed, and has a leaf of the trees then, it is hashed as it was, or there is a
-- cause why it isn't
abbrev pub StaysHashed : Shape → List (Option Object) → List (Option Object) → ℕ → Frame → Frame
    → Type 0
StaysHashed shape before news b x y = (index : ℕ) (params : Params) → IsHashedWith index params x
    → HasTreeLeaf y
    → IsHashedWith index params y
    ⊎ (IsRehashed shape before news b index params x y ⊎ MayGoToImage before news x y)

-- where the frame was hashed, it is hashed as it was
abbrev pub IsHashedAlike : Frame → Frame → Type 0
IsHashedAlike x y = (index : ℕ) (params : Params) → IsHashedWith index params x
    → IsHashedWith index params y
