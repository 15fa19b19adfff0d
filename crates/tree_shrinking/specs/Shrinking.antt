-- What a call that shrinks a tree leaves: references of the pages that it gave back.
use Rattle.std.specs.Prelude.{ℕ, suc, ◌≡◌, ◌≤◌, ◌⊎◌, Bool, true, false, Some, is_none, if◌then◌else◌, List, sum_by}
use Rattle.key_tuple.specs.Order.{FieldList}
use Rattle.key_tuple.specs.declared.mode.Mode.TheVariants as mode
use Rattle.latch_law.specs.declared.knows.Reference.{Reference}
use Rattle.latch_law.specs.Whole.{reference}
use Rattle.tree_law.specs.TreeShape.{In}
use Rattle.index_law.specs.Shape.{Shape}
use Rattle.forest_law.specs.declared.objects.Frame.{Frame}
use Rattle.forest_law.specs.declared.objects.Object.{Object}
use Rattle.forest_law.specs.declared.objects.Object.TheVariants as object
use Rattle.forest_law.specs.Numbers.{frame_id}
use Rattle.forest_world.specs.Held.{TreePass, shape_of_pass}
use Rattle.buffer_pool.specs.Pages.{HasTreePage}
use Rattle.tree_descent.specs.Leaves.{cut_in, IsPageFor}
use Rattle.tree_descent.specs.Paths.{PicksChild}
use Rattle.tree_growth.specs.Growing.{GrowsSilently}
use Rattle.tree_shrinking.specs.declared.families.Family.{Family}
use Rattle.tree_shrinking.specs.Families.{TellsFamily}
use Rattle.tree_shrinking.specs.Pairs.{AreToJoin}

-- one of the references is of the block's frame, as it was given back
pub record WasGiven (shape : Shape) (b : ℕ) (f : Frame) (rs : List (Reference Object)) : Type 0
  where
    pub taken : Object
    pub among : In (reference (frame_id shape b) taken (object.Frame f)) rs

-- two pages of one level, of these numbers, were given back that weren't to be merged
pub record StayApart (shape : Shape) (i left right : ℕ) (right_asks : Bool)
    (rs : List (Reference Object)) : Type 0 where
  pub level : ℕ
  pub lower_block : ℕ
  pub upper_block : ℕ
  pub lower : Frame
  pub upper : Frame
  pub gave_left : WasGiven shape lower_block lower rs
  pub gave_right : WasGiven shape upper_block upper rs
  pub is_left : HasTreePage lower i level
  pub is_right : HasTreePage upper i level
  pub left_number : is_left.page.head.number ≡ left
  pub right_number : is_right.page.head.number ≡ right
  pub apart : AreToJoin is_left.page is_right.page right_asks → ⊥

-- the child wasn't to be merged with the page before it, nor with the one after it, where the page
-- above points to such pages
pub record StaysAlone (shape : Shape) (i : ℕ) (family : Family)
    (rs : List (Reference Object)) : Type 0 where
  pub before : (n : ℕ) → family.left ≡ Some n → StayApart shape i n family.child true rs
  pub after : (n : ℕ) → family.right ≡ Some n → StayApart shape i family.child n false rs

-- the page above the level that has the key was given back, and the child of it that has the key
-- stays as it is
pub record RestsUnder (shape : Shape) (i level : ℕ) (key : FieldList)
    (rs : List (Reference Object)) : Type 0 where
  pub parent : ℕ
  pub up : Frame
  pub gave : WasGiven shape parent up rs
  pub page : IsPageFor shape up i (suc level) (cut_in shape i mode.Ge key)
  pub family : Family
  pub tells : TellsFamily page.is.page.rows family
  pub picks : PicksChild (cut_in shape i mode.Ge key) page.is.page.rows family.child
  pub alone : StaysAlone shape i family rs

-- the root was given back, and isn't above the level
pub record EndsBelow (shape : Shape) (i level : ℕ) (rs : List (Reference Object)) : Type 0 where
  pub top : ℕ
  pub block : ℕ
  pub root : Frame
  pub gave : WasGiven shape block root rs
  pub page : HasTreePage root i top
  pub number : page.page.head.number ≡ i
  pub low : top ≤ level

-- on the level of the index no page that has the key is to be merged
abbrev pub RestsAt : Shape → (i level : ℕ) → FieldList → List (Reference Object) → Type 0
RestsAt shape i level key rs = RestsUnder shape i level key rs ⊎ EndsBelow shape i level rs

-- one for a frame without a page, none for any other object
abbrev pub empty_frames : Object → ℕ
empty_frames (object.Frame f) = if is_none f.page then 1 else 0
empty_frames (object.Part p) = 0
empty_frames (object.Pool p) = 0
empty_frames (object.Tree t) = 0

-- how many frames were given back without a page, as each is whose page's number is freed
abbrev pub pages_freed : List (Reference Object) → ℕ
pages_freed rs = sum_by (λ (q : Reference Object). empty_frames q.released) rs

-- a way up has come to an end: as many pages were freed as levels are below, and on this level
-- no page that has the key is to be merged
pub record EndsUp (shape : Shape) (i : ℕ) (key : FieldList) (rs : List (Reference Object)) : Type 0
  where
    pub top : ℕ
    pub freed : top ≤ pages_freed rs
    pub rests : RestsAt shape i top key rs

-- the pass has said nothing, and its way up has come to an end
pub record Shrinks (p : TreePass) (i : ℕ) (key : FieldList) (q : TreePass) : Type 0 where
  pub silently : GrowsSilently p q
  pub ends : EndsUp (shape_of_pass p) i key silently.added.references
