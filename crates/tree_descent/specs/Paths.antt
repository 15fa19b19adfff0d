-- What the references of a descent say: its path.
use Rattle.std.specs.Prelude.{ℕ, suc, ◌≡◌, Bool, Some, List, [], ◌∷◌}
use Rattle.key_tuple.specs.KeyPlace.{KeyPlace}
use Rattle.latch_law.specs.declared.knows.Reference.{Reference}
use Rattle.latch_law.specs.Whole.{reference}
use Rattle.index_page.specs.Picks.{IsPicked}
use Rattle.index_page.specs.Rows.{Row, Child, find_row}
use Rattle.index_law.specs.Shape.{Shape}
use Rattle.forest_law.specs.declared.objects.Frame.{Frame}
use Rattle.forest_law.specs.declared.objects.Object.{Object}
use Rattle.forest_law.specs.declared.objects.Object.TheVariants as object
use Rattle.forest_law.specs.Numbers.{frame_id}
use Rattle.buffer_pool.specs.Pages.{HasTreePage}

-- of some rows, the one whose range has the cut points to the page n
pub record PicksChild (cut : KeyPlace → Bool) (rows : List Row) (n : ℕ) : Type 0 where
  pub row : Row
  pub place : ℕ
  pub there : find_row place rows ≡ Some row
  pub picked : IsPicked cut rows place
  pub child : row.body ≡ Child n

-- a frame was given back that had the page m: one of this index, a level above the one asked for,
-- whose picked row leads to the page n
pub record LeadsTo (shape : Shape) (cut : KeyPlace → Bool) (i level m n : ℕ)
    (q : Reference Object) : Type 0 where
  pub block : ℕ
  pub taken : Object
  pub frame : Frame
  pub is : q ≡ reference (frame_id shape block) taken (object.Frame frame)
  pub page : HasTreePage frame i (suc level)
  pub number : page.page.head.number ≡ m
  pub picks : PicksChild cut page.page.rows n

-- these lead from the page m on the level `top` down to the page n on the other level, one for each
-- level between
abbrev pub LeadDown : Shape → (KeyPlace → Bool) → (i top m : ℕ) → List (Reference Object)
    → (level n : ℕ) → Type 0
LeadDown shape cut i top m [] level n = (top ≡ level) × (m ≡ n)
LeadDown shape cut i top m (q ∷ qs) level n =
    (l k : ℕ) × (top ≡ suc l) × LeadsTo shape cut i l m k q × LeadDown shape cut i l k qs level n

-- these lead from the root of an index down to the page n
pub record LeadFromRoot (shape : Shape) (cut : KeyPlace → Bool) (i level n : ℕ)
    (qs : List (Reference Object)) : Type 0 where
  pub top : ℕ
  pub down : LeadDown shape cut i top i qs level n
