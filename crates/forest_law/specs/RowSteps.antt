-- A change of a leaf's row in hand, and what it is to the leaf's clock.
use Rattle.std.specs.Prelude.{ℕ, ◌≡◌, ◌≢◌, ◌⊎◌, Option, List, [], ◌∷◌, ◌++◌, length}
use Rattle.map_history.specs.Map.{MapChange, Put, Set, Del, Ascends}
use Rattle.index_page.specs.Rows.{Bytes, Row}
use Rattle.clock_law.specs.ModifyClock.{ClockRises}
use Rattle.tree_law.specs.Pages.{Page, row_pairs}
use Rattle.index_law.specs.Answers.{MadeChange}
use Rattle.index_law.specs.Shape.{Shape}
use Rattle.forest_law.specs.declared.objects.Object.{Object}
use Rattle.forest_law.specs.Lists.{AllowsChange}
use Rattle.forest_law.specs.Steps.{InHand, frame_step, MakeSteps}

-- a put: a row comes among the rows, and the clock stays as it is
pub record InsertsRow (c : MapChange) (old new : List Row) (clock clock' : ℕ) : Type 0 where
  pub below : List Row
  pub row : Row
  pub above : List Row
  pub value : List ℕ
  pub is_put : c ≡ Put row.key value
  pub body : row.body ≡ Bytes value
  pub was : old ≡ below ++ above
  pub is : new ≡ below ++ row ∷ above
  pub ascend : Ascends (row_pairs new)
  pub clock_stays : clock' ≡ clock

-- a set: a row gets another value. Where that is as long, the row stays at its place and the clock
-- as it is; where it has another length, the clock rises
pub record SetsRow (c : MapChange) (old new : List Row) (clock clock' : ℕ) : Type 0 where
  pub left : List Row
  pub row : Row
  pub after : Row
  pub right : List Row
  pub before : List ℕ
  pub value : List ℕ
  pub is_set : c ≡ Set row.key value
  pub had : row.body ≡ Bytes before
  pub has : after.body ≡ Bytes value
  pub key : after.key ≡ row.key
  pub was : old ≡ left ++ row ∷ right
  pub is : new ≡ left ++ after ∷ right
  pub ascend : Ascends (row_pairs old)
  pub in_place : length value ≡ length before → (after.place ≡ row.place) × (clock' ≡ clock)
  pub anew : length value ≢ length before → ClockRises clock clock'

-- a del: a row goes, and the clock rises
pub record DeletesRow (c : MapChange) (old new : List Row) (clock clock' : ℕ) : Type 0 where
  pub left : List Row
  pub row : Row
  pub right : List Row
  pub value : List ℕ
  pub is_del : c ≡ Del row.key
  pub body : row.body ≡ Bytes value
  pub was : old ≡ left ++ row ∷ right
  pub is : new ≡ left ++ right
  pub ascend : Ascends (row_pairs old)
  pub rises : ClockRises clock clock'

-- the rows become what the change makes of them, and the clock is as it asks
abbrev pub ChangesRow : MapChange → (old new : List Row) → (clock clock' : ℕ) → Type 0
ChangesRow c old new clock clock' = InsertsRow c old new clock clock'
    ⊎ (SetsRow c old new clock clock' ⊎ DeletesRow c old new clock clock')

-- the change of an index is made on a leaf in hand, and all else in hand is at rest
pub record ChangesLeaf (shape : Shape) (before news : List (Option Object))
    (d : ℕ × MadeChange) : Type 0 where
  pub number : ℕ
  pub hand : InHand
  pub page : Page
  pub rows : List Row
  pub allows : AllowsChange number page d.0 d.1.change
  pub changes : ChangesRow d.1.change page.rows rows hand.old.clock hand.new.clock
  pub make : MakeSteps shape before news
      (frame_step hand number page (record page { rows = rows }) ∷ []) []
