-- Where a cursor stands, and when a pass knows of a frame that had its leaf.
use Rattle.std.specs.Prelude.{ℕ, ◌≡◌, ◌⊎◌, Bool, true, false, Option, Some, None}
use mathlib.Core.Option.{some}
use lib.ListN.{get_elem?}
use Rattle.key_tuple.specs.KeyPlace.{At, before, within}
use Rattle.key_tuple.specs.Order.{FieldList}
use Rattle.latch_law.specs.declared.knows.Reference.{Reference}
use Rattle.clock_law.specs.ModifyClock.{HasKeyAt}
use Rattle.tree_law.specs.Pages.{Page, is_own, low_place, high_place}
use Rattle.forest_law.specs.declared.objects.Frame.{Frame}
use Rattle.forest_law.specs.declared.objects.Object.{Object}
use Rattle.forest_law.specs.declared.objects.Object.TheVariants as object
use Rattle.forest_law.specs.Numbers.{frame_id}
use Rattle.forest_law.specs.State.{mark_of}
use Rattle.call_law.specs.Spoken.{View}
use Rattle.tree_cursor.specs.declared.cursor.Cursor.{Cursor}

-- a cursor with a place stands at the row there, which has its key; one without a place stands before
-- the page's high key, or behind a key that is within the page's bounds
abbrev pub StandsAt : Page → Option ℕ → FieldList → Bool → Type 0
StandsAt page (Some place) key after = HasKeyAt page.rows place key
StandsAt page None key false = page.high ≡ Some key
StandsAt page None key true = within (low_place page.low) (high_place page.high) (At key) ≡ true

-- the key is within the page's bounds, or it is the page's high key and the cursor stands before it
pub record StandsIn (page : Page) (key : FieldList) (after : Bool) : Type 0 where
  pub low : before (At key) (low_place page.low) ≡ false
  pub high : (before (At key) (high_place page.high) ≡ true)
      ⊎ ((page.high ≡ Some key) × (after ≡ false))

-- the frame has the cursor's page at the cursor's clock: a leaf of the trees, on which it stands
pub record HasCursor (f : Frame) (c : Cursor) : Type 0 where
  pub clock : f.clock ≡ c.clock
  pub page : Page
  pub guards : (mark_of f).guards ≡ Some (record { number = c.page; page = page })
  pub tree : is_own c.page page.prev ≡ false
  pub leaf : page.level ≡ 0
  pub at : StandsAt page c.place c.key.tuple c.after
  pub inside : StandsIn page c.key.tuple c.after

-- the cursor is what one of the references says: of the cursor's block, whose frame, as it was given
-- back, had the cursor
pub record Referred (v : View) (c : Cursor) : Type 0 where
  pub nth : ℕ
  pub said : Reference Object
  pub there : get_elem? v.references nth ≡ some said
  pub object_is : said.object ≡ frame_id v.terms.shape c.block
  pub frame : Frame
  pub released : said.released ≡ object.Frame frame
  pub has : HasCursor frame c
