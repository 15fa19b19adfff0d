-- What a search leaves of the frame of its leaf.
use Rattle.std.specs.Prelude.{ℕ, ◌≡◌, ◌≢◌, ◌⊎◌, true, false, Some}
use Rattle.latch_law.specs.declared.knows.Holding.{Holding}
use Rattle.latch_law.specs.Rule.{Holds}
use Rattle.learning.specs.declared.event.BlockFigures.{BlockFigures}
use Rattle.learning.specs.declared.event.Figures.{Figures}
use Rattle.map_history.specs.declared.columns.How.{How}
use Rattle.map_history.specs.declared.columns.How.TheVariants as ways
use Rattle.search_info.specs.declared.knows.Knows.{Knows}
use Rattle.search_info.specs.declared.outcome.Learn.{Learn}
use Rattle.search_info.specs.declared.outcome.Learn.TheVariants.{Learnt, Raced, Worn}
use Rattle.index_page.specs.Page.{PageRows}
use Rattle.index_law.specs.Shape.{Shape}
use Rattle.forest_law.specs.declared.objects.Frame.{Frame}
use Rattle.forest_law.specs.declared.objects.Object.{Object}
use Rattle.forest_law.specs.declared.objects.Object.TheVariants as object
use Rattle.forest_law.specs.Numbers.{frame_id}
use Rattle.call_law.specs.Spoken.{View}
use Rattle.buffer_pool.specs.AsTaken.{IsAsTaken, KeptPage}
use Rattle.leaf_search.specs.Lessons.{CountsDescent, HasSamePage, descent_to}

-- the helps of a block after a descent that gave it these figures: none where a build is due
abbrev pub helps_left : Learn → BlockFigures → ℕ
helps_left (Learnt before after true) block = 0
helps_left (Learnt before after false) block = block.helps
helps_left (Raced read found) block = block.helps
helps_left Worn block = block.helps

-- a descent to the leaf in the frame f was counted, or not, which the lessons m end with; the frame
-- is g then, with the same page, bounds and clock, and with the helps and the advice that this gave
pub record IsTaught (shape : Shape) (i : ℕ) (m : Knows) (f g : Frame) : Type 0 where
  pub page : PageRows
  pub paged : f.page ≡ Some page
  pub same : HasSamePage f g
  pub read : Knows
  pub figures : Figures
  pub learn : Learn
  pub block : BlockFigures
  pub counts : CountsDescent read i (descent_to shape i figures f page) learn block m
  pub helps : g.figures.helps ≡ helps_left learn block
  pub advice : g.figures.advice ≡ block.advice

-- a frame that kept its page since it was taken is as such a descent left it
abbrev pub IsAsTaught : Shape → ℕ → Knows → Object → Object → Type 0
IsAsTaught shape i m taken now = (f g : Frame) → taken ≡ object.Frame f → now ≡ object.Frame g
    → KeptPage f g → IsTaught shape i m f g

-- the frame of the leaf that was searched for, if it kept its page since it was taken: it is as it
-- was taken where the hash led to it, and else as the descent left it
abbrev pub IsAsFound : Shape → ℕ → Knows → How → Object → Object → Type 0
IsAsFound shape i m how taken now = ((how ≡ ways.Hit) × IsAsTaken taken now)
    ⊎ ((how ≢ ways.Hit) × IsAsTaught shape i m taken now)

-- the block's frame is held so
abbrev pub HoldsAsFound : View → Shape → (b i : ℕ) → Knows → How → Type 0
HoldsAsFound v shape b i m how = (h : Holding Object) → Holds v (frame_id v.terms.shape b) h
    → IsAsFound shape i m how h.taken h.known
