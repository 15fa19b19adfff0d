-- What a descent to a leaf teaches its index and the block, which is hashed where that is due.
use Rattle.std.specs.Prelude.{ℕ, ◌≡◌, ◌≢◌, true, false, Some, List, [], ◌∷◌, length}
use Rattle.std.specs.List.{AllByRecursion}
use Rattle.latch_law.specs.declared.knows.Reference.{Reference}
use Rattle.latch_law.specs.declared.knows.Refusal.{Refusal}
use Rattle.latch_law.specs.Rule.{Holds}
use Rattle.latch_law.specs.Views.{holding}
use Rattle.latch_law.specs.Whole.{reference}
use Rattle.latch_space.specs.Passes.{view, count}
use Rattle.learning.specs.declared.event.BlockFigures.{BlockFigures}
use Rattle.learning.specs.declared.event.Descent.{Descent}
use Rattle.learning.specs.declared.event.Event.TheVariants as event
use Rattle.learning.specs.declared.event.Figures.{Figures}
use Rattle.map_history.specs.declared.columns.Note.{Note}
use Rattle.map_history.specs.declared.columns.Note.TheVariants as note
use Rattle.search_info.specs.declared.knows.Knows.{Knows}
use Rattle.search_info.specs.declared.outcome.Learn.{Learn}
use Rattle.search_info.specs.declared.outcome.Learn.TheVariants.{Learnt, Raced, Worn}
use Rattle.search_info.specs.Outcomes.{TellsLearn, TellsBlock, descent_of}
use Rattle.index_page.specs.Page.{PageRows}
use Rattle.hash_partition.specs.Part.{Part}
use Rattle.hash_law.specs.Blocks.{part_for}
use Rattle.hash_upkeep.specs.declared.built.Build.{Build}
use Rattle.hash_upkeep.specs.declared.built.Build.TheVariants as build
use Rattle.hash_upkeep.specs.Build.{BuildsAnew}
use Rattle.index_law.specs.Shape.{Shape}
use Rattle.forest_law.specs.declared.objects.Frame.{Frame}
use Rattle.forest_law.specs.declared.objects.Object.{Object}
use Rattle.forest_law.specs.declared.objects.Object.TheVariants as object
use Rattle.forest_law.specs.Numbers.{part_id, frame_id}
use Rattle.forest_law.specs.State.{fields_for}
use Rattle.forest_world.specs.Held.{TreePass, shape_of_pass}
use Rattle.hash_maintain.specs.Leaves.{frame_built}
use Rattle.hash_maintain.specs.Upkeep.{hashing_as}
use Rattle.buffer_pool.specs.Calls.{Does}
use Rattle.buffer_pool.specs.Tries.{tries_and_given, IsOfPart}
use Rattle.tree_descent.specs.Ways.{HoldsPage}

-- a descent to the leaf in a frame, with a tuple that agrees so far with the rows beside it
abbrev pub descent_to : Shape → ℕ → Figures → Frame → PageRows → Descent
descent_to shape i figures f page =
    descent_of (fields_for shape i) figures f.figures (length page.rows)

-- the descent was counted, or not, and these are the block's figures then
pub record CountsDescent (l : Knows) (i : ℕ) (d : Descent) (learn : Learn) (figures : BlockFigures)
    (m : Knows) : Type 0 where
  pub told : TellsLearn l i (event.Descent d) learn m
  pub block : TellsBlock d learn figures

-- the frame with other figures
abbrev pub with_figures : Frame → BlockFigures → Frame
with_figures f figures = record f { figures = figures }

-- the figures, once no help is counted
abbrev pub unhelped : BlockFigures → BlockFigures
unhelped figures = record figures { helps = 0 }

-- the block's frame, known as f, is known as g, and is held as it was taken. Beside refused tries
-- this was given back and nothing said, and all else is held as before
pub record FrameBecomes (p : TreePass) (b : ℕ) (f g : Frame) (given : List (Reference Object))
    (q : TreePass) : Type 0 where
  pub taken : Object
  pub was : Holds (view p) (frame_id (shape_of_pass p) b) (holding taken (object.Frame f))
  pub is : Holds (view q) (frame_id (shape_of_pass p) b) (holding taken (object.Frame g))
  pub refused : List (Refusal Object)
  pub does : Does p q (frame_id (shape_of_pass p) b ∷ []) (tries_and_given refused given)
  pub count : count q ≡ count p

-- the note of a build
abbrev pub note_of_build : Build → Note
note_of_build (build.Built nodes) = note.Built
note_of_build build.NotNeeded = note.Same
note_of_build (build.ArenaFull need spare) = note.Arena

-- the partition of the index was held for the build of a block that wasn't hashed as advised, and
-- given back
pub record BuildsOnPart (p : TreePass) (i b : ℕ) (page : PageRows) (figures : BlockFigures)
    (answer : Build) (references : List (Reference Object)) : Type 0 where
  pub differs : figures.built ≢ Some figures.advice
  pub was : Part
  pub now : Part
  pub told : BuildsAnew (hashing_as p b i figures.advice) page.rows was now answer
  pub given : references
      ≡ reference (part_id (shape_of_pass p) (part_for (shape_of_pass p).parts i)) (object.Part was)
      (object.Part now) ∷ []

-- nothing was given back, since the block is hashed as advised, or the build was made
abbrev pub BuildsSo : TreePass → (i b : ℕ) → PageRows → BlockFigures → Build
    → List (Reference Object) → Type 0
BuildsSo p i b page figures build.NotNeeded given =
    (figures.built ≡ Some figures.advice) × (given ≡ [])
BuildsSo p i b page figures (build.Built nodes) given =
    BuildsOnPart p i b page figures (build.Built nodes) given
BuildsSo p i b page figures (build.ArenaFull need spare) given =
    BuildsOnPart p i b page figures (build.ArenaFull need spare) given

-- the leaf in the frame f, which is g then, is hashed with its advice, or there was no room; no
-- help is counted then
pub record HashesLeaf (p : TreePass) (i b : ℕ) (f : Frame) (page : PageRows)
    (figures : BlockFigures) (told : Note) (g : Frame) (given : List (Reference Object)) : Type 0
  where
    pub answer : Build
    pub note_is : told ≡ note_of_build answer
    pub becomes : g ≡ frame_built answer (hashing_as p b i figures.advice)
        (with_figures f (unhelped figures))
    pub builds : BuildsSo p i b page figures answer given

-- the frame f has these figures then, and nothing was given back
pub record KeepsHashedSo (f : Frame) (figures : BlockFigures) (g : Frame)
    (references : List (Reference Object)) : Type 0 where
  pub becomes : g ≡ with_figures f figures
  pub given : references ≡ []

-- what comes of the leaf: where a build is due it is hashed, else it is as it was but for what its
-- block learnt
abbrev pub EndsLesson : TreePass → (i b : ℕ) → Frame → PageRows → BlockFigures → Learn → Note
    → Frame → List (Reference Object) → Type 0
EndsLesson p i b f page figures (Learnt before after true) told g given =
    HashesLeaf p i b f page figures told g given
EndsLesson p i b f page figures (Learnt before after false) told g given =
    (told ≡ note.No) × KeepsHashedSo f figures g given
EndsLesson p i b f page figures (Raced read found) told g given =
    (told ≡ note.Raced) × KeepsHashedSo f figures g given
EndsLesson p i b f page figures Worn told g given =
    (told ≡ note.Worn) × KeepsHashedSo f figures g given

-- the frame has the page that it had, in the same bounds and at the same clock
pub record HasSamePage (f g : Frame) : Type 0 where
  pub page : g.page ≡ f.page
  pub low : g.low ≡ f.low
  pub high : g.high ≡ f.high
  pub clock : g.clock ≡ f.clock

-- a descent to the leaf in the block's frame was counted, or not, and what came of that is known
pub record Teaches (p : TreePass) (l : Knows) (i b : ℕ) (figures : Figures) (told : Note)
    (q : TreePass) (m : Knows) : Type 0 where
  pub leaf : HoldsPage (view p) b i 0
  pub new : Frame
  pub given : List (Reference Object)
  pub becomes : FrameBecomes p b leaf.frame new given q
  pub same : HasSamePage leaf.frame new
  pub parts : AllByRecursion IsOfPart given
  pub learn : Learn
  pub block : BlockFigures
  pub counts : CountsDescent l i
      (descent_to (shape_of_pass p) i figures leaf.frame leaf.is.page) learn block m
  pub ends : EndsLesson p i b leaf.frame leaf.is.page block learn told new given
