-- A root and the page that gets its rows, in hand.
use Rattle.std.specs.Prelude.{ℕ, suc, ◌≡◌, ◌≢◌, Option, List, [], ◌∷◌}
use Rattle.latch_space.specs.Passes.{view, count}
use Rattle.index_law.specs.Shape.{Shape}
use Rattle.forest_law.specs.declared.objects.Frame.{Frame}
use Rattle.forest_law.specs.declared.objects.Tree.{Tree}
use Rattle.forest_law.specs.Numbers.{tree_id, frame_id}
use Rattle.forest_law.specs.HashSteps.{KeepsHashing}
use Rattle.forest_world.specs.Held.{TreePass, shape_of_pass, HasFrame}
use Rattle.tree_restructure.specs.Raises.{SuitsRaiseFrames, RaisesFrame}
use Rattle.call_law.specs.Hands.{KnowsFrame, KnowsTree}
use Rattle.call_law.specs.Spoken.{View}
use Rattle.buffer_pool.specs.Calls.{DoesSilently}
use Rattle.buffer_pool.specs.NewPages.{HasOutsidePage}
use Rattle.buffer_pool.specs.Parts.{part_ids, KnowsPartIf}
use Rattle.tree_smo.specs.PartHeld.{HoldsPartFor}
use Rattle.tree_smo.specs.Raising.{CanRaise}
use Rattle.tree_smo.specs.Remakes.{Remakes}

-- the numbers of the two frames
abbrev pub storeys_ids : Shape → (root under : ℕ) → List ℕ
storeys_ids shape root under = frame_id shape root ∷ frame_id shape under ∷ []

-- the numbers of the two frames, and of the tree
abbrev pub raise_ids : Shape → (i root under : ℕ) → List ℕ
raise_ids shape i root under = frame_id shape root ∷ frame_id shape under ∷ tree_id i ∷ []

-- the two frames differ, are what they are known to be, and the rows of the first can go to the
-- second
pub record SuitsStoreys (p : TreePass) (root under : ℕ) : Type 0 where
  pub apart : under ≢ root
  pub top : Frame
  pub low : Frame
  pub has_top : HasFrame p root top top
  pub has_low : HasFrame p under low low
  pub suits : SuitsRaiseFrames top low

-- the first frame in hand, which is known to be t, was raised over the second, which is known to
-- be b; both are hashed as they were
pub record RaisesStoreys (p : TreePass) (root under : ℕ) (t b : Frame) (q : TreePass) : Type 0 where
  pub top : Frame
  pub low : Frame
  pub has_top : HasFrame q root t top
  pub has_low : HasFrame q under b low
  pub raises : RaisesFrame t top b low
  pub hash : KeepsHashing t top × KeepsHashing b low
  pub remakes : Remakes p q (storeys_ids (shape_of_pass p) root under)

-- so it is, whatever they were known to be
abbrev pub ChangesStoreys : TreePass → (root under : ℕ) → TreePass → Type 0
ChangesStoreys p root under q = (t b : Frame) → HasFrame p root t t → HasFrame p under b b
    → RaisesStoreys p root under t b q

-- the pass holds all that the raise of an index's root changes, the new page's frame with it
pub record HoldsStoreys (v : View) (i root under : ℕ) : Type 0 where
  pub can : CanRaise v i root
  pub fresh : Frame
  pub number : ℕ
  pub knows : KnowsFrame v under fresh
  pub blank : HasOutsidePage fresh can.page.page.head number

-- the root, as it was known, was raised over the new page, and its tree is one higher
pub record RaisesSo (v v' : View) (i root under : ℕ) : Type 0 where
  pub was : HoldsStoreys v i root under
  pub tree : Tree
  pub top : Frame
  pub low : Frame
  pub knows_tree : KnowsTree v' i tree
  pub knows_top : KnowsFrame v' root top
  pub knows_low : KnowsFrame v' under low
  pub raises : RaisesFrame was.can.root top was.fresh low
  pub grows : tree ≡ record was.can.tree { height = suc was.can.tree.height }

-- the pass held the new page's frame too, and has made the raise
pub record MakesRaise (p : TreePass) (i root under : ℕ) (q : TreePass) : Type 0 where
  pub silently : DoesSilently p q (raise_ids (shape_of_pass p) i root under)
  pub raises : RaisesSo (view p) (view q) i root under
  pub count : count q ≡ count p

-- the numbers of all that a raise changes while this partition is held
abbrev pub rise_ids : Shape → (i root under : ℕ) → Option ℕ → List ℕ
rise_ids shape i root under part =
    frame_id shape root ∷ frame_id shape under ∷ tree_id i ∷ part_ids shape part

-- the pass held the partition of the index too, where the root is hashed, has made the raise, and still
-- holds it
pub record MakesRaiseBy (p : TreePass) (i root under : ℕ) (part : Option ℕ) (q : TreePass) : Type 0
  where
    pub silently : DoesSilently p q (rise_ids (shape_of_pass p) i root under part)
    pub raises : RaisesSo (view p) (view q) i root under
    pub still : KnowsPartIf (view q) part
    pub count : count q ≡ count p

-- so it is, whichever that partition is
abbrev pub MakesRaiseHeld : TreePass → (i root under : ℕ) → TreePass → Type 0
MakesRaiseHeld p i root under q = (part : Option ℕ) → HoldsPartFor (view p) root part
    → MakesRaiseBy p i root under part q
