-- What is told of the row that a node names, on the leaf in hand.
use Rattle.std.specs.Prelude.{ℕ, ◌≡◌, ◌≢◌, ◌+◌, ◌≤◌, ◌⊎◌, Bool, Option, Some, None, [], ◌∷◌, length}
use Rattle.key_tuple.specs.Order.{FieldList}
use Rattle.key_tuple.specs.declared.mode.Mode.{Mode}
use Rattle.latch_law.specs.Rule.{Holds}
use Rattle.latch_law.specs.Views.{holding}
use Rattle.latch_law.specs.Whole.{reference}
use Rattle.latch_space.specs.Passes.{view, count}
use Rattle.index_page.specs.Page.{PageRows}
use Rattle.chain_arena.specs.declared.node.Node.{Node}
use Rattle.hash_law.specs.BlockLaws.{HasNamedRow}
use Rattle.guess_check.specs.Check.{ChecksRow}
use Rattle.forest_law.specs.declared.objects.Frame.{Frame}
use Rattle.forest_law.specs.declared.objects.Object.{Object}
use Rattle.forest_law.specs.declared.objects.Object.TheVariants as object
use Rattle.forest_law.specs.Hashed.{folds_for, hash_block}
use Rattle.forest_law.specs.Outside.{HasNoOutside}
use Rattle.forest_world.specs.Held.{TreePass, shape_of_pass}
use Rattle.call_law.specs.Hands.{LacksObject}
use Rattle.buffer_pool.specs.Calls.{Does}
use Rattle.buffer_pool.specs.Tries.{tries_and_given}
use Rattle.hash_guess.specs.Leads.{part_in}
use Rattle.hash_guess.specs.Follows.{frame_id_of}

-- the frame of the node's block is held, which was taken so and is known to be this one, and has a leaf
-- with the row that the node names
pub record HoldsNamedRow (p : TreePass) (index : ℕ) (n : Node) : Type 0 where
  pub taken : Object
  pub frame : Frame
  pub held : Holds (view p) (frame_id_of p n) (holding taken (object.Frame frame))
  pub named : HasNamedRow (folds_for (shape_of_pass p)) (shape_of_pass p).parts (part_in p index)
      (hash_block frame) n
  pub inside : HasNoOutside frame

-- a page of the index has keys of no fewer fields than the tuple
abbrev pub SuitsFrame : Frame → ℕ → FieldList → Type 0
SuitsFrame f index tuple = (page : PageRows) → f.page ≡ Some page → page.head.index ≡ index
    → length tuple ≤ page.head.fields

-- the page is of another index, and nothing is told; or it is of the index, and this is told by the
-- check of the row at the place
abbrev pub ChecksPage : PageRows → ℕ → Mode → FieldList → ℕ → Option Bool → Type 0
ChecksPage page index mode tuple place told = ((page.head.index ≢ index) × (told ≡ None))
    ⊎ ((page.head.index ≡ index) × ChecksRow mode tuple page place told)

-- so it is with the frame's page
pub record ChecksFrame (f : Frame) (index : ℕ) (mode : Mode) (tuple : FieldList) (place : ℕ)
    (told : Option Bool) : Type 0 where
  pub page : PageRows
  pub paged : f.page ≡ Some page
  pub checks : ChecksPage page index mode tuple place told

-- the leaf in hand tells this of the row that the node names
pub record Confirms (p : TreePass) (index : ℕ) (mode : Mode) (tuple : FieldList) (n : Node)
    (found : Bool) : Type 0 where
  pub row : HoldsNamedRow p index n
  pub checks : ChecksFrame row.frame index mode tuple n.place (Some found)

-- the leaf in hand tells nothing of it, and went out as it was known, which one reference tells
pub record Refutes (p : TreePass) (index : ℕ) (mode : Mode) (tuple : FieldList) (n : Node)
    (q : TreePass) : Type 0 where
  pub row : HoldsNamedRow p index n
  pub checks : ChecksFrame row.frame index mode tuple n.place None
  pub does : Does p q (frame_id_of p n ∷ []) (tries_and_given []
      (reference (frame_id_of p n) row.taken (object.Frame row.frame) ∷ []))
  pub lacks : LacksObject (view q) (frame_id_of p n)
  pub count : count q + 1 ≡ count p
