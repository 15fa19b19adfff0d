-- What a guess does and tells.
use Rattle.std.specs.Prelude.{ℕ, ◌≡◌, ◌+◌, Bool, true, false, Option, Some, None, [], ◌∷◌}
use Rattle.key_tuple.specs.Order.{FieldList}
use Rattle.key_tuple.specs.declared.mode.Mode.{Mode}
use Rattle.latch_law.specs.declared.knows.Reference.{Reference}
use Rattle.latch_law.specs.Fitting.{WasHeld}
use Rattle.latch_law.specs.Views.{holding, with_held}
use Rattle.latch_law.specs.Whole.{reference}
use Rattle.latch_space.specs.Passes.{view, count}
use Rattle.learning.specs.declared.event.Event.{Event}
use Rattle.learning.specs.declared.event.Event.TheVariants as kind
use Rattle.learning.specs.declared.info.Info.{Info}
use Rattle.search_info.specs.declared.knows.Knows.{Knows}
use Rattle.search_info.specs.declared.outcome.Learn.{Learn}
use Rattle.search_info.specs.Outcomes.{Recommends, TellsLearn}
use Rattle.chain_arena.specs.declared.node.Node.{Node}
use Rattle.hash_partition.specs.Part.{Part}
use Rattle.index_law.specs.Rightness.{IsRight}
use Rattle.forest_law.specs.declared.objects.Frame.{Frame}
use Rattle.forest_law.specs.declared.objects.Object.{Object}
use Rattle.forest_law.specs.declared.objects.Object.TheVariants as object
use Rattle.forest_law.specs.Law.{IsLawful}
use Rattle.forest_law.specs.Numbers.{frame_id}
use Rattle.forest_law.specs.References.{IsReference}
use Rattle.forest_world.specs.Held.{TreePass, shape_of_pass}
use Rattle.call_law.specs.Hands.{LacksObject}
use Rattle.call_law.specs.Spoken.{View}
use Rattle.buffer_pool.specs.AsTaken.{AreAsTaken, HoldsAsTaken}
use Rattle.buffer_pool.specs.Calls.{Does, GetsNothing}
use Rattle.buffer_pool.specs.Tries.{tries_and_given}
use Rattle.hash_guess.specs.declared.cause.Cause.{Cause}
use Rattle.hash_guess.specs.declared.cause.Cause.TheVariants.{Cold, Short, PartBusy, NoEntry, BlockBusy, Unequal}
use Rattle.hash_guess.specs.declared.outcome.Guess.{Guess}
use Rattle.hash_guess.specs.declared.outcome.Guess.TheVariants.{Hit, Miss}
use Rattle.hash_guess.specs.Causes.{is_miss}
use Rattle.hash_guess.specs.Leads.{part_id_in, fold_in, refused_try, IsAsked, IsEntryOf, IsTooShort, MissesPart, MissesEntry, is_cold}
use Rattle.hash_guess.specs.Confirms.{ChecksFrame}
use Rattle.hash_guess.specs.Hits.{HoldsHit}

-- the number of a block's frame
abbrev pub frame_id_in : TreePass → ℕ → ℕ
frame_id_in p block = frame_id (shape_of_pass p) block

-- the hash is asked, and the partition has a node of the tuple's fold that names the block and the place
pub record NamesPlace (p : TreePass) (index : ℕ) (tuple : FieldList) (info : Info) (part : Part)
    (block place : ℕ) : Type 0 where
  pub asked : IsAsked tuple info
  pub node : Node
  pub entry : IsEntryOf part (fold_in p index tuple info) node
  pub block_is : node.block ≡ block
  pub place_is : node.place ≡ place

-- the partition of the index went out as it was taken
abbrev pub part_given : TreePass → ℕ → Part → Reference Object
part_given p index part = reference (part_id_in p index) (object.Part part) (object.Part part)

-- the block's frame went out as it was taken
abbrev pub frame_given : TreePass → ℕ → Frame → Reference Object
frame_given p block frame =
    reference (frame_id_in p block) (object.Frame frame) (object.Frame frame)

-- what was known, with the partition of the index held besides
abbrev pub with_part : TreePass → ℕ → Part → View
with_part p index part =
    with_held (view p) (part_id_in p index) (Some (holding (object.Part part) (object.Part part)))

-- the named row is the one that the mode asks for: the block's frame is held besides, as it was
-- taken, and one reference more tells of the partition
pub record HitsRow (p : TreePass) (index : ℕ) (mode : Mode) (tuple : FieldList) (info : Info)
    (block place : ℕ) (found : Bool) (q : TreePass) : Type 0 where
  pub part : Part
  pub names : NamesPlace p index tuple info part block place
  pub lacked : LacksObject (view p) (frame_id_in p block)
  pub hit : HoldsHit (view q) index mode tuple block place found
  pub held_as_taken : HoldsAsTaken (view q) block
  pub does : Does p q (frame_id_in p block ∷ [])
      (tries_and_given [] (part_given p index part ∷ []))
  pub count : count q ≡ count p + 1

-- the pass n, another one, held the frame of the named block: one refused try more, made while the
-- partition was held, and one reference of that
pub record MissesBlock (p : TreePass) (index : ℕ) (tuple : FieldList) (info : Info) (n : ℕ)
    (q : TreePass) : Type 0 where
  pub part : Part
  pub block : ℕ
  pub place : ℕ
  pub names : NamesPlace p index tuple info part block place
  pub was_held : WasHeld IsLawful IsRight IsReference (with_part p index part)
      (frame_id_in p block) n
  pub does : Does p q []
      (tries_and_given (refused_try (with_part p index part) (frame_id_in p block) n ∷ [])
      (part_given p index part ∷ []))
  pub count : count q ≡ count p

-- the frame of the named block has a leaf of another index, or one that doesn't show the named row to
-- be the one that the mode asks for: one reference of the partition more, and one of the frame
pub record MissesRow (p : TreePass) (index : ℕ) (mode : Mode) (tuple : FieldList) (info : Info)
    (block place : ℕ) (q : TreePass) : Type 0 where
  pub part : Part
  pub names : NamesPlace p index tuple info part block place
  pub frame : Frame
  pub checks : ChecksFrame frame index mode tuple place None
  pub does : Does p q []
      (tries_and_given [] (part_given p index part ∷ frame_given p block frame ∷ []))
  pub count : count q ≡ count p

-- what each cause tells
abbrev pub MissedFor : TreePass → ℕ → Mode → FieldList → Info → Cause → TreePass → Type 0
MissedFor p index mode tuple info Cold q = (is_cold info ≡ true) × (q ≡ p)
MissedFor p index mode tuple info (Short have need) q = IsTooShort tuple info have need × (q ≡ p)
MissedFor p index mode tuple info (PartBusy n) q = MissesPart p index tuple info n q
MissedFor p index mode tuple info (NoEntry fold) q = MissesEntry p index tuple info fold q
MissedFor p index mode tuple info (BlockBusy n) q = MissesBlock p index tuple info n q
MissedFor p index mode tuple info (Unequal block place) q =
    MissesRow p index mode tuple info block place q

-- the info was read, and then one event was tried
pub record LearnsOf (l : Knows) (index : ℕ) (info : Info) (event : Event) (learn : Learn)
    (m : Knows) : Type 0 where
  pub read : Knows
  pub recommends : Recommends l index info read
  pub tells : TellsLearn read index event learn m

-- a miss was tried after the info was read, or the info was read alone
abbrev pub LearnsIf : Bool → Knows → ℕ → Info → Option Learn → Knows → Type 0
LearnsIf true l index info told m =
    (learn : Learn) × (told ≡ Some learn) × LearnsOf l index info kind.Miss learn m
LearnsIf false l index info told m = (told ≡ None) × Recommends l index info m

-- the row was found by an info that was read, and the hit was tried
pub record GuessHits (p : TreePass) (l : Knows) (index : ℕ) (mode : Mode) (tuple : FieldList)
    (block place : ℕ) (found : Bool) (learn : Learn) (q : TreePass) (m : Knows) : Type 0 where
  pub info : Info
  pub hits : HitsRow p index mode tuple info block place found q
  pub learns : LearnsOf l index info kind.Hit learn m

-- the pass holds what it held, for a cause by an info that was read, and gave back what it took as it
-- was taken; where the hash was asked the miss was tried
pub record GuessMisses (p : TreePass) (l : Knows) (index : ℕ) (mode : Mode) (tuple : FieldList)
    (cause : Cause) (learn : Option Learn) (q : TreePass) (m : Knows) : Type 0 where
  pub keeps : GetsNothing p q
  pub as_taken : AreAsTaken keeps.silently.added.references
  pub info : Info
  pub misses : MissedFor p index mode tuple info cause q
  pub learns : LearnsIf (is_miss cause) l index info learn m

-- what a guess tells
abbrev pub Guesses : TreePass → Knows → ℕ → Mode → FieldList → Guess → TreePass → Knows → Type 0
Guesses p l index mode tuple (Hit block place found learn) q m =
    GuessHits p l index mode tuple block place found learn q m
Guesses p l index mode tuple (Miss cause learn) q m =
    GuessMisses p l index mode tuple cause learn q m
