-- What is told before a block is tried: a node of the tuple's fold, or why there is none.
use Rattle.std.specs.Prelude.{ℕ, ◌≡◌, ◌<◌, ◌≤◌, ◌==◌, ◌||◌, not, Bool, true, false, [], ◌∷◌, length}
use Rattle.key_tuple.specs.Order.{FieldList}
use Rattle.key_tuple.specs.Fold.{fold_of, asked_fields}
use Rattle.latch_law.specs.declared.knows.Refusal.{Refusal}
use Rattle.latch_law.specs.Fitting.{WasHeld}
use Rattle.latch_law.specs.Whole.{reference}
use Rattle.latch_space.specs.Has.{IsKnown}
use Rattle.latch_space.specs.Passes.{view, count}
use Rattle.chain_arena.specs.declared.node.Node.{Node}
use Rattle.chain_arena.specs.Bag.{HasNode, HasNoFold}
use Rattle.hash_partition.specs.Part.{Part}
use Rattle.hash_law.specs.Blocks.{part_for}
use Rattle.learning.specs.declared.info.Info.{Info}
use Rattle.index_law.specs.Rightness.{IsRight}
use Rattle.forest_law.specs.declared.objects.Object.{Object}
use Rattle.forest_law.specs.declared.objects.Object.TheVariants as object
use Rattle.forest_law.specs.Law.{IsLawful}
use Rattle.forest_law.specs.Numbers.{part_id}
use Rattle.forest_law.specs.References.{IsReference}
use Rattle.forest_world.specs.Held.{TreePass, shape_of_pass}
use Rattle.hash_maintain.specs.Parting.{TakesPartition}
use Rattle.call_law.specs.Spoken.{View}
use Rattle.buffer_pool.specs.Calls.{Does}
use Rattle.buffer_pool.specs.Tries.{tries_alone, tries_and_given}
use Rattle.hash_guess.specs.declared.cause.Cause.{Cause}
use Rattle.hash_guess.specs.declared.cause.Cause.TheVariants.{Cold, Short, PartBusy, NoEntry, BlockBusy, Unequal}

-- what the index has learnt promises nothing, or its last search wasn't one for the hash
abbrev pub is_cold : Info → Bool
is_cold info = (info.potential == 0) || not info.last

-- the hash is asked: the index is warm, and the tuple has the fields of its prefix
pub record IsAsked (tuple : FieldList) (info : Info) : Type 0 where
  pub warm : is_cold info ≡ false
  pub enough : asked_fields info.params ≤ length tuple

-- the partition of an index
abbrev pub part_in : TreePass → ℕ → ℕ
part_in p index = part_for (shape_of_pass p).parts index

-- the number of that partition among the objects
abbrev pub part_id_in : TreePass → ℕ → ℕ
part_id_in p index = part_id (shape_of_pass p) (part_in p index)

-- the fold of the tuple's prefix
abbrev pub fold_in : TreePass → ℕ → FieldList → Info → ℕ
fold_in p index tuple info = fold_of index tuple info.params (shape_of_pass p).fold_bits

-- a try of the object k that was refused, since the pass n held it
abbrev pub refused_try : View → (k n : ℕ) → Refusal Object
refused_try v k n = record { object = k; holder = n; held = v.held }

-- the partition has this node, which has the fold
pub record IsEntryOf (part : Part) (fold : ℕ) (n : Node) : Type 0 where
  pub has : HasNode part.nodes n
  pub fold_is : n.fold ≡ fold

-- the partition of the index was taken by one try, and has a node of the tuple's fold
pub record HoldsEntry (p : TreePass) (index : ℕ) (tuple : FieldList) (info : Info) (n : Node)
    (q : TreePass) : Type 0 where
  pub asked : IsAsked tuple info
  pub took : TakesPartition p (part_in p index) q
  pub at_once : took.comes.refused ≡ []
  pub entry : IsEntryOf took.part (fold_in p index tuple info) n
  pub known : IsKnown q

-- the tuple has so many fields, and the index needs more
pub record IsTooShort (tuple : FieldList) (info : Info) (have need : ℕ) : Type 0 where
  pub warm : is_cold info ≡ false
  pub have_is : have ≡ length tuple
  pub need_is : need ≡ asked_fields info.params
  pub less : have < need

-- the pass n, another one, held the partition: one refused try more, and nothing else
pub record MissesPart (p : TreePass) (index : ℕ) (tuple : FieldList) (info : Info) (n : ℕ)
    (q : TreePass) : Type 0 where
  pub asked : IsAsked tuple info
  pub was_held : WasHeld IsLawful IsRight IsReference (view p) (part_id_in p index) n
  pub does : Does p q [] (tries_alone (refused_try (view p) (part_id_in p index) n ∷ []))
  pub count : count q ≡ count p

-- the partition has no node of the tuple's fold: one reference of it more, and nothing else
pub record MissesEntry (p : TreePass) (index : ℕ) (tuple : FieldList) (info : Info) (fold : ℕ)
    (q : TreePass) : Type 0 where
  pub asked : IsAsked tuple info
  pub fold_is : fold ≡ fold_in p index tuple info
  pub part : Part
  pub none : HasNoFold part.nodes fold
  pub does : Does p q [] (tries_and_given []
      (reference (part_id_in p index) (object.Part part) (object.Part part) ∷ []))
  pub count : count q ≡ count p

-- what each cause tells; the others come later
abbrev pub MissedBy : TreePass → ℕ → FieldList → Info → Cause → TreePass → Type 0
MissedBy p index tuple info Cold q = (is_cold info ≡ true) × (q ≡ p)
MissedBy p index tuple info (Short have need) q = IsTooShort tuple info have need × (q ≡ p)
MissedBy p index tuple info (PartBusy n) q = MissesPart p index tuple info n q
MissedBy p index tuple info (NoEntry fold) q = MissesEntry p index tuple info fold q
MissedBy p index tuple info (BlockBusy n) q = ⊥
MissedBy p index tuple info (Unequal block place) q = ⊥
