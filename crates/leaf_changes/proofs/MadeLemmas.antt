-- A change that was made on the leaf in hand, and committed.
use Rattle.std.proofs.Common.{◌≡◌, ℕ, Option}
use Rattle.key_tuple.specs.Order.{FieldList}
use Rattle.latch_space.specs.Passes.{view}
use Rattle.map_history.specs.declared.reply.Told.{Told}
use Rattle.map_history.specs.Map.{MapChange, Pair}
use Rattle.map_history.specs.Operation.{Make}
use Rattle.forest_law.specs.declared.objects.Frame.{Frame}
use Rattle.forest_world.specs.Held.{TreePass, shape_of_pass}
use Rattle.engine_law.specs.declared.found.Found.{Found}
use Rattle.leaf_changes.specs.Commits.{DidWrite, MakesChange}
use Rattle.leaf_changes.specs.Hashed.{KeepsHashed}
use Rattle.leaf_changes.specs.Holds.{HoldsLeaf}
use Rattle.engine_law.specs.Says.{columns_by}
use Rattle.leaf_changes.specs.Says.{AnswersHolding, told_made}
use Rattle.leaf_changes.proofs.NumberLemmas.{made_inside, number_made}
use Rattle.leaf_changes.proofs.SettleLemmas.{keeps_parts}
use Rattle.leaf_changes.proofs.TellLemmas.{says_made}

module _ (p q : TreePass) (b i : ℕ) (key : FieldList) (o : Option ℕ) (f g : Frame)
    (holds : HoldsLeaf p b i key f g) (hash : KeepsHashed p o b f g g) where
  -- it is answered, and the leaf is held as what it became
  pub made_answers : (change : MapChange) (found : Found) (told : Told) (point : ℕ) (row : Pair)
      → MakesChange (shape_of_pass p) change f g → told ≡ told_made found point
      → DidWrite p q i change (columns_by found) point
      → AnswersHolding p q b i (Make change) told row
  made_answers change found told point row makes is did = record {
    says = says_made p q i change row found told point is did.written;
    holds = record {
      frame = g;
      has = did.frames b f g holds.has;
      inside = made_inside p b i key f g holds (shape_of_pass p) change g makes;
    };
    number = number_made (view p) b f holds.has.held (shape_of_pass p) change g makes;
    stays = record {
      known = did.known;
      parts = keeps_parts p q o b g hash.part (λ k x y below has. did.parts k x y has);
      count = did.count;
    };
  }
