-- What was kept up in hand keeps the hash exact.
use Rattle.std.proofs.Common.{◌≡◌, ℕ, [], ◌∷◌, Some, None, refl}
use Rattle.hash_law.specs.Blocks.{IsTidy}
use Rattle.hash_upkeep.specs.declared.upkeep.Upkeep.{Upkeep}
use Rattle.hash_upkeep.specs.declared.upkeep.Upkeep.TheVariants.{Kept, Dropped}
use Rattle.forest_law.specs.declared.objects.Frame.{Frame}
use Rattle.forest_law.specs.Hashed.{hash_block}
use Rattle.forest_world.specs.Held.{TreePass}
use Rattle.forest_world.specs.HashHands.{HandKeepsHash, HandsKeepTheHash}
use Rattle.hash_maintain.specs.Leaves.{unhashed, kept_frame}
use Rattle.hash_maintain.specs.Hands.{HasKeptUp, UpkeepKeepsTheHash}

none_is : (index : ℕ) → None ≡ Some index → ⊥
none_is index e = absurd cc

-- a tidy frame is tidy where it isn't hashed
unhashed_tidy : (f : Frame) → IsTidy (hash_block f) → IsTidy (hash_block (unhashed f))
unhashed_tidy f tidy = record {
  both = refl;
  leaf = λ index e. absurd (none_is index e);
  built = λ params e. absurd cc;
  advice = tidy.advice;
}

keeps : HandsKeepTheHash → (p : TreePass) (k b : ℕ) → HasKeptUp p k b → HandKeepsHash p
keeps law p k b kept = law.keep_up p k (b ∷ []) (record {
  was = kept.known;
  now = kept.now;
  has = kept.part;
  room = kept.shape.room;
  each = (
    record {
      below = kept.below;
      old = kept.old;
      new = kept.new;
      frame = kept.frame;
      was_in = kept.was_in;
      is_in = kept.is_in;
      tidy = kept.tidy;
      exact = λ was. kept.exact;
      stays = kept.stays;
    },
    tt,
  );
  others = λ n apart. kept.others n apart.0;
  beyond = law.known p (k ∷ []) (b ∷ []) (record {
    parts = ((kept.known, kept.now, kept.part), tt);
    frames = ((kept.old, kept.new, kept.frame), tt);
  }) kept.beyond;
})

upkeep_tidy : (answer : Upkeep) (f : Frame) → IsTidy (hash_block f)
    → IsTidy (hash_block (kept_frame answer f))
upkeep_tidy Kept f tidy = tidy
upkeep_tidy (Dropped need spare) f tidy = unhashed_tidy f tidy

pub upkeep_keeps : HandsKeepTheHash → UpkeepKeepsTheHash
upkeep_keeps law = record { keeps = keeps law; tidy = upkeep_tidy }
