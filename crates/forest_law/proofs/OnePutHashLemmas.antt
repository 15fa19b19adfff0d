-- A restore of an empty root, and a put on it, hash nothing.
use Rattle.std.proofs.Common.{◌≡◌, ◌∙◌, ℕ, zero, suc, ◌≤◌, List, length, sym, ap, refl, subst, Option, Some, None}
use mathlib.Core.Option.{some, some-injective, some-ne-none}
use lib.ListN.{get_elem?}
use Rattle.list_facts.proofs.Places.{none_is_not, same_some}
use Rattle.key_tuple.specs.Order.{FieldList}
use Rattle.hash_partition.specs.Part.{Part}
use Rattle.hash_law.specs.Blocks.{IsTidy}
use Rattle.index_law.specs.Shape.{Shape}
use Rattle.forest_law.specs.declared.objects.Frame.{Frame}
use Rattle.forest_law.specs.declared.objects.Pool.{Pool}
use Rattle.forest_law.specs.declared.objects.Object.{Object}
use Rattle.forest_law.specs.declared.objects.Object.TheVariants as object
use Rattle.forest_law.specs.Hashed.{hash_block}
use Rattle.forest_law.specs.HashKept.{KeepsHash}
use Rattle.forest_law.specs.HashSteps.{AsksSame}
use Rattle.forest_law.specs.Opening.{first_frame}
use Rattle.forest_law.specs.OnePut.{one_index, root_before, root_after, pool_in_hand, frame_in_hand}
use Rattle.forest_law.proofs.ObjectLemmas.{same_frame}
use Rattle.forest_law.proofs.HashLemmas.{rests_keep}
use Rattle.forest_law.proofs.HashLawLemmas.{unhashed_asks}

-- a hand in which no object but one frame, which is this one, is a frame or a partition
record HasOneFrame (held : List (Option Object)) (f : Frame) : Type 0 where
  frame : (k : ℕ) (x : Frame) → get_elem? held k ≡ some (Some (object.Frame x)) → f ≡ x
  part : (k : ℕ) (p : Part) → get_elem? held k ≡ some (Some (object.Part p)) → ⊥

-- objects that are one at a place of a hand are one
one_object : (x y : Object) → some (Some x) ≡ some (Some y) → x ≡ y
one_object x y e = same_some x y (some-injective (Some x) (Some y) e)

with_pool : (pool : Pool) (f : Frame) → HasOneFrame (pool_in_hand pool f) f
with_pool pool f = record { frame = frame; part = part }
  where
    not_frame : (x : Frame) → object.Pool pool ≡ object.Frame x → ⊥
    not_frame x e = absurd cc

    not_pool : (p : Part) → object.Pool pool ≡ object.Part p → ⊥
    not_pool p e = absurd cc

    not_part : (p : Part) → object.Frame f ≡ object.Part p → ⊥
    not_part p e = absurd cc

    frame : (k : ℕ) (x : Frame) → get_elem? (pool_in_hand pool f) k ≡ some (Some (object.Frame x))
        → f ≡ x
    frame zero x e = absurd (not_frame x (one_object (object.Pool pool) (object.Frame x) e))
    frame (suc zero) x e = absurd (none_is_not (object.Frame x) e)
    frame (suc (suc zero)) x e = absurd (none_is_not (object.Frame x) e)
    frame (suc (suc (suc zero))) x e =
        same_frame f x (one_object (object.Frame f) (object.Frame x) e)
    frame (suc (suc (suc (suc k)))) x e = absurd (some-ne-none (Some (object.Frame x)) (sym e))

    part : (k : ℕ) (p : Part) → get_elem? (pool_in_hand pool f) k ≡ some (Some (object.Part p)) → ⊥
    part zero p e = not_pool p (one_object (object.Pool pool) (object.Part p) e)
    part (suc zero) p e = none_is_not (object.Part p) e
    part (suc (suc zero)) p e = none_is_not (object.Part p) e
    part (suc (suc (suc zero))) p e = not_part p (one_object (object.Frame f) (object.Part p) e)
    part (suc (suc (suc (suc k)))) p e = some-ne-none (Some (object.Part p)) (sym e)

alone : (f : Frame) → HasOneFrame (frame_in_hand f) f
alone f = record { frame = frame; part = part }
  where
    not_part : (p : Part) → object.Frame f ≡ object.Part p → ⊥
    not_part p e = absurd cc

    frame : (k : ℕ) (x : Frame) → get_elem? (frame_in_hand f) k ≡ some (Some (object.Frame x))
        → f ≡ x
    frame zero x e = absurd (none_is_not (object.Frame x) e)
    frame (suc zero) x e = absurd (none_is_not (object.Frame x) e)
    frame (suc (suc zero)) x e = absurd (none_is_not (object.Frame x) e)
    frame (suc (suc (suc zero))) x e =
        same_frame f x (one_object (object.Frame f) (object.Frame x) e)
    frame (suc (suc (suc (suc k)))) x e = absurd (some-ne-none (Some (object.Frame x)) (sym e))

    part : (k : ℕ) (p : Part) → get_elem? (frame_in_hand f) k ≡ some (Some (object.Part p)) → ⊥
    part zero p e = none_is_not (object.Part p) e
    part (suc zero) p e = none_is_not (object.Part p) e
    part (suc (suc zero)) p e = none_is_not (object.Part p) e
    part (suc (suc (suc zero))) p e = not_part p (one_object (object.Frame f) (object.Part p) e)
    part (suc (suc (suc (suc k)))) p e = some-ne-none (Some (object.Part p)) (sym e)

none_is : (index : ℕ) → None ≡ Some index → ⊥
none_is index e = absurd cc

-- one frame in hand that isn't hashed and stays tidy keeps the hash
one_keeps : (sh : Shape) (before news : List (Option Object)) (f g : Frame) → HasOneFrame before f
    → HasOneFrame news g → f.hashed ≡ None → g.hashed ≡ None
    → (IsTidy (hash_block f) → IsTidy (hash_block g)) → KeepsHash sh before news
one_keeps sh before news f g old new was is tidy = rests_keep sh before news (record {
  tidy = λ b x y becomes t. subst (λ z. IsTidy (hash_block z)) (new.frame _ y becomes.1)
      (tidy (subst (λ z. IsTidy (hash_block z)) (sym (old.frame _ x becomes.0)) t));
  parts = λ k p q becomes. absurd (old.part _ p becomes.0);
  asks = λ k b x y becomes. subst (λ z. AsksSame sh k b z y) (old.frame _ x becomes.0)
      (subst (AsksSame sh k b f) (new.frame _ y becomes.1) (unhashed_asks sh k b f g was is));
  stays = λ b x y becomes index params hashed. absurd (none_is index
      (sym was ∙ (ap (λ (z : Frame). z.hashed) (old.frame _ x becomes.0) ∙ hashed.hashed)));
})

-- a frame that isn't hashed is tidy where its page has the fields that its advice asks for
pub restore_keeps : (clock : ℕ) (key : FieldList) → 1 ≤ length key → (pool now : Pool)
    → KeepsHash (one_index (length key)) (pool_in_hand pool (first_frame clock))
    (pool_in_hand now (root_before clock key))
restore_keeps clock key keyed pool now = one_keeps (one_index (length key))
    (pool_in_hand pool (first_frame clock)) (pool_in_hand now (root_before clock key))
    (first_frame clock) (root_before clock key) (with_pool pool (first_frame clock))
    (with_pool now (root_before clock key)) refl refl (λ t. record {
      both = refl;
      leaf = λ index e. absurd (none_is index e);
      built = λ params e. absurd cc;
      advice = keyed;
    })

pub put_keeps : (clock : ℕ) (key : FieldList) (value : List ℕ)
    → KeepsHash (one_index (length key)) (frame_in_hand (root_before clock key))
    (frame_in_hand (root_after clock key value))
put_keeps clock key value = one_keeps (one_index (length key))
    (frame_in_hand (root_before clock key)) (frame_in_hand (root_after clock key value))
    (root_before clock key) (root_after clock key value)
    (alone (root_before clock key)) (alone (root_after clock key value)) refl refl (λ t. record {
      both = refl;
      leaf = λ index e. absurd (none_is index e);
      built = λ params e. absurd cc;
      advice = t.advice;
    })
