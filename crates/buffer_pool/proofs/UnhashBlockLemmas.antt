-- What was done once a block isn't hashed and its partition is given back.
use Rattle.std.proofs.Common.{◌≡◌, ◌≢◌, ℕ, ◌<◌, [], ◌∷◌, ◌++◌, sym, ap, subst, ◌∙◌, refl, arith, Option, Some, None}
use Rattle.std.specs.List.{AllByRecursion}
use lib.ListN.{get_elem?}
use Rattle.latch_law.specs.declared.knows.Holding.{Holding}
use Rattle.latch_law.specs.declared.knows.Terms.{Terms}
use Rattle.latch_law.specs.Rule.{Holds}
use Rattle.latch_law.specs.Views.{holding}
use Rattle.latch_space.specs.Passes.{view, count}
use Rattle.index_law.specs.Shape.{Shape}
use Rattle.forest_law.specs.declared.objects.Frame.{Frame}
use Rattle.forest_law.specs.declared.objects.Object.{Object}
use Rattle.forest_law.specs.declared.objects.Object.TheVariants as object
use Rattle.forest_law.specs.Numbers.{part_id, frame_id}
use Rattle.forest_law.proofs.ObjectLemmas.{same_frame}
use Rattle.forest_world.specs.Held.{TreePass, shape_of_pass}
use Rattle.hash_maintain.specs.Leaves.{unhashed}
use Rattle.call_law.specs.Hands.{HoldsNoPart, KnowsFrame}
use Rattle.call_law.specs.Trace.{Added}
use Rattle.call_law.proofs.TraceLemmas.{both_added}
use Rattle.buffer_pool.specs.Calls.{Does}
use Rattle.buffer_pool.specs.Parts.{part_ids, HoldsPartToo, GivesPartBack, GivesPartIf, IsOfPart, UnhashesBlock}
use Rattle.buffer_pool.specs.Tries.{tries_alone}
use Rattle.buffer_pool.proofs.AddedLemmas.{none_added}
use Rattle.buffer_pool.proofs.CallLemmas.{does_both, does_among, does_again}
use Rattle.buffer_pool.proofs.FrameLemmas.{one_held}
use Rattle.buffer_pool.proofs.UnhashLemmas.{HeldFor}
use Rattle.buffer_pool.proofs.VictimLemmas.{tries_shape}

-- the block's frame, known as f, is known to be unhashed then
abbrev pub Unhashed : TreePass → TreePass → ℕ → Frame → Type 0
Unhashed p q b f = (t : Object)
    → Holds (view p) (frame_id (shape_of_pass p) b) (holding t (object.Frame f))
    → Holds (view q) (frame_id (shape_of_pass p) b) (holding t (object.Frame (unhashed f)))

-- so it is of whatever frame is known
module _ (p q : TreePass) (b : ℕ) (f : Frame) (knows : KnowsFrame (view p) b f)
    (one : Unhashed p q b f) where
  abbrev n : ℕ
  n = frame_id (shape_of_pass p) b

  any_unhashed : (t : Object) (g : Frame) → Holds (view p) n (holding t (object.Frame g))
      → Holds (view q) n (holding t (object.Frame (unhashed g)))
  any_unhashed t g held = let same : f ≡ g = same_frame f g (ap (λ (h : Holding Object). h.known)
      (one_held p n (holding knows.0 (object.Frame f)) (holding t (object.Frame g)) knows.1
      held)) in
      subst (λ (z : Frame). Holds (view q) n (holding t (object.Frame (unhashed z)))) same
      (one t (subst (λ (z : Frame). Holds (view p) n (holding t (object.Frame z))) (sym same)
      held))

  -- nothing was taken
  took_none : Does p q (n ∷ []) none_added → count q ≡ count p → UnhashesBlock p b q
  took_none does same = record {
    silently = record { added = none_added; does = does; silent = refl };
    parts = tt;
    frame = any_unhashed;
    count = same;
  }

-- the partition was taken, and given back
module _ (p m r q : TreePass) (b : ℕ) (f : Frame) (knows : KnowsFrame (view p) b f) (k : ℕ)
    (below : k < (shape_of_pass p).parts) (lacks : HoldsNoPart (view p))
    (holds : HoldsPartToo p k m) (one : Unhashed m r b f)
    (settled : Does m r
    (part_id (shape_of_pass m) k ∷ frame_id (shape_of_pass m) b ∷ []) none_added)
    (same : count r ≡ count m) (gave : GivesPartBack r k q) where
  shape1 : shape_of_pass m ≡ shape_of_pass p
  shape1 = tries_shape p m (part_id (shape_of_pass p) k ∷ []) holds.tries

  shape2 : shape_of_pass r ≡ shape_of_pass p
  shape2 = ap (λ (t : Terms Shape). t.shape) settled.adds.numbers.terms ∙ shape1

  abbrev a : Added
  a = both_added (tries_alone holds.tries.refused) none_added

  abbrev c : Added
  c = gave.silently.added

  abbrev own : ℕ
  own = frame_id (shape_of_pass p) b

  abbrev part : ℕ
  part = part_id (shape_of_pass p) k

  apart : own ≢ part
  apart e = omega (arith, e, below)

  gave_does : Does r q (part ∷ []) c
  gave_does = subst (λ (s : Shape). Does r q (part_id s k ∷ []) c) shape2 gave.silently.does

  all_does : Does p q (own ∷ []) (both_added a c)
  all_does = does_again p q (both_added a c) part (own ∷ [])
      (does_both p r q (part ∷ own ∷ []) a c
      (does_both p m r (part ∷ own ∷ []) (tries_alone holds.tries.refused) none_added
      (does_among p m (tries_alone holds.tries.refused) (part ∷ []) (part ∷ own ∷ [])
      (λ j off. (off.0, tt)) holds.tries.does)
      (subst (λ (s : Shape). Does m r (part_id s k ∷ frame_id s b ∷ []) none_added) shape1
      settled))
      (does_among r q c (part ∷ []) (part ∷ own ∷ []) (λ j off. (off.0, tt)) gave_does))
      (ap (λ (s : Shape). get_elem? (view q).held (part_id s k)) (sym shape2)
      ∙ (gave.lacks ∙ sym (lacks k below)))

  unhashed_one : Unhashed p q b f
  unhashed_one t held = gave_does.rest own (apart, tt)
      ∙ (ap (λ (s : Shape). get_elem? (view r).held (frame_id s b)) (sym shape1)
      ∙ one t (ap (λ (s : Shape). get_elem? (view m).held (frame_id s b)) shape1
      ∙ (holds.tries.does.rest own (apart, tt) ∙ held)))

  took_one : UnhashesBlock p b q
  took_one = record {
    silently = record {
      added = both_added a c;
      does = all_does;
      silent = gave.silently.silent;
    };
    parts = subst (AllByRecursion IsOfPart) (sym gave.one)
        ((gave.part, refl, λ e. omega (arith, e)), tt);
    frame = any_unhashed p q b f knows unhashed_one;
    count = (let x = holds.count in let y = gave.count in omega (arith, x, same, y));
  }

-- with a partition or without one
pub unhashes_block : {p m r q : TreePass} {b : ℕ} {f : Frame} → KnowsFrame (view p) b f
    → HoldsNoPart (view p) → {o : Option ℕ} → HeldFor p m b f o → Unhashed m r b f
    → Does m r (part_ids (shape_of_pass m) o ++ frame_id (shape_of_pass m) b ∷ []) none_added
    → count r ≡ count m → GivesPartIf r o q → UnhashesBlock p b q
unhashes_block {p} {m} {r} {q} {b} {f} knows lacks {o = None} held one does counts gave =
    subst (λ (z : TreePass). UnhashesBlock p b z) (sym gave)
    (took_none p r b f knows (subst (λ (z : TreePass). Unhashed z r b f) held.holds one)
    (subst (λ (z : TreePass). Does z r (frame_id (shape_of_pass z) b ∷ []) none_added) held.holds
    does)
    (subst (λ (z : TreePass). count r ≡ count z) held.holds counts))
unhashes_block {p} {m} {r} {q} {b} {f} knows lacks {o = Some k} held one does counts gave =
    took_one p m r q b f knows k (held.below k refl) lacks held.holds one does counts gave
