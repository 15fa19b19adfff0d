-- Partitions that are held and given back, where each object in hand is what it is known to be.
use Rattle.std.proofs.Common.{◌≡◌, ◌≢◌, ℕ, ◌<◌, Bool, true, false, [], ◌∷◌, sym, ap, subst, ◌∙◌, refl, arith, Option, Some, None}
use Rattle.std.specs.Bool.{OnFalse, OnTrue}
use Rattle.std.proofs.lemmas.Nat.{mod_below}
use Rattle.latch_law.specs.declared.knows.Terms.{Terms}
use Rattle.latch_law.specs.Views.{holding}
use Rattle.latch_space.specs.Has.{Has, SameBut, IsKnown}
use Rattle.latch_space.specs.Passes.{view, Lacks}
use Rattle.latch_space.proofs.Pointwise.{has_still, took_known, gave_known}
use Rattle.hash_partition.specs.Part.{Part}
use Rattle.hash_law.specs.Blocks.{part_for}
use Rattle.index_law.specs.Shape.{Shape}
use Rattle.forest_law.specs.declared.objects.Object.TheVariants as object
use Rattle.forest_law.specs.Hashed.{IsExactFor}
use Rattle.forest_law.specs.Numbers.{part_id}
use Rattle.forest_world.specs.Held.{TreePass, shape_of_pass, HasPart}
use Rattle.hash_maintain.specs.Parting.{LacksPart, TakesPartition, GivesPart}
use Rattle.hash_maintain.proofs.PassLemmas.{knows_forest}
use Rattle.call_law.specs.Hands.{KnowsPart}
use Rattle.call_law.specs.Trace.{IsNoTree}
use Rattle.buffer_pool.specs.Forests.{IsFittedTree}
use Rattle.buffer_pool.specs.Parts.{part_ids, HoldsPartToo, HoldsPartIf, GivesPartBack}
use Rattle.buffer_pool.specs.Tries.{Tries}
use Rattle.buffer_pool.proofs.AddedLemmas.{only_given, took_adds, gave_adds, tries_spare, given_spares, rest_but_one, frame_before}
use Rattle.buffer_pool.proofs.VictimLemmas.{tries_none}

-- a partition's number is no tree's
pub part_no_tree : (s : Shape) (k : ℕ) → IsNoTree s (part_id s k)
part_no_tree s k = λ i below e. omega (arith, below, e)

-- a partition in hand is what it is known to be
pub part_has : (p : TreePass) (k : ℕ) (x : Part) → IsKnown p → KnowsPart (view p) k x
    → HasPart p k x x
part_has p k x known knows = record {
  held = knows;
  value = known (part_id (shape_of_pass p) k) (holding knows.0 (object.Part x)) knows.1;
}

-- a partition of an index is one of them
pub part_below : (p : TreePass) (layout shape : Shape) (k index : ℕ) → IsFittedTree (view p)
    → layout ≡ shape → shape_of_pass p ≡ shape → k ≡ part_for layout.parts index
    → k < (shape_of_pass p).parts
part_below p layout shape k index fitted one other is =
    subst (λ m. m < (shape_of_pass p).parts)
    (sym (is ∙ ap (λ (s : Shape). part_for s.parts index) (one ∙ sym other)))
    (mod_below index (shape_of_pass p).parts (knows_forest p fitted).hash.parts)

-- where a partition was free, it was taken
pub took_free : (p q : TreePass) (k : ℕ) (r : Bool) → LacksPart p k → OnTrue r (TakesPartition p k q)
    → OnFalse r (LacksPart p k → ⊥) → TakesPartition p k q
took_free p q k true lacks took held = took
took_free p q k false lacks took held = absurd (held lacks)

-- a partition that was taken is held besides, exact of each block that is held
pub took_part : (p q : TreePass) (k : ℕ) → k < (shape_of_pass p).parts → IsKnown p
    → TakesPartition p k q → HoldsPartToo p k q
took_part p q k below known took = let n = part_id (shape_of_pass p) k in
    let c = took.comes in let x = object.Part took.part in
    let terms : (view q).terms ≡ (view p).terms = ap (λ v. v.terms) c.view in
    let adds = took_adds (view p) (view q) c.refused n (Some (holding x x)) c.view in
    let rest = rest_but_one p q n took.others in
    record {
      tries = record {
        refused = c.refused;
        does = record {
          adds = adds;
          spares = tries_spare (shape_of_pass p) (view p) n c.refused c.tries
              (part_no_tree (shape_of_pass p) k);
          rest = rest;
          known = took_known p q n x (record {
            has = subst (λ (t : Terms Shape). Has q (part_id t.shape k) x x) terms took.has;
            others = took.others;
            count = c.count;
          }) known;
        };
      };
      part = took.part;
      knows = took.has.held;
      exact = λ b f knows. subst (λ (t : Terms Shape). IsExactFor t.shape k b took.part f)
          (sym terms)
          (c.exact b f (frame_before (view p) (view q) (n ∷ []) adds.numbers rest b
          ((λ e. omega (arith, e, below)), tt) f knows));
      count = c.count;
    }

-- with a partition or without one, tries alone were added
pub hold_tries : (p q : TreePass) (o : Option ℕ) → IsKnown p → HoldsPartIf p o q
    → Tries p q (part_ids (shape_of_pass p) o)
hold_tries p q None known same = subst (λ (z : TreePass). Tries p z []) (sym same)
    (tries_none p known)
hold_tries p q (Some k) known holds = holds.tries

-- a partition in hand stays in hand where another object changes
pub part_kept : (p q : TreePass) (j k : ℕ) → (view q).terms ≡ (view p).terms → SameBut p q j
    → part_id (shape_of_pass p) k ≢ j → (r s : Part) → HasPart p k r s → HasPart q k r s
part_kept p q j k terms others apart r s has =
    subst (λ (t : Terms Shape). Has q (part_id t.shape k) (object.Part r) (object.Part s))
    (sym terms)
    (has_still p q j (part_id (shape_of_pass p) k) (object.Part r) (object.Part s) others apart has)

-- a partition was given back, which was what it was known to be
pub gave_part : (p q : TreePass) (k : ℕ) → IsKnown p → GivesPart p k q → GivesPartBack p k q
gave_part p q k known gave = let n = part_id (shape_of_pass p) k in
    let terms = ap (λ v. v.terms) gave.view in
    let lacks = subst (λ (t : Terms Shape). Lacks q (part_id t.shape k)) terms gave.lacks in record {
      silently = record {
        added = only_given n gave.taken (object.Part gave.part);
        does = record {
          adds = gave_adds (view p) (view q) n (holding gave.taken (object.Part gave.part))
              gave.view;
          spares = given_spares (shape_of_pass p) n gave.taken (object.Part gave.part)
              (part_no_tree (shape_of_pass p) k);
          rest = rest_but_one p q n gave.others;
          known = gave_known p q n
              (record { lacks = lacks; others = gave.others; count = gave.count }) known;
        };
        silent = refl;
      };
      untried = refl;
      taken = gave.taken;
      part = gave.part;
      knew = gave.held;
      one = refl;
      lacks = lacks;
      count = gave.count;
    }
