-- A partition that one try takes, and that is given back where it has no node of the fold.
use Rattle.std.proofs.Common.{◌≡◌, ◌<◌, ℕ, List, [], ◌∷◌, refl, sym, ap, subst, ◌∙◌, arith, Some, None}
use lib.ListN.{get_elem?}
use Rattle.atomic_table.proofs.Lists.{set_here}
use Rattle.list_facts.proofs.Places.{inside}
use Rattle.key_tuple.specs.Order.{FieldList}
use Rattle.latch_law.specs.declared.knows.Holding.{Holding}
use Rattle.latch_law.specs.declared.knows.Refusal.{Refusal}
use Rattle.latch_law.specs.declared.knows.Terms.{Terms}
use Rattle.latch_law.specs.Rule.{Holds}
use Rattle.latch_law.specs.Views.{holding}
use Rattle.latch_law.specs.Whole.{reference}
use Rattle.latch_space.specs.declared.taking.Take.TheVariants.{Taken, Busy}
use Rattle.latch_space.specs.Has.{Has, IsKnown}
use Rattle.latch_space.specs.Passes.{view, count, Lacks}
use Rattle.latch_space.proofs.Pointwise.{took_known, gave_known}
use Rattle.chain_arena.specs.declared.node.Node.{Node}
use Rattle.chain_arena.specs.Bag.{HasNode, HasNoFold}
use Rattle.hash_partition.specs.Part.{Part}
use Rattle.learning.specs.declared.info.Info.{Info}
use Rattle.hash_law.specs.Blocks.{part_for}
use Rattle.index_law.specs.Shape.{Shape}
use Rattle.forest_law.specs.declared.objects.Object.{Object}
use Rattle.forest_law.specs.declared.objects.Object.TheVariants as object
use Rattle.forest_law.specs.Numbers.{part_id}
use Rattle.forest_world.specs.Held.{TreePass, shape_of_pass, HasPart}
use Rattle.hash_maintain.specs.Parting.{TakesPartition, RefusesPart, TellsPart, GivesPart}
use Rattle.call_law.specs.Trace.{Adds}
use Rattle.buffer_pool.specs.Calls.{Does}
use Rattle.buffer_pool.specs.Tries.{tries_alone, tries_and_given}
use Rattle.buffer_pool.proofs.AddedLemmas.{none_added, only_refused, only_given, took_adds, tried_adds, gave_adds, given_spares, none_spares, rest_but_one}
use Rattle.buffer_pool.proofs.CallLemmas.{does_both, does_again}
use Rattle.buffer_pool.proofs.FrameLemmas.{one_held}
use Rattle.buffer_pool.specs.Forests.{IsFittedTree}
use Rattle.buffer_pool.proofs.PartLemmas.{part_no_tree, part_below}
use Rattle.hash_guess.specs.Leads.{part_in, fold_in, refused_try, IsAsked, HoldsEntry, MissesPart, MissesEntry}

-- the partition of an index is one of all, and stays so over the same space
pub part_there : (p m : TreePass) (layout : Shape) (k index : ℕ) → IsFittedTree (view p)
    → layout ≡ shape_of_pass p → k ≡ part_for layout.parts index → (view p).terms ≡ (view m).terms
    → k < (shape_of_pass m).parts
part_there p m layout k index fitted same is terms =
    subst (λ (t : Terms Shape). k < t.shape.parts) terms
    (part_below p layout (shape_of_pass p) k index fitted same refl is)

-- a partition was another's
pub refused_part : (p q : TreePass) (k n : ℕ) → IsKnown p → RefusesPart p k n q
    → Does p q [] (tries_alone (refused_try (view p) (part_id (shape_of_pass p) k) n ∷ []))
refused_part p q k n known busy = record {
  adds = tried_adds (view p) (view q) (part_id (shape_of_pass p) k) n busy.view;
  spares = record { refused = (part_no_tree (shape_of_pass p) k, tt); references = tt };
  rest = λ j apart. ap (λ hs. get_elem? hs j) busy.same.held;
  known = λ j h held. ap (λ vs. get_elem? vs j) busy.same.values
      ∙ known j h (ap (λ hs. get_elem? hs j) (sym busy.same.held) ∙ held);
}

-- a partition was given back, which was known so
module _ (m q : TreePass) (k : ℕ) (known : IsKnown m) (gave : GivesPart m k q) where
  gave_does : Does m q (part_id (shape_of_pass m) k ∷ [])
      (only_given (part_id (shape_of_pass m) k) gave.taken (object.Part gave.part))
  gave_does = let n = part_id (shape_of_pass m) k in
      let terms : (view q).terms ≡ (view m).terms = ap (λ v. v.terms) gave.view in record {
        adds = gave_adds (view m) (view q) n (holding gave.taken (object.Part gave.part)) gave.view;
        spares = given_spares (shape_of_pass m) n gave.taken (object.Part gave.part)
            (part_no_tree (shape_of_pass m) k);
        rest = rest_but_one m q n gave.others;
        known = gave_known m q n (record {
          lacks = subst (λ (t : Terms Shape). Lacks q (part_id t.shape k)) terms gave.lacks;
          others = gave.others;
          count = gave.count;
        }) known;
      }

  pub gave_so : (shape : Shape) → shape_of_pass m ≡ shape → (taken : Object) (part : Part)
      → Holds (view m) (part_id shape k) (holding taken (object.Part part))
      → Does m q (part_id shape k ∷ []) (only_given (part_id shape k) taken (object.Part part))
  gave_so shape same taken part held = let n = part_id shape k in
      subst (λ (h : Holding Object). Does m q (n ∷ []) (only_given n h.taken h.known))
      (one_held m n (holding gave.taken (object.Part gave.part)) (holding taken (object.Part part))
      (ap (λ (s : Shape). get_elem? (view m).held (part_id s k)) (sym same) ∙ gave.held) held)
      (subst (λ (s : Shape). Does m q (part_id s k ∷ [])
      (only_given (part_id s k) gave.taken (object.Part gave.part))) same gave_does)

-- a partition was taken by one try
module _ (p m : TreePass) (k : ℕ) (known : IsKnown p) (took : TakesPartition p k m)
    (once : took.comes.refused ≡ []) where
  taken_terms : (view m).terms ≡ (view p).terms
  taken_terms = ap (λ v. v.terms) took.comes.view

  pub taken_known : IsKnown m
  taken_known = took_known p m (part_id (shape_of_pass p) k) (object.Part took.part) (record {
    has = subst (λ (t : Terms Shape). Has m (part_id t.shape k) (object.Part took.part)
        (object.Part took.part)) taken_terms took.has;
    others = took.others;
    count = took.comes.count;
  }) known

  pub took_does : Does p m (part_id (shape_of_pass p) k ∷ []) none_added
  took_does = record {
    adds = subst (λ (fs : List (Refusal Object)). Adds (view p) (view m) (only_refused fs)) once
        (took_adds (view p) (view m) took.comes.refused (part_id (shape_of_pass p) k)
        (Some (holding (object.Part took.part) (object.Part took.part))) took.comes.view);
    spares = none_spares (shape_of_pass p);
    rest = rest_but_one p m (part_id (shape_of_pass p) k) took.others;
    known = taken_known;
  }

  -- it is held as it was taken
  pub held_there : Holds (view m) (part_id (shape_of_pass p) k)
      (holding (object.Part took.part) (object.Part took.part))
  held_there = ap (λ v. get_elem? v.held (part_id (shape_of_pass p) k)) took.comes.view
      ∙ set_here (view p).held (part_id (shape_of_pass p) k)
      (Some (holding (object.Part took.part) (object.Part took.part)))
      (inside (view p).held (part_id (shape_of_pass p) k) None took.comes.lacked)

  -- and was given back
  module _ (q : TreePass) (gave : GivesPart m k q) where
    lacked_again : get_elem? (view q).held (part_id (shape_of_pass p) k)
        ≡ get_elem? (view p).held (part_id (shape_of_pass p) k)
    lacked_again =
        let terms : (view q).terms ≡ (view p).terms = ap (λ v. v.terms) gave.view ∙ taken_terms in
        subst (λ (t : Terms Shape). Lacks q (part_id t.shape k)) terms gave.lacks
        ∙ sym took.comes.lacked

    pub gives_again : Does p q [] (tries_and_given []
        (reference (part_id (shape_of_pass p) k) (object.Part took.part) (object.Part took.part)
        ∷ []))
    gives_again = let n = part_id (shape_of_pass p) k in
        let part = object.Part took.part in
        does_again p q (tries_and_given [] (reference n part part ∷ [])) n []
        (does_both p m q (n ∷ []) none_added (only_given n part part) took_does
        (gave_so m q k taken_known gave (shape_of_pass p)
        (ap (λ (t : Terms Shape). t.shape) taken_terms) part took.part held_there))
        lacked_again

    pub count_again : count q ≡ count p
    count_again = let a = took.comes.count in let b = gave.count in omega (arith, a, b)

-- what is told of the partition of an index, by its number
module _ (p m : TreePass) (index : ℕ) (tuple : FieldList) (info : Info) (asked : IsAsked tuple info)
    (known : IsKnown p) (k fold : ℕ) (is : k ≡ part_in p index)
    (fold_is : fold ≡ fold_in p index tuple info) where
  pub misses_part : (n : ℕ) → TellsPart p k (Busy n) m → MissesPart p index tuple info n m
  misses_part n told =
      let busy : RefusesPart p (part_in p index) n m =
      subst (λ j. RefusesPart p j n m) is told in assumption (asked, refused_part p m (part_in p index) n known busy)

  module _ (told : TellsPart p k Taken m) (seen : Part)
      (read : (x y : Part) → HasPart m k x y → seen ≡ y) where
    took_of : TellsPart p (part_in p index) Taken m
    took_of = subst (λ j. TellsPart p j Taken m) is told

    seen_is : seen ≡ took_of.0.part
    seen_is = (subst (λ j. (x y : Part) → HasPart m j x y → seen ≡ y) is read) took_of.0.part
        took_of.0.part took_of.0.has

    pub holds_entry : (n : Node) → (n.fold ≡ fold) × HasNode seen.nodes n
        → HoldsEntry p index tuple info n m
    holds_entry n there = record {
      asked = asked;
      took = took_of.0;
      at_once = took_of.1;
      entry = record {
        has = subst (λ (z : Part). HasNode z.nodes n) seen_is there.1;
        fold_is = there.0 ∙ fold_is;
      };
      known = taken_known p m (part_in p index) known took_of.0 took_of.1;
    }

    pub misses_entry : (q : TreePass) → HasNoFold seen.nodes fold → GivesPart m k q
        → MissesEntry p index tuple info fold q
    misses_entry q none gave =
        let gave' : GivesPart m (part_in p index) q = subst (λ j. GivesPart m j q) is gave in
        record {
          asked = asked;
          fold_is = fold_is;
          part = took_of.0.part;
          none = subst (λ (z : Part). HasNoFold z.nodes fold) seen_is none;
          does = gives_again p m (part_in p index) known took_of.0 took_of.1 q gave';
          count = count_again p m (part_in p index) known took_of.0 took_of.1 q gave';
        }
