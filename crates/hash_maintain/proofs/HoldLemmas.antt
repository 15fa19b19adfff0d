-- A partition that is held out of its place, and then put back.
use Rattle.std.proofs.Common.{◌≡◌, inl, inr, ℕ, Bool, true, false, sym, ap, subst, ◌∙◌}
use Rattle.std.specs.Bool.{OnFalse, OnTrue}
use Rattle.latch_law.specs.declared.knows.Knows.{Knows}
use Rattle.latch_law.specs.declared.knows.Terms.{Terms}
use Rattle.latch_space.specs.Has.{SameBut}
use Rattle.latch_space.specs.Passes.{view}
use Rattle.chain_arena.specs.Bag.{count_of, SameOutsideBlock}
use Rattle.hash_partition.specs.Part.{Part, KeepsShape}
use Rattle.index_law.specs.Answers.{MadeChange, Saying}
use Rattle.index_law.specs.Shape.{Shape}
use Rattle.forest_law.specs.declared.objects.Frame.{Frame}
use Rattle.forest_law.specs.declared.objects.Object.{Object}
use Rattle.forest_law.specs.Hashed.{IsExactFor}
use Rattle.forest_law.specs.Numbers.{part_id}
use Rattle.forest_world.specs.Held.{TreePass, shape_of_pass, HoldsPart}
use Rattle.hash_maintain.specs.Parting.{LacksPart, TakesPartition, IsFoundOrTaken, HoldsPartOut, TakesPartOut, PutsPartBack, IsInPlace}
use Rattle.hash_maintain.specs.Upkeep.{IsExactIn, KeepsUpInHand}

-- one change of a pass behind another, beside one object
pub both_same : (p m q : TreePass) (k : ℕ) → (view m).terms ≡ (view p).terms
    → SameBut p m (part_id (shape_of_pass p) k) → SameBut m q (part_id (shape_of_pass m) k)
    → SameBut p q (part_id (shape_of_pass p) k)
both_same p m q k terms one other j differs = let o = one j differs in
    let s = other j (λ e. differs (e ∙ ap (λ (t : Terms Shape). part_id t.shape k) terms)) in
    (s.0 ∙ o.0, s.1 ∙ o.1)

-- terms where the view is the same
pub terms_of : (p q : TreePass) → view q ≡ view p → (view q).terms ≡ (view p).terms
terms_of p q same = ap (λ (v : Knows Shape Object MadeChange Saying). v.terms) same

module _ (p : TreePass) (k : ℕ) where
  -- a partition that was in hand is out of its place
  found_out : (q : TreePass) (was : Part) → HoldsPart p k → TakesPartOut p k was q
      → HoldsPartOut p k was q
  found_out q was held out = let o = out.out held.0 held.1 held.2 in record {
    known = held.0;
    before = subst (λ z. IsFoundOrTaken p k held.0 z q) (sym o.1)
        (inl (record { has = held.2; view = out.view; count = out.count }));
    out = o.0;
    others = out.others;
    terms = terms_of p q out.view;
  }

  -- and so is one that was taken
  taken_out : (m q : TreePass) (was : Part) → TakesPartition p k m → TakesPartOut m k was q
      → HoldsPartOut p k was q
  taken_out m q was took out = let o = out.out took.part took.part took.has in
      let c = took.comes in
      let terms : (view m).terms ≡ (view p).terms =
      ap (λ (v : Knows Shape Object MadeChange Saying). v.terms) c.view in
      record {
        known = took.part;
        before = inr (
          record {
            lacked = c.lacked;
            refused = c.refused;
            tries = c.tries;
            view = out.view ∙ c.view;
            exact = c.exact;
            count = out.count ∙ c.count;
          },
          o.1,
        );
        out = o.0;
        others = both_same p m q k terms took.others out.others;
        terms = terms_of m q out.view ∙ terms;
      }

  -- after it was found or taken, it is held
  pub holds_after : (m : TreePass) (r : Bool) → OnTrue r (TakesPartition p k m)
      → OnFalse r (LacksPart p k → ⊥) → OnFalse r (m ≡ p) → IsInPlace p k → HoldsPart m k
  holds_after m true took held found place = (took.part, took.part, took.has)
  holds_after m false took held found place =
      subst (λ (z : TreePass). HoldsPart z k) (sym found) (place held)

  pub out_after : (m q : TreePass) (was : Part) (r : Bool) → OnTrue r (TakesPartition p k m)
      → OnFalse r (LacksPart p k → ⊥) → OnFalse r (m ≡ p) → IsInPlace p k
      → TakesPartOut m k was q → HoldsPartOut p k was q
  out_after m q was true took held found place out = taken_out m q was took out
  out_after m q was false took held found place out =
      found_out q was (place held) (subst (λ (z : TreePass). TakesPartOut z k was q) found out)

  -- what was found or taken was so still once the partition is put back
  pub still_found : (m q : TreePass) (known was now : Part) → IsFoundOrTaken p k known was m
      → PutsPartBack m k now q → IsFoundOrTaken p k known was q
  still_found m q known was now (inl found) back = inl (record {
    has = found.has;
    view = back.view ∙ found.view;
    count = back.count ∙ found.count;
  })
  still_found m q known was now (inr taken) back = inr (
    record {
      lacked = taken.0.lacked;
      refused = taken.0.refused;
      tries = taken.0.tries;
      view = back.view ∙ taken.0.view;
      exact = taken.0.exact;
      count = back.count ∙ taken.0.count;
    },
    taken.1,
  )

  -- and where it is put back exact of a block, it keeps up with it
  abbrev pub keeps_in_hand : (m q : TreePass) (b : ℕ) (was now : Part) (f : Frame)
      → HoldsPartOut p k was m → PutsPartBack m k now q → IsExactFor (shape_of_pass p) k b now f
      → SameOutsideBlock now.nodes was.nodes b → KeepsShape was now → KeepsUpInHand p k b f q
  keeps_in_hand m q b was now f held back exact others shape = record {
    known = held.known;
    was = was;
    now = now;
    before = still_found m q held.known was now held.before back;
    has = back.has held.known held.out;
    exact = exact;
    others = others;
    shape = shape;
    beside = both_same p m q k held.terms held.others back.others;
    terms = terms_of m q back.view ∙ held.terms;
  }

  -- a partition in hand or taken is exact of a frame of which it is exact in hand
  pub in_hand : (m : TreePass) (b : ℕ) (was : Part) (g : Frame) → IsExactIn p k b g
      → HoldsPartOut p k was m → IsExactFor (shape_of_pass p) k b was g
  in_hand m b was g exact held = elim held.before [
    | inl found ↦ exact.held held.known was found.has
    | inr taken ↦ (let free = exact.free taken.0.lacked in
        let there = taken.0.exact b free.frame free.known in
        subst (λ z. IsExactFor (shape_of_pass p) k b z g) (sym taken.1)
        (record {
          nodes = λ n here. there.nodes n here
              ∙ ap (count_of n) (sym (free.asks held.known held.known));
        }))
  ]
