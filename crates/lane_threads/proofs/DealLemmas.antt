-- A pass that is cut, and what its parts have.
use Rattle.std.proofs.Common.{◌≡◌, ◌⊎◌, ℕ, zero, suc, ◌+◌, ◌<◌, ◌≤◌, Bool, true, false, cond, nat_lt, nat_eq, List, [], ◌∷◌, ◌++◌, length, refl, ap, sym, ◌∙◌, subst, inl, inr, arith, ltb-true, ltb-false, eq-eqb, ne_eqb, length-append, append_assoc, Result, IfOk}
use Rattle.std.proofs.lemmas.Result.{IfOk-weaker}
use mathlib.Core.Option.{some, some-injective, some-ne-none}
use lib.ListN.{get_elem?}
use Rattle.latch_law.specs.Views.{said_below, said_from, middle, left_part, right_part}
use Rattle.call_law.specs.Spoken.{View, OwnAnswer}
use Rattle.list_facts.specs.Parts.{made_below, made_from}
use Rattle.search_info.specs.Parts.{maker, cut_at, lower_part, upper_part}
use Rattle.search_info.specs.declared.knows.Knows.{Knows}
use Rattle.lane_threads.specs.Engine.{Engine, EnginePass, known, lessons_of, IsOf}
use Rattle.lane_threads.specs.Dealt.{said_by, IsSigned, IsLane, AreLanes, IsShare, AreDealt, AreFresh, AddsDealt}
use Rattle.lane_threads.proofs.ListLemmas.{at_either, within}

-- each answer has a number from low up to end
abbrev IsBetween : ℕ → ℕ → List OwnAnswer → Type 0
IsBetween low end qs = (j : ℕ) (q : OwnAnswer) → get_elem? qs j ≡ some q → (low ≤ q.by) × (q.by < end)

between_below : (low end m : ℕ) (qs : List OwnAnswer) → IsBetween low end qs → IsBetween low m (said_below m qs)
between_below low end m [] all = λ j q e. absurd (some-ne-none q (sym e))
between_below low end m (x ∷ qs) all = pick (between_below low end m qs (λ j q e. all (suc j) q e)) (nat_lt x.by m) refl
  where
    pick : IsBetween low m (said_below m qs) → (b : Bool) → nat_lt x.by m ≡ b → IsBetween low m (cond b (x ∷ said_below m qs) (said_below m qs))
    pick rest true is zero q e = subst (λ (z : OwnAnswer). (low ≤ z.by) × (z.by < m)) (some-injective x q e) ((all 0 x refl).0, ltb-true x.by m is)
    pick rest true is (suc j) q e = rest j q e
    pick rest false is j q e = rest j q e

between_from : (low end m : ℕ) (qs : List OwnAnswer) → IsBetween low end qs → IsBetween m end (said_from m qs)
between_from low end m [] all = λ j q e. absurd (some-ne-none q (sym e))
between_from low end m (x ∷ qs) all = pick (between_from low end m qs (λ j q e. all (suc j) q e)) (nat_lt x.by m) refl
  where
    pick : IsBetween m end (said_from m qs) → (b : Bool) → nat_lt x.by m ≡ b → IsBetween m end (cond b (said_from m qs) (x ∷ said_from m qs))
    pick rest true is j q e = rest j q e
    pick rest false is zero q e = subst (λ (z : OwnAnswer). (m ≤ z.by) × (z.by < end)) (some-injective x q e) (ltb-false x.by m is, (all 0 x refl).1)
    pick rest false is (suc j) q e = rest j q e

-- the answers of a number below the cut are among those below it
by_below : (n m : ℕ) (qs : List OwnAnswer) → n < m → said_by n (said_below m qs) ≡ said_by n qs
by_below n m [] under = refl
by_below n m (x ∷ qs) under = pick (by_below n m qs under) (nat_lt x.by m) refl
  where
    pick : said_by n (said_below m qs) ≡ said_by n qs → (b : Bool) → nat_lt x.by m ≡ b → said_by n (cond b (x ∷ said_below m qs) (said_below m qs)) ≡ cond (nat_eq x.by n) (x ∷ said_by n qs) (said_by n qs)
    pick rest true is = ap (λ (s : List OwnAnswer). cond (nat_eq x.by n) (x ∷ s) s) rest
    pick rest false is = let above = ltb-false x.by m is in rest ∙ ap (λ (b : Bool). cond b (x ∷ said_by n qs) (said_by n qs)) (sym (ne_eqb x.by n (λ same. omega arith)))

-- and those of a number from the cut on are among those from it on
by_from : (n m : ℕ) (qs : List OwnAnswer) → m ≤ n → said_by n (said_from m qs) ≡ said_by n qs
by_from n m [] over = refl
by_from n m (x ∷ qs) over = pick (by_from n m qs over) (nat_lt x.by m) refl
  where
    pick : said_by n (said_from m qs) ≡ said_by n qs → (b : Bool) → nat_lt x.by m ≡ b → said_by n (cond b (said_from m qs) (x ∷ said_from m qs)) ≡ cond (nat_eq x.by n) (x ∷ said_by n qs) (said_by n qs)
    pick rest false is = ap (λ (s : List OwnAnswer). cond (nat_eq x.by n) (x ∷ s) s) rest
    pick rest true is = let below = ltb-true x.by m is in rest ∙ ap (λ (b : Bool). cond b (x ∷ said_by n qs) (said_by n qs)) (sym (ne_eqb x.by n (λ same. omega arith)))

-- a pass of one number has none but its answers
by_all : (n : ℕ) (qs : List OwnAnswer) → IsBetween n (n + 1) qs → qs ≡ said_by n qs
by_all n [] all = refl
by_all n (x ∷ qs) all = let at = all 0 x refl in let least = at.0 in let most = at.1 in
    ap (λ (s : List OwnAnswer). x ∷ s) (by_all n qs (λ j q e. all (suc j) q e)) ∙ ap (λ (b : Bool). cond b (x ∷ said_by n qs) (said_by n qs)) (sym (eq-eqb x.by n (omega arith)))

-- what a lower number has of the left part, it has of the whole
share_left : (whole u p : EnginePass) (n : ℕ) → known u ≡ left_part (known whole) → lessons_of u ≡ lower_part (lessons_of whole) → u.sizes ≡ whole.sizes → n < (known u).end → IsShare u n p → IsShare whole n p
share_left whole u p n left lower sizes under share = record {
  sizes = share.sizes ∙ sizes;
  said = λ signed. share.said (subst IsSigned (sym left) (between_below (known whole).low (known whole).end (middle (known whole)) (known whole).said signed))
      ∙ (ap (λ (v : View). said_by n v.said) left ∙ by_below n (middle (known whole)) (known whole).said (subst (λ (v : View). n < v.end) left under));
  seen = share.seen ∙ ap (λ (v : View). v.seen) left;
  references = share.references ∙ ap (λ (v : View). v.references) left;
  untaught = λ none. share.untaught (ap (λ (m : Knows). m.tries) lower ∙ ap (made_below maker (cut_at (lessons_of whole))) none);
}

-- what an upper number has of the right part, it has of the whole
share_right : (whole w p : EnginePass) (n : ℕ) → known w ≡ right_part (known whole) → lessons_of w ≡ upper_part (lessons_of whole) → w.sizes ≡ whole.sizes → (known w).low ≤ n → IsShare w n p → IsShare whole n p
share_right whole w p n right upper sizes over share = record {
  sizes = share.sizes ∙ sizes;
  said = λ signed. share.said (subst IsSigned (sym right) (between_from (known whole).low (known whole).end (middle (known whole)) (known whole).said signed))
      ∙ (ap (λ (v : View). said_by n v.said) right ∙ by_from n (middle (known whole)) (known whole).said (subst (λ (v : View). v.low ≤ n) right over));
  seen = share.seen ∙ ap (λ (v : View). v.seen) right;
  references = share.references ∙ ap (λ (v : View). v.references) right;
  untaught = λ none. share.untaught (ap (λ (m : Knows). m.tries) upper ∙ ap (made_from maker (cut_at (lessons_of whole))) none);
}

-- where the whole had said and tried nothing, no dealt pass has
pub fresh_dealt : (engine : Engine) (whole : EnginePass) (passes : List EnginePass) → AreDealt engine whole passes → (known whole).said ≡ [] → (lessons_of whole).tries ≡ [] → AreFresh passes
fresh_dealt engine whole passes deal none untaught k p e =
    let share = deal.shares k p e in
    let signed : IsSigned (known whole) = λ j q at. absurd (some-ne-none q (sym (ap (λ (qs : List OwnAnswer). get_elem? qs j) (sym none) ∙ at))) in
    (share.said signed ∙ ap (said_by ((known whole).low + k)) none, share.untaught untaught)

-- a pass of one number is dealt as it is
pub added_one : (engine : Engine) (p : EnginePass) (old new : List EnginePass) → IsOf engine p → (known p).end ≡ (known p).low + 1 → new ≡ old ++ p ∷ [] → AddsDealt engine p old new
added_one engine p old new own one added = record { passes = p ∷ []; added = added; dealt = record { long = sym one; lanes = lanes; shares = shares } }
  where
    lanes : AreLanes engine (known p).low (p ∷ [])
    lanes zero q e = subst (IsLane engine ((known p).low + 0)) (some-injective p q e) record { own = own; low = omega arith; end = omega arith }
    lanes (suc k) q e = absurd (some-ne-none q (sym e))

    share : IsShare p (known p).low p
    share = record { sizes = refl; said = λ signed. by_all (known p).low (known p).said (subst (λ (n : ℕ). IsBetween (known p).low n (known p).said) one signed); seen = refl; references = refl; untaught = λ none. none }

    shares : (k : ℕ) (q : EnginePass) → get_elem? (p ∷ []) k ≡ some q → IsShare p ((known p).low + k) q
    shares zero q e = let same : (known p).low ≡ (known p).low + 0 = omega arith in subst (λ (n : ℕ). IsShare p n q) same (subst (IsShare p (known p).low) (some-injective p q e) share)
    shares (suc k) q e = absurd (some-ne-none q (sym e))

module _ (engine : Engine) (whole u w : EnginePass) (left : known u ≡ left_part (known whole)) (right : known w ≡ right_part (known whole)) (lower : lessons_of u ≡ lower_part (lessons_of whole)) (upper : lessons_of w ≡ upper_part (lessons_of whole)) (sizes : u.sizes ≡ whole.sizes) (sizes' : w.sizes ≡ whole.sizes) where
  low_same : (known u).low ≡ (known whole).low
  low_same = ap (λ (v : View). v.low) left

  meets : (known u).end ≡ (known w).low
  meets = ap (λ (v : View). v.end) left ∙ sym (ap (λ (v : View). v.low) right)

  end_same : (known w).end ≡ (known whole).end
  end_same = ap (λ (v : View). v.end) right

  -- the passes of both parts in a row are those of the whole
  both_dealt : (ps qs : List EnginePass) → AreDealt engine u ps → AreDealt engine w qs → AreDealt engine whole (ps ++ qs)
  both_dealt ps qs a b = record { long = long; lanes = λ k p e. lane k p (at_either ps qs k p e); shares = λ k p e. share k p (at_either ps qs k p e) }
    where
      long : (known whole).low + length (ps ++ qs) ≡ (known whole).end
      long = let x = a.long in let y = b.long in omega (arith, length-append ps qs, low_same, meets, end_same)

      early : (k : ℕ) → (known u).low + k ≡ (known whole).low + k
      early k = ap (λ (n : ℕ). n + k) low_same

      late : (k i : ℕ) → k ≡ length ps + i → (known w).low + i ≡ (known whole).low + k
      late k i is = let x = a.long in omega (arith, x, low_same, meets, is)

      lane : (k : ℕ) (p : EnginePass) → (get_elem? ps k ≡ some p) ⊎ ((i : ℕ) × (k ≡ length ps + i) × (get_elem? qs i ≡ some p)) → IsLane engine ((known whole).low + k) p
      lane k p (inl e) = subst (λ (n : ℕ). IsLane engine n p) (early k) (a.lanes k p e)
      lane k p (inr h) = subst (λ (n : ℕ). IsLane engine n p) (late k h.0 h.1) (b.lanes h.0 p h.2)

      share : (k : ℕ) (p : EnginePass) → (get_elem? ps k ≡ some p) ⊎ ((i : ℕ) × (k ≡ length ps + i) × (get_elem? qs i ≡ some p)) → IsShare whole ((known whole).low + k) p
      share k p (inl e) = subst (λ (n : ℕ). IsShare whole n p) (early k) (share_left whole u p ((known u).low + k) left lower sizes (let below = within ps k p e in let x = a.long in omega (arith, x, below)) (a.shares k p e))
      share k p (inr h) = subst (λ (n : ℕ). IsShare whole n p) (late k h.0 h.1) (share_right whole w p ((known w).low + h.0) right upper sizes' (omega arith) (b.shares h.0 p h.2))

  -- so they are dealt where the second half is
  pub cut_ok : {E : Type 0} (r : Result (Unit {0}) E) (old between new : List EnginePass) → AddsDealt engine u old between → IfOk r (λ _. AddsDealt engine w between new) → IfOk r (λ _. AddsDealt engine whole old new)
  cut_ok r old between new a b = IfOk-weaker r (λ _. AddsDealt engine w between new) (λ _. AddsDealt engine whole old new) (λ _ h. record {
    passes = a.passes ++ h.passes;
    added = h.added ∙ (ap (λ (z : List EnginePass). z ++ h.passes) a.added ∙ append_assoc old a.passes h.passes);
    dealt = both_dealt a.passes h.passes a.dealt h.dealt;
  }) b
