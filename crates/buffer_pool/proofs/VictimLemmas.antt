-- Frames that are tried one behind the other, by age and then by number.
use Rattle.std.proofs.Common.{◌≡◌, ◌≢◌, ℕ, ◌<◌, List, [], ◌∷◌, ◌++◌, length, inl, inr, sym, ap, subst, ◌∙◌, refl, arith, true, false, Option, Some, None, IfSome}
use Rattle.std.specs.List.{AllByRecursion}
use mathlib.Core.Option.{some}
use lib.ListN.{get_elem?}
use Rattle.list_facts.proofs.Places.{there}
use Rattle.block_ages.specs.Order.{IsBehind, IsNext}
use Rattle.block_ages.proofs.OrderLemmas.{before_or_behind, behind_or_not}
use Rattle.latch_law.specs.declared.knows.Refusal.{Refusal}
use Rattle.latch_law.specs.declared.knows.Terms.{Terms}
use Rattle.latch_law.specs.Rule.{Holds}
use Rattle.latch_law.specs.Views.{holding, with_refused}
use Rattle.latch_space.specs.Has.{IsKnown}
use Rattle.latch_space.specs.Hands.{has_value, is_held}
use Rattle.latch_space.specs.Passes.{view, count}
use Rattle.index_law.specs.Shape.{Shape}
use Rattle.tree_law.specs.TreeShape.{In}
use Rattle.forest_law.specs.declared.objects.Pool.{Pool}
use Rattle.forest_law.specs.declared.objects.Object.{Object}
use Rattle.forest_law.specs.declared.objects.Object.TheVariants as object
use Rattle.forest_law.specs.Numbers.{pool_id, frame_id, frames_of}
use Rattle.forest_world.specs.Held.{TreePass, shape_of_pass, HasPool}
use Rattle.buffer_pool.specs.Calls.{Does}
use Rattle.buffer_pool.specs.Forests.{IsFittedTree}
use Rattle.buffer_pool.specs.Frames.{TakesFrame, RefusesFrame}
use Rattle.buffer_pool.specs.Hands.{LacksFrame}
use Rattle.buffer_pool.specs.Tries.{tries_alone, Tries, IsTried, KnowsPool}
use Rattle.buffer_pool.specs.Victims.{HoldsFrameToo, MissesFrame, HoldsVictim}
use Rattle.buffer_pool.proofs.AddedLemmas.{held_adds, none_spares}
use Rattle.buffer_pool.proofs.AsTakenLemmas.{just_taken}
use Rattle.buffer_pool.proofs.InsideLemmas.{taken_inside}
use Rattle.buffer_pool.proofs.KnownLemmas.{ages_counted}
use Rattle.buffer_pool.proofs.CallLemmas.{pool_has, does_both, does_none, does_among, took_frame, refused_frame}

-- one of the first, and one of the second, is one of both
pub in_left : {A : Type 0} (x : A) (xs ys : List A) → In x xs → In x (xs ++ ys)
in_left x [] ys among = absurd among
in_left x (y ∷ xs) ys (inl e) = inl e
in_left x (y ∷ xs) ys (inr among) = inr (in_left x xs ys among)

pub in_right : {A : Type 0} (x : A) (xs ys : List A) → In x ys → In x (xs ++ ys)
in_right x [] ys among = among
in_right x (y ∷ xs) ys among = inr (in_right x xs ys among)

pub tried_left : (k : ℕ) (fs gs : List (Refusal Object)) → IsTried k fs → IsTried k (fs ++ gs)
tried_left k fs gs tried = record {
  refusal = tried.refusal;
  among = in_left tried.refusal fs gs tried.among;
  object = tried.object;
}

pub tried_right : (k : ℕ) (fs gs : List (Refusal Object)) → IsTried k gs → IsTried k (fs ++ gs)
tried_right k fs gs tried = record {
  refusal = tried.refusal;
  among = in_right tried.refusal fs gs tried.among;
  object = tried.object;
}

-- what isn't held, of what is there, is lacked
pub unheld_lacks : {X : Type 0} (hs : List (Option X)) (k : ℕ) → k < length hs
    → is_held hs k ≡ false → get_elem? hs k ≡ some None
unheld_lacks hs k below none = let a = there hs k below in pick a.0 a.1
  where
    no : true ≡ false → ⊥
    no e = absurd cc

    pick : (o : Option _) → get_elem? hs k ≡ some o → get_elem? hs k ≡ some None
    pick (Some x) e = absurd (no (sym (ap has_value e) ∙ none))
    pick None e = e

-- and what is held isn't
pub held_not_lacked : {X : Type 0} (hs : List (Option X)) (k : ℕ) → is_held hs k ≡ true
    → get_elem? hs k ≡ some None → ⊥
held_not_lacked hs k held lacks = no (sym (ap has_value lacks) ∙ held)
  where
    no : false ≡ true → ⊥
    no e = absurd cc

-- nothing was tried
abbrev pub tries_none : (p : TreePass) → IsKnown p → Tries p p []
tries_none p known = record {
  refused = [];
  does = record {
    adds = held_adds (view p) (view p) (view p).held refl;
    spares = none_spares (shape_of_pass p);
    rest = λ k apart. refl;
    known = known;
  };
}

-- tries one behind the other
abbrev pub tries_both : (p q r : TreePass) (ks : List ℕ) → Tries p q ks → Tries q r ks → Tries p r
    ks
tries_both p q r ks first second = record {
  refused = first.refused ++ second.refused;
  does = does_both p q r ks (record { said = []; refused = first.refused; references = [] })
      (record { said = []; refused = second.refused; references = [] }) first.does second.does;
}

-- tries beside fewer objects are tries beside more
abbrev pub tries_among : (p q : TreePass) (ks js : List ℕ)
    → ((j : ℕ) → AllByRecursion (λ (k : ℕ). j ≢ k) js → AllByRecursion (λ (k : ℕ). j ≢ k) ks)
    → Tries p q ks → Tries p q js
tries_among p q ks js among tries = record {
  refused = tries.refused;
  does = does_among p q (record { said = []; refused = tries.refused; references = [] }) ks js
      among tries.does;
}

pub tries_shape : (p q : TreePass) (ks : List ℕ) → Tries p q ks → shape_of_pass q ≡ shape_of_pass p
tries_shape p q ks tries = ap (λ (t : Terms Shape). t.shape) tries.does.adds.numbers.terms

-- a frame that was taken is held besides
pub took_too : (p q : TreePass) (b : ℕ) → IsKnown p → LacksFrame p b → TakesFrame p b q
    → HoldsFrameToo p b q
took_too p q b known lacks took = record {
  tries = record { refused = took.refused; does = took_frame p q known b took };
  lacked = lacks;
  frame = took.frame;
  knows = took.has.held;
  taken = just_taken p q b lacks took;
  inside = taken_inside (with_refused (view p) took.refused) b took.frame took.was;
  count = took.count;
}

-- and one that another had was tried in vain
pub missed_frame : (p q : TreePass) (b n : ℕ) → IsKnown p → RefusesFrame p b n q
    → MissesFrame p b q
missed_frame p q b n known busy = record {
  tries = record { refused = _; does = refused_frame p q known b n busy };
  tried = λ lacks. record { refusal = _; among = inl refl; object = refl };
  count = busy.same.count;
}

-- one that is held isn't tried
pub passed_frame : (p : TreePass) (b : ℕ) → IsKnown p → (LacksFrame p b → ⊥) → MissesFrame p b p
passed_frame p b known held = record {
  tries = tries_none p known;
  tried = λ lacks. absurd (held lacks);
  count = refl;
}

-- each frame up to this one that the pass lacked was tried in vain
pub record HasTried (p q : TreePass) (x : Pool) (last : Option ℕ) : Type 0 where
  pub tries : Tries p q []
  pub count : count q ≡ count p
  pub below : IfSome last (λ (b : ℕ). b < length x.ages)
  pub each : (c : ℕ) → c < length x.ages → (IsBehind x.ages last c → ⊥)
      → LacksFrame p c → IsTried (frame_id (shape_of_pass p) c) tries.refused

pub tried_none : (p : TreePass) (x : Pool) → IsKnown p → HasTried p p x None
tried_none p x known = record {
  tries = tries_none p known;
  count = refl;
  below = tt;
  each = λ c below not lacks. absurd (not tt);
}

module _ (p q : TreePass) (x : Pool) (last : Option ℕ) (tried : HasTried p q x last) where
  same_shape : shape_of_pass q ≡ shape_of_pass p
  same_shape = tries_shape p q [] tried.tries

  -- what was lacked is lacked
  pub lacks_still : (c : ℕ) → LacksFrame p c → LacksFrame q c
  lacks_still c lacks = ap (λ (s : Shape). get_elem? (view q).held (frame_id s c)) same_shape
      ∙ (tried.tries.does.rest (frame_id (shape_of_pass p) c) tt ∙ lacks)

  lacked_before : (c : ℕ) → LacksFrame q c → LacksFrame p c
  lacked_before c lacks = sym (tried.tries.does.rest (frame_id (shape_of_pass p) c) tt)
      ∙ (ap (λ (s : Shape). get_elem? (view q).held (frame_id s c)) (sym same_shape) ∙ lacks)

  -- and the pool is known as it was
  pub pool_known_still : (t : Object) → KnowsPool (view p) t x → KnowsPool (view q) t x
  pool_known_still t held = tried.tries.does.rest pool_id tt ∙ held

  pub pool_read : (t : Object) → KnowsPool (view p) t x → (y : Pool)
      → ((a z : Pool) → HasPool q a z → y ≡ z) → y ≡ x
  pool_read t held y read =
      read x x (pool_has q tried.tries.does.known t x (pool_known_still t held))

  -- so are its ages, of which there is one for each frame
  module _ (t : Object) (held : KnowsPool (view p) t x) (y : Pool)
      (read : (a z : Pool) → HasPool q a z → y ≡ z) where
    pub ages_read : y.ages ≡ x.ages
    ages_read = ap (λ (z : Pool). z.ages) (pool_read t held y read)

    pub frames_counted : IsFittedTree (view q) → length y.ages ≡ frames_of (shape_of_pass q)
    frames_counted fitted = ap length ages_read
        ∙ ages_counted fitted.whole fitted.is_lawful (view q) fitted.fits t x
        (pool_known_still t held)

  module _ (r : TreePass) (b : ℕ) (next : IsNext x.ages last b) where
    -- one more
    pub tries_next : MissesFrame q b r → HasTried p r x (Some b)
    tries_next misses = record {
      tries = tries_both p q r [] tried.tries misses.tries;
      count = misses.count ∙ tried.count;
      below = next.below;
      each = λ c below not lacks. elim (behind_or_not x.ages last c) [
        | inl behind ↦ elim (before_or_behind x.ages c b) [
          | inl before ↦ absurd (next.first c below behind before)
          | inr (inl e) ↦ tried_right (frame_id (shape_of_pass p) c) tried.tries.refused
              misses.tries.refused
              (subst (λ k. IsTried k misses.tries.refused)
              (λ k. frame_id (same_shape k) (sym e k))
              (misses.tried (lacks_still b (subst (LacksFrame p) e lacks))))
          | inr (inr before) ↦ absurd (not before)
        ]
        | inr isnt ↦ tried_left (frame_id (shape_of_pass p) c) tried.tries.refused
            misses.tries.refused (tried.each c below isnt lacks)
      ];
    }

    -- or the victim
    pub takes_next : HoldsFrameToo q b r → HoldsVictim p x b r
    takes_next holds = record {
      holds = record {
        tries = tries_both p q r (frame_id (shape_of_pass p) b ∷ [])
            (record {
              refused = tried.tries.refused;
              does = does_none p q
                  (record { said = []; refused = tried.tries.refused; references = [] })
                  (frame_id (shape_of_pass p) b ∷ []) tried.tries.does;
            })
            (record {
              refused = holds.tries.refused;
              does = subst
                  (λ (s : Shape). Does q r (frame_id s b ∷ []) (tries_alone holds.tries.refused))
                  same_shape holds.tries.does;
            });
        lacked = lacked_before b holds.lacked;
        frame = holds.frame;
        knows = holds.knows;
        taken = subst
            (λ (s : Shape). Holds (view r) (frame_id s b)
            (holding (object.Frame holds.frame) (object.Frame holds.frame))) same_shape
            holds.taken;
        inside = holds.inside;
        count = (let a = holds.count in let e = tried.count in omega (arith, a, e));
      };
      took = λ c below before lacks. elim (behind_or_not x.ages last c) [
        | inl behind ↦ absurd (next.first c below behind before)
        | inr isnt ↦ tried_left (frame_id (shape_of_pass p) c) tried.tries.refused
            holds.tries.refused (tried.each c below isnt lacks)
      ];
    }
