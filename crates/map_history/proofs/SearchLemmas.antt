-- What a search finds, as the first or the last row.
use Rattle.std.proofs.Common.{◌≡◌, Bool, true, false, cond, Option, Some, None, List, [], ◌∷◌, refl, sym, ap, ◌∙◌, subst, arith, ⊎_elim}
use Rattle.std.proofs.lemmas.Bool.{both_ways}
use Rattle.std.specs.List.{AllByRecursion, Contains}
use Rattle.list_facts.proofs.Elements.{contains_head, contains_tail, contains_cases}
use Rattle.key_tuple.specs.KeyPlace.{KeyPlace, At, before}
use Rattle.key_tuple.proofs.PlaceLemmas.{before-itself, before_not_after}
use Rattle.map_history.specs.Map.{Pair, Map, Ascends}
use Rattle.map_history.specs.Reply.{first_after, last_before, or_else}
use Rattle.map_history.specs.Laws.{IsFirst, IsLast}
use Rattle.map_history.proofs.RowsLemmas.{each_at}

-- what holds of each holds of a member
pub each_member : {A : Type 0} (P : A → Type 0) (xs : List A) (x : A) → AllByRecursion P xs → Contains xs x → P x
each_member P xs x a there = subst P there.2 (each_at P xs there.0 x there.1 a)

-- rows whose keys aren't apart are one
pub one_row : (m : Map) (x y : Pair) → Ascends m → Contains m x → Contains m y → before (At x.key) (At y.key) ≡ false → before (At y.key) (At x.key) ≡ false → x ≡ y
one_row [] x y asc a b p q = absurd (omega (arith, a.1))
one_row (z ∷ m) x y asc a b p q = ⊎_elim (λ e. ⊎_elim (λ f. sym e ∙ f) (λ d. absurd (both_ways _ p (subst (λ (w : Pair). before (At w.key) (At y.key) ≡ true) e (each_member _ m y asc.0 d)))) (contains_cases z y m b))
    (λ d. ⊎_elim (λ f. absurd (both_ways _ q (subst (λ (w : Pair). before (At w.key) (At x.key) ≡ true) f (each_member _ m x asc.0 d)))) (λ g. one_row m x y asc.1 d g p q) (contains_cases z y m b)) (contains_cases z x m a)

module _ (p : KeyPlace → Bool) where
  pub none_passes : (m : Map) → first_after p m ≡ None → AllByRecursion (λ (y : Pair). p (At y.key) ≡ false) m
  none_passes [] e = tt
  none_passes (x ∷ m) e = go (p (At x.key)) refl e (none_passes m)
    where
      go : (b : Bool) → p (At x.key) ≡ b → cond b (Some x) (first_after p m) ≡ None → (first_after p m ≡ None → AllByRecursion (λ (y : Pair). p (At y.key) ≡ false) m) → AllByRecursion (λ (y : Pair). p (At y.key) ≡ false) (x ∷ m)
      go true q e more = absurd cc
      go false q e more = (q, more e)

  pub first-none : (m : Map) → first_after p m ≡ None → (y : Pair) → Contains m y → p (At y.key) ≡ false
  first-none m e y there = each_member _ m y (none_passes m e) there

  pub first-found : (m : Map) (x : Pair) → Ascends m → first_after p m ≡ Some x → IsFirst p m x
  first-found [] x asc e = absurd cc
  first-found (z ∷ m) x asc e = go (p (At z.key)) refl e (first-found m x asc.1)
    where
      go : (b : Bool) → p (At z.key) ≡ b → cond b (Some z) (first_after p m) ≡ Some x → (first_after p m ≡ Some x → IsFirst p m x) → IsFirst p (z ∷ m) x
      go true q e more =
          let is : z ≡ x = cc in
          subst (IsFirst p (z ∷ m)) is (record {
            member = contains_head z m;
            passes = q;
            first = λ y there t. ⊎_elim (λ f. subst (λ (w : Pair). before (At w.key) (At z.key) ≡ false) f (before-itself (At z.key))) (λ d. before_not_after (At z.key) (At y.key) (each_member _ m y asc.0 d)) (contains_cases z y m there);
          })
      go false q e more =
          let rest = more e in
          record {
            member = contains_tail z x m rest.member;
            passes = rest.passes;
            first = λ y there t. ⊎_elim (λ f. absurd (both_ways _ (subst (λ (w : Pair). p (At w.key) ≡ false) f q) t)) (λ d. rest.first y d t) (contains_cases z y m there);
          }

  pub first-is : (m : Map) (x : Pair) → Ascends m → IsFirst p m x → first_after p m ≡ Some x
  first-is m x asc h = go (first_after p m) refl
    where
      go : (o : Option Pair) → first_after p m ≡ o → first_after p m ≡ Some x
      go None e = absurd (both_ways _ (first-none m e x h.member) h.passes)
      go (Some z) e = let found = first-found m z asc e in e ∙ ap Some (one_row m z x asc found.member h.member (h.first z found.member found.passes) (found.first x h.member h.passes))

  pub all_pass : (m : Map) → last_before p m ≡ None → AllByRecursion (λ (y : Pair). p (At y.key) ≡ true) m
  all_pass [] e = tt
  all_pass (x ∷ m) e = go (last_before p m) refl (p (At x.key)) refl e (all_pass m)
    where
      go : (o : Option Pair) → last_before p m ≡ o → (b : Bool) → p (At x.key) ≡ b → or_else o (cond b None (Some x)) ≡ None → (last_before p m ≡ None → AllByRecursion (λ (y : Pair). p (At y.key) ≡ true) m) → AllByRecursion (λ (y : Pair). p (At y.key) ≡ true) (x ∷ m)
      go None f true q e more = (q, more f)
      go None f false q e more = absurd cc
      go (Some z) f b q e more = absurd cc

  pub last-none : (m : Map) → last_before p m ≡ None → (y : Pair) → Contains m y → p (At y.key) ≡ true
  last-none m e y there = each_member _ m y (all_pass m e) there

  pub last-found : (m : Map) (x : Pair) → Ascends m → last_before p m ≡ Some x → IsLast p m x
  last-found [] x asc e = absurd cc
  last-found (z ∷ m) x asc e = go (last_before p m) refl (p (At z.key)) refl e (last-found m x asc.1)
    where
      go : (o : Option Pair) → last_before p m ≡ o → (b : Bool) → p (At z.key) ≡ b → or_else o (cond b None (Some z)) ≡ Some x → (last_before p m ≡ Some x → IsLast p m x) → IsLast p (z ∷ m) x
      go None f true q e more = absurd cc
      go None f false q e more =
          let is : z ≡ x = cc in
          subst (IsLast p (z ∷ m)) is (record {
            member = contains_head z m;
            fails = q;
            last = λ y there t. ⊎_elim (λ g. subst (λ (w : Pair). before (At z.key) (At w.key) ≡ false) g (before-itself (At z.key))) (λ d. absurd (both_ways _ t (last-none m f y d))) (contains_cases z y m there);
          })
      go (Some w) f b q e more =
          let rest = more (f ∙ e) in
          record {
            member = contains_tail z x m rest.member;
            fails = rest.fails;
            last = λ y there t. ⊎_elim (λ g. subst (λ (v : Pair). before (At x.key) (At v.key) ≡ false) g (before_not_after (At z.key) (At x.key) (each_member _ m x asc.0 rest.member))) (λ d. rest.last y d t) (contains_cases z y m there);
          }

  pub last-is : (m : Map) (x : Pair) → Ascends m → IsLast p m x → last_before p m ≡ Some x
  last-is m x asc h = go (last_before p m) refl
    where
      go : (o : Option Pair) → last_before p m ≡ o → last_before p m ≡ Some x
      go None e = absurd (both_ways _ h.fails (last-none m e x h.member))
      go (Some z) e = let found = last-found m z asc e in e ∙ ap Some (one_row m z x asc found.member h.member (found.last x h.member h.fails) (h.last z found.member found.fails))
