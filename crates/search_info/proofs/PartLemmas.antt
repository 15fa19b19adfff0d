-- A cut and a joining keep the rule.
use Rattle.std.proofs.Common.{◌≡◌, ◌≢◌, ◌⊎◌, ℕ, suc, ◌+◌, ◌<◌, ◌≤◌, Bool, true, false, ◌&&◌, ◌==◌, cond, nat_lt, List, [], ◌∷◌, ◌++◌, length, count_by, sym, refl, ap, ◌∙◌, subst, inl, inr, ⊎_elim, arith, lt_of_not-le, ltb-true, ltb-false, ne_eqb, zero-add}
use Rattle.std.proofs.lemmas.List.Sums.{sum_by-append}
use mathlib.Core.Logic.{dite}
use mathlib.Core.Option.{some}
use native.Mathlib.Decide.{dec_le}
use lib.ListN.{get_elem?}
use Rattle.atomic_table.specs.Table.{Splits, Joins}
use Rattle.atomic_table.proofs.Lists.{at_longer, set_else}
use Rattle.search_info.specs.declared.knows.Knows.{Knows}
use Rattle.search_info.specs.declared.knows.Opening.{Opening}
use Rattle.search_info.specs.declared.knows.Try.{Try}
use Rattle.search_info.specs.declared.law.Settings.{Settings}
use Rattle.search_info.specs.History.{History}
use Rattle.search_info.specs.Rule.{KeptWords, FitsHistory, IsTrueTry, opening_of, is_counted, times_counted}
use Rattle.search_info.specs.Parts.{maker, cut_at, lower_part, upper_part, joined_parts, no_part}
use Rattle.list_facts.specs.Parts.{made_below, made_from}
use Rattle.list_facts.proofs.Growing.{beginnings_longer}
use Rattle.list_facts.proofs.Parts.{middle_inside, length-longer, below_at, from_at, at_below, at_from}
use Rattle.list_facts.proofs.Passes.{each_split, each_join, apart_split, apart_join}
use Rattle.list_facts.proofs.Places.{at_more, at_further}
use Rattle.search_info.proofs.StepLemmas.{is_at, low_of, end_of}

and_last : (a b : Bool) → (a && b) ≡ true → b ≡ true
and_last true b e = e
and_last false b e = cc

and_false : (a : Bool) → (a && false) ≡ false
and_false true = refl
and_false false = refl

true-ne-false : true ≡ false → ⊥
true-ne-false e = cc

pub count_cons : {X : Type 0} (p : X → Bool) (x : X) (xs : List X) → count_by p (x ∷ xs) ≡ cond (p x) 1 0 + count_by p xs
count_cons p x xs = sum_by-append (λ z. cond (p z) 1 0) (x ∷ []) xs ∙ ap (λ (k : ℕ). k + count_by p xs) (zero-add (cond (p x) 1 0))

-- one more at the front of both, or one that isn't counted at the front of one
count_more : {X : Type 0} (p : X → Bool) (x : X) (ys xs : List X) → count_by p ys ≡ count_by p xs → count_by p (x ∷ ys) ≡ count_by p (x ∷ xs)
count_more p x ys xs rest = count_cons p x ys ∙ (ap (λ (k : ℕ). cond (p x) 1 0 + k) rest ∙ sym (count_cons p x xs))

count_less : {X : Type 0} (p : X → Bool) (x : X) (ys xs : List X) → (p x ≡ true → ⊥) → count_by p ys ≡ count_by p xs → count_by p ys ≡ count_by p (x ∷ xs)
count_less p x ys xs never rest = rest ∙ (sym (zero-add (count_by p xs)) ∙ ((λ k. cond (sym (isnt (p x) refl) k) 1 0 + count_by p xs) ∙ sym (count_cons p x xs)))
  where
    isnt : (b : Bool) → p x ≡ b → p x ≡ false
    isnt true it = absurd (never it)
    isnt false it = it

-- where all that are counted have numbers below n, or from n on, these keep their count
count_below : {X : Type 0} (p : X → Bool) (by : X → ℕ) (n : ℕ) → ((x : X) → p x ≡ true → by x < n) → (xs : List X) → count_by p (made_below by n xs) ≡ count_by p xs
count_below p by n all [] = refl
count_below p by n all (x ∷ xs) = pick (count_below p by n all xs) (nat_lt (by x) n) refl
  where
    pick : count_by p (made_below by n xs) ≡ count_by p xs → (b : Bool) → nat_lt (by x) n ≡ b → count_by p (cond b (x ∷ made_below by n xs) (made_below by n xs)) ≡ count_by p (x ∷ xs)
    pick rest true is = count_more p x (made_below by n xs) xs rest
    pick rest false is = count_less p x (made_below by n xs) xs (λ counted. let least = ltb-false (by x) n is in let most = all x counted in omega arith) rest

count_from : {X : Type 0} (p : X → Bool) (by : X → ℕ) (n : ℕ) → ((x : X) → p x ≡ true → n ≤ by x) → (xs : List X) → count_by p (made_from by n xs) ≡ count_by p xs
count_from p by n all [] = refl
count_from p by n all (x ∷ xs) = pick (count_from p by n all xs) (nat_lt (by x) n) refl
  where
    pick : count_by p (made_from by n xs) ≡ count_by p xs → (b : Bool) → nat_lt (by x) n ≡ b → count_by p (cond b (made_from by n xs) (x ∷ made_from by n xs)) ≡ count_by p (x ∷ xs)
    pick rest false is = count_more p x (made_from by n xs) xs rest
    pick rest true is = count_less p x (made_from by n xs) xs (λ counted. let most = ltb-true (by x) n is in let least = all x counted in omega arith) rest

-- where none is counted there are none
count_none : {X : Type 0} (p : X → Bool) (xs : List X) → ((j : ℕ) (x : X) → get_elem? xs j ≡ some x → p x ≡ false) → count_by p xs ≡ 0
count_none p [] none = refl
count_none p (x ∷ xs) none = count_cons p x xs ∙ ((λ k. cond (none 0 x refl k) 1 0 + count_by p xs) ∙ (zero-add (count_by p xs) ∙ count_none p xs (λ j y at. none (suc j) y at)))

count_append : {X : Type 0} (p : X → Bool) (xs ys : List X) → count_by p (xs ++ ys) ≡ count_by p xs + count_by p ys
count_append p xs ys = sum_by-append (λ z. cond (p z) 1 0) xs ys

-- a number that is none of a pass's isn't counted among its tries
not_counted : (lists : History) (v : Knows) (i n : ℕ) → FitsHistory lists v → (n < v.low) ⊎ (v.end ≤ n) → times_counted i n v.tries ≡ 0
not_counted lists v i n f out = count_none (λ (z : Try). is_counted z.fate && (z.index == i) && (z.by == n)) v.tries
    (λ j q at. let mine = f.mine j q at in let other : q.by ≢ n = λ is. ⊎_elim (λ (h : n < v.low). omega arith) (λ (h : v.end ≤ n). omega arith) out in
    ap (λ (b : Bool). (is_counted q.fate && (q.index == i)) && b) (ne_eqb q.by n other) ∙ and_false (is_counted q.fate && (q.index == i)))

left_fits : (lists : History) (v : Knows) → FitsHistory lists v → v.low + 2 ≤ v.end → FitsHistory lists (lower_part v)
left_fits lists v f two = let m = middle_inside v.low v.end two in let most : v.end ≤ v.opening.passes = f.numbers in record {
  history = f.history;
  all = f.all;
  numbers = omega (arith, m.1);
  seen = f.seen;
  mine = λ j q at. let h = below_at maker (cut_at v) v.tries j q at in ((f.mine h.1.0 q h.1.1).0, h.0);
  so = λ j q at. let h = below_at maker (cut_at v) v.tries j q at in f.so h.1.0 q h.1.1;
  own = λ i n e entry lo hi. let h = f.own i n e entry lo (omega (arith, m.1, hi)) in at_below maker (cut_at v) v.tries h.0 _ h.1 hi;
  once = λ i n xs list lo hi. count_below (λ (z : Try). is_counted z.fate && (z.index == i) && (z.by == n)) maker (cut_at v)
      (λ z p. let same : z.by ≡ n = is_at z.by n (and_last (is_counted z.fate && (z.index == i)) (z.by == n) p) in omega (arith, hi)) v.tries ∙ f.once i n xs list lo (omega (arith, m.1, hi));
}

right_fits : (lists : History) (v : Knows) → FitsHistory lists v → v.low + 2 ≤ v.end → FitsHistory lists (upper_part v)
right_fits lists v f two = let m = middle_inside v.low v.end two in record {
  history = f.history;
  all = f.all;
  numbers = f.numbers;
  seen = f.seen;
  mine = λ j q at. let h = from_at maker (cut_at v) v.tries j q at in (h.0, (f.mine h.1.0 q h.1.1).1);
  so = λ j q at. let h = from_at maker (cut_at v) v.tries j q at in f.so h.1.0 q h.1.1;
  own = λ i n e entry lo hi. let h = f.own i n e entry (omega (arith, m.0, lo)) hi in at_from maker (cut_at v) v.tries h.0 _ h.1 lo;
  once = λ i n xs list lo hi. count_from (λ (z : Try). is_counted z.fate && (z.index == i) && (z.by == n)) maker (cut_at v)
      (λ z p. let same : z.by ≡ n = is_at z.by n (and_last (is_counted z.fate && (z.index == i)) (z.by == n) p) in omega (arith, lo)) v.tries ∙ f.once i n xs list (omega (arith, m.0, lo)) hi;
}

both_fit : (lists : History) (v u : Knows) → FitsHistory lists v → FitsHistory lists u → v.opening ≡ u.opening → v.low < v.end → u.low < u.end → v.end ≡ u.low → FitsHistory lists (joined_parts v u)
both_fit lists v u f g same live_v live_u meet = record {
  history = f.history;
  all = length-longer v.seen u.seen (f.all ∙ (ap (λ (o : Opening). length o.starts) same ∙ sym g.all)) ∙ f.all;
  numbers = subst (λ (o : Opening). u.end ≤ o.passes) (sym same) g.numbers;
  seen = beginnings_longer v.seen u.seen lists f.seen g.seen;
  mine = λ j q e. ⊎_elim (λ (h : get_elem? v.tries j ≡ some q). let x = f.mine j q h in (x.0, omega arith)) (λ (h : (i : ℕ) × (get_elem? u.tries i ≡ some q)). let x = g.mine h.0 q h.1 in (omega arith, x.1)) (at_more v.tries u.tries j q e);
  so = λ j q e. ⊎_elim (f.so j q) (λ (h : (i : ℕ) × (get_elem? u.tries i ≡ some q)). subst (λ (o : Opening). IsTrueTry o.starts lists q) (sym same) (g.so h.0 q h.1)) (at_more v.tries u.tries j q e);
  own = λ i n e entry lo hi. dite (dec_le v.end e.by)
      (λ far. let h = g.own i n e entry (omega arith) hi in at_further v.tries u.tries h.0 _ h.1)
      (λ near. let h = f.own i n e entry lo (lt_of_not-le near) in (h.0, at_longer v.tries u.tries h.0 _ h.1));
  once = λ i n xs list lo hi. count_append (λ (z : Try). is_counted z.fate && (z.index == i) && (z.by == n)) v.tries u.tries ∙ dite (dec_le v.end n)
      (λ far. let none = not_counted lists v i n f (inr far) in let here = g.once i n xs list (omega arith) hi in omega arith)
      (λ near. let lt = lt_of_not-le near in let none = not_counted lists u i n g (inl (omega arith)) in let here = f.once i n xs list lo lt in omega arith);
}

module _ (t : Settings) where
  pub splits : (id : ℕ) (v : Knows) → v.low + 2 ≤ v.end → Splits (KeptWords t) id v (lower_part v) (upper_part v)
  splits id v two s r at = let m = middle_inside v.low v.end two in let live : v.low < v.end = omega (arith, m.0, m.1) in let f = r.each id v at live in
      let left : Knows = lower_part v in let right : Knows = upper_part v in let same = r.same id v at live in record {
        lists = r.lists;
        history = r.history;
        words = r.words;
        same = each_split low_of end_of (λ z. z.opening ≡ opening_of t) s.views id left right r.same same same;
        each = each_split low_of end_of (FitsHistory r.lists) s.views id left right r.each (left_fits r.lists v f two) (right_fits r.lists v f two);
        apart = apart_split low_of end_of s.views r.apart id v at live left right (cut_at v) m.0 m.1 (refl, refl) (refl, refl);
      }

  pub joins : (id : ℕ) (v : Knows) (other : ℕ) (u : Knows) → v.low < v.end → u.low < u.end → v.end ≡ u.low → Joins (KeptWords t) id v other u (joined_parts v u) no_part
  joins id v other u live_v live_u meet s r at differ there = let both : Knows = joined_parts v u in
      let at_u : get_elem? s.views other ≡ some u = sym (set_else s.views id other both differ) ∙ there in let f = r.each id v at live_v in let g = r.each other u at_u live_u in
      let same = r.same id v at live_v in let gone : 0 < 0 → ⊥ = λ h. omega arith in record {
        lists = r.lists;
        history = r.history;
        words = r.words;
        same = each_join low_of end_of (λ z. z.opening ≡ opening_of t) s.views id other both no_part gone r.same same;
        each = each_join low_of end_of (FitsHistory r.lists) s.views id other both no_part gone r.each (both_fit r.lists v u f g (same ∙ sym (r.same other u at_u live_u)) live_v live_u meet);
        apart = apart_join low_of end_of s.views r.apart id v at live_v other u both no_part at_u differ live_u meet (refl, refl) gone;
      }
