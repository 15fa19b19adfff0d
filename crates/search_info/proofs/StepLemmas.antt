-- A load and an exchange keep the rule.
use Rattle.std.proofs.Common.{◌≡◌, ◌≢◌, ◌⊎◌, ℕ, ◌+◌, ◌<◌, ◌≤◌, Bool, true, false, ◌&&◌, ◌==◌, cond, eqb, List, [], ◌∷◌, ◌++◌, length, get_or, set, count_by, sym, refl, ap, ◌∙◌, subst, inl, inr, ⊎_elim, arith, length-set, append-nil, eq-eqb, ne_eqb, zero-add, add-zero, Option, Some, None}
use Rattle.std.proofs.lemmas.Bool.Decides.{nat_tests}
use Rattle.std.proofs.lemmas.List.Sums.{sum_by-append}
use mathlib.Core.Logic.{dite}
use mathlib.Core.Option.{some, some-injective, some-ne-none}
use mathlib.Core.Option as maybe
use native.Mathlib.Decide.{ℕ_discrete}
use lib.ListN.{get_elem?}
use lib.Seq.{set-get_or}
use prog.Atomic.{either}
use Rattle.atomic_table.specs.Table.{State, Me, step, keeps, stepped, Allows}
use Rattle.atomic_table.proofs.Lists.{at_set, at_longer, at_last, at_snoc, set_here, set_else}
use Rattle.learning.specs.declared.event.Event.{Event}
use Rattle.learning.specs.declared.info.Info.{Info}
use Rattle.learning.specs.Bounds.{IsEventOf}
use Rattle.learning.specs.Learning.{learn}
use Rattle.learning.specs.Word.{word_of}
use Rattle.learning.proofs.LearningLemmas.{either_way}
use Rattle.search_info.specs.declared.knows.Entry.{Entry}
use Rattle.search_info.specs.declared.knows.Fate.{Fate}
use Rattle.search_info.specs.declared.knows.Fate.TheVariants.{Counted, Raced, Worn}
use Rattle.search_info.specs.declared.knows.Knows.{Knows}
use Rattle.search_info.specs.declared.knows.Opening.{Opening}
use Rattle.search_info.specs.declared.knows.Try.{Try}
use Rattle.search_info.specs.declared.law.Settings.{Settings}
use Rattle.search_info.specs.History.{Start, History, known_after, IsHistory}
use Rattle.search_info.specs.Rule.{KeptWords, FitsHistory, IsTrueTry, opening_of, is_counted, times_counted, times_made, counted_try}
use Rattle.search_info.specs.Steps.{KeepsNumbers, seeing, with_try, event_entry, counting, loading, loaded, Hits, Misses, exchanged}
use Rattle.list_facts.specs.Growing.{IsListed, grown}
use Rattle.list_facts.proofs.Growing.{extends_seen, beginnings_set, beginnings_grown, grown_here, grown_begins, listed_grown}
use Rattle.list_facts.proofs.Passes.{each_set, apart_kept}
use Rattle.list_facts.proofs.Places.{inside, there, reads, one_value, same_some}
use Rattle.search_info.proofs.HistoryLemmas.{known_snoc, beginning_info, same_word, grown_so, grown_history}

pub is_at : (n m : ℕ) → (n == m) ≡ true → n ≡ m
is_at n m e = grind (arith, nat_tests)

-- a list with one more at its end is counted
counted_snoc : {X : Type 0} (p : X → Bool) (xs : List X) (x : X) → count_by p (xs ++ x ∷ []) ≡ count_by p xs + cond (p x) 1 0
counted_snoc p xs x = sum_by-append (λ z. cond (p z) 1 0) xs (x ∷ []) ∙ ap (λ (k : ℕ). count_by p xs + k) (zero-add (cond (p x) 1 0))

tries_snoc : (i n : ℕ) (tries : List Try) (q : Try) → times_counted i n (tries ++ q ∷ []) ≡ times_counted i n tries + cond (is_counted q.fate && (q.index == i) && (q.by == n)) 1 0
tries_snoc i n tries q = counted_snoc (λ (z : Try). is_counted z.fate && (z.index == i) && (z.by == n)) tries q

made_snoc : (n : ℕ) (xs : List Entry) (e : Entry) → times_made n (xs ++ e ∷ []) ≡ times_made n xs + cond (e.by == n) 1 0
made_snoc n xs e = counted_snoc (λ (z : Entry). z.by == n) xs e

abbrev pub low_of : Knows → ℕ
low_of v = v.low

abbrev pub end_of : Knows → ℕ
end_of v = v.end

-- a step of one seat, whose numbers stay
rebuilt : (t : Settings) (s : State ℕ Knows) (r : KeptWords t s) (id : ℕ) (v v' : Knows) (lists' : History) (words' : List ℕ) (homes' : List (maybe.Option ℕ))
    → get_elem? s.views id ≡ some v → v.low < v.end → v'.opening ≡ v.opening → v'.low ≡ v.low → v'.end ≡ v.end
    → IsHistory (opening_of t) lists'
    → ((i : ℕ) (start : Start) (xs : List Entry) → get_elem? t.starts.items i ≡ some start → get_elem? lists' i ≡ some xs → get_elem? words' i ≡ some (word_of (known_after start xs)))
    → ((u : Knows) → FitsHistory r.lists u → u.opening ≡ opening_of t → (u.end ≤ v.low) ⊎ (v.end ≤ u.low) → FitsHistory lists' u)
    → FitsHistory lists' v' → KeptWords t record { words = words'; homes = homes'; views = set s.views id v' }
rebuilt t s r id v v' lists' words' homes' at live opening low end history words others fits = record {
  lists = lists';
  history = history;
  words = words;
  same = each_set low_of end_of (λ z. z.opening ≡ opening_of t) s.views id v' (λ j u _. r.same j u) (λ _. opening ∙ r.same id v at live);
  each = each_set low_of end_of (FitsHistory lists') s.views id v' (λ j u differ at_u live_u. others u (r.each j u at_u live_u) (r.same j u at_u live_u) (r.apart j id u v differ at_u at live_u live)) (λ _. fits);
  apart = apart_kept low_of end_of s.views r.apart id v at live v' low end;
}

seen_fits : (lists : History) (v : Knows) (i : ℕ) (xs : List Entry) → FitsHistory lists v → get_elem? lists i ≡ some xs → FitsHistory lists (seeing v i xs)
seen_fits lists v i xs f list = record {
  history = f.history;
  all = length-set v.seen i xs ∙ f.all;
  numbers = f.numbers;
  seen = beginnings_set v.seen lists i xs f.seen list;
  mine = f.mine;
  so = f.so;
  own = f.own;
  once = f.once;
}

-- a try that was not counted
try_fits : (lists : History) (v : Knows) (i : ℕ) (event : Event) (fate : Fate) → FitsHistory lists v → v.low < v.end → is_counted fate ≡ false
    → IsTrueTry v.opening.starts lists record { index = i; event = event; by = v.low; fate = fate } → FitsHistory lists (with_try v i event fate)
try_fits lists v i event fate f live isnt so = let q : Try = record { index = i; event = event; by = v.low; fate = fate } in record {
  history = f.history;
  all = f.all;
  numbers = f.numbers;
  seen = f.seen;
  mine = λ j x at. ⊎_elim (f.mine j x) (λ (h : q ≡ x). subst (λ (z : Try). (v.low ≤ z.by) × (z.by < v.end)) h (omega arith, live)) (at_snoc v.tries q x j at);
  so = λ j x at. ⊎_elim (f.so j x) (λ (h : q ≡ x). subst (IsTrueTry v.opening.starts lists) h so) (at_snoc v.tries q x j at);
  own = λ j n e entry lo hi. let h = f.own j n e entry lo hi in (h.0, at_longer v.tries (q ∷ []) h.0 _ h.1);
  once = λ j n xs list lo hi. tries_snoc j n v.tries q ∙ (ap (λ (b : Bool). times_counted j n v.tries + cond (b && (i == j) && (v.low == n)) 1 0) isnt ∙ (add-zero (times_counted j n v.tries) ∙ f.once j n xs list lo hi));
}

-- the pass whose event was counted
counting_fits : (lists : History) (v : Knows) (i : ℕ) (xs : List Entry) (event : Event) (list : get_elem? lists i ≡ some xs) → FitsHistory lists v → v.low < v.end
    → IsHistory v.opening (grown lists i xs (event_entry v event)) → FitsHistory (grown lists i xs (event_entry v event)) (counting v i xs event)
counting_fits lists v i xs event list f live history = let e : Entry = event_entry v event in let after : History = grown lists i xs e in let here = grown_here lists i xs e list in
    let q : Try = record { index = i; event = event; by = v.low; fate = Counted (length xs) } in record {
      history = history;
      all = length-set v.seen i (xs ++ e ∷ []) ∙ f.all;
      numbers = f.numbers;
      seen = beginnings_grown lists i xs e list v.seen f.seen;
      mine = λ j x at. ⊎_elim (f.mine j x) (λ (h : q ≡ x). subst (λ (z : Try). (v.low ≤ z.by) × (z.by < v.end)) h (omega arith, live)) (at_snoc v.tries q x j at);
      so = λ j x at. ⊎_elim (λ (old : get_elem? v.tries j ≡ some x). grown_so lists i xs e list v.opening.starts x (f.so j x old))
          (λ (h : q ≡ x). subst (IsTrueTry v.opening.starts after) h (xs ++ e ∷ [], here, at_last xs e (length xs) refl)) (at_snoc v.tries q x j at);
      own = λ j n x entry lo hi. ⊎_elim (λ (old : IsListed lists j n x). let h = f.own j n x old lo hi in (h.0, at_longer v.tries (q ∷ []) h.0 _ h.1))
          (λ (new : (j ≡ i) × (n ≡ length xs) × (e ≡ x)). (length v.tries, at_last v.tries q (length v.tries) refl ∙ (λ k. some (counted_try (sym new.0 k) (sym new.1 k) (new.2 k))))) (listed_grown lists i xs e list j n x entry);
      once = λ j n ys at lo hi. tries_snoc j n v.tries q ∙ ⊎_elim
          (λ (p : (j ≡ i) × (xs ++ e ∷ [] ≡ ys)). let was : times_counted j n v.tries ≡ times_made n xs = f.once j n xs (ap (get_elem? lists) p.0 ∙ list) lo hi in
          (λ k. was k + cond (eq-eqb i j (sym p.0) k && (v.low == n)) 1 0) ∙ (sym (made_snoc n xs e) ∙ ap (times_made n) p.1))
          (λ (p : (j ≢ i) × (get_elem? lists j ≡ some ys)). (λ k. times_counted j n v.tries + cond (ne_eqb i j (λ z. p.0 (sym z)) k && (v.low == n)) 1 0) ∙ (add-zero (times_counted j n v.tries) ∙ f.once j n ys p.1 lo hi))
          (at_set lists i j (xs ++ e ∷ []) ys at);
    }

-- any other pass
others_fit : (lists : History) (u : Knows) (i : ℕ) (xs : List Entry) (e : Entry) (list : get_elem? lists i ≡ some xs) → FitsHistory lists u → (u.end ≤ e.by) ⊎ (e.by < u.low)
    → IsHistory u.opening (grown lists i xs e) → FitsHistory (grown lists i xs e) u
others_fit lists u i xs e list f far history = let not_mine : (n : ℕ) → u.low ≤ n → n < u.end → e.by ≢ n = λ n lo hi is. ⊎_elim (λ (h : u.end ≤ e.by). omega arith) (λ (h : e.by < u.low). omega arith) far in record {
  history = history;
  all = f.all;
  numbers = f.numbers;
  seen = λ j ys at. grown_begins lists i xs e list j ys (f.seen j ys at);
  mine = f.mine;
  so = λ j q at. grown_so lists i xs e list u.opening.starts q (f.so j q at);
  own = λ j n x entry lo hi. ⊎_elim (λ (old : IsListed lists j n x). f.own j n x old lo hi) (λ (new : (j ≡ i) × (n ≡ length xs) × (e ≡ x)). absurd (not_mine x.by lo hi (ap (λ (z : Entry). z.by) new.2))) (listed_grown lists i xs e list j n x entry);
  once = λ j n ys at lo hi. ⊎_elim
      (λ (p : (j ≡ i) × (xs ++ e ∷ [] ≡ ys)). f.once j n xs (ap (get_elem? lists) p.0 ∙ list) lo hi ∙ (sym (add-zero (times_made n xs)) ∙ ((λ k. times_made n xs + cond (sym (ne_eqb e.by n (not_mine n lo hi)) k) 1 0) ∙ (sym (made_snoc n xs e) ∙ ap (times_made n) p.1))))
      (λ (p : (j ≢ i) × (get_elem? lists j ≡ some ys)). f.once j n ys p.1 lo hi) (at_set lists i j (xs ++ e ∷ []) ys at);
}

loading_same : (asked : Option Event) (v : Knows) (i : ℕ) (s : Start) (xs : List Entry) → let v' = loading asked v i s xs in (v'.opening ≡ v.opening) × (v'.low ≡ v.low) × (v'.end ≡ v.end)
loading_same None v i s xs = (refl, refl, refl)
loading_same (Some event) v i s xs = let P : Knows → Type 0 = λ z. (z.opening ≡ v.opening) × (z.low ≡ v.low) × (z.end ≡ v.end) in
    either_way P ((known_after s xs).events == 4294967295) _ _ (λ _. (refl, refl, refl)) (λ _. (refl, refl, refl))

pub loading_keeps : (asked : Option Event) (v : Knows) (i : ℕ) (s : Start) (xs : List Entry) (v' : Knows) → v' ≡ loading asked v i s xs → KeepsNumbers v v'
loading_keeps asked v i s xs v' told = let k = loading_same asked v i s xs in subst (KeepsNumbers v) (sym told) record { opening = k.0; low = k.1; end = k.2; lists = lists asked }
  where
    lists : (a : Option Event) → length (loading a v i s xs).seen ≡ length v.seen
    lists None = length-set v.seen i xs
    lists (Some event) = let P : Knows → Type 0 = λ z. length z.seen ≡ length v.seen in either_way P ((known_after s xs).events == 4294967295) _ _ (λ _. length-set v.seen i xs) (λ _. length-set v.seen i xs)

pub exchange_keeps : (v : Knows) (i : ℕ) (s : Start) (xs : List Entry) (event : Event) (old found : ℕ) (v' : Knows) → (found ≡ old → Hits v i xs event v') → (found ≢ old → Misses v i s xs event found v') → KeepsNumbers v v'
exchange_keeps v i s xs event old found v' hit miss = dite (ℕ_discrete found old)
    (λ is. let h = hit is in subst (KeepsNumbers v) (sym h.view) record { opening = refl; low = refl; end = refl; lists = length-set v.seen i (xs ++ event_entry v event ∷ []) })
    (λ isnt. let m = miss isnt in subst (KeepsNumbers v) (sym m.view) record { opening = refl; low = refl; end = refl; lists = refl })

module _ (t : Settings) where
  -- a step after which the lists are as they were
  unmoved : (s : State ℕ Knows) (r : KeptWords t s) (id : ℕ) (v v' : Knows) (words' : List ℕ) → get_elem? s.views id ≡ some v → v.low < v.end → v'.opening ≡ v.opening → v'.low ≡ v.low → v'.end ≡ v.end → words' ≡ s.words
      → FitsHistory r.lists v' → KeptWords t record { words = words'; homes = s.homes; views = set s.views id v' }
  unmoved s r id v v' words' at live opening low end words fits = rebuilt t s r id v v' r.lists words' s.homes at live opening low end r.history
      (λ i start xs at_start at_xs. ap (λ (l : List ℕ). get_elem? l i) words ∙ r.words i start xs at_start at_xs) (λ u f _ _. f) fits

  loading_fits : (lists : History) (asked : Option Event) (v : Knows) (i : ℕ) (s : Start) (xs : List Entry) → FitsHistory lists v → v.low < v.end → get_elem? v.opening.starts i ≡ some s → get_elem? lists i ≡ some xs → FitsHistory lists (loading asked v i s xs)
  loading_fits lists None v i s xs f live start list = seen_fits lists v i xs f list
  loading_fits lists (Some event) v i s xs f live start list = let seen = seen_fits lists v i xs f list in
      either_way (FitsHistory lists) ((known_after s xs).events == 4294967295) _ _
      (λ worn. try_fits lists (seeing v i xs) i event Worn seen live refl (known_after s xs, (s, xs, start, ([], list ∙ ap some (sym (append-nil xs))), refl), is_at (known_after s xs).events 4294967295 worn))
      (λ _. seen)

  pub loads : (asked : Option Event) (slots id : ℕ) (me : Me ℕ Knows) (i : ℕ) (start : Start) → me.0.low < me.0.end → get_elem? me.0.opening.starts i ≡ some start
      → Allows (KeptWords t) slots id me i (λ n. n) (loaded asked (step slots i 0 0 maybe.none) me)
  loads asked slots id me i start live is_start s r _ at _ = let v : Knows = me.0 in let f = r.each id v at live in let same = r.same id v at live in
      let xs = there r.lists i (let within = inside v.opening.starts i start is_start in omega (arith, f.history.all)) in
      let v' : Knows = loading asked v i start xs.0 in let fits = loading_fits r.lists asked v i start xs.0 f live is_start xs.1 in let keeps_all = loading_same asked v i start xs.0 in
      let at_start : get_elem? t.starts.items i ≡ some start = ap (λ (o : Opening). get_elem? o.starts i) (sym same) ∙ is_start in (
        v',
        keeps,
        tt,
        unmoved s r id v v' (set s.words i (get_or s.words i 0)) at live keeps_all.0 keeps_all.1 keeps_all.2 (set-get_or s.words i 0) fits,
        (
          record {
            start = start;
            is_start = is_start;
            list = xs.0;
            extends = extends_seen v.seen r.lists i xs.0 f.seen xs.1;
            word_is = reads s.words i (word_of (known_after start xs.0)) 0 (r.words i start xs.0 at_start xs.1);
            stands = record { lists = r.lists; fits = fits; list = xs.1 };
            view = refl;
          },
          refl,
        ),
      )

  -- what an exchange tells of the event, the start and the list that it is for
  abbrev Told : ℕ → ℕ → Me ℕ Knows → ℕ → Me ℕ Knows → Event × Start × List Entry → Type 0
  Told i old me found me' z = (found ≡ old → Hits me.0 i z.2 z.0 me'.0) × (found ≢ old → Misses me.0 i z.1 z.2 z.0 found me'.0) × (me'.1 ≡ me.1)

  told_so : (asked : Option Event) (slots id : ℕ) (me me' : Me ℕ Knows) (i old new found : ℕ) (event : Event) (start : Start) (xs : List Entry) → asked ≡ Some event → get_elem? me.0.opening.starts i ≡ some start → get_elem? me.0.seen i ≡ some xs
      → Told i old me found me' (event, start, xs) → exchanged asked (step slots i old new maybe.none) me found me'
  told_so asked slots id me me' i old new found event start xs is at_start at_seen told = λ event' start' xs' is' at_start' at_seen' _.
      subst (Told i old me found me') (λ k. (same_some event event' (sym is ∙ is') k, one_value me.0.opening.starts i start start' at_start at_start' k, one_value me.0.seen i xs xs' at_seen at_seen' k)) told

  pub exchanges : (asked : Option Event) (slots id : ℕ) (me : Me ℕ Knows) (i old new : ℕ) (event : Event) (start : Start) (xs : List Entry) → asked ≡ Some event → me.0.low < me.0.end → get_elem? me.0.opening.starts i ≡ some start → get_elem? me.0.seen i ≡ some xs
      → old ≡ word_of (known_after start xs) → new ≡ word_of (learn (known_after start xs) event) → IsEventOf start.1 event → (known_after start xs).events < 4294967295
      → Allows (KeptWords t) slots id me i (λ n. either (eqb n old) new n) (exchanged asked (step slots i old new maybe.none) me)
  exchanges asked slots id me i old new event start xs is live is_start is_seen old_is new_is fair room s r _ at _ =
      let v : Knows = me.0 in let f = r.each id v at live in let same = r.same id v at live in let more = f.seen i xs is_seen in let found : ℕ = get_or s.words i 0 in
      let at_start : get_elem? t.starts.items i ≡ some start = ap (λ (o : Opening). get_elem? o.starts i) (sym same) ∙ is_start in
      let found_at = r.words i start (xs ++ more.0) at_start more.1 in
      let found_is : found ≡ word_of (known_after start (xs ++ more.0)) = reads s.words i (word_of (known_after start (xs ++ more.0))) 0 found_at in
      let was = beginning_info v.opening r.lists i start xs f.history is_start more in dite (ℕ_discrete found old)
      (λ hit. let none : more.0 ≡ [] = same_word start xs more.0 was (f.history.infos i start (xs ++ more.0) is_start more.1) (sym found_is ∙ (hit ∙ old_is)) in
      let list : get_elem? r.lists i ≡ some xs = more.1 ∙ ap some (ap (λ (z : List Entry). xs ++ z) none ∙ append-nil xs) in
      let e : Entry = event_entry v event in let after : History = grown r.lists i xs e in let v' : Knows = counting v i xs event in
      let history : IsHistory v.opening after = grown_history r.lists i xs e list v.opening start f.history is_start (let most = f.numbers in omega arith) fair room in
      let fits = counting_fits r.lists v i xs event list f live history in
      let history' : IsHistory (opening_of t) after = subst (λ (o : Opening). IsHistory o after) same history in (
        v',
        keeps,
        tt,
        subst (λ b. KeptWords t (stepped s i (either b new found) id me.1 v' keeps)) (sym (eq-eqb found old hit))
            (rebuilt t s r id v v' after (set s.words i new) s.homes at live refl refl refl history'
            (λ j other ys at_other at_ys. ⊎_elim
            (λ (p : (j ≡ i) × (xs ++ e ∷ [] ≡ ys)). let one : start ≡ other = one_value t.starts.items i start other at_start (ap (get_elem? t.starts.items) (sym p.0) ∙ at_other) in
            ap (get_elem? (set s.words i new)) p.0 ∙ (set_here s.words i new (inside s.words i _ found_at) ∙ ap some (new_is ∙ (ap word_of (sym (known_snoc start xs e)) ∙ (λ k. word_of (known_after (one k) (p.1 k)))))))
            (λ (p : (j ≢ i) × (get_elem? r.lists j ≡ some ys)). set_else s.words i j new p.0 ∙ r.words j other ys at_other p.1) (at_set r.lists i j (xs ++ e ∷ []) ys at_ys))
            (λ u g is_same far. others_fit r.lists u i xs e list g (⊎_elim (λ (h : u.end ≤ v.low). inl h) (λ (h : v.end ≤ u.low). inr (omega arith)) far) (subst (λ (o : Opening). IsHistory o after) (sym is_same) history'))
            fits),
        told_so asked slots id me (v', me.1) i old new found event start xs is is_start is_seen
            (λ _. record { stands = record { lists = after; fits = fits; list = grown_here r.lists i xs e list }; view = refl }, λ miss. absurd (miss hit), refl),
      ))
      (λ miss. let read : Info = known_after start xs in let now : Info = known_after start (xs ++ more.0) in let v' : Knows = with_try v i event (Raced read now) in
      let fits = try_fits r.lists v i event (Raced read now) f live refl ((start, xs, is_start, more, refl), (start, xs ++ more.0, is_start, ([], more.1 ∙ ap some (sym (append-nil (xs ++ more.0)))), refl), (λ same_info. miss (found_is ∙ (ap word_of (sym same_info) ∙ sym old_is)))) in (
        v',
        keeps,
        tt,
        subst (λ b. KeptWords t (stepped s i (either b new found) id me.1 v' keeps)) (sym (ne_eqb found old miss)) (unmoved s r id v v' (set s.words i found) at live refl refl refl (set-get_or s.words i 0) fits),
        told_so asked slots id me (v', me.1) i old new found event start xs is is_start is_seen
            (λ hit. absurd (miss hit), λ _. record { more = more.0; word_is = found_is; stands = record { lists = r.lists; fits = fits; list = more.1 }; view = refl }, refl),
      ))
