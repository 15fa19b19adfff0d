-- What an index knows from its list, and what one event more changes.
use Rattle.std.proofs.Common.{◌≡◌, ◌≢◌, ℕ, suc, ◌+◌, ◌<◌, ◌≤◌, List, [], ◌∷◌, ◌++◌, map, length, sym, refl, ap, ◌∙◌, subst, ⊎_elim, arith, length-set, length-append}
use lib.ListN.{get_elem?, length-map}
use mathlib.Core.Option.{some}
use Rattle.atomic_table.proofs.Lists.{at_set, at_longer}
use Rattle.key_tuple.specs.declared.TheConstants.{MAX_FIELDS}
use Rattle.learning.specs.declared.info.Info.{Info}
use Rattle.learning.specs.Bounds.{IsInfoOf, IsEventOf}
use Rattle.learning.specs.Learning.{learn, info_after}
use Rattle.learning.specs.Word.{word_of}
use Rattle.learning.proofs.LearningLemmas.{events_learn, events_after, learn_bounded}
use Rattle.learning.proofs.WordLemmas.{fields_told}
use Rattle.search_info.specs.declared.knows.Entry.{Entry}
use Rattle.search_info.specs.declared.knows.Fate.{Fate}
use Rattle.search_info.specs.declared.knows.Fate.TheVariants.{Counted, Raced, Worn}
use Rattle.search_info.specs.declared.knows.Opening.{Opening}
use Rattle.search_info.specs.declared.knows.Try.{Try}
use Rattle.search_info.specs.History.{Start, History, known_after, WasKnown, IsHistory}
use Rattle.search_info.specs.Rule.{IsTrueWithFate, IsTrueTry}
use Rattle.list_facts.specs.Growing.{IsListed, IsBeginning, grown}
use Rattle.list_facts.proofs.Growing.{grown_begins, grown_listed, listed_grown}
use Rattle.list_facts.proofs.Places.{one_value, empty_list}

after_snoc : (info : Info) (xs : List Entry) (e : Entry) → info_after info (map (λ (z : Entry). z.event) (xs ++ e ∷ [])) ≡ learn (info_after info (map (λ (z : Entry). z.event) xs)) e.event
after_snoc info [] e = refl
after_snoc info (x ∷ xs) e = after_snoc (learn info x.event) xs e

-- one event more is learnt
pub known_snoc : (s : Start) (xs : List Entry) (e : Entry) → known_after s (xs ++ e ∷ []) ≡ learn (known_after s xs) e.event
known_snoc s xs e = after_snoc s.0 xs e

pub known_events : (s : Start) (xs : List Entry) → (known_after s xs).events ≡ s.0.events + length xs
known_events s xs = events_after s.0 (map (λ (z : Entry). z.event) xs) ∙ ap (λ (n : ℕ). s.0.events + n) (length-map xs (λ (z : Entry). z.event))

bounded_after : (unique : ℕ) (info : Info) (xs : List Entry) → 1 ≤ unique → unique ≤ MAX_FIELDS → IsInfoOf unique info → ((n : ℕ) (e : Entry) → get_elem? xs n ≡ some e → IsEventOf unique e.event) → info.events + length xs < 4294967296
    → IsInfoOf unique (info_after info (map (λ (z : Entry). z.event) xs))
bounded_after unique info [] one few i events room = i
bounded_after unique info (x ∷ xs) one few i events room = let up = events_learn info x.event in
    bounded_after unique (learn info x.event) xs one few (learn_bounded unique info x.event one few i (events 0 x refl) (omega arith)) (λ n e at. events (suc n) e at) (omega arith)

-- what an index knew after a beginning of its list
pub beginning_info : (o : Opening) (lists : History) (i : ℕ) (s : Start) (xs : List Entry) → IsHistory o lists → get_elem? o.starts i ≡ some s → IsBeginning lists i xs → IsInfoOf s.1 (known_after s xs)
beginning_info o lists i s xs h at begins = let start = h.starts i s at in let all = known_events s (xs ++ begins.0) in let fits = (h.infos i s (xs ++ begins.0) at begins.1).fits.events in
    bounded_after s.1 s.0 xs start.some start.few start.info (λ n e here. h.events i n e s (xs ++ begins.0, begins.1, at_longer xs begins.0 n e here) at) (omega (arith, length-append xs begins.0))

-- a longer list has another word
pub same_word : (s : Start) (xs ys : List Entry) → IsInfoOf s.1 (known_after s xs) → IsInfoOf s.1 (known_after s (xs ++ ys)) → word_of (known_after s (xs ++ ys)) ≡ word_of (known_after s xs) → ys ≡ []
same_word s xs ys i j e = let told = (fields_told (known_after s (xs ++ ys)) (known_after s xs) j.fits i.fits e).events in let a = known_events s xs in let b = known_events s (xs ++ ys) in
    empty_list ys (omega (arith, length-append xs ys))

module _ (lists : History) (i : ℕ) (xs : List Entry) (e : Entry) (list : get_elem? lists i ≡ some xs) where
  pub grown_known : (starts : List Start) (j : ℕ) (info : Info) → WasKnown starts lists j info → WasKnown starts (grown lists i xs e) j info
  grown_known starts j info w = (w.0, w.1, w.2, grown_begins lists i xs e list j w.1 w.3, w.4)

  pub grown_so : (starts : List Start) (q : Try) → IsTrueTry starts lists q → IsTrueTry starts (grown lists i xs e) q
  grown_so starts q so = by_fate q.fate so
    where
      by_fate : (f : Fate) → IsTrueWithFate starts lists q f → IsTrueWithFate starts (grown lists i xs e) q f
      by_fate (Counted place) h = grown_listed lists i xs e list q.index place _ h
      by_fate (Raced read found) h = (grown_known starts q.index read h.0, grown_known starts q.index found h.1, h.2)
      by_fate Worn h = (h.0, grown_known starts q.index h.0 h.1, h.2)

  pub grown_history : (o : Opening) (s : Start) → IsHistory o lists → get_elem? o.starts i ≡ some s → e.by < o.passes → IsEventOf s.1 e.event → (known_after s xs).events < 4294967295 → IsHistory o (grown lists i xs e)
  grown_history o s h at by event room = let start = h.starts i s at in record {
    all = length-set lists i (xs ++ e ∷ []) ∙ h.all;
    starts = h.starts;
    makers = λ j n q entry. ⊎_elim (h.makers j n q) (λ (new : (j ≡ i) × (n ≡ length xs) × (e ≡ q)). subst (λ (z : Entry). z.by < o.passes) new.2 by) (listed_grown lists i xs e list j n q entry);
    events = λ j n q z entry at_z. ⊎_elim (λ (old : IsListed lists j n q). h.events j n q z old at_z)
        (λ (new : (j ≡ i) × (n ≡ length xs) × (e ≡ q)). let same : s ≡ z = one_value o.starts i s z at (ap (get_elem? o.starts) (sym new.0) ∙ at_z) in
        subst (λ (y : Start × Entry). IsEventOf y.0.1 y.1.event) (λ k. (same k, new.2 k)) event) (listed_grown lists i xs e list j n q entry);
    infos = λ j z ys at_z at_ys. ⊎_elim
        (λ (p : (j ≡ i) × (xs ++ e ∷ [] ≡ ys)). let same : s ≡ z = one_value o.starts i s z at (ap (get_elem? o.starts) (sym p.0) ∙ at_z) in
        subst (λ (y : Start × List Entry). IsInfoOf y.0.1 (known_after y.0 y.1)) (λ k. (same k, p.1 k))
        (subst (IsInfoOf s.1) (sym (known_snoc s xs e)) (learn_bounded s.1 (known_after s xs) e.event start.some start.few (h.infos i s xs at list) event room)))
        (λ (p : (j ≢ i) × (get_elem? lists j ≡ some ys)). h.infos j z ys at_z p.1) (at_set lists i j (xs ++ e ∷ []) ys at_ys);
  }
