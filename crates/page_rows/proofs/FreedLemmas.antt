-- A loose record that comes to the free list's head.
use Rattle.std.proofs.Common.{◌≡◌, ℕ, ◌+◌, ◌<◌, ◌≤◌, true, false, List, [], ◌∷◌, ◌++◌, nat_eq, count_by, cond, refl, sym, ap, subst, ◌∙◌, arith, inl, inr}
use Rattle.std.proofs.lemmas.List.Sums.{sum_by-cons}
use Rattle.std.proofs.lemmas.Bool.{cases_eq}
use Rattle.std.proofs.lemmas.Bool.Decides.{nat_tests}
use Rattle.std.specs.List.{AllByRecursion}
use Rattle.list_facts.proofs.Each.{each_left, each_right, each_append, each_weaker}
use Rattle.page_mirror.specs.Mirror.{Mirrors, changed, origin_of}
use Rattle.page_mirror.specs.Steps.{HasOrigin}
use Rattle.page_mirror.proofs.KeptLemmas.{changed-same, changed-other, starts_above}
use Rattle.page_directory.specs.Groups.{records}
use Rattle.page_directory.specs.Owners.{first_else}
use Rattle.page_list.proofs.LinkLemmas.{linked_kept, apart_counted}
use Rattle.page_rows.specs.Spelling.{free_origin, size_of_record, StandsAsRow, PageParts, SpellsRows}
use Rattle.page_rows.specs.Deleting.{IsLoose, freed_parts, origin_after}
use Rattle.page_rows.proofs.SumLemmas.{sum_moved}
use Rattle.page_rows.proofs.TakenLemmas.{free_kept}

told_equal : (a b : ℕ) → a ≡ b → nat_eq a b ≡ true
told_equal a b e = grind (arith, nat_tests)

told_apart : (a b : ℕ) → (a ≡ b → ⊥) → nat_eq a b ≡ false
told_apart a b other = grind (arith, nat_tests)

-- where the freed record leads
pub freed_leads : {bytes : List ℕ} {fields : ℕ} {p : PageParts} {h at size : ℕ} → IsLoose bytes fields p h at size
    → HasOrigin bytes p.mirror (first_else p.free h) (origin_after p.mirror.free at)
freed_leads {bytes} {fields} {p} {h} {at} l = go p.free refl
  where
    go : (free : List ℕ) → p.free ≡ free → HasOrigin bytes p.mirror (first_else free h) (origin_after p.mirror.free at)
    go [] e = rw (told_equal p.mirror.free 0 (l.spells.free_from ∙ ap (free_origin p.mirror) e)) l.loose_at
    go (k ∷ ks) e =
        let m = p.mirror in
        let first : m.free ≡ origin_of m k = l.spells.free_from ∙ ap (free_origin m) e in
        let inside : AllByRecursion (λ k. k < m.count) (k ∷ ks) = subst (AllByRecursion (λ k. k < m.count)) e (each_right (λ k. k < m.count) (records p.groups) p.free l.spells.page.order.inside) in
        let low = starts_above l.spells.page.is.heap k inside.0 in
        rw (told_apart m.free 0 (λ z. omega (arith, first))) (record { is = l.spells.page.is; within = inside.0; placed = sym first })

-- a number that isn't there comes among others
once_added : (h : ℕ) (xs ys : List ℕ) → AllByRecursion (λ k. k ≡ h → ⊥) (xs ++ ys) → ((k : ℕ) → count_by (λ x. nat_eq x k) (xs ++ ys) ≤ 1)
    → (k : ℕ) → count_by (λ x. nat_eq x k) (xs ++ h ∷ ys) ≤ 1
once_added h xs ys apart once k =
    let f : ℕ → ℕ = λ x. cond (nat_eq x k) 1 0 in
    let moved = sum_moved f h xs ys in
    let old = once k in
    elim (cases_eq h k) [
      | inl is ↦
          let none : count_by (λ x. nat_eq x k) (xs ++ ys) ≡ 0 = apart_counted k (xs ++ ys) (subst (λ i. AllByRecursion (λ x. x ≡ i → ⊥) (xs ++ ys)) is apart) in
          let one : f h ≤ 1 = grind (arith, nat_tests) in
          omega arith
      | inr other ↦
          let none : f h ≡ 0 = grind (arith, nat_tests, other) in
          omega arith
    ]

-- as many bytes as are wasted then
pub wasted_few : {bytes : List ℕ} {fields : ℕ} {p : PageParts} {h at size : ℕ} → IsLoose bytes fields p h at size → p.mirror.garbage + size ≤ 16376
wasted_few {p = p} {h = h} l =
    let room = l.spells.page.is.room in
    omega (arith, l.spells.used, l.size_is, sum_by-cons (λ k. size_of_record (p.of k)) h p.inner)

pub freed_spells : {b0 b1 : List ℕ} {fields : ℕ} {p : PageParts} {h at size : ℕ} → IsLoose b0 fields p h at size → Mirrors b1 (freed_parts p h).mirror → SpellsRows b1 fields (freed_parts p h) []
freed_spells {b0} {b1} {fields} {p} {h} {at} l is =
    let m = p.mirror in
    let s = l.spells in
    let q = freed_parts p h in
    let list = records p.groups in
    let differ : ℕ → Type 0 = λ k. k ≡ h → ⊥ in
    let in_list = each_left differ list p.free l.apart in
    let in_free = each_right differ list p.free l.apart in
    let ends : AllByRecursion differ (0 ∷ (p.inner ++ 1 ∷ [])) = subst (AllByRecursion differ) s.list in_list in
    let one_apart = (each_right differ p.inner (1 ∷ []) ends.1).0 in
    let next' : ℕ → ℕ = changed m.next h (first_else p.free h) in
    let same = each_weaker differ (λ k. next' k ≡ m.next k) (λ k o. changed-other m.next h (first_else p.free h) k o) in
    let size_at : ℕ → ℕ = λ k. size_of_record (p.of k) in
    let freed = s.freed in
    let rows = s.rows in
    let counts : (k : ℕ) → count_by (λ x. nat_eq x k) (list ++ h ∷ p.free) ≡ count_by (λ x. nat_eq x k) (h ∷ (list ++ p.free)) =
    λ k. let f : ℕ → ℕ = λ x. cond (nat_eq x k) 1 0 in sum_moved f h list p.free ∙ sym (sum_by-cons f h (list ++ p.free)) in
    let moved : AllByRecursion (StandsAsRow fields m p.of) (p.inner ++ h ∷ p.free) =
    each_append (StandsAsRow fields m p.of) p.inner (h ∷ p.free) (each_left (StandsAsRow fields m p.of) p.inner p.free rows.1) (rows.0, each_right (StandsAsRow fields m p.of) p.inner p.free rows.1) in
    record {
      page = record {
        is = is;
        groups = record { slots = s.page.groups.slots; owned = s.page.groups.owned };
        order = record {
          linked = linked_kept m.next next' list (same list in_list) s.page.order.linked;
          once = once_added h list p.free l.apart s.page.order.once;
          inside = each_append (λ k. k < m.count) list (h ∷ p.free) (each_left (λ k. k < m.count) list p.free s.page.order.inside)
              (l.loose_at.within, each_right (λ k. k < m.count) list p.free s.page.order.inside);
          rows = s.page.order.rows;
        };
      };
      sizes = s.sizes;
      list = s.list;
      whole = λ k w. rw (counts k) (s.whole k w);
      last = changed-other m.next h (first_else p.free h) 1 one_apart ∙ s.last;
      rows = each_weaker (StandsAsRow fields m p.of) (StandsAsRow fields q.mirror p.of) (λ k r. record { cell = r.cell; sound = r.sound; count = r.count }) (p.inner ++ h ∷ p.free) moved;
      free_from = refl;
      free_on = (changed-same m.next h (first_else p.free h), free_kept m.next next' p.free (same p.free in_free) s.free_on);
      used = omega (arith, s.used, sum_by-cons size_at h p.inner);
      freed = omega (arith, sum_by-cons size_at h p.free);
    }
