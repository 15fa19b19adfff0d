-- The page with one row more.
use Rattle.std.proofs.Common.{◌≡◌, ℕ, ◌≤◌, List, [], ◌∷◌, ◌++◌, nat_eq, count_by, sum_by, cond, sym, ap, subst, ◌∙◌, arith}
use Rattle.std.proofs.lemmas.List.{append_assoc}
use Rattle.std.proofs.lemmas.List.Sums.{sum_by-append, sum_by-cons}
use Rattle.std.specs.List.{AllByRecursion}
use Rattle.list_facts.proofs.Each.{each_left, each_right, each_append, each_both, each_weaker}
use Rattle.page_mirror.specs.Mirror.{changed}
use Rattle.page_mirror.proofs.KeptLemmas.{changed-other}
use Rattle.page_directory.specs.Groups.{Group, records, owners}
use Rattle.page_directory.proofs.ListLemmas.{counted_apart}
use Rattle.page_list.specs.Entering.{Gap, HasEntered, linked_in}
use Rattle.page_rows.specs.Spelling.{size_of_record, StandsAsRow, PageParts, SpellsRows}
use Rattle.page_rows.proofs.SpellingLemmas.{whole_list}
use Rattle.page_rows.proofs.SumLemmas.{sum_moved}
use Rattle.page_rows.proofs.TakenLemmas.{free_kept}

-- a gap of the list between infimum and supremum
pub record GapAt (low high : List ℕ) (g : Gap) : Type 0 where
  pub before : g.low ++ g.p ∷ [] ≡ 0 ∷ low
  pub behind : g.n ∷ g.high ≡ high ++ 1 ∷ []

-- the parts of the page with the record in its list
abbrev pub inserted_parts : PageParts → Gap → List ℕ → List ℕ → (ℕ → ℕ) → List Group → PageParts
inserted_parts q g low high owned hs = record {
  mirror = linked_in q.mirror g owned (owners hs);
  of = q.of;
  groups = hs;
  inner = low ++ g.new ∷ high;
  free = q.free;
}

-- one element more among those of which something holds
pub each_more : (P : ℕ → Type 0) (x : ℕ) (xs ys zs : List ℕ) → P x → AllByRecursion P ((xs ++ ys) ++ zs) → AllByRecursion P ((xs ++ x ∷ ys) ++ zs)
each_more P x xs ys zs here a =
    let both = each_left P (xs ++ ys) zs a in
    each_append P (xs ++ x ∷ ys) zs (each_append P xs (x ∷ ys) (each_left P xs ys both) (here, each_right P xs ys both)) (each_right P (xs ++ ys) zs a)

pub inserted_spells : {b0 b1 : List ℕ} {fields : ℕ} {q : PageParts} (g : Gap) (low high : List ℕ) (owned : ℕ → ℕ) (hs : List Group)
    → SpellsRows b0 fields q (g.new ∷ []) → q.inner ≡ low ++ high → AllByRecursion (λ k. k ≡ g.new → ⊥) (records q.groups ++ q.free) → GapAt low high g
    → HasEntered b1 q.mirror q.free g owned hs → SpellsRows b1 fields (inserted_parts q g low high owned hs) []
inserted_spells {b0} {b1} {fields} {q} g low high owned hs s inner apart gap e =
    let m = q.mirror in
    let h = g.new in
    let list : records hs ≡ 0 ∷ ((low ++ h ∷ high) ++ 1 ∷ []) =
    e.list ∙ ap (λ (xs : List ℕ). xs ++ h ∷ (g.n ∷ g.high)) gap.before ∙ ap (λ (xs : List ℕ). (0 ∷ low) ++ h ∷ xs) gap.behind ∙ simp append_assoc in
    let old : records q.groups ≡ (0 ∷ low) ++ (high ++ 1 ∷ []) = s.list ∙ ap (λ (xs : List ℕ). 0 ∷ (xs ++ 1 ∷ [])) inner ∙ simp append_assoc in
    let shape : records hs ≡ (0 ∷ low) ++ h ∷ (high ++ 1 ∷ []) = list ∙ simp append_assoc in
    let ends : AllByRecursion (λ k. k ≡ h → ⊥) (0 ∷ (q.inner ++ 1 ∷ [])) = subst (AllByRecursion (λ k. k ≡ h → ⊥)) s.list (each_left (λ k. k ≡ h → ⊥) (records q.groups) q.free apart) in
    let one_new = (each_right (λ k. k ≡ h → ⊥) q.inner (1 ∷ []) ends.1).0 in
    let free_new = each_right (λ k. k ≡ h → ⊥) (records q.groups) q.free apart in
    let whole = whole_list s in
    let front : AllByRecursion (λ k. k ≡ 1 → ⊥) (0 ∷ low) = (λ z. absurd (omega arith), each_left (λ k. k ≡ 1 → ⊥) low high (subst (AllByRecursion (λ k. k ≡ 1 → ⊥)) inner whole.high)) in
    let front_p : AllByRecursion (λ k. k ≡ 1 → ⊥) (g.low ++ g.p ∷ []) = subst (AllByRecursion (λ k. k ≡ 1 → ⊥)) (sym gap.before) front in
    let one_p : 1 ≡ g.p → ⊥ = λ z. (each_right (λ k. k ≡ 1 → ⊥) g.low (g.p ∷ []) front_p).0 (sym z) in
    let once : (k : ℕ) → count_by (λ x. nat_eq x k) ((g.low ++ g.p ∷ []) ++ ((high ++ 1 ∷ []) ++ q.free)) ≤ 1 =
    subst (λ (xs : List ℕ). (k : ℕ) → count_by (λ x. nat_eq x k) xs ≤ 1) (ap (λ (xs : List ℕ). xs ++ q.free) (old ∙ ap (λ (xs : List ℕ). xs ++ (high ++ 1 ∷ [])) (sym gap.before)) ∙ append_assoc (g.low ++ g.p ∷ []) (high ++ 1 ∷ []) q.free) s.page.order.once in
    let at_p : (g.low ++ g.p ∷ []) ++ ((high ++ 1 ∷ []) ++ q.free) ≡ g.low ++ g.p ∷ ((high ++ 1 ∷ []) ++ q.free) = append_assoc g.low (g.p ∷ []) ((high ++ 1 ∷ []) ++ q.free) in
    let from_p = counted_apart g.p g.low ((high ++ 1 ∷ []) ++ q.free) (subst (λ (xs : List ℕ). count_by (λ x. nat_eq x g.p) xs ≤ 1) at_p (once g.p)) in
    let free_p = each_right (λ k. k ≡ g.p → ⊥) (high ++ 1 ∷ []) q.free from_p.1 in
    let next' : ℕ → ℕ = changed (changed m.next h g.n) g.p h in
    let kept = each_both (λ k. k ≡ g.p → ⊥) (λ k. k ≡ h → ⊥) (λ k. next' k ≡ m.next k)
    (λ k a b. changed-other (changed m.next h g.n) g.p h k a ∙ changed-other m.next h g.n k b) in
    let size : ℕ → ℕ = λ k. size_of_record (q.of k) in
    let rows : AllByRecursion (StandsAsRow fields m q.of) (h ∷ ((low ++ high) ++ q.free)) = subst (λ (xs : List ℕ). AllByRecursion (StandsAsRow fields m q.of) (h ∷ (xs ++ q.free))) inner s.rows in
    let counts : (k : ℕ) → count_by (λ x. nat_eq x k) (records hs ++ q.free) ≡ count_by (λ x. nat_eq x k) (h ∷ (records q.groups ++ q.free)) =
    λ k. let f : ℕ → ℕ = λ x. cond (nat_eq x k) 1 0 in
    omega (
      arith,
      sum_by-append f (records hs) q.free,
      sum_by-append f (records q.groups) q.free,
      sum_by-cons f h (records q.groups ++ q.free),
      ap (sum_by f) shape,
      ap (sum_by f) old,
      sum_moved f h (0 ∷ low) (high ++ 1 ∷ []),
    ) in
    record {
      page = e.page;
      sizes = e.sizes;
      list = list;
      whole = λ k w. rw (counts k) (s.whole k w);
      last = changed-other (changed m.next h g.n) g.p h 1 one_p ∙ changed-other m.next h g.n 1 one_new ∙ s.last;
      rows = each_weaker (StandsAsRow fields m q.of) (StandsAsRow fields (linked_in m g owned (owners hs)) q.of)
          (λ k r. record { cell = r.cell; sound = r.sound; count = r.count }) ((low ++ h ∷ high) ++ q.free) (each_more (StandsAsRow fields m q.of) h low high q.free rows.0 rows.1);
      free_from = s.free_from;
      free_on = free_kept m.next next' q.free (kept q.free free_p free_new) s.free_on;
      used = omega (arith, s.used, sum_by-cons size h q.inner, ap (sum_by size) inner, sum_moved size h low high);
      freed = s.freed;
    }
