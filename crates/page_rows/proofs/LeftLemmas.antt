-- A page whose list a record has left.
use Rattle.std.proofs.Common.{◌≡◌, ℕ, ◌≤◌, List, [], ◌∷◌, ◌++◌, nat_eq, count_by, sum_by, cond, sym, ap, subst, ◌∙◌, arith}
use Rattle.std.proofs.lemmas.List.{append_assoc}
use Rattle.std.proofs.lemmas.List.Sums.{sum_by-append, sum_by-cons}
use Rattle.std.specs.List.{AllByRecursion}
use Rattle.list_facts.proofs.Each.{each_left, each_right, each_append, each_weaker}
use Rattle.page_mirror.specs.Mirror.{changed}
use Rattle.page_mirror.proofs.KeptLemmas.{changed-other}
use Rattle.page_directory.specs.Groups.{Group, records, owners}
use Rattle.page_directory.proofs.ListLemmas.{counted_apart}
use Rattle.page_list.specs.Leaving.{Between, HasLeft, linked_out}
use Rattle.page_rows.specs.Spelling.{size_of_record, StandsAsRow, PageParts, SpellsRows}
use Rattle.page_rows.proofs.SpellingLemmas.{whole_list}
use Rattle.page_rows.proofs.SumLemmas.{sum_moved}
use Rattle.page_rows.proofs.TakenLemmas.{free_kept}

-- a record between infimum and supremum
pub record BetweenEnds (low high : List ℕ) (b : Between) : Type 0 where
  pub before : b.low ++ b.p ∷ [] ≡ 0 ∷ low
  pub behind : b.n ∷ b.high ≡ high ++ 1 ∷ []

-- the parts of the page without the record in its list
abbrev pub left_parts : PageParts → Between → List ℕ → List ℕ → (ℕ → ℕ) → List Group → PageParts
left_parts p b low high owned hs = record {
  mirror = linked_out p.mirror b owned (owners hs);
  of = p.of;
  groups = hs;
  inner = low ++ high;
  free = p.free;
}

pub list_between : {bytes : List ℕ} {fields : ℕ} {p : PageParts} (b : Between) (low high : List ℕ) → SpellsRows bytes fields p [] → p.inner ≡ low ++ b.here ∷ high → BetweenEnds low high b
    → records p.groups ≡ (b.low ++ b.p ∷ []) ++ b.here ∷ b.n ∷ b.high
list_between b low high s inner e =
    s.list ∙ ap (λ (xs : List ℕ). 0 ∷ (xs ++ 1 ∷ [])) inner ∙ append_assoc (0 ∷ low) (b.here ∷ high) (1 ∷ [])
    ∙ ap (λ (xs : List ℕ). xs ++ b.here ∷ (high ++ 1 ∷ [])) (sym e.before) ∙ ap (λ (xs : List ℕ). (b.low ++ b.p ∷ []) ++ b.here ∷ xs) (sym e.behind)

pub left_spells : {b0 b1 : List ℕ} {fields : ℕ} {p : PageParts} (b : Between) (low high : List ℕ) (owned : ℕ → ℕ) (hs : List Group)
    → SpellsRows b0 fields p [] → p.inner ≡ low ++ b.here ∷ high → BetweenEnds low high b → HasLeft b1 p.mirror p.groups p.free b owned hs
    → SpellsRows b1 fields (left_parts p b low high owned hs) (b.here ∷ [])
left_spells {b0} {b1} {fields} {p} b low high owned hs s inner ends e =
    let m = p.mirror in
    let h = b.here in
    let q = left_parts p b low high owned hs in
    let list : records hs ≡ 0 ∷ ((low ++ high) ++ 1 ∷ []) =
    e.list ∙ ap (λ (xs : List ℕ). xs ++ b.n ∷ b.high) ends.before ∙ ap (λ (xs : List ℕ). (0 ∷ low) ++ xs) ends.behind ∙ sym (append_assoc (0 ∷ low) high (1 ∷ [])) in
    let old : records p.groups ≡ (0 ∷ low) ++ h ∷ (high ++ 1 ∷ []) = s.list ∙ ap (λ (xs : List ℕ). 0 ∷ (xs ++ 1 ∷ [])) inner ∙ append_assoc (0 ∷ low) (h ∷ high) (1 ∷ []) in
    let shape : records hs ≡ (0 ∷ low) ++ (high ++ 1 ∷ []) = list ∙ append_assoc (0 ∷ low) high (1 ∷ []) in
    let whole = whole_list s in
    let one : ℕ → Type 0 = λ k. k ≡ 1 → ⊥ in
    let front : AllByRecursion one (0 ∷ low) = (λ z. absurd (omega arith), each_left one low (h ∷ high) (subst (AllByRecursion one) inner whole.high)) in
    let front_p : AllByRecursion one (b.low ++ b.p ∷ []) = subst (AllByRecursion one) (sym ends.before) front in
    let one_p : 1 ≡ b.p → ⊥ = λ z. (each_right one b.low (b.p ∷ []) front_p).0 (sym z) in
    let at_p : (0 ∷ low) ++ (h ∷ (high ++ 1 ∷ []) ++ p.free) ≡ b.low ++ b.p ∷ (h ∷ (high ++ 1 ∷ []) ++ p.free) =
    ap (λ (xs : List ℕ). xs ++ (h ∷ (high ++ 1 ∷ []) ++ p.free)) (sym ends.before) ∙ append_assoc b.low (b.p ∷ []) (h ∷ (high ++ 1 ∷ []) ++ p.free) in
    let all : records p.groups ++ p.free ≡ b.low ++ b.p ∷ (h ∷ (high ++ 1 ∷ []) ++ p.free) =
    ap (λ (xs : List ℕ). xs ++ p.free) old ∙ append_assoc (0 ∷ low) (h ∷ (high ++ 1 ∷ [])) p.free ∙ at_p in
    let differ : ℕ → Type 0 = λ k. k ≡ b.p → ⊥ in
    let from_p = counted_apart b.p b.low (h ∷ (high ++ 1 ∷ []) ++ p.free) (subst (λ (xs : List ℕ). count_by (λ x. nat_eq x b.p) xs ≤ 1) all (s.page.order.once b.p)) in
    let free_p = each_right differ (high ++ 1 ∷ []) p.free from_p.1.1 in
    let next' : ℕ → ℕ = changed m.next b.p b.n in
    let size : ℕ → ℕ = λ k. size_of_record (p.of k) in
    let stands : ℕ → Type 0 = StandsAsRow fields m p.of in
    let rows : AllByRecursion stands ((low ++ h ∷ high) ++ p.free) = subst (λ (xs : List ℕ). AllByRecursion stands (xs ++ p.free)) inner s.rows in
    let in_list = each_left stands (low ++ h ∷ high) p.free rows in
    let from_h = each_right stands low (h ∷ high) in_list in
    let moved : AllByRecursion stands (h ∷ ((low ++ high) ++ p.free)) =
    (from_h.0, each_append stands (low ++ high) p.free (each_append stands low high (each_left stands low (h ∷ high) in_list) from_h.1) (each_right stands (low ++ h ∷ high) p.free rows)) in
    let counts : (k : ℕ) → count_by (λ x. nat_eq x k) (h ∷ (records hs ++ p.free)) ≡ count_by (λ x. nat_eq x k) (records p.groups ++ p.free) =
    λ k. let f : ℕ → ℕ = λ x. cond (nat_eq x k) 1 0 in
    omega (
      arith,
      sum_by-append f (records hs) p.free,
      sum_by-append f (records p.groups) p.free,
      sum_by-cons f h (records hs ++ p.free),
      ap (sum_by f) shape,
      ap (sum_by f) old,
      sum_moved f h (0 ∷ low) (high ++ 1 ∷ []),
    ) in
    record {
      page = e.page;
      sizes = e.sizes;
      list = list;
      whole = λ k w. rw (counts k) (s.whole k w);
      last = changed-other m.next b.p b.n 1 one_p ∙ s.last;
      rows = each_weaker stands (StandsAsRow fields q.mirror p.of) (λ k r. record { cell = r.cell; sound = r.sound; count = r.count }) (h ∷ ((low ++ high) ++ p.free)) moved;
      free_from = s.free_from;
      free_on = free_kept m.next next' p.free (each_weaker differ (λ k. next' k ≡ m.next k) (λ k o. changed-other m.next b.p b.n k o) p.free free_p) s.free_on;
      used = omega (arith, s.used, sum_by-cons size h (low ++ high), ap (sum_by size) inner, sum_moved size h low high);
      freed = s.freed;
    }
