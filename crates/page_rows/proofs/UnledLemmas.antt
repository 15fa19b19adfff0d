-- No other record leads to the free list's head, and no slot names it.
use Rattle.std.proofs.Common.{◌≡◌, ℕ, zero, suc, ◌<◌, ◌≤◌, List, [], ◌∷◌, ◌++◌, length, get_or, slice_index, nat_eq, count_by, refl, sym, subst, ◌∙◌, arith}
use Rattle.std.specs.List.{AllByRecursion}
use Rattle.list_facts.proofs.Each.{each_left, each_right, each_append, each_weaker}
use Rattle.page_mirror.specs.Mirror.{Mirror}
use Rattle.page_directory.specs.Groups.{Group, members, records, owners, AreLinked}
use Rattle.page_directory.proofs.ListLemmas.{counted_apart}
use Rattle.page_rows.specs.Spelling.{AreFree, PageParts, SpellsRows}
use Rattle.page_rows.proofs.SumLemmas.{counted_there}

-- in a list that avoids h, and whose last leads to another, none leads to h
list_avoids : (next : ℕ → ℕ) (h : ℕ) (xs : List ℕ) (e : ℕ) → AllByRecursion (λ k. k ≡ h → ⊥) (xs ++ e ∷ []) → AreLinked next (xs ++ e ∷ []) → (next e ≡ h → ⊥)
    → AllByRecursion (λ k. next k ≡ h → ⊥) (xs ++ e ∷ [])
list_avoids next h [] e apart linked last = (last, tt)
list_avoids next h (x ∷ []) e apart linked last = (λ q. apart.1.0 (sym linked.0 ∙ q), (last, tt))
list_avoids next h (x ∷ y ∷ xs) e apart linked last = (λ q. apart.1.0 (sym linked.0 ∙ q), list_avoids next h (y ∷ xs) e apart.1 linked.1 last)

free_avoids : (next : ℕ → ℕ) (h : ℕ) (ks : List ℕ) → AllByRecursion (λ k. k ≡ h → ⊥) ks → AreFree next ks → AllByRecursion (λ k. next k ≡ h → ⊥) ks
free_avoids next h [] apart a = tt
free_avoids next h (k ∷ []) apart a = (λ q. apart.0 (sym a.0 ∙ q), tt)
free_avoids next h (k ∷ j ∷ ks) apart a = (λ q. apart.1.0 (sym a.0 ∙ q), free_avoids next h (j ∷ ks) apart.1 a.1)

named_among : (P : ℕ → Type 0) (gs : List Group) (k : ℕ) → k < length (owners gs) → AllByRecursion P (records gs) → P (get_or (owners gs) k 0)
named_among P [] k w a = absurd (omega arith)
named_among P (g ∷ gs) zero w a = (each_right P g.front (g.owner ∷ []) (each_left P (members g) (records gs) a)).0
named_among P (g ∷ gs) (suc k) w a = named_among P gs k (omega arith) (each_right P (members g) (records gs) a)

-- the free list's head is beside all others
pub record FreeHead (m : Mirror) (gs : List Group) (h : ℕ) (rest : List ℕ) : Type 0 where
  pub apart : AllByRecursion (λ k. k ≡ h → ⊥) (records gs ++ rest)
  pub behind : 2 ≤ h
  pub within : h < m.count
  pub unled : (k : ℕ) → k < m.count → (k ≡ h → ⊥) → m.next k ≡ h → ⊥
  pub unnamed : (s : ℕ) → s < length m.slots → slice_index m.slots s ≡ h → ⊥

pub free_head : {bytes : List ℕ} {fields : ℕ} {p : PageParts} (h : ℕ) (rest : List ℕ) → SpellsRows bytes fields p [] → p.free ≡ h ∷ rest
    → FreeHead p.mirror p.groups h rest
free_head {bytes} {fields} {p} h rest s is =
    let m = p.mirror in
    let list = records p.groups in
    let once : (k : ℕ) → count_by (λ x. nat_eq x k) (list ++ h ∷ rest) ≤ 1 = rw is at s.page.order.once in
    let inside : AllByRecursion (λ k. k < m.count) (list ++ h ∷ rest) = rw is at s.page.order.inside in
    let from = counted_apart h list rest (once h) in
    let list_apart : AllByRecursion (λ k. k ≡ h → ⊥) ((0 ∷ p.inner) ++ 1 ∷ []) = subst (AllByRecursion (λ k. k ≡ h → ⊥)) s.list from.0 in
    let zero_apart = list_apart.0 in
    let one_apart = (each_right (λ k. k ≡ h → ⊥) (0 ∷ p.inner) (1 ∷ []) list_apart).0 in
    let linked : AreLinked m.next ((0 ∷ p.inner) ++ 1 ∷ []) = subst (AreLinked m.next) s.list s.page.order.linked in
    let in_list : AllByRecursion (λ k. m.next k ≡ h → ⊥) list =
    subst (AllByRecursion (λ k. m.next k ≡ h → ⊥)) (sym s.list) (list_avoids m.next h (0 ∷ p.inner) 1 list_apart linked (λ q. one_apart (sym s.last ∙ q))) in
    let free_on : AreFree m.next (h ∷ rest) = rw is at s.free_on in
    let in_rest = free_avoids m.next h rest from.1 free_on.1 in
    let weak = each_weaker (λ k. m.next k ≡ h → ⊥) (λ k. (k ≡ h → ⊥) → m.next k ≡ h → ⊥) (λ k f o. f) in
    let all : AllByRecursion (λ k. (k ≡ h → ⊥) → m.next k ≡ h → ⊥) (list ++ h ∷ rest) =
    each_append (λ k. (k ≡ h → ⊥) → m.next k ≡ h → ⊥) list (h ∷ rest) (weak list in_list) (λ o. absurd (o refl), weak rest in_rest) in
    let whole : (k : ℕ) → k < m.count → 1 ≤ count_by (λ x. nat_eq x k) (list ++ h ∷ rest) = rw is at s.whole in
    record {
      apart = each_append (λ k. k ≡ h → ⊥) list rest from.0 from.1;
      behind = omega (arith, zero_apart, one_apart);
      within = (each_right (λ k. k < m.count) list (h ∷ rest) inside).0;
      unled = λ k w. counted_there (λ k. (k ≡ h → ⊥) → m.next k ≡ h → ⊥) k (list ++ h ∷ rest) (whole k w) all;
      unnamed = λ i w. subst (λ (slots : List ℕ). slice_index slots i ≡ h → ⊥) (sym s.page.groups.slots)
          (named_among (λ k. k ≡ h → ⊥) p.groups i (rw s.page.groups.slots at w) from.0);
    }
