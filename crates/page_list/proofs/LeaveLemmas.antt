-- A record that has left the list.
use Rattle.std.proofs.Common.{◌≡◌, ℕ, ◌+◌, ◌<◌, ◌≤◌, cond, ◌&&◌, List, [], ◌∷◌, ◌++◌, length, nat_eq, true, false, refl, sym, ap, subst, ◌∙◌, arith, length-append, inl, inr}
use Rattle.std.proofs.lemmas.List.{append_assoc}
use Rattle.std.proofs.lemmas.Bool.Decides.{nat_tests}
use Rattle.std.specs.List.{AllByRecursion}
use Rattle.list_facts.proofs.Each.{each_left, each_right, each_append, each_weaker}
use Rattle.page_mirror.specs.Mirror.{Mirror, Mirrors, changed, origin_of}
use Rattle.page_mirror.specs.Steps.{HasOrigin}
use Rattle.page_mirror.proofs.KeptLemmas.{changed-same, changed-other}
use Rattle.page_directory.specs.Groups.{Group, records, owners, AreLinked}
use Rattle.page_directory.specs.Sizes.{group_sizes}
use Rattle.page_directory.specs.Owners.{IsRecordOf}
use Rattle.page_directory.specs.Calls.{Regroups}
use Rattle.page_directory.proofs.ListLemmas.{linked_right}
use Rattle.page_directory.proofs.GroupLemmas.{groups_kept}
use Rattle.page_directory.proofs.OwnerLemmas.{count_sizes, slots_counted, origin_once, sizes_append}
use Rattle.page_list.specs.Leaving.{Between, CanLeave, GroupAround, linked_out, groups_around, IsLinkedOut, LeavesList, heir_of, sizes_mended, begins_with_few, slots_gone}
use Rattle.page_list.proofs.AroundLemmas.{group_rest, of_group, apart_from, remains}
use Rattle.page_list.proofs.MendLemmas.{mended_count}
use Rattle.page_list.proofs.GoneLemmas.{gone_left}

-- what is known where a record leaves
pub record AtBetween (m : Mirror) (b : Between) : Type 0 where
  pub p_in : b.p < m.count
  pub n_in : b.n < m.count
  pub leads : m.next b.here ≡ b.n
  pub some : 1 ≤ m.rows

pub at_between : {bytes : List ℕ} {m : Mirror} {gs : List Group} {free : List ℕ} {b : Between} {at : ℕ} → CanLeave bytes m gs free b at → AtBetween m b
at_between {bytes} {m} {gs} {free} {b} c =
    let order = c.page.order in
    let z1 = b.low ++ b.p ∷ [] in
    let z2 = b.here ∷ b.n ∷ b.high in
    let inside : AllByRecursion (λ k. k < m.count) (z1 ++ z2) = rw c.list at (each_left (λ k. k < m.count) (records gs) free order.inside) in
    let linked : AreLinked m.next (z1 ++ z2) = rw c.list at order.linked in
    record {
      p_in = (each_right (λ k. k < m.count) b.low (b.p ∷ []) (each_left (λ k. k < m.count) z1 z2 inside)).0;
      n_in = (each_right (λ k. k < m.count) z1 z2 inside).1.0;
      leads = (linked_right m.next z1 z2 linked).0;
      some = omega (arith, order.rows, ap length c.list, length-append z1 z2, length-append b.low (b.p ∷ []));
    }

-- the record stands in that slot
pub record_here : {bytes : List ℕ} {m : Mirror} {gs : List Group} {free : List ℕ} {b : Between} {at : ℕ} (w : GroupAround gs b) → CanLeave bytes m gs free b at
    → IsRecordOf bytes m gs free (length w.early) b.here at
record_here {gs = gs} {b = b} w c =
    let r = group_rest gs b w in
    let few = (of_group w c).few in
    record {
      page = c.page;
      slot = record {
        early = w.early;
        group = record { front = w.low ++ w.rest; owner = w.owner };
        late = w.late;
        low = w.low;
        high = r.behind;
        groups = w.groups;
        slot = refl;
        record_is = append_assoc w.low w.rest (w.owner ∷ []) ∙ ap (λ (xs : List ℕ). w.low ++ xs) r.rest_is;
        few = omega arith;
      };
      record_at = c.here_at;
    }

told_equal : (a b : ℕ) → a ≡ b → nat_eq a b ≡ true
told_equal a b e = grind (arith, nat_tests)

told_apart : (a b : ℕ) → (a ≡ b → ⊥) → nat_eq a b ≡ false
told_apart a b other = grind (arith, nat_tests)

-- where the heir stands
pub heir_at : {bytes : List ℕ} {m : Mirror} {gs : List Group} {free : List ℕ} {b : Between} {at before owner : ℕ} (w : GroupAround gs b) (c : CanLeave bytes m gs free b at)
    → HasOrigin bytes m b.p before → HasOrigin bytes m w.owner owner → HasOrigin bytes m (remains w (group_rest gs b w) c).heir (heir_of before at owner)
heir_at {bytes} {m} {gs} {free} {b} {at} {before} {owner} w c p_at o_at =
    let t = remains w (group_rest gs b w) c in
    elim t.choice [
      | inl a ↦
          let same : owner ≡ at = sym o_at.placed ∙ ap (origin_of m) a.0 ∙ c.here_at.placed in
          rw (told_equal owner at same, a.1) p_at
      | inr d ↦
          let differ : owner ≡ at → ⊥ = λ e. d.0 (origin_once (subst (λ (x : ℕ). HasOrigin bytes m w.owner x) e o_at) c.here_at) in
          rw (told_apart owner at differ, d.1) o_at
    ]

-- the list without the record, which owns none then
pub leaves : {b0 b1 b2 b3 : List ℕ} {m : Mirror} {gs : List Group} {free : List ℕ} {b : Between} {at : ℕ} (slot : ℕ) (w : GroupAround gs b) → CanLeave b0 m gs free b at → slot ≡ length w.early
    → (l : IsLinkedOut b1 m gs free b w)
    → (r : Regroups b2 (linked_out m b l.owned (owners (groups_around gs b w l.group))) (groups_around gs b w l.group) free (sizes_mended slot (group_sizes (groups_around gs b w l.group))))
    → Mirrors b3 (linked_out m b (changed r.0 b.here 0) (owners r.1)) → LeavesList b3 m gs free b
leaves {b3 = b3} {m = m} {gs = gs} {free = free} {b = b} slot w c slot_is l r is =
    let hs = groups_around gs b w l.group in
    let old : Group = record { front = w.low ++ w.rest; owner = w.owner } in
    let owned' : ℕ → ℕ = changed r.0 b.here 0 in
    let list : records r.1 ≡ (b.low ++ b.p ∷ []) ++ b.n ∷ b.high = r.2.same ∙ l.list in
    let differ : ℕ → Type 0 = λ k. k ≡ b.here → ⊥ in
    let a = apart_from c in
    let others : AllByRecursion differ (records r.1) = subst (AllByRecursion differ) (sym list) (each_append differ (b.low ++ b.p ∷ []) (b.n ∷ b.high) a.before a.after) in
    let same = each_weaker differ (λ k. owned' k ≡ r.0 k) (λ k o. changed-other r.0 b.here 0 k o) (records r.1) others in
    let order = r.2.page.order in
    let n = length l.group.front + 1 in
    let mended : group_sizes hs ≡ group_sizes w.early ++ n ∷ group_sizes w.late = sizes_append w.early (l.group ∷ w.late) in
    let count : length r.1 ≡ length (sizes_mended slot (group_sizes hs)) = sym (count_sizes r.1) ∙ ap length r.2.sizes in
    let groups : length (group_sizes hs) ≡ length m.slots =
    count_sizes hs ∙ length-append w.early (l.group ∷ w.late) ∙ sym (length-append w.early (old ∷ w.late)) ∙ ap length (sym w.groups) ∙ sym (slots_counted c.page.groups) in
    let left : length (sizes_mended slot (group_sizes hs)) + cond (nat_eq (n + 1) 4 && begins_with_few (group_sizes w.late)) 1 0 ≡ length (group_sizes hs) =
    rw mended (mended_count (group_sizes w.early) n (group_sizes w.late) slot (count_sizes w.early ∙ sym slot_is)) in
    let gone : slots_gone gs b ≡ cond (nat_eq (n + 1) 4 && begins_with_few (group_sizes w.late)) 1 0 =
    gone_left gs b w n (sym l.short) in (
      owned',
      r.1,
      record {
        page = record {
          is = is;
          groups = record { slots = refl; owned = groups_kept r.0 owned' r.1 same r.2.page.groups.owned };
          order = record { linked = order.linked; once = order.once; inside = order.inside; rows = order.rows };
        };
        sizes = rw r.2.sizes r.2.sized;
        list = list;
        none = changed-same r.0 b.here 0;
        slots = omega (arith, count, left, gone, groups);
      },
    )
