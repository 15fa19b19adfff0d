-- The groups and the list with one record more.
use Rattle.std.proofs.Common.{◌≡◌, ℕ, ◌+◌, ◌<◌, ◌≤◌, List, [], ◌∷◌, ◌++◌, length, nat_eq, count_by, refl, sym, ap, ◌∙◌, arith, length-append}
use Rattle.std.proofs.lemmas.List.{append_assoc}
use Rattle.std.proofs.lemmas.Grind.{flat_map-append}
use Rattle.std.specs.List.{AllByRecursion}
use Rattle.list_facts.proofs.Each.{each_left, each_right, each_append, each_both}
use Rattle.page_mirror.specs.Mirror.{Mirror, Mirrors, changed}
use Rattle.page_mirror.proofs.KeptLemmas.{changed-same, changed-other}
use Rattle.page_directory.specs.Groups.{Group, members, records, owners, AreLinked, IsOwned, IsRecordList}
use Rattle.page_directory.proofs.ListLemmas.{counted_apart, linked_right}
use Rattle.page_directory.proofs.GroupLemmas.{groups_kept, owners_append}
use Rattle.page_list.specs.Entering.{Gap, HasGap, GapGroup, groups_with, owned_with, linked_in, IsLinkedIn}
use Rattle.page_list.proofs.GroupOfLemmas.{group_of}
use Rattle.page_list.proofs.LinkLemmas.{linked_more, once_more}

-- the records of the groups, cut within one
pub records_cut : (es : List Group) (f1 f2 : List ℕ) (o : ℕ) (bs : List Group)
    → records (es ++ record { front = f1 ++ f2; owner = o } ∷ bs) ≡ (records es ++ f1) ++ (f2 ++ o ∷ records bs)
records_cut es f1 f2 o bs = flat_map-append members es (record { front = f1 ++ f2; owner = o } ∷ bs) ∙ simp append_assoc

-- the records in front of the gap, and those behind it, group by group
pub list_cut : (gs : List Group) (g : Gap) (w : GapGroup gs g) → records gs ≡ (records w.early ++ w.low) ++ (w.rest ++ w.owner ∷ records w.late)
list_cut gs g w = ap records w.groups ∙ records_cut w.early w.low w.rest w.owner w.late

pub list_with : (gs : List Group) (g : Gap) (w : GapGroup gs g) → records (groups_with gs g w) ≡ (g.low ++ g.p ∷ []) ++ g.new ∷ g.n ∷ g.high
list_with gs g w = records_cut w.early w.low (g.new ∷ w.rest) w.owner w.late ∙ rw (← w.first, ← w.second) refl

-- the group of the record behind a gap
pub group_at : {bytes : List ℕ} {m : Mirror} {gs : List Group} {free : List ℕ} {g : Gap} {before at : ℕ} → HasGap bytes m gs free g before at → GapGroup gs g
group_at {gs = gs} {g = g} h = group_of gs (g.low ++ g.p ∷ []) g.n g.high h.list

-- what is known where a record comes
pub record AtGap (m : Mirror) (g : Gap) : Type 0 where
  pub p_in : g.p < m.count
  pub n_in : g.n < m.count
  pub leads : m.next g.p ≡ g.n
  pub p_apart : g.p ≡ g.new → ⊥

pub at_gap : {bytes : List ℕ} {m : Mirror} {gs : List Group} {free : List ℕ} {g : Gap} {before at : ℕ} → HasGap bytes m gs free g before at → AtGap m g
at_gap {bytes} {m} {gs} {free} {g} h =
    let order = h.page.order in
    let z1 = g.low ++ g.p ∷ [] in
    let z2 = g.n ∷ g.high in
    let inside : AllByRecursion (λ k. k < m.count) (z1 ++ z2) = rw h.list at (each_left (λ k. k < m.count) (records gs) free order.inside) in
    let linked : AreLinked m.next (z1 ++ z2) = rw h.list at order.linked in
    let shape : z1 ++ z2 ≡ g.low ++ g.p ∷ z2 = append_assoc g.low (g.p ∷ []) z2 in
    let linked_p : AreLinked m.next (g.p ∷ z2) = linked_right m.next g.low (g.p ∷ z2) (rw shape at linked) in
    let apart : AllByRecursion (λ k. k ≡ g.new → ⊥) (z1 ++ z2) = rw h.list at (each_left (λ k. k ≡ g.new → ⊥) (records gs) free h.apart) in
    record {
      p_in = (each_right (λ k. k < m.count) g.low (g.p ∷ []) (each_left (λ k. k < m.count) z1 z2 inside)).0;
      n_in = (each_right (λ k. k < m.count) z1 z2 inside).0;
      leads = linked_p.0;
      p_apart = (each_right (λ k. k ≡ g.new → ⊥) g.low (g.p ∷ []) (each_left (λ k. k ≡ g.new → ⊥) z1 z2 apart)).0;
    }

-- the list with the record in it
pub order_with : {bytes : List ℕ} {m : Mirror} {gs : List Group} {free : List ℕ} {g : Gap} {before at : ℕ} (w : GapGroup gs g) (owned : ℕ → ℕ) (slots : List ℕ)
    → HasGap bytes m gs free g before at → IsRecordList (linked_in m g owned slots) (records (groups_with gs g w)) free
order_with {bytes} {m} {gs} {free} {g} w owned slots h =
    let order = h.page.order in
    let r = g.new in
    let z1 = g.low ++ g.p ∷ [] in
    let z2 = g.n ∷ g.high in
    let next' : ℕ → ℕ = changed (changed m.next r g.n) g.p r in
    let inside : AllByRecursion (λ k. k < m.count) ((z1 ++ z2) ++ free) = rw h.list at order.inside in
    let inside_z = each_left (λ k. k < m.count) (z1 ++ z2) free inside in
    let once : (k : ℕ) → count_by (λ i. nat_eq i k) ((z1 ++ z2) ++ free) ≤ 1 = rw h.list at order.once in
    let linked : AreLinked m.next (z1 ++ z2) = rw h.list at order.linked in
    let new : AllByRecursion (λ k. k ≡ r → ⊥) ((z1 ++ z2) ++ free) = rw h.list at h.apart in
    let new_z = each_left (λ k. k ≡ r → ⊥) (z1 ++ z2) free new in
    let new_z1 = each_left (λ k. k ≡ r → ⊥) z1 z2 new_z in
    let at_p : (z1 ++ z2) ++ free ≡ g.low ++ g.p ∷ (z2 ++ free) = simp append_assoc in
    let from_p = counted_apart g.p g.low (z2 ++ free) (rw (← at_p) (once g.p)) in
    let same : (zs : List ℕ) → AllByRecursion (λ k. k ≡ g.p → ⊥) zs → AllByRecursion (λ k. k ≡ r → ⊥) zs → AllByRecursion (λ k. next' k ≡ m.next k) zs =
    each_both (λ k. k ≡ g.p → ⊥) (λ k. k ≡ r → ⊥) (λ k. next' k ≡ m.next k)
    (λ k a b. changed-other (changed m.next r g.n) g.p r k a ∙ changed-other m.next r g.n k b) in
    let same_low = same g.low from_p.0 (each_left (λ k. k ≡ r → ⊥) g.low (g.p ∷ []) new_z1) in
    let same_high = same z2 (each_left (λ k. k ≡ g.p → ⊥) z2 free from_p.1) (each_right (λ k. k ≡ r → ⊥) z1 z2 new_z) in
    let p_apart = (each_right (λ k. k ≡ r → ⊥) g.low (g.p ∷ []) new_z1).0 in
    let within = h.new_at.within in
    let more : AllByRecursion (λ k. k < m.count) (z1 ++ r ∷ z2) = each_append (λ k. k < m.count) z1 (r ∷ z2) (each_left (λ k. k < m.count) z1 z2 inside_z) (within, each_right (λ k. k < m.count) z1 z2 inside_z) in
    let rows = order.rows in
    rw (list_with gs g w) (record {
      linked = linked_more m.next next' g.low g.p r g.n g.high same_low same_high (changed-same (changed m.next r g.n) g.p r)
          (changed-other (changed m.next r g.n) g.p r r (λ e. p_apart (sym e)) ∙ changed-same m.next r g.n) linked;
      once = once_more r z1 z2 free new once;
      inside = each_append (λ k. k < m.count) (z1 ++ r ∷ z2) free more (each_right (λ k. k < m.count) (z1 ++ z2) free inside);
      rows = omega (arith, ap length h.list, length-append z1 z2, length-append z1 (r ∷ z2));
    })

-- the groups with the record in one
pub groups_more : {bytes : List ℕ} {m : Mirror} {gs : List Group} {free : List ℕ} {g : Gap} {before at : ℕ} (w : GapGroup gs g)
    → HasGap bytes m gs free g before at → AllByRecursion (IsOwned (owned_with m gs g w)) (groups_with gs g w)
groups_more {bytes} {m} {gs} {free} {g} w h =
    let r = g.new in
    let o = w.owner in
    let es = w.early in
    let bs = w.late in
    let owned' = owned_with m gs g w in
    let old : Group = record { front = w.low ++ w.rest; owner = o } in
    let cut = list_cut gs g w in
    let once : (k : ℕ) → count_by (λ i. nat_eq i k) (((records es ++ w.low) ++ (w.rest ++ o ∷ records bs)) ++ free) ≤ 1 = rw cut at h.page.order.once in
    let at_o : ((records es ++ w.low) ++ (w.rest ++ o ∷ records bs)) ++ free ≡ ((records es ++ w.low) ++ w.rest) ++ o ∷ (records bs ++ free) = simp append_assoc in
    let from_o = counted_apart o ((records es ++ w.low) ++ w.rest) (records bs ++ free) (rw (← at_o) (once o)) in
    let not_o : ℕ → Type 0 = λ k. k ≡ o → ⊥ in
    let same : (zs : List ℕ) → AllByRecursion not_o zs → AllByRecursion (λ k. owned' k ≡ m.owned k) zs =
    λ zs a. each_both not_o not_o (λ k. owned' k ≡ m.owned k) (λ k x y. changed-other m.owned o (m.owned o + 1) k x) zs a a in
    let zeros : (zs : List ℕ) → AllByRecursion not_o zs → AllByRecursion (λ k. m.owned k ≡ 0) zs → AllByRecursion (λ k. owned' k ≡ 0) zs =
    each_both not_o (λ k. m.owned k ≡ 0) (λ k. owned' k ≡ 0) (λ k x z. changed-other m.owned o (m.owned o + 1) k x ∙ z) in
    let front_o = each_left not_o (records es ++ w.low) w.rest from_o.0 in
    let groups : AllByRecursion (IsOwned m.owned) (es ++ old ∷ bs) = rw w.groups at h.page.groups.owned in
    let rest = each_right (IsOwned m.owned) es (old ∷ bs) groups in
    let front = rest.0.front in
    let apart : AllByRecursion (λ k. k ≡ r → ⊥) (((records es ++ w.low) ++ (w.rest ++ o ∷ records bs)) ++ free) = rw cut at h.apart in
    let o_apart = (each_right (λ k. k ≡ r → ⊥) ((records es ++ w.low) ++ w.rest) (o ∷ (records bs ++ free)) (rw at_o at apart)).0 in
    let count = rest.0.owner in
    each_append (IsOwned owned') es (record { front = w.low ++ r ∷ w.rest; owner = o } ∷ bs)
    (groups_kept m.owned owned' es (same (records es) (each_left not_o (records es) w.low front_o)) (each_left (IsOwned m.owned) es (old ∷ bs) groups)) (
      record {
        owner = changed-same m.owned o (m.owned o + 1) ∙ omega (arith, length-append w.low w.rest, length-append w.low (r ∷ w.rest));
        front = each_append (λ k. owned' k ≡ 0) w.low (r ∷ w.rest)
            (zeros w.low (each_right not_o (records es) w.low front_o) (each_left (λ k. m.owned k ≡ 0) w.low w.rest front)) (
              changed-other m.owned o (m.owned o + 1) r (λ e. o_apart (sym e)) ∙ h.none,
              zeros w.rest (each_right not_o (records es ++ w.low) w.rest from_o.0) (each_right (λ k. m.owned k ≡ 0) w.low w.rest front),
            );
      },
      groups_kept m.owned owned' bs (same (records bs) (each_left not_o (records bs) free from_o.1)) rest.1,
    )

-- the page with the record linked in
pub links_in : {b0 b1 : List ℕ} {m : Mirror} {gs : List Group} {free : List ℕ} {g : Gap} {before at : ℕ} (w : GapGroup gs g)
    → HasGap b0 m gs free g before at → Mirrors b1 (linked_in m g (owned_with m gs g w) m.slots) → IsLinkedIn b1 m gs free g w
links_in {m = m} {gs = gs} {g = g} w h is = record {
  page = record {
    is = is;
    groups = record {
      slots = h.page.groups.slots ∙ ap owners w.groups
          ∙ owners_append w.early (record { front = w.low ++ w.rest; owner = w.owner } ∷ w.late)
          ∙ sym (owners_append w.early (record { front = w.low ++ g.new ∷ w.rest; owner = w.owner } ∷ w.late));
      owned = groups_more w h;
    };
    order = order_with w (owned_with m gs g w) m.slots h;
  };
  list = list_with gs g w;
}
