use Rattle.std.proofs.Common.{◌≡◌, ◌+◌, ◌<◌, ◌≤◌, ℕ, subst, refl, arith}
use Rattle.page_mirror.specs.Mirror.{Mirrors, changed}
use Rattle.page_mirror.specs.Steps.{HasOrigin, led, owning}
use Rattle.page_mirror.proofs.HeadLemmas.{still}
use Rattle.page_list.specs.Entering.{linked_in, owned_with}
use Rattle.page_list.proofs.EnterLemmas.{at_gap, links_in}
use Rattle.page_list.proofs.entering.link_between.Goals as goal

more_small : (n owned : ℕ) → n ≡ owned → owned ≤ 8 → n + 1 < 16
more_small n owned is few = omega arith

more_fits : (n owned : ℕ) → n ≡ owned → owned ≤ 8 → n + 1 < 256
more_fits n owned is few = omega arith

rows_fit : (n rows : ℕ) → n ≡ rows → rows < 65535 → n + 1 < 65536
rows_fit n rows is few = omega arith

pub lead-requires-2 : goal.lead-requires-2
lead-requires-2 c =
    let m = c.requires.0 in
    let g = c.requires.3 in
    let h = c.requires.5.gap in
    let next = subst (λ (k : ℕ). HasOrigin c.args.page.now m k c.next_of-next.result) (at_gap h).leads (c.next_of-next.ensures m g.p h.before_at) in
    (led m g.new g.n, g.p, still {n = led m g.new g.n} h.before_at (c.lead.ensures m g.new g.n h.new_at next) refl refl)

pub own-requires-clause-there : goal.own-requires-clause-there
own-requires-clause-there c =
    let m = c.requires.0 in
    let g = c.requires.3 in
    let w = c.requires.4 in
    let h = c.requires.5.gap in
    let next = subst (λ (k : ℕ). HasOrigin c.args.page.now m k c.next_of-next.result) (at_gap h).leads (c.next_of-next.ensures m g.p h.before_at) in
    let m1 = led m g.new g.n in
    let first = c.lead.ensures m g.new g.n h.new_at next in
    let second = c.lead-2.ensures m1 g.p g.new (still {n = m1} h.before_at first refl refl) (still {n = m1} h.new_at first refl refl) in
    (led m1 g.p g.new, w.owner, still {n = led m1 g.p g.new} c.requires.5.owner_at second refl refl)

pub set_row_count-requires : goal.set_row_count-requires
set_row_count-requires c =
    let m = c.requires.0 in
    let g = c.requires.3 in
    let w = c.requires.4 in
    let h = c.requires.5.gap in
    let next = subst (λ (k : ℕ). HasOrigin c.args.page.now m k c.next_of-next.result) (at_gap h).leads (c.next_of-next.ensures m g.p h.before_at) in
    let m1 = led m g.new g.n in
    let first = c.lead.ensures m g.new g.n h.new_at next in
    let second = c.lead-2.ensures m1 g.p g.new (still {n = m1} h.before_at first refl refl) (still {n = m1} h.new_at first refl refl) in
    let m2 = led m1 g.p g.new in
    (owning m2 w.owner (c.owns-count.result + 1), c.own.ensures m2 w.owner (still {n = m2} c.requires.5.owner_at second refl refl))

pub returns : goal.returns
returns c = λ m gs free g w r.
    let h = r.gap in
    let next = subst (λ (k : ℕ). HasOrigin c.args.page.now m k c.next_of-next.result) (at_gap h).leads (c.next_of-next.ensures m g.p h.before_at) in
    let m1 = led m g.new g.n in
    let first = c.lead.ensures m g.new g.n h.new_at next in
    let second = c.lead-2.ensures m1 g.p g.new (still {n = m1} h.before_at first refl refl) (still {n = m1} h.new_at first refl refl) in
    let m2 = led m1 g.p g.new in
    let third = c.own.ensures m2 w.owner (still {n = m2} r.owner_at second refl refl) in
    let fourth = c.set_row_count.ensures (owning m2 w.owner (c.owns-count.result + 1)) third in
    let count = c.owns-count.ensures m w.owner r.owner_at in
    let rows = c.row_count-rows.ensures m h.page.is in
    links_in w h
    (subst (λ (k : ℕ). Mirrors c.set_row_count.new.page (record (linked_in m g (owned_with m gs g w) m.slots) { rows = k + 1 })) rows
    (subst (λ (k : ℕ). Mirrors c.set_row_count.new.page (record (linked_in m g (changed m.owned w.owner (k + 1)) m.slots) { rows = c.row_count-rows.result + 1 })) count fourth))

pub own-requires-clause-small : goal.own-requires-clause-small
own-requires-clause-small c =
    let m = c.requires.0 in
    let r = c.requires.5 in
    more_small c.owns-count.result (m.owned c.requires.4.owner) (c.owns-count.ensures m c.requires.4.owner r.owner_at) r.few

pub overflow_add-rows : goal.overflow_add-rows
overflow_add-rows c =
    let m = c.requires.0 in
    let h = c.requires.5.gap in
    record { fits = rows_fit c.row_count-rows.result m.rows (c.row_count-rows.ensures m h.page.is) h.few }

pub overflow_add-count : goal.overflow_add-count
overflow_add-count c =
    let m = c.requires.0 in
    let r = c.requires.5 in
    record { fits = more_fits c.owns-count.result (m.owned c.requires.4.owner) (c.owns-count.ensures m c.requires.4.owner r.owner_at) r.few }
