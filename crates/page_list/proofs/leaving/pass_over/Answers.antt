use Rattle.std.proofs.Common.{◌-◌, ◌<◌, ℕ, List, length, set, subst, sym, refl, arith}
use Rattle.page_mirror.specs.Mirror.{Mirror, Mirrors, changed}
use Rattle.page_mirror.specs.Steps.{HasOrigin, led, owning, naming}
use Rattle.page_mirror.proofs.HeadLemmas.{still}
use Rattle.page_directory.specs.Groups.{Group}
use Rattle.page_list.specs.Leaving.{Between, GroupAround, IsPassedOver, linked_out}
use Rattle.page_list.proofs.AroundLemmas.{group_rest, of_group, slots_within, remains}
use Rattle.page_list.proofs.PassLemmas.{passes_over}
use Rattle.page_list.proofs.LeaveLemmas.{at_between, heir_at}
use Rattle.page_list.proofs.leaving.pass_over.Goals as goal
use Rattle.page_list.proofs.leaving.pass_over.Goals.{After-lead, After-own}

pub next_of-next-requires : goal.next_of-next-requires
next_of-next-requires c = let r = c.requires in (r.0, r.3.here, r.5.around.can.here_at)

pub owns-count-requires : goal.owns-count-requires
owns-count-requires c = let r = c.requires in (r.0, r.4.owner, r.5.owner_at)

pub row_count-rows-requires : goal.row_count-rows-requires
row_count-rows-requires c = let r = c.requires in (r.0, r.5.around.can.page.is)

pub lead-requires : goal.lead-requires
lead-requires c = let r = c.requires in (r.0, r.3.p, r.5.before_at)

pub overflow_sub-count : goal.overflow_sub-count
overflow_sub-count c =
    let r = c.requires in
    let g = of_group r.4 r.5.around.can in
    let two = g.two in
    omega (arith, g.owns, c.owns-count.ensures r.0 r.4.owner r.5.owner_at)

-- once the record before leads to the one behind, this is the heir's origin
led_on : (c : After-lead) {m : Mirror} {gs : List Group} {free : List ℕ} {b : Between}
    {w : GroupAround gs b}
    (r : IsPassedOver c.args.page.now m gs free b w c.args.before c.args.at c.args.owner
    c.args.slot)
    → HasOrigin c.lead.new.page (led m b.p b.n) (remains w (group_rest gs b w) r.around.can).heir
    c.heir-heir.result
led_on c {m} {gs} {b = b} {w} r = let can = r.around.can in
    let next = subst (λ (k : ℕ). HasOrigin c.args.page.now m k c.next_of-next.result)
    (at_between can).leads (c.next_of-next.ensures m b.here can.here_at) in
    let heir = subst (λ (x : ℕ). HasOrigin c.args.page.now m
    (remains w (group_rest gs b w) can).heir x) (sym c.heir-heir.ensures)
    (heir_at w can r.before_at r.owner_at) in
    still {n = led m b.p b.n} heir (c.lead.ensures m b.p b.n r.before_at next) refl refl

-- so it is once the heir owns the group
owned_on : (c : After-own) {m : Mirror} {h : ℕ}
    → HasOrigin c.lead.new.page m h c.heir-heir.result
    → HasOrigin c.own.new.page (owning m h (c.owns-count.result - 1)) h c.heir-heir.result
owned_on c {m} {h} heir = still {n = owning m h (c.owns-count.result - 1)} heir
    (c.own.ensures m h heir) refl refl

pub own-requires-clause-there : goal.own-requires-clause-there
own-requires-clause-there c = let r = c.requires in
    let heir = led_on (goal.at.own-requires-clause-there c).After-lead r.5 in
    (led r.0 r.3.p r.3.n, (remains r.4 (group_rest r.1 r.3 r.4) r.5.around.can).heir, heir)

pub own-requires-clause-small : goal.own-requires-clause-small
own-requires-clause-small c =
    let r = c.requires in
    let g = of_group r.4 r.5.around.can in
    let few = g.few in
    omega (arith, g.owns, c.owns-count.ensures r.0 r.4.owner r.5.owner_at)

pub name_slot-requires : goal.name_slot-requires
name_slot-requires c = let at = goal.at.name_slot-requires c in let r = c.requires.5 in
    let heir = owned_on at.After-own (led_on at.After-lead r) in
    (_, heir.is, omega (arith, r.around.slot_is, slots_within c.requires.4 r.around.can))

pub overflow_sub-rows : goal.overflow_sub-rows
overflow_sub-rows c =
    let r = c.requires in
    let some = (at_between r.5.around.can).some in
    omega (arith, c.row_count-rows.ensures r.0 r.5.around.can.page.is)

pub set_row_count-requires : goal.set_row_count-requires
set_row_count-requires c = let at = goal.at.set_row_count-requires c in let r = c.requires.5 in
    let heir = owned_on at.After-own (led_on at.After-lead r) in
    let within : c.args.slot < length c.requires.0.slots =
    omega (arith, r.around.slot_is, slots_within c.requires.4 r.around.can) in
    (_, c.name_slot.ensures _ _ within heir)

pub returns : goal.returns
returns c m gs free b w r = let at = goal.at.returns c in
    let can = r.around.can in
    let h = (remains w (group_rest gs b w) can).heir in
    let count = c.owns-count.result in
    let within : c.args.slot < length m.slots =
    omega (arith, r.around.slot_is, slots_within w can) in
    let named = c.name_slot.ensures (owning (led m b.p b.n) h (count - 1)) h within
    (owned_on at.After-own (led_on at.After-lead r)) in
    let without = λ (slot rows : ℕ). Mirrors c.set_row_count.new.page
    (record (linked_out m b (changed m.owned h (count - 1)) (set m.slots slot h)) {
      rows = rows - 1;
    }) in
    passes_over w can count (sym (c.owns-count.ensures m w.owner r.owner_at))
    (subst (λ (slot : ℕ). without slot m.rows) r.around.slot_is
    (subst (without c.args.slot) (c.row_count-rows.ensures m can.page.is)
    (c.set_row_count.ensures (naming (owning (led m b.p b.n) h (count - 1))
    (set m.slots c.args.slot h)) named)))
