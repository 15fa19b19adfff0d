use Rattle.std.proofs.Common.{◌-◌, ◌≡◌, ℕ, arith, length, slice_index, subst, sym, ap, ◌∙◌}
use Rattle.page_mirror.specs.Steps.{HasOrigin}
use Rattle.page_mirror.specs.Mirror.{origin_of}
use Rattle.page_directory.proofs.OwnerLemmas.{origin_once}
use Rattle.page_list.proofs.AroundLemmas.{of_group, slots_within}
use Rattle.page_list.proofs.PreviousLemmas.{way_to_previous, leads_last, leads_over, leads_on}
use Rattle.page_list.proofs.leaving.find_previous.Goals as goal

pub overflow_sub-slot : goal.overflow_sub-slot
overflow_sub-slot c = let behind = (of_group c.requires.4 c.requires.5.can).behind in omega (arith, c.requires.5.slot_is)

pub slot_owner-before-requires : goal.slot_owner-before-requires
slot_owner-before-requires c =
    let r = c.requires in
    let behind = (of_group r.4 r.5.can).behind in
    (r.0, r.5.can.page.is, omega (arith, r.5.slot_is, slots_within r.4 r.5.can))

pub loop-init : goal.loop-init
loop-init c = λ m gs free b w r.
    let behind = (of_group w r.can).behind in
    let way = way_to_previous w r.can in
    let short = way.1.short in
    let at = c.slot_owner-before.ensures m r.can.page.is (omega (arith, r.slot_is, slots_within w r.can)) in
    let same : c.args.slot - 1 ≡ length w.early - 1 = ap (λ (x : ℕ). x - 1) r.slot_is in
    (way.0, slice_index m.slots (length w.early - 1), subst (λ (x : ℕ). HasOrigin c.args.page.now m (slice_index m.slots x) c.slot_owner-before.result) same at, way.1, omega arith)

pub next_of-next-requires : goal.next_of-next-requires
next_of-next-requires c =
    let r = c.requires in
    let w = c.loop.invariant r.0 r.1 r.2 r.3 r.4 r.5 in (r.0, w.1, w.2)

pub returns-then-next-at : goal.returns-then-next-at
returns-then-next-at c = λ m gs free b w r.
    let way = c.loop.invariant m gs free b w r in
    let next = c.next_of-next.ensures m way.1 way.2 in
    let same : c.next_of-next.result ≡ c.args.at = c.if-next-at.true in
    let is : m.next way.1 ≡ b.here = origin_once (subst (λ (x : ℕ). HasOrigin c.args.page.now m (m.next way.1) x) same next) r.can.here_at in
    subst (λ (k : ℕ). HasOrigin c.args.page.now m k c.loop.before) (sym (leads_last way.0 way.3 is)) way.2

pub loop-preserved : goal.loop-preserved
loop-preserved c = λ m gs free b w r.
    let way = c.loop.invariant m gs free b w r in
    let next = c.next_of-next.ensures m way.1 way.2 in
    let other : m.next way.1 ≡ b.here → ⊥ = λ e. c.if-next-at.false (sym next.placed ∙ ap (origin_of m) e ∙ r.can.here_at.placed) in
    let on = leads_on way.0 way.3 other in
    (on.0, m.next way.1, next, on.1, omega (arith, on.2, way.4))

pub returns : goal.returns
returns c = λ m gs free b w r.
    let way = c.loop.invariant m gs free b w r in
    subst (λ (k : ℕ). HasOrigin c.args.page.now m k c.loop.before) (sym (leads_over way.0 way.3 (omega (arith, way.4)))) way.2
