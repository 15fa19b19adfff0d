use Rattle.std.proofs.Common.{arith, ◌≡◌, ◌<◌, ◌∙◌, sym, slice_index, ℕ, subst}
use Rattle.page_mirror.specs.Steps.{HasOrigin}
use Rattle.page_directory.proofs.OwnerLemmas.{slots_counted, slot_once}
use Rattle.page_directory.proofs.owners.find_slot.Goals as goal

pub returns-then-slot_owner-owner : goal.returns-then-slot_owner-owner
returns-then-slot_owner-owner c = λ m gs free s r.
    let low = c.loop-slot.invariant m gs free s r in
    let size = slots_counted r.page.groups in
    let within = r.within in
    let same : c.slot_owner.result ≡ c.args.owner = omega arith in
    let here : HasOrigin c.args.page.now m (slice_index m.slots c.loop-slot.slot) c.slot_owner.result =
    c.slot_owner.ensures m r.page.is (omega arith) in
    slot_once c.loop-slot.slot s r.page (subst (λ (x : ℕ). HasOrigin c.args.page.now m (slice_index m.slots c.loop-slot.slot) x) same here) r.owner (omega arith) within

pub loop-slot-preserved : goal.loop-slot-preserved
loop-slot-preserved c = λ m gs free s r.
    let low = c.loop-slot.invariant m gs free s r in
    let size = slots_counted r.page.groups in
    let within = r.within in
    let here : HasOrigin c.args.page.now m (slice_index m.slots c.loop-slot.slot) c.slot_owner.result =
    c.slot_owner.ensures m r.page.is (omega arith) in
    let differ : c.loop-slot.slot ≡ s → ⊥ = λ e.
    let there : HasOrigin c.args.page.now m (slice_index m.slots s) c.slot_owner.result =
    subst (λ (x : ℕ). HasOrigin c.args.page.now m (slice_index m.slots x) c.slot_owner.result) e here in
    c.if-slot_owner-owner.false (sym there.placed ∙ r.owner.placed) in
    omega (arith, low, differ)

pub returns : goal.returns
returns c = λ m gs free s r.
    let low = c.loop-slot.invariant m gs free s r in
    let size = slots_counted r.page.groups in
    let within = r.within in
    let count = c.slot_count-count.ensures m r.page.is in
    absurd (omega arith)

pub slot_owner-requires : goal.slot_owner-requires
slot_owner-requires c =
    let r = c.requires in
    let count = c.slot_count-count.ensures r.0 r.4.page.is in
    (r.0, r.4.page.is, subst (λ (n : ℕ). c.loop-slot.slot < n) count c.loop-slot-test.true)

pub loop-slot-init : goal.loop-slot-init
loop-slot-init c = λ m gs free s r. omega arith
