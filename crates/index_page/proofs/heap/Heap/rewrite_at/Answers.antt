use Rattle.std.proofs.Common.{◌≡◌, true, false, is_ok, sym, ap, ◌∙◌, ◌<◌, length, subst, List, ℕ, arith}
use Rattle.index_page.specs.Store.{HasValueAt}
use Rattle.index_page.proofs.StoreLemmas.{written_store, live_at}
use Rattle.index_page.proofs.CarriedLemmas.{CarriesFor, carries_for}
use Rattle.index_page.proofs.heap.Heap.rewrite_at.Goals.{After-from}
use Rattle.index_page.proofs.RowLemmas.{get_below}
use Rattle.index_page.proofs.heap.Heap.rewrite_at.Goals as goal

-- the record of the row in hand
in_hand : (c : After-from) (has : HasValueAt c.args.self.now c.args.at) → CarriesFor c.self.inside.slots c.self.inside.places.live c.args.self.now c.args.at c.from.result has.value
in_hand c = carries_for c.self.inside.slots c.self.inside.places c.live.result.now c.args.self.now c.args.at c.from.result c.self.invariant c.self.view_is c.live.ensures c.from.ensures

pub rewrite-requires : goal.rewrite-requires
rewrite-requires c =
    let row = in_hand c c.requires in
    record { key = row.key; value = c.requires.value; there = row.there }

pub invariant_of-self-2 : goal.invariant_of-self-2
invariant_of-self-2 c =
    let row = in_hand (goal.at.invariant_of-self-2 c).After-from c.requires in
    rw (c.in_ok-rewrite.ensures.ok (record { key = row.key; value = c.requires.value; there = row.there })) (written_store c.self.inside.slots c.self.inside.places c.from.result _ c.self.invariant)

pub returns-clause-ok : goal.returns-clause-ok
returns-clause-ok c =
    let row = in_hand (goal.at.returns-clause-ok c).After-from c.requires in
    rw (c.in_ok-rewrite.ensures.ok (record { key = row.key; value = c.requires.value; there = row.there })) (row.written c.args.bytes.now)

pub returns-in_err-rewrite-clause-in_place : goal.returns-in_err-rewrite-clause-in_place
returns-in_err-rewrite-clause-in_place c = λ has short.
    let row = in_hand (goal.at.returns-in_err-rewrite-clause-in_place c).After-from has in
    let ok = c.rewrite.ensures.in_place (record { key = row.key; value = has.value; there = row.there }) short in
    let never : true ≡ false = sym ok ∙ ap is_ok c.in_err-rewrite.was in
    absurd cc

pub bounds-live-at : goal.bounds-live-at
bounds-live-at c =
    let below = get_below c.args.self.now c.args.at c.requires.row c.requires.there in
    let there = live_at c.self.inside.slots c.self.inside.places.live c.live.result.now c.args.self.now c.args.at c.self.view_is below c.live.ensures in
    subst (λ (l : List ℕ). c.args.at < length l) (sym c.live.ensures) (get_below c.self.inside.places.live c.args.at _ there)

pub offset_bounds-live-at : goal.offset_bounds-live-at
offset_bounds-live-at c =
    omega (arith, get_below c.self.inside.places.live c.args.at _ (live_at c.self.inside.slots c.self.inside.places.live c.live.result.now c.args.self.now c.args.at c.self.view_is (get_below c.args.self.now c.args.at c.requires.row c.requires.there) c.live.ensures), ap length c.live.ensures, c.live.type_inv.1)

pub invariant_of-self : goal.invariant_of-self
invariant_of-self c = rw c.in_err-rewrite.ensures.err c.self.invariant
