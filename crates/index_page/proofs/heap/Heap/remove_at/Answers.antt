use Rattle.std.proofs.Common.{◌≡◌, ◌++◌, ◌∷◌, [], Some, get_or, set, sym, ap, ◌∙◌, List, ℕ, ◌<◌, length, subst, arith}
use Rattle.std.specs.List.{slice_get, remove}
use Rattle.index_page.specs.Rows.{Row}
use Rattle.index_page.specs.Slots.{no_content}
use Rattle.index_page.proofs.StoreLemmas.{live_at, live_below, released_store, released_rows, stored_differ}
use Rattle.index_page.proofs.RowLemmas.{get_below}
use Rattle.index_page.proofs.heap.Heap.remove_at.Goals as goal

pub blank-requires : goal.blank-requires
blank-requires c =
    let there = live_at c.self.inside.slots c.self.inside.places.live c.live.result.now c.args.self.now c.args.at c.self.view_is c.requires c.live.ensures in
    rw c.from.ensures (live_below c.self.inside.slots c.self.inside.places c.release.new.self c.args.at _ c.self.invariant there c.release.ensures.live)

-- the place that was read is that of the row
there : (c : goal.After-blank) → slice_get c.self.inside.places.live c.args.at ≡ Some (get_or c.live.result.now c.args.at 0)
there c = live_at c.self.inside.slots c.self.inside.places.live c.live.result.now c.args.self.now c.args.at c.self.view_is c.requires c.live.ensures

-- and nothing is stored there
emptied : (c : goal.After-blank) → c.blank.new.self ≡ set c.self.inside.slots (get_or c.live.result.now c.args.at 0) no_content
emptied c = c.blank.ensures ∙ ap (λ (n : ℕ). set c.self.inside.slots n no_content) c.from.ensures

pub invariant_of-self : goal.invariant_of-self
invariant_of-self c =
    let free = c.release.ensures.free ∙ ap (λ (l : List ℕ). c.self.inside.places.free ++ get_or l c.args.at 0 ∷ []) (sym c.live.ensures) in
    rw (emptied c) (released_store c.self.inside.slots c.self.inside.places c.release.new.self c.args.at _ c.self.invariant (there c) c.release.ensures.live no_content free)

pub returns-clause-rows : goal.returns-clause-rows
returns-clause-rows c =
    rw (emptied c) (released_rows c.self.inside.slots c.self.inside.places c.release.new.self c.args.at _ c.self.invariant (there c) c.release.ensures.live no_content
    ∙ ap (λ (rows : List Row). remove rows c.args.at) c.self.view_is)

pub returns-clause-differ : goal.returns-clause-differ
returns-clause-differ c = stored_differ _ c.release.new.self (invariant_of-self c)

pub release-requires : goal.release-requires
release-requires c =
    get_below c.self.inside.places.live c.args.at _ (live_at c.self.inside.slots c.self.inside.places.live c.live.result.now c.args.self.now c.args.at c.self.view_is c.requires c.live.ensures)

pub bounds-live-at : goal.bounds-live-at
bounds-live-at c =
    subst (λ (l : List ℕ). c.args.at < length l) (sym c.live.ensures) (get_below c.self.inside.places.live c.args.at _ (live_at c.self.inside.slots c.self.inside.places.live c.live.result.now c.args.self.now c.args.at c.self.view_is c.requires c.live.ensures))

pub offset_bounds-live-at : goal.offset_bounds-live-at
offset_bounds-live-at c =
    omega (arith, get_below c.self.inside.places.live c.args.at _ (live_at c.self.inside.slots c.self.inside.places.live c.live.result.now c.args.self.now c.args.at c.self.view_is c.requires c.live.ensures), ap length c.live.ensures, c.live.type_inv.1)
