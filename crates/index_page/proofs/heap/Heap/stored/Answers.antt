use Rattle.std.proofs.Common.{◌<◌, ℕ, Some, [], get_or, length, sym, ap, ◌∙◌, List, subst, arith}
use Rattle.std.specs.List.{slice_get}
use Rattle.index_page.specs.Rows.{Row, Bytes, placed_row}
use Rattle.index_page.specs.Store.{Content, stored_row}
use Rattle.list_facts.proofs.Each.{each_left, each_get}
use Rattle.list_facts.proofs.Elements.{map_get}
use Rattle.index_page.proofs.StoreLemmas.{live_at, read_at}
use Rattle.index_page.proofs.RowLemmas.{get_below}
use Rattle.index_page.proofs.heap.Heap.stored.Goals as goal

pub get-requires : goal.get-requires
get-requires c =
    let there = live_at c.self.inside.slots c.self.inside.places.live c.live.result.now c.args.self.now c.args.i c.self.view_is c.requires c.live.ensures in
    let live = each_left (λ (y : ℕ). y < length c.self.inside.slots) c.self.inside.places.live c.self.inside.places.free c.self.invariant.slotted in
    rw c.from.ensures (each_get (λ (y : ℕ). y < length c.self.inside.slots) c.self.inside.places.live c.args.i _ live there)

pub returns : goal.returns
returns c =
    let slots = c.self.inside.slots in
    let there = live_at c.self.inside.slots c.self.inside.places.live c.live.result.now c.args.self.now c.args.i c.self.view_is c.requires c.live.ensures in
    let row = map_get (stored_row slots) c.self.inside.places.live c.args.i _ there in
    let read = read_at slots _ c.get.result (record { key = []; body = Bytes [] }) (ap (slice_get slots) (sym c.from.ensures) ∙ c.get.ensures) in
    ap (λ (rows : List Row). slice_get rows c.args.i) (sym c.self.view_is) ∙ row ∙ ap (λ (x : Content). Some (placed_row (get_or c.live.result.now c.args.i 0) x.key x.body)) read

pub bounds-live-i : goal.bounds-live-i
bounds-live-i c =
    subst (λ (l : List ℕ). c.args.i < length l) (sym c.live.ensures) (get_below c.self.inside.places.live c.args.i _ (live_at c.self.inside.slots c.self.inside.places.live c.live.result.now c.args.self.now c.args.i c.self.view_is c.requires c.live.ensures))

pub offset_bounds-live-i : goal.offset_bounds-live-i
offset_bounds-live-i c =
    omega (arith, get_below c.self.inside.places.live c.args.i _ (live_at c.self.inside.slots c.self.inside.places.live c.live.result.now c.args.self.now c.args.i c.self.view_is c.requires c.live.ensures), ap length c.live.ensures, c.live.type_inv.1)
