use Rattle.std.proofs.Common.{Some, [], sym, ap, ◌∙◌}
use Rattle.std.specs.List.{slice_get}
use Rattle.index_page.specs.Rows.{Bytes, placed_row}
use Rattle.index_page.specs.Store.{Content}
use Rattle.index_page.proofs.StoreLemmas.{stored_at, read_at}
use Rattle.index_page.proofs.heap.Heap.record.Goals as goal

pub get-requires : goal.get-requires
get-requires c = rw c.from.ensures (stored_at c.self.inside.slots c.self.inside.places c.args.self.now c.args.place c.self.invariant c.self.view_is c.requires).below

pub returns : goal.returns
returns c =
    let is = stored_at c.self.inside.slots c.self.inside.places c.args.self.now c.args.place c.self.invariant c.self.view_is c.requires in
    let read = read_at c.self.inside.slots c.args.place c.get.result (record { key = []; body = Bytes [] }) (ap (slice_get c.self.inside.slots) (sym c.from.ensures) ∙ c.get.ensures) in
    is.found ∙ ap (λ (x : Content). Some (placed_row c.args.place x.key x.body)) read
