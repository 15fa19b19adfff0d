use Rattle.index_page.specs.Store.{stored_row}
use Rattle.std.proofs.lemmas.List.{length-map}
use Rattle.std.proofs.Common.{length, ap, sym, ◌∙◌}
use Rattle.index_page.proofs.heap.Heap.len.Goals as goal

pub returns : goal.returns
returns c = let inside = c.self.inside in ap length c.live.ensures ∙ sym (length-map inside.places.live (stored_row inside.slots)) ∙ ap length c.self.view_is
