use Rattle.std.proofs.Common.{ap, ◌∙◌}
use Rattle.std.specs.List.{remove}
use Rattle.index_page.specs.Store.{PlaceLists}
use Rattle.index_page.proofs.places.Places.release.Goals as goal

pub returns-clause-live : goal.returns-clause-live
returns-clause-live c = c.remove-place.ensures.items ∙ ap (λ (p : PlaceLists). remove p.live c.args.at) c.self.view_is
