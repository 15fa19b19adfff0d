use Rattle.index_page.specs.Store.{beside_by}
use Rattle.std.proofs.Common.{ap, sym}
use Rattle.index_page.proofs.appending.append_beside.Goals as goal

pub returns-in_ok-extend_from_slice-in-Value-clause-ok : goal.returns-in_ok-extend_from_slice-in-Value-clause-ok
returns-in_ok-extend_from_slice-in-Value-clause-ok c =
    record { added = c.in-Value.value.now; items = c.in_ok-extend_from_slice-in-Value.ensures.items; says = ap beside_by (sym c.in-Value.is) }
