use Rattle.std.proofs.Common.{List, drop, subst}
use Rattle.index_page.specs.Rows.{Row}
use Rattle.index_page.specs.Store.{Appends}
use Rattle.index_page.proofs.heap.Heap.tail.Goals as goal

pub returns : goal.returns
returns c =
    subst (λ (old : List Row). Appends old c.append.new.self (drop c.args.first c.args.self.now)) c.new-tail.ensures c.in_ok-append.ensures.ok
