use Rattle.std.specs.Prelude.{option_map}
use Rattle.page_view.proofs.TakingLemmas.{HasTaken}
use Rattle.page_view.proofs.taking.take_rows.Given as goal

abbrev pub invariant-loop-number : goal.invariant-loop-number
invariant-loop-number l = HasTaken l.page.rows l.fn.start (option_map (λ t. t.now.fields) l.to) l.number
    l.fn.rows l.rows l.next
