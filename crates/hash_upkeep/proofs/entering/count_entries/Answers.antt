use Rattle.std.proofs.Common.{ap, arith, length}
use Rattle.hash_upkeep.specs.Walk.{entries_ahead}
use Rattle.hash_upkeep.proofs.WalkLemmas.{fewer_entries}
use Rattle.hash_upkeep.proofs.FoldLemmas.{entries_fall}
use Rattle.hash_upkeep.proofs.entering.count_entries.Goals as goal

pub loop-count-init : goal.loop-count-init
loop-count-init c = record {
  on = c.before-walk.ensures.on;
  counted = omega (arith, ap (λ ms. length ms) c.before-walk.ensures.ahead);
  few =
      omega (arith, fewer_entries c.args.how.now c.args.page.now.rows, c.count-rows.ensures);
}

pub loop-count-smaller : goal.loop-count-smaller
loop-count-smaller c =
    entries_fall (entries_ahead c.args.how.now c.args.page.now.rows c.loop-count.walk)
    c.in-Some.field-0
    (entries_ahead c.args.how.now c.args.page.now.rows c.next_entry.new.self)
    c.in-Some.ensures.some

pub returns-clause-number : goal.returns-clause-number
returns-clause-number c =
    omega (
      arith,
      c.loop-count.invariant.counted,
      ap (λ ms. length ms) c.in_default.ensures.none,
    )
