use Rattle.block_ages.proofs.OrderLemmas.{lower_number, lower_age, higher_age}
use Rattle.block_ages.proofs.ages.comes_before.Goals as goal

pub returns-then-age-limit-2 : goal.returns-then-age-limit-2
returns-then-age-limit-2 c = lower_number c.args.ages.now c.args.block c.args.other c.if-age-limit-2.true

pub returns-else-age-limit-2 : goal.returns-else-age-limit-2
returns-else-age-limit-2 c = higher_age c.args.ages.now c.args.block c.args.other c.if-age-limit.false c.if-age-limit-2.false

pub returns-then-age-limit : goal.returns-then-age-limit
returns-then-age-limit c = lower_age c.args.ages.now c.args.block c.args.other c.if-age-limit.true
