use Rattle.std.proofs.Common.{◌≡◌, ◌+◌, arith}
use Rattle.lane_threads.specs.Engine.{known}
use Rattle.lane_threads.proofs.DealLemmas.{added_one, cut_ok}
use Rattle.lane_threads.proofs.dealing.+deal_onto.Goals as goal

-- src/dealing.rt:27:1
pub returns-in_ok-deal_onto : goal.returns-in_ok-deal_onto
returns-in_ok-deal_onto t c = let cut = c.in_ok-upper.ensures in
    cut_ok c.args.engine.now c.args.pass c.split.new.pass c.in_ok-upper.upper cut.kept cut.given.2 cut.taught.0 cut.taught.1 cut.own.0.sizes cut.given.1
    c.deal_onto-then-end-low-ge2.result c.args.passes.now.items c.deal_onto.new.passes.items c.deal_onto-then-end-low-ge2.new.passes.items c.in_ok-deal_onto.ensures c.deal_onto-then-end-low-ge2.ensures

-- src/dealing.rt:27:1
pub returns-in_ok-push : goal.returns-in_ok-push
returns-in_ok-push t c =
    let numbers = c.numbers-low.ensures in let own = c.args.pass.world.numbers in let few = c.if-end-low-ge2.false in
    let one : (known c.args.pass).end ≡ (known c.args.pass).low + 1 = omega (arith, numbers.0, numbers.1, own.0, own.1, own.2, few) in
    added_one c.args.engine.now c.args.pass c.args.passes.now.items c.push.new.self.items c.requires.own one c.in_ok-push.ensures.items
