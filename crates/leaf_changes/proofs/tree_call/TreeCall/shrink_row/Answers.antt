use Rattle.buffer_pool.proofs.AgainLemmas.{passes_both}
use Rattle.leaf_changes.proofs.GrowLemmas.{grown_goes, paged_still, comes_back, shrunk}
use Rattle.leaf_changes.proofs.tree_call.TreeCall.shrink_row.Goals as goal

pub row_goes-requires-clause-held : goal.row_goes-requires-clause-held
row_goes-requires-clause-held g c =
    grown_goes c.args.pass.now c.args.block c.args.place c.args.grown c.requires.held

pub restore-requires-clause-held : goal.restore-requires-clause-held
restore-requires-clause-held g c = let held = c.requires.held in
    paged_still c.args.pass.now c.args.block c.args.place c.args.grown held c.row_goes.new.pass
    (c.row_goes.ensures.kept held.index held.known held.now held.has held.hash)

pub restore-requires-clause-before : goal.restore-requires-clause-before
restore-requires-clause-before g c = c.requires.held.grew.paged

pub come_back-requires-clause-held : goal.come_back-requires-clause-held
come_back-requires-clause-held g c = let held = c.requires.held in
    comes_back c.args.pass.now c.args.block c.args.place c.args.grown held c.row_goes.new.pass
    (c.row_goes.ensures.kept held.index held.known held.now held.has held.hash)
    c.restore.new.pass c.restore.ensures.same c.restore.ensures.back

pub returns-clause-back : goal.returns-clause-back
returns-clause-back g c = let held = c.requires.held in
    shrunk c.args.pass.now c.args.block c.args.place c.args.grown held c.row_goes.new.pass
    (c.row_goes.ensures.kept held.index held.known held.now held.has held.hash)
    c.restore.new.pass c.restore.ensures.same c.restore.ensures.back c.args.self.now.index
    c.come_back.new.pass c.come_back.ensures.back

pub returns-clause-own : goal.returns-clause-own
returns-clause-own g c = (
  passes_both c.args.pass.now c.row_goes.new.pass c.come_back.new.pass c.row_goes.ensures.own.0
      (passes_both c.row_goes.new.pass c.restore.new.pass c.come_back.new.pass
      c.restore.ensures.own.0 c.come_back.ensures.own.0),
  c.come_back.ensures.own.1,
)
