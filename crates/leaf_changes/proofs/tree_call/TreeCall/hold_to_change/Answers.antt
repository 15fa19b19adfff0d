use Rattle.std.proofs.Common.{ap, ◌∙◌}
use Rattle.forest_world.specs.Held.{shape_of_pass}
use Rattle.buffer_pool.specs.Parts.{part_of_index}
use Rattle.leaf_changes.proofs.BothLemmas.{hashed_leaf}
use Rattle.leaf_changes.proofs.tree_call.TreeCall.hold_to_change.Goals as goal

pub returns-clause-took : goal.returns-clause-took
returns-clause-took g c = let alone = c.requires.alone in record {
  alone = alone;
  named = c.hold_part_for.ensures.named
      ∙ ap (λ f. part_of_index (shape_of_pass c.args.pass.now) f.hashed)
      (c.frame.ensures alone.fresh.frame alone.fresh.frame alone.fresh.holds.has);
  took = c.hold_part_for.ensures.held;
  fits = c.hold_part_for.ensures.fits;
}

pub returns-clause-held : goal.returns-clause-held
returns-clause-held g c = let alone = c.requires.alone in
    let call = c.args.self.now in let leaf = c.args.leaf.now in
    hashed_leaf c.args.pass.now c.hold_part_for.new.pass leaf.block call.index call.key.now.tuple
    leaf.spot alone c.hold_part_for.ensures.fits c.hold_part_for.result
    (c.hold_part_for.ensures.named
    ∙ ap (λ f. part_of_index (shape_of_pass c.args.pass.now) f.hashed)
    (c.frame.ensures alone.fresh.frame alone.fresh.frame alone.fresh.holds.has))
    c.hold_part_for.ensures.held

pub returns-clause-own : goal.returns-clause-own
returns-clause-own g c = c.hold_part_for.ensures.own
