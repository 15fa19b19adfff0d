use Rattle.buffer_pool.proofs.AgainLemmas.{passes_both}
use Rattle.leaf_changes.proofs.GrowLemmas.{goes_first, to_grow, comes_grown, grown_row, grown_much, back_ungrown, refuses}
use Rattle.leaf_changes.proofs.tree_call.TreeCall.move_row.Goals as goal

pub row_goes-requires-clause-held : goal.row_goes-requires-clause-held
row_goes-requires-clause-held g c = let call = c.args.self.now in
    goes_first c.args.pass.now c.args.block call.index c.args.place call.key.now.tuple
    c.args.value.now c.requires.held

pub lengthen-requires-clause-held : goal.lengthen-requires-clause-held
lengthen-requires-clause-held g c = let call = c.args.self.now in let held = c.requires.held in
    to_grow c.args.pass.now c.args.block call.index c.args.place call.key.now.tuple
    c.args.value.now held c.row_goes.new.pass
    (c.row_goes.ensures.kept held.index held.known held.known held.holds.has held.hash)
    (c.requires.longer held.known held.known held.holds.has)

pub row_came-requires-clause-held : goal.row_came-requires-clause-held
row_came-requires-clause-held g c = let call = c.args.self.now in let held = c.requires.held in
    comes_grown c.args.pass.now c.args.block call.index c.args.place call.key.now.tuple
    c.args.value.now held c.row_goes.new.pass
    (c.row_goes.ensures.kept held.index held.known held.known held.holds.has held.hash)
    c.lengthen.new.pass c.lengthen.ensures.same c.in-Ok.grown c.in-Ok.ensures.ok

pub come_back-requires-clause-held : goal.come_back-requires-clause-held
come_back-requires-clause-held g c = let call = c.args.self.now in let held = c.requires.held in
    back_ungrown c.args.pass.now c.args.block call.index c.args.place call.key.now.tuple
    c.args.value.now held c.row_goes.new.pass
    (c.row_goes.ensures.kept held.index held.known held.known held.holds.has held.hash)
    c.lengthen.new.pass c.lengthen.ensures.same c.in-Err.refusal c.in-Err.ensures.err

pub returns-in-Ok-clause-ok : goal.returns-in-Ok-clause-ok
returns-in-Ok-clause-ok g c = let call = c.args.self.now in let held = c.requires.held in
    grown_row c.args.pass.now c.args.block call.index c.args.place call.key.now.tuple
    c.args.value.now held c.row_goes.new.pass
    (c.row_goes.ensures.kept held.index held.known held.known held.holds.has held.hash)
    c.lengthen.new.pass c.lengthen.ensures.same c.in-Ok.grown c.in-Ok.ensures.ok
    c.row_came.new.pass c.row_came.ensures.kept

pub returns-in-Ok-clause-same : goal.returns-in-Ok-clause-same
returns-in-Ok-clause-same g c = let call = c.args.self.now in let held = c.requires.held in
    grown_much c.args.pass.now c.args.block call.index c.args.place call.key.now.tuple
    c.args.value.now held c.row_goes.new.pass
    (c.row_goes.ensures.kept held.index held.known held.known held.holds.has held.hash)
    c.lengthen.new.pass c.lengthen.ensures.same c.in-Ok.grown c.in-Ok.ensures.ok
    c.row_came.new.pass c.row_came.ensures.kept

pub returns-in-Err-clause-err : goal.returns-in-Err-clause-err
returns-in-Err-clause-err g c = let call = c.args.self.now in let held = c.requires.held in
    refuses c.args.pass.now c.args.block call.index c.args.place call.key.now.tuple
    c.args.value.now held c.row_goes.new.pass
    (c.row_goes.ensures.kept held.index held.known held.known held.holds.has held.hash)
    c.lengthen.new.pass c.lengthen.ensures.same c.in-Err.refusal c.in-Err.ensures.err
    c.come_back.new.pass c.come_back.ensures.back

pub returns-in-Ok-clause-own : goal.returns-in-Ok-clause-own
returns-in-Ok-clause-own g c = (
  passes_both c.args.pass.now c.row_goes.new.pass c.row_came.new.pass c.row_goes.ensures.own.0
      (passes_both c.row_goes.new.pass c.lengthen.new.pass c.row_came.new.pass
      c.lengthen.ensures.own.0 c.row_came.ensures.own.0),
  c.row_came.ensures.own.1,
)

pub returns-in-Err-clause-own : goal.returns-in-Err-clause-own
returns-in-Err-clause-own g c = (
  passes_both c.args.pass.now c.row_goes.new.pass c.come_back.new.pass c.row_goes.ensures.own.0
      (passes_both c.row_goes.new.pass c.lengthen.new.pass c.come_back.new.pass
      c.lengthen.ensures.own.0 c.come_back.ensures.own.0),
  c.come_back.ensures.own.1,
)

pub row_came-requires-clause-own : goal.row_came-requires-clause-own
row_came-requires-clause-own g c = c.lengthen.ensures.own.1
