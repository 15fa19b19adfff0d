use Rattle.buffer_pool.proofs.AgainLemmas.{passes_both}
use Rattle.leaf_changes.proofs.PutLemmas.{row_came_held, new_row, new_view}
use Rattle.leaf_changes.proofs.SettleLemmas.{known_after}
use Rattle.leaf_changes.proofs.tree_call.TreeCall.put_in.Goals as goal

pub row_came-requires-clause-held : goal.row_came-requires-clause-held
row_came-requires-clause-held g c = let call = c.args.self.now in let leaf = c.args.leaf.now in
    row_came_held c.args.pass.now c.insert.new.pass leaf.block call.index c.in-Ok.place
    call.key.now.tuple leaf.spot c.args.value.now c.requires.held c.insert.ensures.same
    c.in-Ok.ensures.ok

pub returns-in-Ok-clause-ok : goal.returns-in-Ok-clause-ok
returns-in-Ok-clause-ok g c = let call = c.args.self.now in let leaf = c.args.leaf.now in
    new_row c.args.pass.now c.insert.new.pass leaf.block call.index c.in-Ok.place
    call.key.now.tuple leaf.spot c.args.value.now c.requires.held c.insert.ensures.same
    c.in-Ok.ensures.ok c.row_came.new.pass c.row_came.ensures.kept

pub returns-in-Ok-clause-same : goal.returns-in-Ok-clause-same
returns-in-Ok-clause-same g c = let call = c.args.self.now in let leaf = c.args.leaf.now in
    let same = new_view c.args.pass.now c.insert.new.pass leaf.block call.index c.in-Ok.place
    call.key.now.tuple leaf.spot c.args.value.now c.requires.held c.insert.ensures.same
    c.in-Ok.ensures.ok c.row_came.new.pass c.row_came.ensures.kept in
    record { view = same.0; count = same.1 }

pub returns-in-Err-clause-known : goal.returns-in-Err-clause-known
returns-in-Err-clause-known g c = let held = c.in-Err.ensures.err in
    known_after c.args.pass.now c.insert.new.pass c.args.leaf.now.block held.frame
    c.insert.ensures.same (λ j h differs has. c.requires.held.known j h has) held.holds.has

pub returns-in-Ok-clause-own : goal.returns-in-Ok-clause-own
returns-in-Ok-clause-own g c = (
  passes_both c.args.pass.now c.insert.new.pass c.row_came.new.pass c.insert.ensures.own.0
      c.row_came.ensures.own.0,
  c.row_came.ensures.own.1,
)

pub returns-in-Err-clause-own : goal.returns-in-Err-clause-own
returns-in-Err-clause-own g c = c.insert.ensures.own

pub returns-in-Err-clause-err : goal.returns-in-Err-clause-err
returns-in-Err-clause-err g c = c.in-Err.ensures.err

pub returns-in-Err-clause-same : goal.returns-in-Err-clause-same
returns-in-Err-clause-same g c = let same = c.insert.ensures.same in record {
  view = same.view;
  count = same.count;
}
