use Rattle.std.proofs.Common.{None}
use Rattle.map_history.specs.Map as map
use Rattle.map_history.specs.Operation.{Make}
use Rattle.index_law.specs.Meanings.{lent_row}
use Rattle.buffer_pool.proofs.AgainLemmas.{passes_both}
use Rattle.leaf_changes.proofs.GoneLemmas.{answers_earlier}
use Rattle.leaf_changes.proofs.tree_call.TreeCall.grow_row.Goals as goal

pub returns-in-Ok-clause-ok : goal.returns-in-Ok-clause-ok
returns-in-Ok-clause-ok g c = let call = c.args.self.now in let same = c.in-Ok.ensures.same in
    answers_earlier c.args.pass.now c.move_row.new.pass c.commit_set.new.pass c.args.block
    call.index (Make (map.Set call.key.now.tuple c.args.value.now)) c.commit_set.result
    (lent_row None) same.view same.count c.commit_set.ensures.did

pub returns-in-Ok-clause-own : goal.returns-in-Ok-clause-own
returns-in-Ok-clause-own g c = (
  passes_both c.args.pass.now c.move_row.new.pass c.commit_set.new.pass c.move_row.ensures.own.0
      c.commit_set.ensures.own.0,
  c.commit_set.ensures.own.1,
)

pub returns-in-Ok-clause-columns : goal.returns-in-Ok-clause-columns
returns-in-Ok-clause-columns g c = c.commit_set.ensures.columns

pub returns-in-Err-clause-own : goal.returns-in-Err-clause-own
returns-in-Err-clause-own g c = c.move_row.ensures.own

pub returns-in-Err-clause-err : goal.returns-in-Err-clause-err
returns-in-Err-clause-err g c = c.in-Err.ensures.err

pub move_row-requires-clause-longer : goal.move_row-requires-clause-longer
move_row-requires-clause-longer g c = c.requires.longer
