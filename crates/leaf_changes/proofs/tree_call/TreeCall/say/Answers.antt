use Rattle.std.proofs.Common.{refl}
use Rattle.index_law.specs.Meanings.{lent_row}
use Rattle.map_history.specs.Operation.{operation_by}
use Rattle.engine_law.specs.Says.{columns_by}
use Rattle.leaf_changes.proofs.RightLemmas.{may_answer}
use Rattle.leaf_changes.proofs.SayLemmas.{says_once}
use Rattle.leaf_changes.proofs.tree_call.TreeCall.say.Goals as goal

pub read_point-point-requires-clause-rule : goal.read_point-point-requires-clause-rule
read_point-point-requires-clause-rule g c = let call = c.args.self.now in
    may_answer c.args.pass.now call.index call.key.now.tuple (operation_by c.args.op).ask
    c.args.reply (lent_row c.args.row) c.requires.held (columns_by call.found)

pub returns-clause-did : goal.returns-clause-did
returns-clause-did g c = let call = c.args.self.now in
    says_once c.args.pass.now call.index call.key.now.tuple (operation_by c.args.op).ask
    c.args.reply (lent_row c.args.row) c.requires.held call.found c.read_point-point.new.pass
    c.read_point-point.result c.read_point-point.ensures.did

pub returns-clause-own : goal.returns-clause-own
returns-clause-own g c = c.read_point-point.ensures.own

pub returns-clause-kept : goal.returns-clause-kept
returns-clause-kept g c = c.read_point-point.ensures.kept

pub returns-clause-reply : goal.returns-clause-reply
returns-clause-reply g c = refl

pub returns-clause-columns : goal.returns-clause-columns
returns-clause-columns g c = refl
