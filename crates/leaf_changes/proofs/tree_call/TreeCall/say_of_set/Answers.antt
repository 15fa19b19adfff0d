use Rattle.leaf_changes.proofs.tree_call.TreeCall.say_of_set.Goals as goal

pub returns-clause-own : goal.returns-clause-own
returns-clause-own g c = c.say.ensures.own

pub returns-clause-did : goal.returns-clause-did
returns-clause-did g c = c.say.ensures.did

pub returns-clause-kept : goal.returns-clause-kept
returns-clause-kept g c = c.say.ensures.kept

pub returns-clause-columns : goal.returns-clause-columns
returns-clause-columns g c = c.say.ensures.columns
