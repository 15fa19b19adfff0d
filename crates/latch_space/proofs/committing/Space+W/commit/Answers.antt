use Rattle.latch_space.proofs.Ending.{changes_of}
use Rattle.latch_space.proofs.Pointwise.{whole_values}
use Rattle.latch_space.proofs.committing.Space+W.commit.Goals as goal

pub commit_ahead-requires-clause-whole : goal.commit_ahead-requires-clause-whole
commit_ahead-requires-clause-whole g c = whole_values c.args.pass.now c.requires.whole

pub returns-clause-hands : goal.returns-clause-hands
returns-clause-hands g c = changes_of c.args.pass.now c.commit_ahead.new.pass c.commit_ahead.result c.commit_ahead.ensures.hands

pub returns-clause-kept : goal.returns-clause-kept
returns-clause-kept g c = c.commit_ahead.ensures.kept

pub returns-clause-own : goal.returns-clause-own
returns-clause-own g c = c.commit_ahead.ensures.own

pub returns-clause-did : goal.returns-clause-did
returns-clause-did g c = c.commit_ahead.ensures.did

pub returns-clause-fits : goal.returns-clause-fits
returns-clause-fits g c = c.commit_ahead.ensures.fits

pub commit_ahead-requires-clause-index : goal.commit_ahead-requires-clause-index
commit_ahead-requires-clause-index g c = c.requires.index

pub commit_ahead-requires-clause-own : goal.commit_ahead-requires-clause-own
commit_ahead-requires-clause-own g c = c.requires.own

pub commit_ahead-requires-clause-rule : goal.commit_ahead-requires-clause-rule
commit_ahead-requires-clause-rule g c = c.requires.rule
