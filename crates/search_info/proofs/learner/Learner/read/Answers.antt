use Rattle.std.proofs.Common.{ap, ◌∙◌}
use lib.ListN.{get_elem?}
use Rattle.search_info.specs.declared.knows.Opening.{Opening}
use Rattle.list_facts.proofs.Places.{inside}
use Rattle.search_info.proofs.CallLemmas.{has_read, worn_tells}
use Rattle.search_info.proofs.learner.Learner.read.Goals as goal

pub load_at-word-requires-clause-index : goal.load_at-word-requires-clause-index
load_at-word-requires-clause-index c = inside _ _ _ c.requires.event.1

pub returns-clause-read : goal.returns-clause-read
returns-clause-read c = let e = c.requires.event in has_read c.args.pass.now.seat.me.0 c.load_at-word.new.seat.me.0 c.args.index c.args.event.now c.load_at-word.result c.unpack-before.result c.load_at-word.ensures.did c.unpack-before.ensures
    c.if-before.false c.args.pass.now.all e.0 (ap (λ (o : Opening). get_elem? o.starts c.args.index) c.requires.own.1 ∙ e.1) e.2

pub returns-then-before-clause-read : goal.returns-then-before-clause-read
returns-then-before-clause-read c = let e = c.requires.event in worn_tells c.args.pass.now.seat.me.0 c.load_at-word.new.seat.me.0 c.args.index c.args.event.now c.load_at-word.result c.unpack-before.result c.load_at-word.ensures.did c.unpack-before.ensures c.if-before.true
