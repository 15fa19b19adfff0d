use Rattle.std.proofs.Common.{ap, ◌∙◌, arith}
use lib.ListN.{get_elem?}
use Rattle.search_info.specs.declared.knows.Opening.{Opening}
use Rattle.list_facts.proofs.Places.{there}
use Rattle.search_info.proofs.StepLemmas.{loads, loading_keeps}
use Rattle.search_info.proofs.learner.Learner.load_at.Goals as goal

pub load-requires : goal.load-requires
load-requires g c = let s = there c.args.self.now.settings.starts.items c.args.index c.requires.index in let words = c.args.self.now.words in let i = c.requires.index in (
  c.requires.own.0,
  omega (arith, words, i),
  loads _ g.X.Asks.event _ _ c.args.seat.now.me c.args.index s.0 c.requires.live (ap (λ (o : Opening). get_elem? o.starts c.args.index) c.requires.own.1 ∙ s.1),
)

pub returns-clause-same : goal.returns-clause-same
returns-clause-same g c = let l = c.load.ensures.2.0 in loading_keeps g.X.Asks.event c.args.seat.now.me.0 c.args.index l.start l.list c.load.new.seat.me.0 l.view
