use Rattle.search_info.proofs.CallLemmas.{counts_all, recommends}
use Rattle.search_info.proofs.learner.Learner.recommend.Goals as goal

pub returns-clause-all : goal.returns-clause-all
returns-clause-all c = let l = c.load_at-found.ensures.did in
    counts_all c.args.pass.now.seat.me.0 c.load_at-found.new.seat.me.0 c.args.index c.load_at-found.result c.unpack.result l c.unpack.ensures

pub returns-clause-did : goal.returns-clause-did
returns-clause-did c = recommends c.args.pass.now.seat.me.0 c.load_at-found.new.seat.me.0 c.args.index c.load_at-found.result c.unpack.result c.load_at-found.ensures.did c.unpack.ensures
