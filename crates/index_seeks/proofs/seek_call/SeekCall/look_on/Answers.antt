use Rattle.std.proofs.Common.{subst}
use Rattle.index_seeks.specs.SeekHands.{HoldsLeafPair}
use Rattle.index_seeks.proofs.seek_call.SeekCall.look_on.Goals as goal

pub end_on-requires-clause-held : goal.end_on-requires-clause-held
end_on-requires-clause-held g c = let call = c.args.self.now in
    subst (λ o. HoldsLeafPair c.args.pass.now call.index call.mode call.tuple.now.fields c.args.pair.now.leaf o)
    c.in-None.is c.requires.held

pub go_beside-requires-clause-held : goal.go_beside-requires-clause-held
go_beside-requires-clause-held g c = let call = c.args.self.now in
    subst (λ o. HoldsLeafPair c.args.pass.now call.index call.mode call.tuple.now.fields c.args.pair.now.leaf o)
    c.in-Some.is c.requires.held
