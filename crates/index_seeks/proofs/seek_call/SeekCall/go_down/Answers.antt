use Rattle.std.proofs.Common.{◌<◌, subst, sym}
use Rattle.latch_law.specs.declared.knows.Terms.{Terms}
use Rattle.latch_space.proofs.Pointwise.{none_known}
use Rattle.index_law.specs.Shape.{Shape}
use Rattle.index_seeks.proofs.SeekLearnLemmas.{held_pair, none_held}
use Rattle.buffer_pool.proofs.SpaceLemmas.{objects_of}
use Rattle.index_seeks.proofs.StandLemmas.{went_only}
use Rattle.index_seeks.proofs.seek_call.SeekCall.go_down.Goals as goal

pub descend_pair-requires-clause-frames : goal.descend_pair-requires-clause-frames
descend_pair-requires-clause-frames g c = let call = c.args.self.now in
    let p = c.args.pass.now in
    (none_held p (objects_of call.space.now p call.forest c.requires.own) c.requires.nothing).frames

pub descend_pair-requires-clause-tables : goal.descend_pair-requires-clause-tables
descend_pair-requires-clause-tables g c = let call = c.args.self.now in let p = c.args.pass.now in
    (none_held p (objects_of call.space.now p call.forest c.requires.own) c.requires.nothing).tables

pub returns-clause-held : goal.returns-clause-held
returns-clause-held g c = let call = c.args.self.now in let p = c.args.pass.now in
    let q = c.descend_pair.new.pass in let pair = c.descend_pair.result in
    let went = c.descend_pair.ensures.went in
    held_pair p q call.index call.mode call.tuple.now.fields pair went
    (went_only p q call.index call.mode call.tuple.now.fields pair went
    (none_held p (objects_of call.space.now p call.forest c.requires.own) c.requires.nothing))

pub descend_pair-requires-clause-known : goal.descend_pair-requires-clause-known
descend_pair-requires-clause-known g c = none_known c.args.pass.now c.requires.nothing

pub descend_pair-requires-clause-index : goal.descend_pair-requires-clause-index
descend_pair-requires-clause-index g c = let call = c.args.self.now in
    subst (λ (t : Terms Shape). call.index < t.shape.indexes) (sym c.requires.own.1) call.there

pub returns-clause-own : goal.returns-clause-own
returns-clause-own g c = c.descend_pair.ensures.own

pub returns-clause-went : goal.returns-clause-went
returns-clause-went g c = c.descend_pair.ensures.went
