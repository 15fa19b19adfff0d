use Rattle.std.proofs.Common.{◌∙◌, sym, ap}
use Rattle.std.proofs.lemmas.Bool.{false≢true}
use Rattle.latch_space.specs.Passes.{view}
use Rattle.index_law.specs.Answers.{speaks_at}
use Rattle.index_seeks.proofs.TellingLemmas.{may_tell, tells_nothing, tells_answer}
use Rattle.index_seeks.proofs.seek_call.SeekCall.tell.Goals as goal

pub read_point-point-requires-clause-rule : goal.read_point-point-requires-clause-rule
read_point-point-requires-clause-rule g c = let call = c.args.self.now in
    may_tell (view c.args.pass.now) call.index call.mode call.tuple.now.fields c.args.bound c.args.reply
    c.args.row.now c.requires.can call.found

pub returns-then-speaks_at-clause-did : goal.returns-then-speaks_at-clause-did
returns-then-speaks_at-clause-did g c = let call = c.args.self.now in
    tells_answer (view c.args.pass.now) call.index call.mode call.tuple.now.fields c.args.bound
    c.args.reply c.args.row.now c.requires.can call.found (view c.read_point-point.new.pass)
    c.read_point-point.result c.read_point-point.ensures.did
    (sym c.speaks_at.ensures ∙ c.if-speaks_at.true)

pub returns-else-speaks_at-clause-did : goal.returns-else-speaks_at-clause-did
returns-else-speaks_at-clause-did g c = let call = c.args.self.now in
    tells_nothing (view c.args.pass.now) call.index call.mode call.tuple.now.fields c.args.bound
    c.args.reply c.args.row.now c.requires.can call.found (view c.read_point-point.new.pass)
    c.read_point-point.result c.read_point-point.ensures.did
    (sym c.speaks_at.ensures ∙ c.if-speaks_at.false)

pub returns-else-speaks_at-clause-speaks : goal.returns-else-speaks_at-clause-speaks
returns-else-speaks_at-clause-speaks g c = λ none. absurd (false≢true
    (sym c.if-speaks_at.false ∙ (c.speaks_at.ensures
    ∙ ap (λ bound. speaks_at bound c.read_point-point.result) none)))

pub returns-then-speaks_at-clause-own : goal.returns-then-speaks_at-clause-own
returns-then-speaks_at-clause-own g c = c.read_point-point.ensures.own

pub returns-else-speaks_at-clause-own : goal.returns-else-speaks_at-clause-own
returns-else-speaks_at-clause-own g c = c.read_point-point.ensures.own

pub returns-then-speaks_at-clause-kept : goal.returns-then-speaks_at-clause-kept
returns-then-speaks_at-clause-kept g c = c.read_point-point.ensures.kept

pub returns-else-speaks_at-clause-kept : goal.returns-else-speaks_at-clause-kept
returns-else-speaks_at-clause-kept g c = c.read_point-point.ensures.kept
