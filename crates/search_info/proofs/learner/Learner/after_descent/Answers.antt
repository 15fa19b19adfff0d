use Rattle.std.proofs.Common.{◌≡◌, ◌≤◌, ◌<◌, ℕ, Bool, sym, subst, refl}
use Rattle.key_tuple.specs.Fold.{asked_fields}
use Rattle.learning.specs.declared.event.Event.{Event}
use Rattle.learning.specs.declared.event.Event.TheVariants as kind
use Rattle.learning.specs.declared.info.Info.{Info}
use Rattle.learning.specs.Bounds.{AreFiguresOf}
use Rattle.search_info.specs.declared.knows.Knows.{Knows}
use Rattle.search_info.specs.declared.outcome.Learn.{Learn}
use Rattle.search_info.specs.declared.outcome.Learn.TheVariants.{Learnt}
use Rattle.search_info.specs.Outcomes.{TellsLearn, TellsBlock, descent_of}
use Rattle.search_info.specs.Passes.{knowledge}
use Rattle.search_info.proofs.learner.Learner.after_descent.Goals as goal

-- what was counted had room
had_room : (v : Knows) (i : ℕ) (event : Event) (learn : Learn) (v' : Knows) (before after : Info)
    (build : Bool) → learn ≡ Learnt before after build → TellsLearn v i event learn v'
    → before.events < 4294967295
had_room v i event learn v' before after build is did =
    (subst (λ (l : Learn). TellsLearn v i event l v') is did).0.room

pub after-learn-requires-clause-event : goal.after-learn-requires-clause-event
after-learn-requires-clause-event c = let u = c.requires.unique in (
  u.0,
  u.1,
  record {
    fields = sym u.2;
    figures = subst (λ n. AreFiguresOf n c.args.figures.now) (sym u.2) c.requires.figures;
    advice = subst (λ n. asked_fields c.args.block.now.advice ≤ n) (sym u.2) c.requires.advice;
  },
)

pub learn_block-requires-clause-room : goal.learn_block-requires-clause-room
learn_block-requires-clause-room c = had_room (knowledge c.args.pass.now) c.args.index
    (kind.Descent (descent_of c.args.unique c.args.figures.now c.args.block.now c.args.rows))
    c.after-learn.result (knowledge c.after-learn.new.pass) c.in-Learnt.before c.in-Learnt.after
    c.in-Learnt.build c.in-Learnt.is c.after-learn.ensures.did

pub learn_block-requires-clause-descent : goal.learn_block-requires-clause-descent
learn_block-requires-clause-descent c = (
  c.args.unique,
  record {
    fields = refl;
    figures = c.requires.figures;
    advice = c.requires.advice;
  },
)

pub returns-in-Learnt-clause-own : goal.returns-in-Learnt-clause-own
returns-in-Learnt-clause-own c = c.after-learn.ensures.own

pub returns-in-Learnt-clause-did : goal.returns-in-Learnt-clause-did
returns-in-Learnt-clause-did c = c.after-learn.ensures.did

pub returns-in-Learnt-clause-block : goal.returns-in-Learnt-clause-block
returns-in-Learnt-clause-block c =
    let d = descent_of c.args.unique c.args.figures.now c.args.block.now c.args.rows in
    subst (λ (l : Learn). TellsBlock d l c.learn_block.result) (sym c.in-Learnt.is)
    c.learn_block.ensures
