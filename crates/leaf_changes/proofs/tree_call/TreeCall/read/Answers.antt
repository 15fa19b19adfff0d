use Rattle.std.proofs.Common.{ap, ◌∙◌}
use Rattle.latch_space.specs.Passes.{view}
use Rattle.map_history.specs.Operation as asked
use Rattle.buffer_pool.proofs.AgainLemmas.{passes_both}
use Rattle.leaf_changes.proofs.CallLemmas.{can_get}
use Rattle.engine_law.proofs.KnownLemmas.{held_gave}
use Rattle.leaf_changes.proofs.TellLemmas.{beside_of, number_gave, known_still}
use Rattle.leaf_changes.proofs.tree_call.TreeCall.read.Goals as goal

pub read_row-reply-requires : goal.read_row-reply-requires
read_row-reply-requires g c = let held = c.requires.held.alone.fresh in
    let is = c.frame.ensures held.frame held.frame held.holds.has in record {
      page = held.holds.leaf.page.is.page;
      paged = ap (λ f. f.page) is ∙ held.holds.leaf.page.is.paged;
      level = held.holds.leaf.page.is.at_level;
      row = c.requires.held.row;
    }

pub say-told-requires-clause-held : goal.say-told-requires-clause-held
say-told-requires-clause-held g c = let held = c.requires.held.alone.fresh in
    let call = c.args.self.now in
    let is = c.frame.ensures held.frame held.frame held.holds.has in
    can_get c.args.pass.now c.args.block call.index call.key.now.tuple held.frame held.holds
    c.read_row-reply.result c.read_row-reply.new.out c.read_row-reply.ensures.key
    (c.read_row-reply.ensures.said held.holds.leaf.page.is.page
    (ap (λ f. f.page) is ∙ held.holds.leaf.page.is.paged))

pub returns-clause-told : goal.returns-clause-told
returns-clause-told g c = let call = c.args.self.now in
    let held = c.requires.held.alone.fresh in let p = c.args.pass.now in
    let q = c.say-told.new.pass in record {
      answers = record {
        between = q;
        says = beside_of (view p) (view q) call.index (asked.Get call.key.now.tuple) c.say-told.result
            c.read_row-reply.new.out c.say-told.ensures.did;
        gave = c.let_go.ensures.gave;
        number = number_gave p q c.let_go.new.pass c.args.block held.frame held.holds.has.held
            c.say-told.ensures.kept c.say-told.ensures.did.once.adds.numbers.terms
            c.let_go.ensures.gave;
      };
      held = held_gave p q c.let_go.new.pass c.args.block c.say-told.ensures.kept.held
          c.say-told.ensures.did.once.adds.numbers.terms c.let_go.ensures.gave;
    }

pub returns-clause-found : goal.returns-clause-found
returns-clause-found g c = c.say-told.ensures.reply ∙ c.read_row-reply.ensures.found

pub returns-clause-own : goal.returns-clause-own
returns-clause-own g c = (
  passes_both c.args.pass.now c.say-told.new.pass c.let_go.new.pass c.say-told.ensures.own.0
      c.let_go.ensures.own.0,
  c.let_go.ensures.own.1,
)

pub returns-clause-nothing : goal.returns-clause-nothing
returns-clause-nothing g c = c.let_go.ensures.nothing

pub returns-clause-columns : goal.returns-clause-columns
returns-clause-columns g c = c.say-told.ensures.columns

pub let_go-requires-clause-own : goal.let_go-requires-clause-own
let_go-requires-clause-own g c = c.say-told.ensures.own.1

pub let_go-requires-clause-held : goal.let_go-requires-clause-held
let_go-requires-clause-held g c = let alone = c.requires.held.alone in let call = c.args.self.now in
    known_still c.args.pass.now c.say-told.new.pass c.args.block call.index call.key.now.tuple
    alone.fresh.frame alone.fresh.holds c.say-told.ensures.kept
    c.say-told.ensures.did.once.adds.numbers.terms alone.one
