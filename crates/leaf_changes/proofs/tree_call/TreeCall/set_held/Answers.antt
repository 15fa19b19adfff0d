use Rattle.std.proofs.Common.{ap, subst, ◌∙◌, None}
use Rattle.map_history.specs.Map as map
use Rattle.map_history.specs.Operation.{Make}
use Rattle.index_law.specs.Meanings.{lent_row}
use Rattle.forest_world.specs.Held.{shape_of_pass}
use Rattle.leaf_rows.specs.Changing.{LacksRow}
use Rattle.leaf_changes.specs.Changes.{HasOldRow}
use Rattle.leaf_changes.proofs.CallLemmas.{can_miss_set}
use Rattle.leaf_changes.proofs.RowLemmas.{lacks_key}
use Rattle.leaf_changes.proofs.TellLemmas.{said_holding}
use Rattle.leaf_changes.proofs.tree_call.TreeCall.set_held.Goals as goal

pub find_row-requires : goal.find_row-requires
find_row-requires g c = let held = c.requires.held.fresh in let is = held.holds.leaf.page.is in record {
  page = is.page;
  paged = ap (λ f. f.page) (c.frame.ensures held.frame held.frame held.holds.has) ∙ is.paged;
  finds = held.finds;
}

pub set_row-requires-clause-held : goal.set_row-requires-clause-held
set_row-requires-clause-held g c = let held = c.requires.held.fresh in
    let key = c.args.self.now.key.now.tuple in record {
      index = held.frame.hashed;
      known = held.frame;
      holds = held.holds;
      hash = c.requires.held.hash;
      all = held.known;
      row = subst (λ f. HasOldRow f key c.in-Some.place)
          (c.frame.ensures held.frame held.frame held.holds.has) c.in-Some.ensures;
    }

pub say_of_set-requires-clause-held : goal.say_of_set-requires-clause-held
say_of_set-requires-clause-held g c = let held = c.requires.held.fresh in let leaf = c.args.leaf.now in
    let call = c.args.self.now in let key = call.key.now.tuple in let p = c.args.pass.now in
    can_miss_set p leaf.block call.index key held.frame held.holds c.args.value.now (lent_row None)
    (lacks_key (shape_of_pass p) call.index key held.frame held.holds.leaf leaf.spot
    (subst (λ f. LacksRow f key leaf.spot)
    (c.frame.ensures held.frame held.frame held.holds.has) c.in-None.ensures))

pub returns-in-None-clause-ok : goal.returns-in-None-clause-ok
returns-in-None-clause-ok g c = let held = c.requires.held.fresh in let call = c.args.self.now in
    let key = call.key.now.tuple in
    said_holding c.args.pass.now c.say_of_set.new.pass c.args.leaf.now.block call.index key
    held.frame (Make (map.Set key c.args.value.now)) c.say_of_set.result (lent_row None)
    held.holds held.known c.say_of_set.ensures.kept c.say_of_set.ensures.did

pub returns-in-Some-clause-own : goal.returns-in-Some-clause-own
returns-in-Some-clause-own g c = c.set_row.ensures.own

pub returns-in-None-clause-own : goal.returns-in-None-clause-own
returns-in-None-clause-own g c = c.say_of_set.ensures.own

pub returns-in-None-clause-columns : goal.returns-in-None-clause-columns
returns-in-None-clause-columns g c = c.say_of_set.ensures.columns

pub returns-in-Some-clause-ok : goal.returns-in-Some-clause-ok
returns-in-Some-clause-ok g c = c.set_row.ensures.ok

pub returns-in-Some-clause-columns : goal.returns-in-Some-clause-columns
returns-in-Some-clause-columns g c = c.set_row.ensures.columns

pub returns-in-Some-clause-err : goal.returns-in-Some-clause-err
returns-in-Some-clause-err g c = c.set_row.ensures.err
