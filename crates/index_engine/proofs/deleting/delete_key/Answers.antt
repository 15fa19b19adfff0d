use Rattle.std.proofs.Common.{None, inl, inr, refl, subst, ◌∙◌}
use Rattle.map_history.specs.Map as map
use Rattle.map_history.specs.Operation.{Make}
use Rattle.index_law.specs.Meanings.{lent_row}
use Rattle.buffer_pool.proofs.AgainLemmas.{passes_both}
use Rattle.index_engine.specs.Traces.{HasLightPage}
use Rattle.index_engine.proofs.HeldLemmas.{held_told, answers_then}
use Rattle.leaf_changes.proofs.HoldLemmas.{gave_is}
use Rattle.index_engine.proofs.deleting.delete_key.Goals as goal

pub let_both_go-requires-clause-held : goal.let_both_go-requires-clause-held
let_both_go-requires-clause-held g c = let call = c.args.call.now in
    let key = call.key.now.tuple in
    held_told c.args.pass.now c.hold_to_change-part.new.pass c.del_held-told.new.pass call.index key
    c.args.leaf.now c.hold_to_change-part.result c.hold_to_change-part.ensures.took
    (Make (map.Del key)) (lent_row None) c.del_held-told.result c.del_held-told.ensures.did

pub returns-then-took_out-clause-told : goal.returns-then-took_out-clause-told
returns-then-took_out-clause-told g c = let call = c.args.call.now in
    let key = call.key.now.tuple in let p = c.args.pass.now in let leaf = c.args.leaf.now in
    let q = c.let_both_go.new.pass in let gave = c.let_both_go.ensures.gave in
    let did = c.del_held-told.ensures.did in let still = did.holds in record {
      between = q;
      answers = answers_then p c.hold_to_change-part.new.pass c.del_held-told.new.pass call.index key
          leaf c.hold_to_change-part.result c.hold_to_change-part.ensures.took q gave
          (Make (map.Del key)) c.del_held-told.result (lent_row None) did;
      after = inr (record {
        took = c.took_out.ensures c.if-took_out.true;
        light = subst HasLightPage
            (c.frame.ensures still.frame still.frame still.has
            ∙ gave_is gave.between q leaf.block still.frame (gave.frame still.frame still.has)
            gave.gave)
            (c.is_light-is_light.ensures c.if-is_light.true);
        seen = c.merge.ensures.seen;
        merged = c.merge.ensures.silent;
      });
    }

pub returns-else-is_light-clause-told : goal.returns-else-is_light-clause-told
returns-else-is_light-clause-told g c = let call = c.args.call.now in
    let key = call.key.now.tuple in let q = c.let_both_go.new.pass in record {
      between = q;
      answers = answers_then c.args.pass.now c.hold_to_change-part.new.pass
          c.del_held-told.new.pass call.index key c.args.leaf.now c.hold_to_change-part.result
          c.hold_to_change-part.ensures.took q c.let_both_go.ensures.gave (Make (map.Del key))
          c.del_held-told.result (lent_row None) c.del_held-told.ensures.did;
      after = inl refl;
    }

pub returns-then-took_out-clause-own : goal.returns-then-took_out-clause-own
returns-then-took_out-clause-own g c = (
  passes_both c.args.pass.now c.hold_to_change-part.new.pass c.merge.new.pass
      c.hold_to_change-part.ensures.own.0 (passes_both c.hold_to_change-part.new.pass
      c.del_held-told.new.pass c.merge.new.pass c.del_held-told.ensures.own.0 (passes_both
      c.del_held-told.new.pass c.let_both_go.new.pass c.merge.new.pass c.let_both_go.ensures.own.0
      c.merge.ensures.own.0)),
  c.merge.ensures.own.1,
)

pub returns-else-is_light-clause-own : goal.returns-else-is_light-clause-own
returns-else-is_light-clause-own g c = (
  passes_both c.args.pass.now c.hold_to_change-part.new.pass c.let_both_go.new.pass
      c.hold_to_change-part.ensures.own.0 (passes_both c.hold_to_change-part.new.pass
      c.del_held-told.new.pass c.let_both_go.new.pass c.del_held-told.ensures.own.0
      c.let_both_go.ensures.own.0),
  c.let_both_go.ensures.own.1,
)
