use Rattle.std.proofs.Common.{arith, sym, ◌∙◌}
use Rattle.std.proofs.lemmas.Option.{none-some}
use Rattle.tree_merging.proofs.RowLemmas.{key_fields, key_after, loses_key}
use Rattle.tree_merging.proofs.pointer.delete_key.Goals as goal

pub search-requires : goal.search-requires
search-requires c =
    let same = key_fields c.args.page.now c.args.key.now.tuple c.is_in_order.ensures c.requires in
    omega (arith, same)

pub unreachable-requires : goal.unreachable-requires
unreachable-requires c = let page = c.args.page.now in let key = c.args.key.now.tuple in
    let spot = c.search.result in
    let tells = c.spots_tell_keys.ensures page key spot c.is_in_order.ensures
    (key_fields page key c.is_in_order.ensures c.requires) c.tuple.ensures.some c.search.ensures in
    let after = key_after page key spot c.requires tells in
    none-some _ (sym c.in-None.is ∙ after.after_at.0)

pub returns : goal.returns
returns c = let page = c.args.page.now in let key = c.args.key.now.tuple in
    let spot = c.search.result in
    let tells = c.spots_tell_keys.ensures page key spot c.is_in_order.ensures
    (key_fields page key c.is_in_order.ensures c.requires) c.tuple.ensures.some c.search.ensures in
    loses_key page c.delete.new.self key spot c.in-Some.place c.is_in_order.ensures
    (key_after page key spot c.requires tells) c.in-Some.is c.delete.ensures
    c.is_in_order-2.ensures
