use Rattle.std.proofs.Common.{sym, ap, ◌∙◌}
use Rattle.list_facts.proofs.Places.{same_some}
use Rattle.leaf_search.proofs.LessonLemmas.{leaf_paged, page_fields}
use Rattle.leaf_search.proofs.down.key_spot.Goals as goal

pub spot_in-requires-clause-paged : goal.spot_in-requires-clause-paged
spot_in-requires-clause-paged c = leaf_paged c.args.pass.now c.args.block c.args.index
    c.requires.known c.frame.result.now c.frame.ensures c.requires.leaf

pub spot_in-requires-clause-fields : goal.spot_in-requires-clause-fields
spot_in-requires-clause-fields c = λ page paged. (let p = c.args.pass.now in
    let h = c.requires.leaf in
    let there = leaf_paged p c.args.block c.args.index c.requires.known c.frame.result.now
    c.frame.ensures h in
    c.requires.fields
    ∙ (sym (page_fields p c.args.block c.args.index c.requires.known c.frame.result.now
    c.frame.ensures h)
    ∙ ap (λ z. z.head.fields) (same_some h.is.page page (sym there.1 ∙ paged))))

pub returns : goal.returns
returns c = λ h. c.spot_in.ensures h.is.page (leaf_paged c.args.pass.now c.args.block c.args.index
    c.requires.known c.frame.result.now c.frame.ensures h).1
