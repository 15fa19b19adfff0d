use Rattle.std.proofs.Common.{◌≡◌, sym, ap, subst, ◌∙◌}
use Rattle.list_facts.proofs.Places.{same_some}
use Rattle.index_page.specs.Page.{PageRows}
use Rattle.index_page.specs.declared.head.PageHead.{PageHead}
use Rattle.hash_upkeep.specs.Moves.{IsMoveAnswer, from_then}
use Rattle.hash_maintain.specs.Moves.{how_then, frame_hashed}
use Rattle.hash_maintain.proofs.MoveLemmas.{both_exact}
use Rattle.hash_maintain.proofs.moves.rows_moved.Goals as goal

pub leaf_page-page-requires : goal.leaf_page-page-requires
leaf_page-page-requires c = (c.requires.may.from_page, c.requires.may.from_is)

pub leaf_page-requires : goal.leaf_page-requires
leaf_page-requires c = (c.requires.may.to_page, c.requires.may.to_is)

pub on_move-answer-requires-clause-hash : goal.on_move-answer-requires-clause-hash
on_move-answer-requires-clause-hash c = c.requires.may.can c.leaf_page-page.result.now
    c.leaf_page.result.now c.leaf_page-page.ensures c.leaf_page.ensures

pub on_move-answer-requires-clause-covered : goal.on_move-answer-requires-clause-covered
on_move-answer-requires-clause-covered c = c.requires.may.covered c.leaf_page-page.result.now
    c.leaf_page.result.now c.leaf_page-page.ensures c.leaf_page.ensures

pub returns-clause-answer : goal.returns-clause-answer
returns-clause-answer c = λ a b is_a is_b. let m = c.args.blocks.now in
    let one : c.leaf_page-page.result.now ≡ a =
    same_some c.leaf_page-page.result.now a (sym c.leaf_page-page.ensures ∙ is_a) in
    let other : c.leaf_page.result.now ≡ b =
    same_some c.leaf_page.result.now b (sym c.leaf_page.ensures ∙ is_b) in
    subst (λ z. IsMoveAnswer m z b c.args.part.now c.on_move-answer.result) one
    (subst (λ z. IsMoveAnswer m c.leaf_page-page.result.now z c.args.part.now
    c.on_move-answer.result) other c.on_move-answer.ensures.answer)

pub returns-clause-from : goal.returns-clause-from
returns-clause-from c = λ page is. let m = c.args.blocks.now in
    let one : c.leaf_page-page.result.now ≡ page =
    same_some c.leaf_page-page.result.now page (sym c.leaf_page-page.ensures ∙ is) in
    c.hash_as.ensures
    ∙ ap (λ h. frame_hashed h c.args.from.now)
    (c.kept_how.ensures
    ∙ ap (how_then c.on_move-answer.result)
    (c.from_then.ensures
    ∙ (ap (λ (h : PageHead). from_then m h.level) c.head.ensures
    ∙ ap (λ (p : PageRows). from_then m p.head.level) one)))

pub returns-clause-to : goal.returns-clause-to
returns-clause-to c = c.hash_as-2.ensures
    ∙ ap (λ h. frame_hashed h c.args.to.now)
    (c.kept_how-2.ensures ∙ ap (how_then c.on_move-answer.result) c.to_then.ensures)

pub returns-clause-part : goal.returns-clause-part
returns-clause-part c = let m = c.args.blocks.now in
    both_exact c.entries_are_owed.ensures m c.args.from.now c.args.to.now c.hash_as.new.frame
    c.hash_as-2.new.frame c.leaf_page-page.result.now c.leaf_page.result.now
    c.leaf_page-page.ensures c.leaf_page.ensures c.args.part.now c.on_move-answer.new.part
    c.on_move-answer.result
    (c.hash_as.ensures
    ∙ ap (λ h. frame_hashed h c.args.from.now)
    (c.kept_how.ensures
    ∙ ap (how_then c.on_move-answer.result)
    (c.from_then.ensures ∙ ap (λ (h : PageHead). from_then m h.level) c.head.ensures)))
    (c.hash_as-2.ensures
    ∙ ap (λ h. frame_hashed h c.args.to.now)
    (c.kept_how-2.ensures ∙ ap (how_then c.on_move-answer.result) c.to_then.ensures))
    c.on_move-answer.ensures.part c.on_move-answer.ensures.room
