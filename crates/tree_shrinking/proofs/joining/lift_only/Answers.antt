use Rattle.std.proofs.Common.{[], ◌∷◌, length, refl, ap, sym, ◌∙◌, arith}
use Rattle.index_page.specs.declared.head.PageHead.{PageHead}
use Rattle.index_page.specs.Page.{PageRows}
use Rattle.buffer_pool.proofs.CallLemmas.{frame_has}
use Rattle.tree_growth.proofs.HandLemmas.{no_frame_but, no_table}
use Rattle.tree_shrinking.proofs.JoinLemmas.{merged_or_not, refused_or_not}
use Rattle.tree_shrinking.proofs.OnlyLemmas.{above_held, child_may_go, child_still_may_go, back_given, back_failed, can_lift, back_lifted}
use Rattle.tree_shrinking.proofs.joining.lift_only.Goals as goal

pub held_page-page-requires-clause-held : goal.held_page-page-requires-clause-held
held_page-page-requires-clause-held g c = above_held c.requires.way c.requires.held

pub give_back-requires-clause-held : goal.give_back-requires-clause-held
give_back-requires-clause-held g c = child_may_go c.requires.way c.requires.held

pub give_back-requires-in-Err-clause-held : goal.give_back-requires-in-Err-clause-held
give_back-requires-in-Err-clause-held g c =
    child_still_may_go c.requires.way c.requires.held c.in-Err.ensures.memory

pub returns-then-head-index-clause-merged : goal.returns-then-head-index-clause-merged
returns-then-head-index-clause-merged g c = merged_or_not _ refl

pub returns-in-Ok-clause-merged : goal.returns-in-Ok-clause-merged
returns-in-Ok-clause-merged g c = merged_or_not _ refl

pub returns-in-Err-clause-merged : goal.returns-in-Err-clause-merged
returns-in-Err-clause-merged g c = refused_or_not _ _ _ refl

pub returns-then-head-index-clause-back : goal.returns-then-head-index-clause-back
returns-then-head-index-clause-back g c =
    back_given c.requires.way c.requires.held c.give_back.ensures.gave

pub lift-requires-clause-held : goal.lift-requires-clause-held
lift-requires-clause-held g c = let h = c.requires.held in let p = c.args.pass.now in
    let page = c.held_page-page.ensures h.up h.above.page
    (frame_has p c.requires.way.known c.args.parent h.up h.knows_up) h.above.paged in
    let number = c.head.ensures ∙ ap (λ (r : PageRows). r.head) page in
    let counted = c.count.ensures ∙ ap (λ (r : PageRows). length r.rows) page in
    let few = c.if-count-gt1.false in
    can_lift c.requires.way h
    (sym (ap (λ (z : PageHead). z.number) number) ∙ c.if-head-index.false)
    (omega (arith, counted, few))

pub lift-requires-clause-frames : goal.lift-requires-clause-frames
lift-requires-clause-frames g c =
    no_frame_but c.args.space.now c.args.pass.now c.requires.own.0 c.requires.own.1 c.args.index
    c.args.key.now.tuple (c.args.parent ∷ c.args.child ∷ []) c.requires.way

pub lift-requires-clause-tables : goal.lift-requires-clause-tables
lift-requires-clause-tables g c =
    no_table c.args.space.now c.args.pass.now c.requires.own.0 c.requires.own.1 c.args.index
    c.args.key.now.tuple (c.args.parent ∷ c.args.child ∷ []) c.requires.way

pub returns-in-Ok-clause-back : goal.returns-in-Ok-clause-back
returns-in-Ok-clause-back g c =
    back_lifted c.requires.way c.requires.held c.in-Ok.ensures.ok

pub returns-in-Err-clause-back : goal.returns-in-Err-clause-back
returns-in-Err-clause-back g c =
    back_failed c.requires.way c.requires.held c.in-Err.ensures.memory
    c.give_back-in-Err.ensures.gave
