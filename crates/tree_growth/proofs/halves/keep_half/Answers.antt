use Rattle.std.proofs.Common.{sym, ◌∙◌}
use Rattle.tree_growth.proofs.HalvesLemmas.{low_of_right, lower_may_go, upper_may_go, lower_held, upper_held, keeps_lower, keeps_upper}
use Rattle.tree_growth.proofs.halves.keep_half.Goals as goal

pub is_below-requires-clause-held : goal.is_below-requires-clause-held
is_below-requires-clause-held c =
    low_of_right c.args.pass.now c.args.index c.args.key.now.tuple c.args.left c.args.right
    c.requires.way c.requires.held

pub give_back-requires-clause-held : goal.give_back-requires-clause-held
give_back-requires-clause-held c = let p = c.args.pass.now in
    upper_may_go p p c.args.index c.args.key.now.tuple c.args.left c.args.right c.requires.way
    c.requires.held

pub page_in_hand-requires-clause-held : goal.page_in_hand-requires-clause-held
page_in_hand-requires-clause-held c =
    lower_held c.args.pass.now c.give_back.new.pass c.args.index c.args.key.now.tuple c.args.left
    c.args.right c.requires.way c.requires.held c.give_back.ensures.gave

pub give_back-requires-else-is_below-clause-held : goal.give_back-requires-else-is_below-clause-held
give_back-requires-else-is_below-clause-held c = let p = c.args.pass.now in
    lower_may_go p p c.args.index c.args.key.now.tuple c.args.left c.args.right c.requires.way
    c.requires.held

pub page_in_hand-requires-else-is_below-clause-held :
    goal.page_in_hand-requires-else-is_below-clause-held
page_in_hand-requires-else-is_below-clause-held c =
    upper_held c.args.pass.now c.give_back-else-is_below.new.pass c.args.index
    c.args.key.now.tuple c.args.left c.args.right c.requires.way c.requires.held
    c.give_back-else-is_below.ensures.gave

pub returns-then-is_below-clause-kept : goal.returns-then-is_below-clause-kept
returns-then-is_below-clause-kept c =
    let p = c.args.pass.now in let i = c.args.index in let key = c.args.key.now.tuple in
    keeps_lower p c.give_back.new.pass i key c.args.need c.args.left c.args.right c.requires.way
    c.requires.need c.page_in_hand.result c.requires.held c.give_back.ensures.gave
    c.page_in_hand.ensures
    (λ it. sym (c.is_below.ensures
    (low_of_right p i key c.args.left c.args.right c.requires.way it)) ∙ c.if-is_below.true)

pub returns-else-is_below-clause-kept : goal.returns-else-is_below-clause-kept
returns-else-is_below-clause-kept c =
    let p = c.args.pass.now in let i = c.args.index in let key = c.args.key.now.tuple in
    keeps_upper p c.give_back-else-is_below.new.pass i key c.args.need c.args.left c.args.right
    c.requires.way c.requires.need c.page_in_hand-else-is_below.result c.requires.held
    c.give_back-else-is_below.ensures.gave c.page_in_hand-else-is_below.ensures
    (λ it. sym (c.is_below.ensures
    (low_of_right p i key c.args.left c.args.right c.requires.way it)) ∙ c.if-is_below.false)
