use Rattle.std.proofs.Common.{sym, ap, ◌∙◌, subst}
use Rattle.search_info.specs.Passes.{HasUnique}
use Rattle.forest_law.specs.State.{fields_for}
use Rattle.tree_descent.proofs.PageLemmas.{may_give_back}
use Rattle.engine_tests.proofs.EmptyLemmas.{none_has_frame, none_has_table}
use Rattle.engine_tests.proofs.plot.hash.Goals as goal

pub search_key-requires-clause-unique : goal.search_key-requires-clause-unique
search_key-requires-clause-unique g c = subst (λ n. HasUnique c.open_learner-learner.result.0 0 n)
    (sym (ap (λ t. fields_for t.shape 0) c.requires.own.1 ∙ c.requires.two)) c.open_learner-learner.ensures.two

pub search_key-requires-clause-frames : goal.search_key-requires-clause-frames
search_key-requires-clause-frames g c = none_has_frame c.args.space.now c.args.pass.now
    c.requires.forest c.requires.own c.requires.nothing

pub search_key-requires-clause-tables : goal.search_key-requires-clause-tables
search_key-requires-clause-tables g c = none_has_table c.args.space.now c.args.pass.now
    c.requires.forest c.requires.own c.requires.nothing

pub give_back-requires-clause-held : goal.give_back-requires-clause-held
give_back-requires-clause-held g c = let found = c.in-Leaf.ensures.searched.0 in
    may_give_back c.search_key.new.pass found.silently.does.known c.in-Leaf.searched.leaf.block 0 0
    found.frame found.knows found.is.page.is
