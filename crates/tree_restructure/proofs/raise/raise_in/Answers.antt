use Rattle.std.proofs.lemmas.Result.{on_ok_weaker, on_err_weaker}
use Rattle.tree_restructure.proofs.OutcomeLemmas.{raises_in, same_frame}
use Rattle.tree_restructure.proofs.raise.raise_in.Goals as goal

pub returns-clause-ok : goal.returns-clause-ok
returns-clause-ok c = let both = c.in-Some-Some in on_ok_weaker c.raise_page.result
    (raises_in c.args.root.now c.args.below.now both.page c.raise_page.new.root both.fresh
    c.raise_page.new.below c.requires both.is-0 both.is-1) c.raise_page.ensures.ok

pub returns-clause-below_err : goal.returns-clause-below_err
returns-clause-below_err c = on_err_weaker c.raise_page.result
    (same_frame c.args.below.now c.in-Some-Some.fresh c.raise_page.new.below c.in-Some-Some.is-1)
    c.raise_page.ensures.below_err

pub returns-clause-err : goal.returns-clause-err
returns-clause-err c = on_err_weaker c.raise_page.result
    (same_frame c.args.root.now c.in-Some-Some.page c.raise_page.new.root c.in-Some-Some.is-0)
    c.raise_page.ensures.err
