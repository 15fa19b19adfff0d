use Rattle.std.proofs.lemmas.Result.{on_ok_weaker, on_err_weaker}
use Rattle.tree_restructure.proofs.OutcomeLemmas.{suits_pages, cuts_in, same_frame}
use Rattle.tree_restructure.proofs.cut.cut_in.Goals as goal

pub cut_page-requires : goal.cut_page-requires
cut_page-requires c = let both = c.in-Some-Some in let cut = c.args.cut.now in
    suits_pages c.args.left.now c.args.right.now both.page both.fresh cut.place cut.key.tuple
    c.requires both.is-0 both.is-1

pub returns-clause-ok : goal.returns-clause-ok
returns-clause-ok c = let both = c.in-Some-Some in let cut = c.args.cut.now in
    on_ok_weaker c.cut_page.result (cuts_in c.args.left.now c.args.right.now both.page
    c.cut_page.new.left both.fresh c.cut_page.new.right cut.place cut.key.tuple c.requires
    both.is-0 both.is-1) c.cut_page.ensures.ok

pub returns-clause-right_err : goal.returns-clause-right_err
returns-clause-right_err c = on_err_weaker c.cut_page.result
    (same_frame c.args.right.now c.in-Some-Some.fresh c.cut_page.new.right c.in-Some-Some.is-1)
    c.cut_page.ensures.right_err

pub returns-clause-err : goal.returns-clause-err
returns-clause-err c = on_err_weaker c.cut_page.result
    (same_frame c.args.left.now c.in-Some-Some.page c.cut_page.new.left c.in-Some-Some.is-0)
    c.cut_page.ensures.err
