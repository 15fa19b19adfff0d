use Rattle.std.proofs.Common.{Some, Err, ◌≡◌, IfSome, option_and_then, sym, subst}
use Rattle.std.proofs.lemmas.Result.{IfOk-weaker, on_err_weaker}
use Rattle.index_page.specs.Changes.{Inserts}
use Rattle.index_page.specs.Rows.{Child, placed_row}
use Rattle.index_page.specs.Refusals.{insert_refusal}
use Rattle.index_page.specs.Page.{PageRows}
use Rattle.tree_restructure.specs.Pointers.{PutsBehind}
use Rattle.tree_restructure.proofs.FrameCutLemmas.{puts_pointer}
use Rattle.tree_restructure.proofs.OutcomeLemmas.{same_frame}
use Rattle.tree_restructure.proofs.pointer.put_pointer.Goals as goal

pub returns-clause-ok : goal.returns-clause-ok
returns-clause-ok c = IfOk-weaker c.put_in.result
    (λ place. Inserts c.in-Some.page c.put_in.new.page
    (placed_row place c.args.key.now.tuple (Child c.args.child)))
    (λ place. PutsBehind place c.args.child c.args.parent.now
    (record c.args.parent.now { page = Some c.put_in.new.page }) c.args.key.now.tuple)
    (λ place i. puts_pointer place c.args.child c.args.parent.now c.in-Some.page
    c.put_in.new.page c.args.key.now.tuple c.in-Some.is i c.put_in.ensures.order)
    c.put_in.ensures.ok

pub returns-clause-err : goal.returns-clause-err
returns-clause-err c = on_err_weaker c.put_in.result
    (same_frame c.args.parent.now c.in-Some.page c.put_in.new.page c.in-Some.is)
    c.put_in.ensures.err

pub returns-clause-refused : goal.returns-clause-refused
returns-clause-refused c = subst
    (λ o. IfSome (option_and_then (λ (page : PageRows). insert_refusal page c.args.key.now.tuple (Child c.args.child)) o) (λ e. c.put_in.result ≡ Err e))
    (sym c.in-Some.is) c.put_in.ensures.refused
