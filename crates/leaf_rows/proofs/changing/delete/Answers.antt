use Rattle.index_page.proofs.WithoutLemmas.{deleted_is}
use Rattle.leaf_rows.proofs.changing.delete.Goals as goal

pub returns-clause-done : goal.returns-clause-done
returns-clause-done c = deleted_is c.args.page.now c.delete.new.self c.args.place
    c.is_in_order.ensures.places c.delete.ensures
