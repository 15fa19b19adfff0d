use Rattle.leaf_rows.proofs.SetLemmas.{written_is}
use Rattle.leaf_rows.proofs.setting.rewrite.Goals as goal

pub returns : goal.returns
returns c = written_is c.args.page.now c.set.new.self c.args.place c.args.value.now c.set.result
    c.is_in_order.ensures c.requires.there c.requires.level c.requires.no_longer
    c.set.ensures.no_longer c.set.ensures.ok
