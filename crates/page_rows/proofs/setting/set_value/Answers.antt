use Rattle.std.proofs.Common.{◌∙◌, arith}
use Rattle.page_rows.proofs.DeleteRowLemmas.{row_between, record_between}
use Rattle.page_rows.proofs.SetLemmas.{value_there, value_set}
use Rattle.page_rows.proofs.setting.set_value.Goals as goal

pub measure-requires-clause-there : goal.measure-requires-clause-there
measure-requires-clause-there c = record_between (row_between c.requires.3.row_there)

pub overflow_sub-end : goal.overflow_sub-end
overflow_sub-end c = (value_there c.requires.3 (c.from-end.ensures ∙ c.measure.ensures.end)).less

pub put_bytes-requires : goal.put_bytes-requires
put_bytes-requires c =
    let t = value_there c.requires.3 (c.from-end.ensures ∙ c.measure.ensures.end) in
    let fits = t.fits in
    let less = t.less in
    omega (arith, c.requires.3.row_there.page.spells.page.is.len)

pub returns : goal.returns
returns c = λ left row right can.
    value_set can (c.from-end.ensures ∙ c.measure.ensures.end) c.put_bytes.ensures.spells c.put_bytes.ensures.kept
