use Rattle.std.proofs.Common.{◌∙◌}
use Rattle.report_text.proofs.LineLemmas.{Stays-where_err, put_where_ok}
use Rattle.report_text.proofs.word.put_number.Goals as goal

pub returns-clause-ok : goal.returns-clause-ok
returns-clause-ok c = put_where_ok _ _ _ _ _ (c.as_bytes.ensures.value ∙ c.format.ensures.text) c.extend_from_slice.ensures.items

pub returns-clause-err : goal.returns-clause-err
returns-clause-err c = Stays-where_err _ _ _ _ c.extend_from_slice.ensures.items
