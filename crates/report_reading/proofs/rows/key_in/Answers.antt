use Rattle.script.specs.Views.{text_fields}
use Rattle.report_reading.proofs.WordLemmas.{key_read}
use Rattle.report_reading.proofs.rows.key_in.Goals as goal

pub returns : goal.returns
returns c = key_read c.args.fields c.args.word.now (text_fields c.in_ok-text.text) c.in_ok-key_within.field-0.tuple c.in_ok-text.ensures.fields c.in_ok-key_within.ensures
