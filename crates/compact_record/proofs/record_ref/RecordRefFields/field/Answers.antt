use Rattle.std.proofs.Common.{◌∙◌}
use Rattle.compact_record.proofs.ReadingLemmas.{key_measured, field_small, key_field_is}
use Rattle.compact_record.proofs.record_ref.RecordRefFields.field.Goals as goal

pub measured_part-requires-clause-measured : goal.measured_part-requires-clause-measured
measured_part-requires-clause-measured c = key_measured c.args.i c.self.view_is c.requires

pub returns-clause-fits : goal.returns-clause-fits
returns-clause-fits c = field_small c.args.i c.measured_part.result.now c.self.view_is c.self.invariant.sound c.requires c.measured_part.ensures

pub returns-clause-bytes : goal.returns-clause-bytes
returns-clause-bytes c = c.measured_part.ensures ∙ key_field_is c.args.i c.self.view_is c.requires

pub measured_part-requires-clause-there : goal.measured_part-requires-clause-there
measured_part-requires-clause-there c = c.self.invariant
