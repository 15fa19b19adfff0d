use Rattle.compact_record.proofs.BytesLemmas.{same_outside_part, spells_part}
use Rattle.compact_record.proofs.bytes.put_bytes.Goals as goal

pub returns-clause-spells : goal.returns-clause-spells
returns-clause-spells c = spells_part c.args.at c.args.bytes.now c.copy_from_slice.new.self c.args.part.now c.copy_from_slice.ensures.after c.requires

pub returns-clause-kept : goal.returns-clause-kept
returns-clause-kept c = same_outside_part c.args.at c.args.bytes.now c.copy_from_slice.new.self c.args.part.now c.copy_from_slice.ensures.after c.requires
