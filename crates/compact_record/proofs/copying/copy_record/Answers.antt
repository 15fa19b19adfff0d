use Rattle.compact_record.specs.Reading.{record_at}
use Rattle.compact_record.proofs.LawLemmas.{record_there, record_read}
use Rattle.compact_record.proofs.CopyLemmas.{copy_made, part_fits}
use Rattle.compact_record.proofs.copying.copy_record.Goals as goal

pub returns-clause-there : goal.returns-clause-there
returns-clause-there c =
    record_there c.put_bytes.new.bytes _ c.args.fields _
    (copy_made c.args.page.now c.put_bytes.new.bytes c.args.to.now c.get_bytes.result.now c.args.place c.args.fields c.measure-extent.result.start c.measure-extent.result.end c.from.result c.from-size.result
    (record_at c.args.page.now c.args.place c.args.fields) c.requires.there c.measure-extent.ensures.start c.measure-extent.ensures.end c.from.ensures c.from-size.ensures c.get_bytes.ensures
    c.put_bytes.ensures.spells c.put_bytes.ensures.kept.len c.requires.room)

pub returns-clause-same : goal.returns-clause-same
returns-clause-same c =
    record_read c.put_bytes.new.bytes _ c.args.fields _
    (copy_made c.args.page.now c.put_bytes.new.bytes c.args.to.now c.get_bytes.result.now c.args.place c.args.fields c.measure-extent.result.start c.measure-extent.result.end c.from.result c.from-size.result
    (record_at c.args.page.now c.args.place c.args.fields) c.requires.there c.measure-extent.ensures.start c.measure-extent.ensures.end c.from.ensures c.from-size.ensures c.get_bytes.ensures
    c.put_bytes.ensures.spells c.put_bytes.ensures.kept.len c.requires.room)

pub put_bytes-requires : goal.put_bytes-requires
put_bytes-requires c =
    part_fits c.args.page.now c.args.to.now c.get_bytes.result.now c.measure-extent.result.start c.measure-extent.result.end c.from.result c.from-size.result
    (record_at c.args.page.now c.args.place c.args.fields) c.requires.there.stands.fits c.measure-extent.ensures.start c.measure-extent.ensures.end c.from.ensures c.from-size.ensures
    c.get_bytes.ensures c.requires.room

pub measure-extent-requires-clause-there : goal.measure-extent-requires-clause-there
measure-extent-requires-clause-there c = c.requires.there
