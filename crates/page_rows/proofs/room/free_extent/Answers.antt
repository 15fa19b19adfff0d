use Rattle.std.proofs.Common.{◌∙◌, ℕ, sym, subst}
use Rattle.compact_record.specs.Reading.{HasRecord}
use Rattle.compact_record.proofs.LawLemmas.{record_there}
use Rattle.page_rows.proofs.RoomLemmas.{free_some, free_there}
use Rattle.page_rows.proofs.room.free_extent.Goals as goal

pub measure-requires-clause-there : goal.measure-requires-clause-there
measure-requires-clause-there c =
    let page = c.requires.page in
    let p = page.parts in
    let at = c.requires.head page in
    let some = free_some page.spells (λ e. c.if-at-eq0.false (at ∙ e)) in
    let there = free_there some.0 some.1 page.spells some.2 in
    subst (λ (x : ℕ). HasRecord c.args.page.now x c.args.fields) (sym at) (record_there c.args.page.now p.mirror.free c.args.fields (p.of some.0) there.is)
