use Rattle.script.proofs.NameFacts.{alike_empty}
use Rattle.script.proofs.draft.Draft.has_room_for_setting.Goals as goal

pub returns-then-is_empty : goal.returns-then-is_empty
returns-then-is_empty c = rw (c.is_given.ensures, c.deref.ensures.value, alike_empty c.args.self.now.names _ c.if-is_empty.ensures)

pub returns-else-is_empty : goal.returns-else-is_empty
returns-else-is_empty c = rw (c.if-is_empty.false, alike_empty c.args.self.now.names _ c.if-is_empty.ensures)
