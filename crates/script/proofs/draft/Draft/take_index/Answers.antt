use Rattle.std.proofs.Common.{sym}
use Rattle.script.specs.Views.{draft_text}
use Rattle.script.proofs.SchemaFacts.{taken_name}
use Rattle.script.proofs.draft.Draft.take_index.Goals as goal

pub add-requires : goal.add-requires
add-requires c = taken_name (draft_text c.args.self.now) c.in-Some.name.now (sym c.if-not-has_room_for.ensures)
