use Rattle.map_history.proofs.RoomLemmas.{room-no_space_full}
use Rattle.map_history.proofs.laws.reports_without_full_have_room.Goals as goal

pub returns : goal.returns
returns c = room-no_space_full
