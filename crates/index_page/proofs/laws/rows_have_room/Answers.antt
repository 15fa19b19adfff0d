use Rattle.std.proofs.Common.{arith}
use Rattle.index_page.proofs.RoomLemmas.{charge_within, two_rows}
use Rattle.index_page.proofs.laws.rows_have_room.Goals as goal

pub returns : goal.returns
returns c = record {
  most = charge_within;
  empty = λ head x of. omega (arith, charge_within head x of);
  full = two_rows;
}
