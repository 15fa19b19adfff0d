use Rattle.std.proofs.Common.{[], ◌∷◌, refl, sym, arith}
use Rattle.forest_law.proofs.OnePutLemmas.{one_put_is_lawful}
use Rattle.lane_law.specs.Example.{key, value}
use Rattle.map_history.specs.Report.{unlearnt}
use Rattle.lane_law.proofs.laws.example_stands.Goals as goal

pub returns : goal.returns
returns c sizes pool one room first = let restored = one_put_is_lawful.restores 0 pool key (omega arith) first in (
  restored.now,
  record {
    lawful = restored.lawful value unlearnt (0 ∷ 0 ∷ 0 ∷ 0 ∷ []) sizes.max_changes 2;
    lists = refl;
    latches = refl;
    passes = refl;
    max_changes = refl;
    room = room;
    indexes = refl;
    pages = sym one;
  },
)
