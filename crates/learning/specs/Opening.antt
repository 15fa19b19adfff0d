-- What an index and a block begin with.
use Rattle.std.specs.Prelude.{true, false, None}
use Rattle.key_tuple.specs.declared.mode.Params.{Params}
use Rattle.learning.specs.declared.info.Info.{Info}
use Rattle.learning.specs.declared.event.BlockFigures.{BlockFigures}

-- one whole field, and the first row of a group
abbrev pub opening_params : Params
opening_params = record { fields = 1; bytes = 0; left = true }

-- an index that has learnt nothing
abbrev pub opening_info : Info
opening_info = record {
  analysis = 0;
  potential = 0;
  params = opening_params;
  last = false;
  events = 0;
}

-- a block of which nothing is known
abbrev pub opening_block : BlockFigures
opening_block = record { helps = 0; advice = opening_params; built = None }
