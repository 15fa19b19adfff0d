-- The exit status of each end.
use Rattle.std.specs.Prelude.{ℕ}
use Rattle.ahi_cli.specs.declared.status.Status.{Status}
use Rattle.ahi_cli.specs.declared.status.Status.TheVariants.{Done, Script, Usage, ShelfFault, SinkFault, TooLarge, NoMemory}

-- the number of a status
abbrev pub number_of : Status → ℕ
number_of Done = 0
number_of Script = 1
number_of Usage = 2
number_of ShelfFault = 3
number_of SinkFault = 4
number_of TooLarge = 5
number_of NoMemory = 6
