-- Which causes are a miss.
use Rattle.std.specs.Prelude.{Bool, true, false}
use Rattle.hash_guess.specs.declared.cause.Cause.{Cause}
use Rattle.hash_guess.specs.declared.cause.Cause.TheVariants.{Cold, Short, PartBusy, NoEntry, BlockBusy, Unequal}

-- the hash was asked
abbrev pub is_miss : Cause → Bool
is_miss Cold = false
is_miss (Short have need) = false
is_miss (PartBusy n) = true
is_miss (NoEntry fold) = true
is_miss (BlockBusy n) = true
is_miss (Unequal block place) = true
