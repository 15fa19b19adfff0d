-- What a build answers, and what a block has in its partition afterwards.
use Rattle.std.specs.Prelude.{ℕ, ◌≡◌, ◌<◌, nat_lt, if◌then◌else◌, Option, Some, None, List, [], length}
use Rattle.key_tuple.specs.declared.mode.Params.{Params}
use Rattle.index_page.specs.Rows.{Row}
use Rattle.hash_partition.specs.Part.{Part}
use Rattle.hash_upkeep.specs.declared.hashing.Hashing.{Hashing}
use Rattle.hash_upkeep.specs.declared.built.Build.{Build}
use Rattle.hash_upkeep.specs.declared.built.Build.TheVariants.{Built, NotNeeded, ArenaFull}
use Rattle.hash_upkeep.specs.Hashing.{row_entries}
use Rattle.hash_upkeep.specs.Cover.{Renews}

-- built exactly where what is needed is no more than what is spare
abbrev pub build_by : (need spare : ℕ) → Build
build_by need spare = if nat_lt spare need then ArenaFull need spare else Built need

-- with which parameters a block is hashed after a build with these, if it is
abbrev pub built_after : Build → Params → Option Params
built_after (Built nodes) params = Some params
built_after NotNeeded params = Some params
built_after (ArenaFull need spare) params = None

-- where the arena was full, fewer nodes are spare then than this
abbrev pub LacksIfFull : Build → (spare need : ℕ) → Type 0
LacksIfFull (Built nodes) spare need = Unit {0}
LacksIfFull NotNeeded spare need = Unit {0}
LacksIfFull (ArenaFull needed was) spare need = spare < need

-- a build of a block that was hashed in another way, or not at all: once its old entries are out,
-- which `out` shows, the spare nodes tell the answer
pub record BuildsAnew (how : Hashing) (rows : List Row) (old new : Part)
    (answer : Build) : Type 0 where
  pub out : Part
  pub empties : Renews how.block [] old out
  pub is : answer ≡ build_by (length (row_entries how rows)) out.spare
