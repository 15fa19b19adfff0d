-- Whether a partition keeps up with a change of rows.
use Rattle.std.specs.Prelude.{ℕ, ◌≡◌, ◌<◌, nat_lt, if◌then◌else◌, List, [], ◌∷◌, ◌++◌}
use Rattle.index_page.specs.Rows.{Row}
use Rattle.chain_arena.specs.declared.node.Node.{Node}
use Rattle.hash_law.specs.Sums.{need_of, spare_after}
use Rattle.hash_upkeep.specs.declared.hashing.Hashing.{Hashing}
use Rattle.hash_upkeep.specs.declared.upkeep.Upkeep.{Upkeep}
use Rattle.hash_upkeep.specs.declared.upkeep.Upkeep.TheVariants.{Kept, Dropped}
use Rattle.hash_upkeep.specs.Change.{row_brings, row_drives}

-- kept exactly where what has to be entered is no more than what can be
abbrev pub upkeep_by : (need spare : ℕ) → Upkeep
upkeep_by need spare = if nat_lt spare need then Dropped need spare else Kept

-- the same where some nodes go before others come
abbrev pub upkeep_of : (spare : ℕ) → (goes comes : List Node) → Upkeep
upkeep_of spare goes comes = upkeep_by (need_of comes) (spare_after spare goes)

-- one fact where it kept up, and another where it dropped the block
abbrev pub IfKept : Upkeep → Type 0 → Type 0 → Type 0
IfKept Kept A B = A
IfKept (Dropped need spare) A B = B

-- these nodes where it kept up, and none where it dropped the block
abbrev pub kept_entries : Upkeep → List Node → List Node
kept_entries Kept ms = ms
kept_entries (Dropped need spare) ms = []

-- where it dropped the block, fewer nodes are spare then than this
abbrev pub LacksIfDropped : Upkeep → (spare need : ℕ) → Type 0
LacksIfDropped Kept spare need = Unit {0}
LacksIfDropped (Dropped needed was) spare need = spare < need

-- the answer is told by what the row at a place brings in and drives out
pub record IsRowAnswer (how : Hashing) (rows : List Row) (place : ℕ)
    (answer_of : (brought driven : List Node) → Upkeep) (answer : Upkeep) : Type 0 where
  pub left : List Row
  pub row : Row
  pub right : List Row
  pub parts : rows ≡ left ++ row ∷ right
  pub place_is : row.place ≡ place
  pub is : answer ≡ answer_of (row_brings how left row right) (row_drives how left row right)
