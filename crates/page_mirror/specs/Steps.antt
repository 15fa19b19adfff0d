-- Records by their origins, and what a step changes of the mirror.
use Rattle.std.specs.Prelude.{◌≡◌, ℕ, ◌<◌, List}
use Rattle.page_mirror.specs.Mirror.{Mirror, Mirrors, origin_of, changed}

-- `at` is the origin of record h
pub record HasOrigin (bytes : List ℕ) (m : Mirror) (h at : ℕ) : Type 0 where
  pub is : Mirrors bytes m
  pub within : h < m.count
  pub placed : origin_of m h ≡ at

-- record p leads to record q
abbrev pub led : Mirror → ℕ → ℕ → Mirror
led m p q = record m { next = changed m.next p q }

-- record h owns n records
abbrev pub owning : Mirror → ℕ → ℕ → Mirror
owning m h n = record m { owned = changed m.owned h n }

-- the slots are these
abbrev pub naming : Mirror → List ℕ → Mirror
naming m slots = record m { slots = slots }
