-- The page without rows.
use Rattle.std.proofs.Common.{ℕ, zero, suc, ◌<◌, ◌≤◌, List, [], ◌∷◌, slice_index, nat_eq, count_by, refl, arith}
use Rattle.std.proofs.lemmas.Bool.Decides.{nat_tests}
use Rattle.compact_record.specs.declared.kind.RecordKind.TheVariants as kinds
use Rattle.page_mirror.specs.Mirror.{Mirrors}
use Rattle.page_mirror.specs.Empty.{empty_mirror}
use Rattle.page_directory.specs.Sizes.{MayOwn}
use Rattle.page_heap.specs.Heap.{record_from}
use Rattle.page_rows.specs.Spelling.{PageParts, SpellsRows, IsPageOfRows}

-- two numbers, each counted once
ends_once : (h : ℕ) → count_by (λ k. nat_eq k h) (0 ∷ 1 ∷ []) ≤ 1
ends_once zero = omega arith
ends_once (suc zero) = omega arith
ends_once (suc (suc h)) = grind (arith, nat_tests)

ends_there : (h : ℕ) → h < 2 → 1 ≤ count_by (λ k. nat_eq k h) (0 ∷ 1 ∷ [])
ends_there zero w = omega arith
ends_there (suc zero) w = omega arith
ends_there (suc (suc h)) w = absurd (omega arith)

ends_sized : (s : ℕ) → s < 2 → MayOwn 2 s (slice_index (1 ∷ 1 ∷ []) s)
ends_sized zero w = record { alone = λ e. refl; some = omega arith; most = omega arith; least = λ a b. absurd (omega arith) }
ends_sized (suc zero) w = record { alone = λ e. refl; some = omega arith; most = omega arith; least = λ a b. absurd (omega arith) }
ends_sized (suc (suc s)) w = absurd (omega arith)

abbrev pub empty_parts : List ℕ → PageParts
empty_parts old = record {
  mirror = empty_mirror old;
  of = λ h. record_from 120 h kinds.Row [] [];
  groups = record { front = []; owner = 0 } ∷ record { front = []; owner = 1 } ∷ [];
  inner = [];
  free = [];
}

pub empty_spells : (bytes old : List ℕ) (fields : ℕ) → Mirrors bytes (empty_mirror old) → SpellsRows bytes fields (empty_parts old) []
empty_spells bytes old fields r = record {
  page = record {
    is = r;
    groups = record { slots = refl; owned = (record { owner = refl; front = tt }, (record { owner = refl; front = tt }, tt)) };
    order = record { linked = (refl, tt); once = ends_once; inside = (omega arith, (omega arith, tt)); rows = refl };
  };
  sizes = record { two = omega arith; each = ends_sized };
  list = refl;
  whole = ends_there;
  last = refl;
  rows = tt;
  free_from = refl;
  free_on = tt;
  used = refl;
  freed = omega arith;
}

pub empty_is_page : (bytes old : List ℕ) (fields : ℕ) → Mirrors bytes (empty_mirror old) → IsPageOfRows bytes fields
empty_is_page bytes old fields r = record { parts = empty_parts old; spells = empty_spells bytes old fields r }
