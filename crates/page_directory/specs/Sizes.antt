-- How many records the owners of a page's slots own.
use Rattle.std.specs.Prelude.{◌≡◌, ℕ, ◌+◌, ◌-◌, ◌<◌, ◌≤◌, List, ◌∷◌, ◌++◌, length, map, slice_index, take, drop, nat_le, if◌then◌else◌}
use Rattle.page_directory.specs.Groups.{Group}

-- for each slot how many records its owner owns, itself among them
abbrev pub group_sizes : List Group → List ℕ
group_sizes gs = map (λ (g : Group). length g.front + 1) gs

-- the owner of slot s, of so many slots, may own n records: the first slot's is alone, the last
-- one's owns up to eight, and any other four to eight
pub record MayOwn (count s n : ℕ) : Type 0 where
  pub alone : s ≡ 0 → n ≡ 1
  pub some : 1 ≤ n
  pub most : n ≤ 8
  pub least : 1 ≤ s → s + 1 < count → 4 ≤ n

-- each owner owns as many as it may
pub record IsSized (ns : List ℕ) : Type 0 where
  pub two : 2 ≤ length ns
  pub each : (s : ℕ) → s < length ns → MayOwn (length ns) s (slice_index ns s)

-- so does each but that of slot s, which isn't the first and owns n
pub record IsSizedBut (s n : ℕ) (ns : List ℕ) : Type 0 where
  pub behind : 1 ≤ s
  pub within : s < length ns
  pub here : slice_index ns s ≡ n
  pub others : (k : ℕ) → k < length ns → (k ≡ s → ⊥) → MayOwn (length ns) k (slice_index ns k)

-- slot s split into four and five
abbrev pub sizes_split : ℕ → List ℕ → List ℕ
sizes_split s ns = take s ns ++ 4 ∷ 5 ∷ drop (s + 1) ns

-- slot s, which is one short, with one record of the next slot, which has n
abbrev pub sizes_moved : ℕ → ℕ → List ℕ → List ℕ
sizes_moved s n ns = take s ns ++ 4 ∷ (n - 1) ∷ drop (s + 2) ns

-- slot s, which had three, in one with the next slot, which has n
abbrev pub sizes_joined : ℕ → ℕ → List ℕ → List ℕ
sizes_joined s n ns = take s ns ++ (n + 3) ∷ drop (s + 2) ns

-- slot s, which has three, gets one record of the next slot where that has more than four, and else
-- is one with it
abbrev pub sizes_balanced : ℕ → List ℕ → List ℕ
sizes_balanced s ns =
    let n = slice_index ns (s + 1) in
    if nat_le n 4 then sizes_joined s n ns else sizes_moved s n ns
