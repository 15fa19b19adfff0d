-- How many records the owners own after a call on slots.
use Rattle.std.proofs.Common.{◌≡◌, ℕ, ◌+◌, ◌-◌, ◌<◌, ◌≤◌, List, ◌++◌, length, get_or, ◌∙◌, arith, length-append, inl, inr}
use Rattle.std.proofs.lemmas.List.{get_or_append_left, get_or-append-add}
use Rattle.std.proofs.lemmas.Bool.{cases_lt}
use Rattle.page_directory.specs.Sizes.{MayOwn, IsSized}

-- an owner with as many slots before it, and still not the last
pub may_before : {c k n : ℕ} (c' : ℕ) → MayOwn c k n → k + 1 < c → MayOwn c' k n
may_before c' m inner = record { alone = m.alone; some = m.some; most = m.most; least = λ b w. m.least b inner }

-- an owner in another slot than the first, which is the last only where it was
pub may_moved : {c k n : ℕ} (c' k' : ℕ) → MayOwn c k n → 1 ≤ k → 1 ≤ k' → (k' + 1 < c' → k + 1 < c) → MayOwn c' k' n
may_moved c' k' m low low' inner = record {
  alone = λ e. absurd (omega arith);
  some = m.some;
  most = m.most;
  least = λ b w. m.least low (inner w);
}

-- an owner of four to eight
pub may_inner : (c k n : ℕ) → 1 ≤ k → 4 ≤ n → n ≤ 8 → MayOwn c k n
may_inner c k n low few many = record {
  alone = λ e. absurd (omega arith);
  some = omega arith;
  most = many;
  least = λ b w. few;
}

-- the sizes behind those that changed
pub get_behind : (low mid high : List ℕ) (k : ℕ) → get_or (low ++ (mid ++ high)) (length low + length mid + k) 0 ≡ get_or high k 0
get_behind low mid high k =
    let at : length low + length mid + k ≡ length low + (length mid + k) = omega arith in
    rw at (get_or-append-add low (mid ++ high) (length mid + k) 0 ∙ get_or-append-add mid high k 0)

-- the slots low stay, those of mid change to mid', and those of high stay behind them
pub sized_again : (low mid mid' high : List ℕ) → 1 ≤ length low → 1 ≤ length mid'
    → ((k : ℕ) → k < length low → MayOwn (length (low ++ (mid ++ high))) k (get_or low k 0)) → 1 ≤ length mid
    → ((k : ℕ) → k < length mid' → MayOwn (length (low ++ (mid' ++ high))) (length low + k) (get_or mid' k 0))
    → ((k : ℕ) → k < length high → MayOwn (length (low ++ (mid ++ high))) (length low + length mid + k) (get_or high k 0))
    → IsSized (low ++ (mid' ++ high))
sized_again low mid mid' high some some' early some_mid changed late =
    let size = length-append low (mid ++ high) in
    let size_mid = length-append mid high in
    let size' = length-append low (mid' ++ high) in
    let size_mid' = length-append mid' high in
    record {
      two = omega arith;
      each = λ k w. elim (cases_lt k (length low)) [
        | inl below ↦ rw (get_or_append_left low (mid' ++ high) 0 k below) (may_before (length (low ++ (mid' ++ high))) (early k below) (omega arith))
        | inr above ↦ elim (cases_lt k (length low + length mid')) [
          | inl within ↦
              let j = k - length low in
              let is : k ≡ length low + j = omega arith in
              rw (is, get_or-append-add low (mid' ++ high) j 0, get_or_append_left mid' high 0 j (omega arith)) (changed j (omega arith))
          | inr behind ↦
              let j = k - (length low + length mid') in
              let is : k ≡ length low + length mid' + j = omega arith in
              rw (is, get_behind low mid' high j)
              (may_moved (length (low ++ (mid' ++ high))) (length low + length mid' + j) (late j (omega arith)) (omega arith) (omega arith) (λ i. omega arith))
        ]
      ];
    }
