-- The lowest age of each run of blocks, and the block that it leads to.
use Rattle.std.proofs.Common.{◌≡◌, ◌≢◌, ℕ, ◌+◌, ◌*◌, ◌/◌, ◌<◌, ◌≤◌, ◌⊎◌, inl, inr, List, length, get_or, set, replicate, refl, sym, ap, subst, ◌∙◌, arith, None}
use Rattle.std.proofs.lemmas.Bool.{cases_eq}
use Rattle.std.proofs.lemmas.List.{get_or-set_same, get_or-set_other, get_or-replicate, length-set, length-replicate}
use Rattle.block_ages.specs.Order.{ComesBefore, IsNext}
use Rattle.block_ages.specs.Lows.{run_of, end_of, IsAgeIn, AreLows, IsLowestIn}

-- blocks of age 0 have runs of lowest age 0
pub first_lows : (count runs : ℕ) → runs ≡ (count + 63) / 64
    → AreLows (replicate count 0) (replicate runs 0)
first_lows count runs e = record {
  counted = λ b below. (let n = length-replicate {A = ℕ} count 0 in let m = length-replicate {A = ℕ} runs 0 in
      omega (arith, below, n, m, e));
  each = λ run below. (let n = length-replicate {A = ℕ} count 0 in let m = length-replicate {A = ℕ} runs 0 in
      let there : run * 64 < count = omega (arith, below, m, e) in record {
        block = run * 64;
        below = omega (arith, there, n);
        within = omega arith;
        is = get_or-replicate {A = ℕ} count (run * 64) 0 0 there
            ∙ sym (get_or-replicate {A = ℕ} runs run 0 0 (omega (arith, below, m)));
      });
  least = λ b below. (let n = length-replicate {A = ℕ} count 0 in
      let here : b < count = omega (arith, below, n) in
      let low = get_or-replicate {A = ℕ} runs (run_of b) 0 0 (omega (arith, here, e)) in
      omega (arith, low));
}

module _ (ages lows : List ℕ) (is : AreLows ages lows) where
  -- the lowest block of the first run that has the lowest age is the first of all
  pub lows_lead : (run b : ℕ) → IsLowestIn lows 0 (length lows) run
      → IsLowestIn ages (run * 64) (end_of (length ages) run) b → IsNext ages None b
  lows_lead run b low here = record {
    below = below;
    behind = tt;
    first = λ c less behind before. no_lower c less before;
  }
    where
      below : b < length ages
      below = let x = here.below in omega (arith, x)

      within : run_of b ≡ run
      within = let x = here.below in let y = here.above in omega (arith, x, y)

      age_is : get_or ages b 0 ≡ get_or lows run 0
      age_is = let d = is.each run low.below in let w = d.within in let l = d.below in
          let up = is.least b below in let same = ap (λ r. get_or lows r 0) within in
          let down = here.least d.block (omega (arith, w)) (omega (arith, w, l)) in
          let there = d.is in omega (arith, up, same, down, there)

      no_lower : (c : ℕ) → c < length ages → ComesBefore ages c b → ⊥
      no_lower c less (inl x) = let up = is.least c less in
          let far = low.least (run_of c) (omega arith) (is.counted c less) in
          absurd (omega (arith, x, up, far, age_is))
      no_lower c less (inr x) = pick (cases_eq (run_of c) run)
        where
          pick : (run_of c ≡ run) ⊎ (run_of c ≢ run) → ⊥
          pick (inl e) = let lower = here.first c (omega (arith, e)) x.1 in
              absurd (omega (arith, lower, x.0))
          pick (inr isnt) = let up = is.least c less in
              let lower = low.first (run_of c) (omega arith) (omega (arith, x.1, isnt, within)) in
              absurd (omega (arith, up, lower, x.0, age_is))

module _ (ages lows : List ℕ) (is : AreLows ages lows) (b age : ℕ) (below : b < length ages) where
  abbrev run : ℕ
  run = run_of b

  -- the ages in which the block has the new one
  abbrev now : List ℕ
  now = set ages b age

  many : length now ≡ length ages
  many = length-set ages b age

  here : get_or now b 0 ≡ age
  here = get_or-set_same ages b age 0 below

  other : (c : ℕ) → c ≢ b → get_or now c 0 ≡ get_or ages c 0
  other c isnt = get_or-set_other ages b c age 0 isnt

  run_below : run < length lows
  run_below = is.counted b below

  -- the run's lowest age becomes another, which is one of its ages and no higher than any
  low_set : (low : ℕ) → IsAgeIn now run low
      → ((c : ℕ) → c < length now → run_of c ≡ run → low ≤ get_or now c 0)
      → AreLows now (set lows run low)
  low_set low one least = record {
    counted = λ c less. (let up = is.counted c (omega (arith, less, many)) in
        let same = length-set lows run low in omega (arith, up, same));
    each = λ r less. each r less (cases_eq r run);
    least = λ c less. at_most c less (cases_eq (run_of c) run);
  }
    where
      same : get_or (set lows run low) run 0 ≡ low
      same = get_or-set_same lows run low 0 run_below

      else : (r : ℕ) → r ≢ run → get_or (set lows run low) r 0 ≡ get_or lows r 0
      else r isnt = get_or-set_other lows run r low 0 isnt

      each : (r : ℕ) → r < length (set lows run low) → (r ≡ run) ⊎ (r ≢ run)
          → IsAgeIn now r (get_or (set lows run low) r 0)
      each r less (inl e) = subst (λ k. IsAgeIn now k (get_or (set lows run low) k 0)) (sym e)
          (subst (IsAgeIn now run) (sym same) one)
      each r less (inr isnt) = let d = is.each r
          (let n = length-set lows run low in omega (arith, less, n)) in record {
            block = d.block;
            below = (let x = d.below in omega (arith, x, many));
            within = d.within;
            is = other d.block (λ e. isnt (sym d.within ∙ ap run_of e)) ∙ (d.is ∙ sym (else r isnt));
          }

      at_most : (c : ℕ) → c < length now → (run_of c ≡ run) ⊎ (run_of c ≢ run)
          → get_or (set lows run low) (run_of c) 0 ≤ get_or now c 0
      at_most c less (inl e) = let up = least c less e in
          let low_is = ap (λ r. get_or (set lows run low) r 0) e ∙ same in omega (arith, up, low_is)
      at_most c less (inr isnt) = let up = is.least c (omega (arith, less, many)) in
          let low_is = else (run_of c) isnt in
          let age_is = other c (λ e. isnt (ap run_of e)) in omega (arith, up, low_is, age_is)

  -- an age that is no higher than the lowest is the lowest
  pub lower_set : age ≤ get_or lows run 0 → AreLows now (set lows run age)
  lower_set lower = low_set age
      (record { block = b; below = omega (arith, below, many); within = refl; is = here })
      (λ c less e. pick c less e (cases_eq c b))
    where
      pick : (c : ℕ) → c < length now → run_of c ≡ run → (c ≡ b) ⊎ (c ≢ b) → age ≤ get_or now c 0
      pick c less e (inl same) = let is_here = ap (λ k. get_or now k 0) same ∙ here in
          omega (arith, is_here)
      pick c less e (inr isnt) = let up = is.least c (omega (arith, less, many)) in
          let low_is = ap (λ r. get_or lows r 0) e in let age_is = other c isnt in
          omega (arith, up, low_is, age_is, lower)

  -- the lowest age of the run as it is now
  pub found_set : (m : ℕ) → IsLowestIn now (run * 64) (end_of (length now) run) m
      → AreLows now (set lows run (get_or now m 0))
  found_set m lowest = let low = lowest.below in let high = lowest.above in
      low_set (get_or now m 0)
      (record {
        block = m;
        below = omega (arith, low);
        within = omega (arith, low, high);
        is = refl;
      })
      (λ c less e. lowest.least c (omega (arith, e)) (omega (arith, e, less)))

  -- a higher age of a block that hadn't the lowest leaves that
  pub higher_set : get_or lows run 0 < age → get_or ages b 0 ≢ get_or lows run 0 → AreLows now lows
  higher_set higher isnt = record {
    counted = λ c less. is.counted c (omega (arith, less, many));
    each = λ r less. (let d = is.each r less in record {
      block = d.block;
      below = (let x = d.below in omega (arith, x, many));
      within = d.within;
      is = other d.block (λ e. isnt (sym (ap (λ k. get_or ages k 0) e) ∙ (d.is
          ∙ ap (λ k. get_or lows k 0) (sym d.within ∙ ap run_of e)))) ∙ d.is;
    });
    least = λ c less. pick c less (cases_eq c b);
  }
    where
      pick : (c : ℕ) → c < length now → (c ≡ b) ⊎ (c ≢ b)
          → get_or lows (run_of c) 0 ≤ get_or now c 0
      pick c less (inl e) = let is_here = ap (λ k. get_or now k 0) e ∙ here in
          let low_is = ap (λ k. get_or lows (run_of k) 0) e in omega (arith, is_here, low_is, higher)
      pick c less (inr isnt) = let up = is.least c (omega (arith, less, many)) in
          let age_is = other c isnt in omega (arith, up, age_is)

-- of one number more, a lower one is the lowest
pub lower_is_lowest : (numbers : List ℕ) (from i at : ℕ) → IsLowestIn numbers from i at → get_or numbers i 0 < get_or numbers at 0 → IsLowestIn numbers from (i + 1) i
lower_is_lowest numbers from i at is lower = record {
  above = (let low = is.above in let high = is.below in omega (arith, low, high));
  below = omega arith;
  least = λ k low high. elim (cases_eq k i) [
    | inl e ↦ (let same = ap (λ j. get_or numbers j 0) e in omega (arith, same))
    | inr ne ↦ (let least = is.least k low (omega (arith, high, ne)) in omega (arith, least, lower))
  ];
  first = λ k low high. (let least = is.least k low high in omega (arith, least, lower));
}

-- and one that isn't lower leaves it
pub lowest_stays : (numbers : List ℕ) (from i at : ℕ) → IsLowestIn numbers from i at → get_or numbers at 0 ≤ get_or numbers i 0 → IsLowestIn numbers from (i + 1) at
lowest_stays numbers from i at is lower = record {
  above = is.above;
  below = (let high = is.below in omega (arith, high));
  least = λ k low high. elim (cases_eq k i) [
    | inl e ↦ (let same = ap (λ j. get_or numbers j 0) e in omega (arith, same, lower))
    | inr ne ↦ is.least k low (omega (arith, high, ne))
  ];
  first = is.first;
}
