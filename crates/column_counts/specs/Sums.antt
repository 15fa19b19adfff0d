-- Counts that are added up, word by word and index by index.
use Rattle.std.specs.Prelude.{ℕ, ◌+◌, List, [], ◌∷◌, map, Vec}
use Rattle.std.specs.List.{zip}
use Rattle.std.specs.declared.alloc.Global.{Global}
use Rattle.map_history.specs.declared.counts.Counts.{Counts}

-- two lists of numbers, added place by place
abbrev pub added : List ℕ → List ℕ → List ℕ
added xs ys = map (λ (n : ℕ × ℕ). n.0 + n.1) (zip xs ys)

-- the sum of two counts, word by word
abbrev pub sum_of : Counts → Counts → Counts
sum_of a b = record { numbers = added a.numbers b.numbers }

-- the sums of two lists of counts, index by index
abbrev pub sums_of : List Counts → List Counts → List Counts
sums_of xs ys = map (λ (c : Counts × Counts). sum_of c.0 c.1) (zip xs ys)

-- counts to which those of some lists are added, one list after another
abbrev pub all_sums : List Counts → List (List Counts) → List Counts
all_sums sums [] = sums
all_sums sums (list ∷ lists) = all_sums (sums_of sums list) lists

-- lists of counts that stand in vectors
abbrev pub count_lists : List (Vec Counts Global) → List (List Counts)
count_lists lists = map (λ (list : Vec Counts Global). list.items) lists
