-- Nodes that go out of a partition and come in one after the other.
use Rattle.std.proofs.Common.{◌≡◌, ℕ, ◌<◌, ◌≤◌, ◌+◌, List, [], ◌++◌, length, sym, ap, ◌∙◌, cond, arith, lt-ltb, le-ltb, length-append}
use Rattle.chain_arena.specs.declared.node.Node.{Node}
use Rattle.chain_arena.specs.Bag.{count_of, SameOutsideBlock}
use Rattle.hash_law.specs.Changes.{Exchanges}
use Rattle.hash_law.specs.Sums.{AreOfBlock}
use Rattle.hash_law.proofs.BagLemmas.{count-append}
use Rattle.hash_upkeep.specs.declared.upkeep.Upkeep.TheVariants.{Kept, Dropped}
use Rattle.hash_upkeep.specs.Cover.{AreCovered}
use Rattle.hash_upkeep.specs.Upkeep.{upkeep_by}
use Rattle.hash_upkeep.proofs.EmptyLemmas.{none_elsewhere}

-- nodes that go after others
pub both_go : (xs ys old mid new : List Node) → Exchanges old xs [] mid → Exchanges mid ys [] new
    → Exchanges old (xs ++ ys) [] new
both_go xs ys old mid new e f = record {
  there = λ n. omega (arith, e.counts n, f.there n, count-append n xs ys);
  counts = λ n. omega (arith, e.counts n, f.counts n, count-append n xs ys);
  number = omega (arith, e.number, f.number, length-append xs ys);
}

-- nodes that come after others
pub both_come : (xs ys old mid new : List Node) → Exchanges old [] xs mid → Exchanges mid [] ys new
    → Exchanges old [] (xs ++ ys) new
both_come xs ys old mid new e f = record {
  there = λ n. omega arith;
  counts = λ n. omega (arith, e.counts n, f.counts n, count-append n xs ys);
  number = omega (arith, e.number, f.number, length-append xs ys);
}

-- nodes that come after others went
pub goes_then_comes : (goes comes old mid new : List Node) → Exchanges old goes [] mid
    → Exchanges mid [] comes new → Exchanges old goes comes new
goes_then_comes goes comes old mid new e f = record {
  there = e.there;
  counts = λ n. omega (arith, e.counts n, f.counts n);
  number = omega (arith, e.number, f.number);
}

-- where two lists of nodes are there, the first is, and once it went the second
pub former_there : (xs ys old : List Node)
    → ((n : Node) → count_of n (xs ++ ys) ≤ count_of n old)
    → (n : Node) → count_of n xs ≤ count_of n old
former_there xs ys old there n = omega (arith, there n, count-append n xs ys)

pub latter_there : (xs ys old mid : List Node)
    → ((n : Node) → count_of n (xs ++ ys) ≤ count_of n old) → Exchanges old xs [] mid
    → (n : Node) → count_of n ys ≤ count_of n mid
latter_there xs ys old mid there e n = omega (arith, there n, e.counts n, count-append n xs ys)

-- a block's own nodes that go or come leave other blocks as they were
pub outside_goes : (block : ℕ) (goes old new : List Node) → AreOfBlock block goes
    → Exchanges old goes [] new → SameOutsideBlock new old block
outside_goes block goes old new own e n other =
    omega (arith, e.counts n, none_elsewhere block goes n own other)

pub outside_swap : (block : ℕ) (goes comes old mid new : List Node) → AreOfBlock block goes
    → AreOfBlock block comes → Exchanges old goes [] mid → Exchanges mid [] comes new
    → SameOutsideBlock new old block
outside_swap block goes comes old mid new own own' e f n other = omega (
  arith,
  outside_goes block goes old mid own e n other,
  f.counts n,
  none_elsewhere block comes n own' other,
)

-- nodes that are covered are so once some went
pub still_covered : (block : ℕ) (others goes old new : List Node) → AreCovered block old others
    → Exchanges old goes [] new → AreCovered block new others
still_covered block others goes old new covered e n has here =
    covered n (omega (arith, has, e.counts n)) here

-- what is needed and what is spare tell whether a partition keeps up
pub kept_is : (n s need spare : ℕ) → need ≡ n → spare ≡ s → need ≤ spare → Kept ≡ upkeep_by n s
kept_is n s need spare e f room =
    sym (ap (λ b. cond b (Dropped need spare) Kept) (le-ltb spare need room))
    ∙ (λ i. upkeep_by (e i) (f i))

pub dropped_is : (n s need spare : ℕ) → need ≡ n → spare ≡ s → spare < need
    → Dropped need spare ≡ upkeep_by n s
dropped_is n s need spare e f low =
    sym (ap (λ b. cond b (Dropped need spare) Kept) (lt-ltb spare need low))
    ∙ (λ i. upkeep_by (e i) (f i))

-- what is spare is less than what is needed, or no less
pub spare_lacks : (n s need spare : ℕ) → need ≡ n → spare ≡ s → spare < need → s < n
spare_lacks n s need spare e f low = omega arith

pub spare_has : (n s need spare : ℕ) → need ≡ n → spare ≡ s → need ≤ spare → n ≤ s
spare_has n s need spare e f room = omega arith

-- what is spare once two lists of nodes went
pub spare_after_both : (xs ys : List Node) (old mid new : ℕ) → mid ≡ old + length xs
    → new ≡ mid + length ys → new ≡ old + length (xs ++ ys)
spare_after_both xs ys old mid new e f = omega (arith, length-append xs ys)

-- where there is room for two lists, there is for the first, and then for the second
pub former_fits : (xs ys : List Node) (spare : ℕ) → length (xs ++ ys) ≤ spare → length xs ≤ spare
former_fits xs ys spare room = omega (arith, length-append xs ys)

pub latter_fits : (xs ys : List Node) (spare mid : ℕ) → length (xs ++ ys) ≤ spare
    → mid + length xs ≡ spare → length ys ≤ mid
latter_fits xs ys spare mid room e = omega (arith, length-append xs ys)
