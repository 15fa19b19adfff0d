-- In each of the three cases the lowest ages stay true of the ages.
use Rattle.std.proofs.Common.{◌*◌, ℕ, List, ◌<◌, length, set, subst, sym, ap, ◌∙◌, arith, ◌≡◌}
use Rattle.std.proofs.lemmas.Grind.{get_or_default_zero}
use Rattle.block_ages.specs.Lows.{run_of, end_of, AreLows, IsLowestIn}
use Rattle.block_ages.proofs.LowsLemmas.{lower_set, found_set, higher_set}
use Rattle.std.proofs.Math.ListN.{length-set}
use Rattle.block_ages.proofs.ages.Ages.set.Goals as goal

pub invariant_of-self : goal.invariant_of-self
invariant_of-self c =
    let ages = c.self.inside.ages.items in
    let lows = c.self.inside.lows.items in
    let below : c.args.block < length ages = omega (arith, c.requires, ap length c.self.view_is) in
    let low = c.index.ensures ∙ get_or_default_zero lows (run_of c.args.block) c.index.result.now (c.self.invariant.counted c.args.block below) in
    lower_set ages lows c.self.invariant c.args.block c.args.age below (omega (arith, c.if-age-index.true, low))

pub invariant_of-self-then-old-index : goal.invariant_of-self-then-old-index
invariant_of-self-then-old-index c =
    let ages = c.self.inside.ages.items in
    let lows = c.self.inside.lows.items in
    let below : c.args.block < length ages = omega (arith, c.requires, ap length c.self.view_is) in
    let now = set ages c.args.block c.args.age in
    let lowest = rw c.as_slice.ensures.value at c.lowest_of.ensures in
    let age = c.index-then-old-index.ensures ∙ get_or_default_zero now c.lowest_of.result c.index-then-old-index.result.now (omega (arith, lowest.below)) in
    subst (λ low. AreLows now (set lows (run_of c.args.block) low)) (sym age) (found_set ages lows c.self.invariant c.args.block c.args.age below c.lowest_of.result lowest)

pub invariant_of-self-else-old-index : goal.invariant_of-self-else-old-index
invariant_of-self-else-old-index c =
    let ages = c.self.inside.ages.items in
    let lows = c.self.inside.lows.items in
    let below : c.args.block < length ages = omega (arith, c.requires, ap length c.self.view_is) in
    let old = c.index-old.ensures ∙ get_or_default_zero ages c.args.block c.index-old.result.now below in
    let there = c.self.invariant.counted c.args.block below in
    let low = c.index.ensures ∙ get_or_default_zero lows (run_of c.args.block) c.index.result.now there in
    let same = c.index-else-age-index.ensures ∙ get_or_default_zero lows (run_of c.args.block) c.index-else-age-index.result.now there in
    higher_set ages lows c.self.invariant c.args.block c.args.age below (omega (arith, c.if-age-index.false, low)) (λ e. c.if-old-index.false (old ∙ e ∙ sym same))

-- each block's run has a lowest age
low_there : (ages lows given : List ℕ) (block : ℕ) → AreLows ages lows → ages ≡ given → block < length given
    → run_of block < length lows
low_there ages lows given block is same below = is.counted block (omega (arith, ap length same, below))

-- once the age is written, the run begins among the ages, and its lowest is there
written_there : (ages lent given : List ℕ) (block age : ℕ) → ages ≡ given → lent ≡ set ages block age → block < length given
    → run_of block * 64 < length lent
written_there ages lent given block age same written below =
    omega (arith, ap length same, ap length written, length-set ages block age, below)

lowest_there : (ages lent : List ℕ) (block age from run at : ℕ) → lent ≡ set ages block age
    → IsLowestIn lent from (end_of (length lent) run) at → at < length ages
lowest_there ages lent block age from run at written lowest =
    omega (arith, ap length written, length-set ages block age, lowest.below)

pub index_mut-requires-then-old-index : goal.index_mut-requires-then-old-index
index_mut-requires-then-old-index c =
    omega (arith, low_there c.self.inside.ages.items c.self.inside.lows.items c.args.self.now c.args.block c.self.invariant c.self.view_is c.requires, c.self.inside.lows.ok.0)

pub lowest_of-requires : goal.lowest_of-requires
lowest_of-requires c = written_there c.self.inside.ages.items c.as_slice.result.now c.args.self.now c.args.block c.args.age
    c.self.view_is c.as_slice.ensures.value c.requires

pub index_mut-requires-then-age-index : goal.index_mut-requires-then-age-index
index_mut-requires-then-age-index c =
    omega (arith, low_there c.self.inside.ages.items c.self.inside.lows.items c.args.self.now c.args.block c.self.invariant c.self.view_is c.requires, c.self.inside.lows.ok.0)

pub index-requires-else-age-index : goal.index-requires-else-age-index
index-requires-else-age-index c =
    omega (arith, low_there c.self.inside.ages.items c.self.inside.lows.items c.args.self.now c.args.block c.self.invariant c.self.view_is c.requires, c.self.inside.lows.ok.0)

pub returns-then-old-index : goal.returns-then-old-index
returns-then-old-index c = (λ i. set (c.self.view_is i) c.args.block c.args.age)

pub index-requires-then-old-index : goal.index-requires-then-old-index
index-requires-then-old-index c =
    omega (arith, lowest_there c.self.inside.ages.items c.as_slice.result.now c.args.block c.args.age _ _ c.lowest_of.result c.as_slice.ensures.value c.lowest_of.ensures, c.self.inside.ages.ok.0)

pub index-requires : goal.index-requires
index-requires c =
    omega (arith, low_there c.self.inside.ages.items c.self.inside.lows.items c.args.self.now c.args.block c.self.invariant c.self.view_is c.requires, c.self.inside.lows.ok.0)
