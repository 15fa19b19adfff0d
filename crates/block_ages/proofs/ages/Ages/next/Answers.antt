use Rattle.std.proofs.Common.{ℕ, List, subst, sym}
use Rattle.block_ages.specs.Lows.{AreLows}
use Rattle.block_ages.proofs.ages.Ages.next.Goals as goal

pub first-requires-clause-lows : goal.first-requires-clause-lows
first-requires-clause-lows c = subst (λ (ages : List ℕ). AreLows ages c.as_slice-in-None-2.result.now) (sym c.as_slice-in-None.ensures.value)
    (subst (AreLows c.self.inside.ages.items) (sym c.as_slice-in-None-2.ensures.value) c.self.invariant)
