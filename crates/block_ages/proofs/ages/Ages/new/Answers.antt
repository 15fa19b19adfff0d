use Rattle.std.proofs.Common.{◌≡◌, ◌+◌, ◌/◌, sym, subst, refl, replicate}
use Rattle.block_ages.specs.Lows.{AreLows}
use Rattle.block_ages.proofs.LowsLemmas.{first_lows}
use Rattle.block_ages.proofs.ages.Ages.new.Goals as goal

pub invariant_of-result : goal.invariant_of-result
invariant_of-result c =
    let ages : c.in_ok-from_elem.field-0.items ≡ replicate c.args.count 0 =
    c.in_ok-from_elem.ensures.items_if_clones_equal (λ y same. same) in
    let lows : c.in_ok-from_elem-2.field-0.items ≡ replicate ((c.args.count + 63) / 64) 0 =
    c.in_ok-from_elem-2.ensures.items_if_clones_equal (λ y same. same) in
    subst (λ xs. AreLows xs c.in_ok-from_elem-2.field-0.items) (sym ages)
    (subst (AreLows (replicate c.args.count 0)) (sym lows)
    (first_lows c.args.count ((c.args.count + 63) / 64) refl))
