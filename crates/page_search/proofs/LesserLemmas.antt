-- The lesser of two agreements, each in one number.
use Rattle.std.proofs.Common.{◌≡◌, ◌<◌, ◌≤◌, arith}
use Rattle.std.proofs.lemmas.Bool.Decides.{nat_tests}
use Rattle.page_search.specs.declared.agreement.Agreement.{Agreement}
use Rattle.page_search.specs.Agreeing.{agreed, lesser_match}

pub low_is_lesser : (low up : Agreement) → low.packed < up.packed → agreed low ≡ lesser_match (agreed low) (agreed up)
low_is_lesser low up less = grind (arith, nat_tests)

pub up_is_lesser : (low up : Agreement) → up.packed ≤ low.packed → agreed up ≡ lesser_match (agreed low) (agreed up)
up_is_lesser low up less = grind (arith, nat_tests)
