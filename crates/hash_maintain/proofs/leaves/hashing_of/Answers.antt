use Rattle.std.proofs.Common.{ℕ, Option, sym, ap, ◌∙◌}
use Rattle.key_tuple.specs.declared.mode.Params.{Params}
use Rattle.hash_upkeep.specs.Hashing.{hashing_if}
use Rattle.hash_maintain.specs.Leaves.{hashing_by}
use Rattle.hash_maintain.proofs.leaves.hashing_of.Goals as goal

pub returns : goal.returns
returns c = let block = c.args.block in let bits = c.args.bits in
    let built = c.args.frame.now.figures.built in
    sym (ap (λ (index : Option ℕ). hashing_by block bits index built) c.in_ok-index.was
    ∙ ap (λ (params : Option Params). hashing_if c.in_ok-index.index block bits params)
    c.in_ok-params.was)
