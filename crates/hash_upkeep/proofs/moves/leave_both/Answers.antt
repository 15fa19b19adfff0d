use Rattle.std.proofs.Common.{subst, sym}
use Rattle.hash_upkeep.specs.Hashing.{CanHashIf, nodes_if}
use Rattle.hash_upkeep.specs.Cover.{LosesFolds}
use Rattle.hash_upkeep.specs.Moves.{from_was, to_was}
use Rattle.hash_upkeep.proofs.EmptyLemmas.{both_empty}
use Rattle.hash_upkeep.proofs.moves.leave_both.Goals as goal

pub leave_if-requires : goal.leave_if-requires
leave_if-requires c = record {
  hash = subst (λ h. CanHashIf h c.args.blocks.now.from c.args.from.now)
      (sym c.from_was-from_how.ensures) c.requires.hash.from_page;
}

pub leave_if-requires-3 : goal.leave_if-requires-3
leave_if-requires-3 c = record {
  hash = subst (λ h. CanHashIf h c.args.blocks.now.to c.args.to.now) (sym c.to_was.ensures)
      c.requires.hash.to_page;
}

pub returns : goal.returns
returns c = let m = c.args.blocks.now in let from = c.args.from.now.rows in
    let to = c.args.to.now.rows in
    let old = c.args.part.now in let p = c.leave_if.new.part in let q = c.leave_if-2.new.part in
    let new = c.leave_if-3.new.part in
    both_empty m.from m.to (nodes_if (from_was m) from) (nodes_if (from_was m) to)
    (nodes_if (to_was m) to) old p q new c.requires.apart c.requires.covered.gave
    c.requires.covered.took
    (subst (λ h. LosesFolds m.from (nodes_if h from) old p) c.from_was-from_how.ensures
    c.leave_if.ensures)
    (subst (λ h. LosesFolds m.from (nodes_if h to) p q) c.from_was-from_how.ensures
    c.leave_if-2.ensures)
    (subst (λ h. LosesFolds m.to (nodes_if h to) q new) c.to_was.ensures c.leave_if-3.ensures)
