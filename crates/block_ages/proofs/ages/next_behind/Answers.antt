use Rattle.std.proofs.Common.{◌+◌, ◌↔◌, ◌≡◌, Option, ℕ, Some, IsTrue, Bool, false, inl, inr, sym, subst}
use Rattle.block_ages.specs.Order.{IsAhead, IsBehind}
use Rattle.block_ages.proofs.OrderLemmas.{IsBest, better, no_better}
use Rattle.block_ages.proofs.ages.next_behind.Goals as goal
use Rattle.block_ages.proofs.ages.next_behind.Goals.{then-comes_before+then-is_ahead, else-comes_before, else-comes_before-via-then-comes_before+else-is_ahead, else-comes_before-via-else-comes_before}

-- what a test denies
fails : (P : Type 0) (b : Bool) → b ≡ false → (IsTrue b ↔ P) → P → ⊥
fails P b e h p = let other = h.1 p in absurd cc

pub loop-block-preserved : goal.loop-block-preserved
loop-block-preserved c =
    let ages = c.args.ages.now in let i : ℕ = c.loop-block.block in let last : Option ℕ = Some c.args.last in
    let next : Option ℕ = c.loop-block.next in let so_far = c.loop-block.invariant in
    elim c.if-comes_before.branch [
      | then-comes_before+then-is_ahead w ↦ subst (IsBest ages last (i + 1)) (sym w.next-is)
          (better ages last i next so_far
          (c.comes_before.ensures.0 w.if-comes_before.true) (w.is_ahead.ensures.0 w.if-is_ahead.true))
      | else-comes_before w ↦ subst (IsBest ages last (i + 1)) (sym w.next-is) (no_better ages last i next so_far
          (elim w.else-comes_before.branch [
            | else-comes_before-via-then-comes_before+else-is_ahead v ↦ inr (fails (IsAhead ages i next) v.is_ahead.result v.if-is_ahead.false v.is_ahead.ensures)
            | else-comes_before-via-else-comes_before v ↦ inl (fails (IsBehind ages last i) c.comes_before.result v.if-comes_before.false c.comes_before.ensures)
          ]))
    ]
