use Rattle.std.proofs.Common.{◌≤◌, inl, inr, refl, sym, ap, subst, ◌∙◌, arith, le_refl}
use Rattle.chain_arena.specs.Bag.{count_of}
use Rattle.hash_upkeep.specs.Hashing.{row_nodes}
use Rattle.hash_upkeep.specs.Walk.{entries_ahead}
use Rattle.hash_upkeep.specs.Cover.{count_with}
use Rattle.hash_upkeep.proofs.CoverLemmas.{runs_share}
use Rattle.hash_upkeep.proofs.FoldLemmas.{entries_fall, left_goes_on, none_came}
use Rattle.hash_upkeep.proofs.EmptyLemmas.{keeps_on}
use Rattle.hash_upkeep.proofs.leaving.leave_rows.Goals as goal

pub returns : goal.returns
returns c = let how = c.args.how.now in let kept = c.loop-node.invariant in record {
  gone = λ n here some. elim
      (kept.gone n here
      (runs_share how.params.left n.fold (row_nodes how c.args.page.now.rows) some)) [
        | inl e ↦ e
        | inr more ↦ absurd (omega (arith, more, ap (count_with n.fold) c.in_default.ensures.none))
      ];
  fewer = kept.fewer;
  elsewhere = kept.others;
  shape = kept.shape;
}

pub loop-node-init : goal.loop-node-init
loop-node-init c = record {
  on = c.before-walk.ensures.on;
  gone = λ n here some. inr
      (subst (λ ms. 1 ≤ count_with n.fold ms) (sym c.before-walk.ensures.ahead) some);
  fewer = λ n. le_refl (count_of n c.args.part.now.nodes);
  others = λ n apart. refl;
  shape = record { room = refl; stamps = refl };
}

pub loop-node-smaller : goal.loop-node-smaller
loop-node-smaller c =
    entries_fall (entries_ahead c.args.how.now c.args.page.now.rows c.loop-node.walk) c.in-Some.node
    (entries_ahead c.args.how.now c.args.page.now.rows c.next_entry.new.self)
    c.in-Some.ensures.some

pub loop-node-preserved : goal.loop-node-preserved
loop-node-preserved c = let node = c.in-Some.node in let kept = c.loop-node.invariant in
    let left = c.leave_fold.ensures in let block = c.args.how.now.block in
    let old = c.loop-node.part.nodes in let new = c.leave_fold.new.part.nodes in record {
      on = c.next_entry.ensures.stays_on;
      gone = λ n here some. left_goes_on block node
          (entries_ahead c.args.how.now c.args.page.now.rows c.loop-node.walk)
          (entries_ahead c.args.how.now c.args.page.now.rows c.next_entry.new.self) old new
          c.in-Some.ensures.some left.gone left.others n here (kept.gone n here some);
      fewer = λ n. none_came block node c.args.part.now.nodes old new left.gone left.others
          left.other_blocks n (kept.fewer n);
      others = λ n apart. left.other_blocks n apart ∙ kept.others n apart;
      shape = keeps_on c.args.part.now c.loop-node.part c.leave_fold.new.part kept.shape left.shape;
    }
