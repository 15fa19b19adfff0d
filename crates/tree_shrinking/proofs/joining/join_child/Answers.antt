use Rattle.std.proofs.Common.{refl, Ok, ap, sym, subst, ◌∙◌}
use Rattle.buffer_pool.proofs.AgainLemmas.{passes_both}
use Rattle.tree_shrinking.specs.Joins.{LeavesPairIf}
use Rattle.tree_shrinking.proofs.FamilyLemmas.{points_before, points_after}
use Rattle.tree_shrinking.proofs.JoinLemmas.{merged_or_not, above_family, back_after}
use Rattle.tree_shrinking.proofs.LeaveLemmas.{leaves_child, frees_after}
use Rattle.tree_shrinking.proofs.joining.join_child.Goals as goal

pub join_beside-requires-clause-held : goal.join_beside-requires-clause-held
join_beside-requires-clause-held g c = let held = c.requires.held in
    above_family c.args.pass.now c.args.pass.now c.siblings_before-before.result held
    (λ f knows. knows)
    (λ s is. points_before held.page.is.page.rows c.family_in-family.result
    (c.family_in-family.ensures.tells held) s (sym c.siblings_before-before.ensures ∙ is))

pub join_beside-requires-2-clause-held : goal.join_beside-requires-2-clause-held
join_beside-requires-2-clause-held g c = let held = c.requires.held in
    above_family c.args.pass.now c.join_beside.new.pass c.siblings_after-after.result held
    (c.in_ok-join_beside.ensures.apart (ap Ok c.if-branch.false)).still
    (λ s is. points_after held.page.is.page.rows c.family_in-family.result
    (c.family_in-family.ensures.tells held) s (sym c.siblings_after-after.ensures ∙ is))

pub returns-clause-back : goal.returns-clause-back
returns-clause-back g c =
    back_after c.join_beside.ensures.back.to c.join_beside-2.ensures.back

pub returns-clause-apart : goal.returns-clause-apart
returns-clause-apart g c e held =
    leaves_child c.family_in-family.result held
    (c.family_in-family.ensures.tells held) (c.family_in-family.ensures.picks held)
    (subst (λ o. LeavesPairIf c.args.pass.now c.args.parent o c.args.index c.args.key.now.tuple
    c.join_beside.new.pass) c.siblings_before-before.ensures
    (c.in_ok-join_beside.ensures.apart (ap Ok c.if-branch.false)))
    (subst (λ o. LeavesPairIf c.join_beside.new.pass c.args.parent o c.args.index
    c.args.key.now.tuple c.join_beside-2.new.pass) c.siblings_after-after.ensures
    (c.join_beside-2.ensures.apart e))

pub returns-clause-freed : goal.returns-clause-freed
returns-clause-freed g c e =
    frees_after c.join_beside.ensures.back.to (c.join_beside-2.ensures.freed e)

pub returns-then-branch-clause-freed : goal.returns-then-branch-clause-freed
returns-then-branch-clause-freed g c e =
    c.in_ok-join_beside.ensures.freed (ap Ok c.if-branch.true)

pub returns-clause-own : goal.returns-clause-own
returns-clause-own g c = (
  passes_both c.args.pass.now c.join_beside.new.pass c.join_beside-2.new.pass
      c.join_beside.ensures.own.0 c.join_beside-2.ensures.own.0,
  c.join_beside-2.ensures.own.1,
)

pub returns-in_err-join_beside-clause-apart : goal.returns-in_err-join_beside-clause-apart
returns-in_err-join_beside-clause-apart g c e held =
    let no = rw e at c.from_residual.ensures in absurd no.1

pub returns-in_err-join_beside-clause-freed : goal.returns-in_err-join_beside-clause-freed
returns-in_err-join_beside-clause-freed g c e =
    let no = rw e at c.from_residual.ensures in absurd no.1

pub returns-then-branch-clause-apart : goal.returns-then-branch-clause-apart
returns-then-branch-clause-apart g c e held = absurd (merged_or_not _ refl e)
