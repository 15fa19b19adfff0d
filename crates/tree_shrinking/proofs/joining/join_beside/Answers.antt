use Rattle.std.proofs.Common.{sym, subst, ◌∙◌}
use Rattle.std.proofs.lemmas.Option.{none-some}
use Rattle.list_facts.proofs.Places.{same_some}
use Rattle.forest_world.specs.Held.{shape_of_pass}
use Rattle.tree_shrinking.specs.declared.pairs.Siblings.{Siblings}
use Rattle.tree_shrinking.specs.Shrinking.{StayApart}
use Rattle.tree_shrinking.proofs.JoinLemmas.{back_at_once}
use Rattle.tree_shrinking.proofs.joining.join_beside.Goals as goal

pub returns-in-None-clause-back : goal.returns-in-None-clause-back
returns-in-None-clause-back g c = back_at_once c.requires.way c.requires.held

pub returns-in-None-clause-apart : goal.returns-in-None-clause-apart
returns-in-None-clause-apart g c e = record {
  back = back_at_once c.requires.way c.requires.held;
  still = λ f knows. knows;
  apart = λ s is. absurd (none-some s (sym c.in-None.is ∙ is));
}

pub join_pair-requires-clause-held : goal.join_pair-requires-clause-held
join_pair-requires-clause-held g c = let h = c.requires.held in record {
  level = h.level;
  up = h.up;
  knows = h.knows;
  above = h.above;
  points = h.points c.in-Some.asked c.in-Some.is;
}

pub returns-in-Some-clause-apart : goal.returns-in-Some-clause-apart
returns-in-Some-clause-apart g c e = let leaves = c.join_pair.ensures.apart e in record {
  back = leaves.back;
  still = leaves.still;
  apart = λ s is. subst
      (λ (z : Siblings). StayApart (shape_of_pass c.args.pass.now) c.args.index z.left z.right
      z.right_asks leaves.back.to.goes.added.references)
      (same_some c.in-Some.asked s (sym c.in-Some.is ∙ is)) leaves.apart;
}
