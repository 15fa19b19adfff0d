use Rattle.std.proofs.Common.{◌<◌, ◌^◌, sym, subst, arith}
use Rattle.std.proofs.lemmas.Result.{on_ok_weaker, on_err_weaker}
use Rattle.index_law.specs.Shape.{Shape}
use Rattle.tree_smo.proofs.HashedLemmas.{either_way}
use Rattle.tree_shrinking.proofs.PartAroundLemmas.{HoldsBeside, holds_beside, held_does, held_shape, count_held, inside_held, their_part, kept_part, none_around}
use Rattle.tree_shrinking.proofs.MergeAroundLemmas.{merge_held, made_part, merge_around}
use Rattle.tree_shrinking.proofs.settling.merge_hashed.Given as given
use Rattle.tree_shrinking.proofs.settling.merge_hashed.Goals as goal
use Rattle.tree_shrinking.proofs.settling.merge_hashed.Goals.{After-hold_part_for-part}

-- the partition of both pages' index is held, if one of both is hashed
beside : (g : given.Over) (c : After-hold_part_for-part g)
    → HoldsBeside c.args.pass.now c.args.at.right c.args.at.child c.hold_part_for-part.result
    c.hold_part_for-part.new.pass
beside g c = holds_beside c.hashed_index-hashed.result c.requires.known c.fits.ensures
    c.requires.parts c.hashed_index-hashed.ensures c.hold_part_for-part.ensures.named
    c.hold_part_for-part.ensures.held

pub hashed_index-hashed-requires-clause-from : goal.hashed_index-hashed-requires-clause-from
hashed_index-hashed-requires-clause-from g c =
    (c.requires.held.can.upper, c.requires.held.can.knows_right)

pub hashed_index-hashed-requires-clause-to : goal.hashed_index-hashed-requires-clause-to
hashed_index-hashed-requires-clause-to g c =
    (c.requires.held.can.lower, c.requires.held.can.knows_left)

pub make_merge-made-requires : goal.make_merge-made-requires
make_merge-made-requires g c =
    let h = beside g (goal.at.make_merge-made-requires g c).After-hold_part_for-part in
    record {
      own = (c.requires.own.0, c.hold_part_for-part.ensures.own.1);
      held = merge_held c.args.at c.args.index c.args.next h c.requires.held;
      inside = inside_held h c.requires.inside;
      hash = their_part h;
      known = (held_does h).does.known;
      few = subst (λ (s : Shape). s.pages < 2 ^ 32) (sym (held_shape h)) c.requires.few;
      room = (let more = count_held h in let room = c.requires.room in omega (arith, more, room));
    }

pub give_part_if-requires : goal.give_part_if-requires
give_part_if-requires g c =
    let h = beside g (goal.at.give_part_if-requires g c).After-hold_part_for-part in
    let made = c.make_merge-made in
    record {
      own = (c.requires.own.0, made.ensures.own.1);
      known = either_way made.result made.ensures.ok made.ensures.err
          (λ merges. merges.silently.does.known) (λ same. same.known);
      held = either_way made.result made.ensures.ok made.ensures.err
          (made_part c.args.at c.args.index c.args.next h made.new.pass)
          (kept_part h made.new.pass);
    }

pub returns-clause-ok : goal.returns-clause-ok
returns-clause-ok g c =
    let h = beside g (goal.at.returns-clause-ok g c).After-hold_part_for-part in
    let made = c.make_merge-made in
    on_ok_weaker made.result
    (λ merges. merge_around c.args.at c.args.index c.args.next h made.new.pass merges
    c.give_part_if.new.pass c.give_part_if.ensures.gave) made.ensures.ok

pub returns-clause-err : goal.returns-clause-err
returns-clause-err g c =
    let h = beside g (goal.at.returns-clause-err g c).After-hold_part_for-part in
    let made = c.make_merge-made in
    on_err_weaker made.result
    (none_around h made.new.pass c.give_part_if.new.pass c.give_part_if.ensures.gave)
    made.ensures.err
