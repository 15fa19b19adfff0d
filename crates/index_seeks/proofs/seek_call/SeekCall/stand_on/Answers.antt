use Rattle.std.proofs.Common.{◌∙◌, sym, subst, refl}
use Rattle.latch_space.specs.Passes.{view}
use Rattle.tree_neighbours.specs.Sides.{side_of}
use Rattle.index_seeks.specs.Seeks.{TellsRow, far_of}
use Rattle.index_seeks.specs.SeekSteps.{CountsPast}
use Rattle.engine_law.proofs.KnownLemmas.{knows_same}
use Rattle.index_seeks.proofs.StandLemmas.{stands_tells, stands_past}
use Rattle.index_seeks.proofs.seek_call.SeekCall.stand_on.Goals as goal

pub tell-requires-clause-can : goal.tell-requires-clause-can
tell-requires-clause-can g c = let call = c.args.self.now in let stands = c.requires.stands in
    stands_tells c.args.pass.now c.args.block call.index call.mode call.tuple.now.fields c.args.bound
    stands c.take_row_of.new.out
    (subst (λ b. TellsRow call.mode call.tuple.now.fields stands.holds.is.page.rows b
    c.take_row_of.new.out) c.if-take_row_of.true (c.take_row_of.ensures stands.holds))

pub returns-in-Some-clause-then : goal.returns-in-Some-clause-then
returns-in-Some-clause-then g c = let call = c.args.self.now in let stands = c.requires.stands in
    let p = c.args.pass.now in let q = c.count_changes.new.pass in
    let terms = c.count_changes.ensures.own.1.1 ∙ sym c.requires.own.1 in (
      refl,
      c.count_changes.ensures.looked,
      record {
        frame = stands.holds.frame;
        knows = knows_same p q c.args.block stands.holds.frame
            c.count_changes.ensures.kept.held terms stands.holds.knows;
        saw = subst (CountsPast (view p) (view q) call.index call.mode call.tuple.now.fields c.args.bound)
            c.in-Some.is c.count_changes.ensures.past (far_of (side_of call.mode)
            stands.holds.frame)
            (stands_past p c.args.block call.index call.mode call.tuple.now.fields c.args.bound stands
            c.take_row_of.new.out
            (subst (λ b. TellsRow call.mode call.tuple.now.fields stands.holds.is.page.rows b
            c.take_row_of.new.out) c.if-take_row_of.false
            (c.take_row_of.ensures stands.holds)));
      },
    )

pub returns-in-Some-clause-own : goal.returns-in-Some-clause-own
returns-in-Some-clause-own g c = c.count_changes.ensures.own

pub returns-in-Some-clause-kept : goal.returns-in-Some-clause-kept
returns-in-Some-clause-kept g c = c.count_changes.ensures.kept

pub returns-in-None-clause-own : goal.returns-in-None-clause-own
returns-in-None-clause-own g c = c.count_changes.ensures.own

pub returns-in-None-clause-kept : goal.returns-in-None-clause-kept
returns-in-None-clause-kept g c = c.count_changes.ensures.kept

pub returns-then-take_row_of-clause-own : goal.returns-then-take_row_of-clause-own
returns-then-take_row_of-clause-own g c = c.tell.ensures.own

pub returns-then-take_row_of-clause-kept : goal.returns-then-take_row_of-clause-kept
returns-then-take_row_of-clause-kept g c = c.tell.ensures.kept

pub returns-then-take_row_of-clause-columns : goal.returns-then-take_row_of-clause-columns
returns-then-take_row_of-clause-columns g c = c.tell.ensures.columns
