use Rattle.std.proofs.Common.{◌<◌, ◌≤◌, sym, subst, refl, arith, length}
use Rattle.index_law.specs.Shape.{Shape}
use Rattle.forest_law.specs.State.{fields_for}
use Rattle.forest_world.specs.Held.{shape_of_pass}
use Rattle.buffer_pool.proofs.AgainLemmas.{passes_both}
use Rattle.tree_descent.specs.Leaves.{cut_in}
use Rattle.buffer_pool.proofs.GaveLemmas.{gave_both, gave_none}
use Rattle.tree_descent.proofs.DescentLemmas.{vain_shape, vain_frames, vain_tables, descends}
use Rattle.tree_descent.proofs.WayLemmas.{way_page}
use Rattle.tree_descent.proofs.descending.descend.Goals as goal

pub loop-init : goal.loop-init
loop-init g c =
    record { own = ((refl, refl), c.requires.own.1); vain = gave_none c.args.pass.now c.requires.known }

pub try_down-requires-clause-index : goal.try_down-requires-clause-index
try_down-requires-clause-index g c = subst (λ (s : Shape). c.args.index < s.indexes)
    (sym (vain_shape c.args.pass.now c.loop.pass c.loop.invariant.vain.got)) c.requires.index

pub try_down-requires-clause-fields : goal.try_down-requires-clause-fields
try_down-requires-clause-fields g c = subst
    (λ (s : Shape). length (g.T.Fields.fields_of c.args.tuple.now) ≤ fields_for s c.args.index)
    (sym (vain_shape c.args.pass.now c.loop.pass c.loop.invariant.vain.got)) c.requires.fields

pub try_down-requires-clause-frames : goal.try_down-requires-clause-frames
try_down-requires-clause-frames g c =
    vain_frames c.args.pass.now c.loop.pass c.loop.invariant.vain.got c.requires.frames

pub try_down-requires-clause-tables : goal.try_down-requires-clause-tables
try_down-requires-clause-tables g c =
    vain_tables c.args.pass.now c.loop.pass c.loop.invariant.vain.got c.requires.tables

pub try_down-requires-clause-room : goal.try_down-requires-clause-room
try_down-requires-clause-room g c = let same = c.loop.invariant.vain.got.count in
    let room = c.requires.room in omega (arith, same, room)

pub spot_on-spot-requires-clause-held : goal.spot_on-spot-requires-clause-held
spot_on-spot-requires-clause-held g c = (0, way_page c.in-Some-try_down.ensures.tried.way)

pub returns-in-Some-try_down-clause-went : goal.returns-in-Some-try_down-clause-went
returns-in-Some-try_down-clause-went g c =
    let q = c.loop.pass in
    let i = c.args.index in
    let tuple = g.T.Fields.fields_of c.args.tuple.now in
    let down = c.in-Some-try_down.ensures.tried in
    descends c.args.pass.now q c.loop.invariant.vain c.try_down.new.pass i c.args.mode tuple
    c.in-Some-try_down.block down c.spot_on-spot.result (c.spot_on-spot.ensures 0
    (way_page {cut = cut_in (shape_of_pass q) i c.args.mode tuple} down.way))

pub loop-preserved : goal.loop-preserved
loop-preserved g c = record {
  own = (
    passes_both c.args.pass.now c.loop.pass c.try_down.new.pass c.loop.invariant.own.0
        c.try_down.ensures.own.0,
    c.try_down.ensures.own.1,
  );
  vain = gave_both c.args.pass.now c.loop.pass c.try_down.new.pass c.loop.invariant.vain
      c.in_default.ensures.tried;
}

pub returns-in-Some-try_down-clause-own : goal.returns-in-Some-try_down-clause-own
returns-in-Some-try_down-clause-own g c = (
  passes_both c.args.pass.now c.loop.pass c.try_down.new.pass c.loop.invariant.own.0
      c.try_down.ensures.own.0,
  c.try_down.ensures.own.1,
)

pub returns-in-Some-try_down-clause-fits : goal.returns-in-Some-try_down-clause-fits
returns-in-Some-try_down-clause-fits g c = c.try_down.ensures.fits
