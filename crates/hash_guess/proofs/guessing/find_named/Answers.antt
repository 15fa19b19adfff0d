use Rattle.std.proofs.Common.{◌≤◌, length, refl, sym, subst, ◌∙◌}
use Rattle.latch_law.specs.declared.knows.Terms.{Terms}
use Rattle.index_law.specs.Shape.{Shape}
use Rattle.forest_law.specs.State.{fields_for}
use Rattle.forest_world.specs.Held.{TreePass, shape_of_pass}
use Rattle.buffer_pool.proofs.AgainLemmas.{passes_both}
use Rattle.buffer_pool.proofs.PartLemmas.{part_below}
use Rattle.hash_guess.specs.Leads.{part_in}
use Rattle.hash_guess.specs.Guesses.{HitsRow}
use Rattle.hash_guess.proofs.GuessLemmas.{row_in_hand, node_in_hand, misses_block, hits_row, misses_row, no_frame}
use Rattle.hash_guess.proofs.guessing.find_named.Goals as goal

pub returns-in-Busy-clause-err : goal.returns-in-Busy-clause-err
returns-in-Busy-clause-err g c =
    misses_block c.args.pass.now c.lead.new.pass c.args.index (g.A.Fields.fields_of c.args.tuple.now)
    c.args.info.now c.in_ok-node.node c.requires.known c.in_ok-node.ensures.ok c.follow.new.pass
    c.in-Busy.holder (c.follow.ensures.busy c.in-Busy.holder c.in-Busy.is)

pub confirm-requires-clause-row : goal.confirm-requires-clause-row
confirm-requires-clause-row g c = row_in_hand c.lead.new.pass c.follow.new.pass c.args.index
    c.in_ok-node.node (c.follow.ensures.taken c.in_default.is)

pub returns-in-Some-clause-ok : goal.returns-in-Some-clause-ok
returns-in-Some-clause-ok g c = let p = c.args.pass.now in let s = shape_of_pass p in
    let tuple = g.A.Fields.fields_of c.args.tuple.now in let n = c.in_ok-node.node in
    let told = c.in-Some.ensures.some in
    subst (λ (r : TreePass). HitsRow p c.args.index c.args.mode tuple c.args.info.now n.block n.place
    c.in-Some.found r) (sym told.0)
    (hits_row p c.lead.new.pass c.args.index tuple c.args.info.now n c.requires.known
    c.in_ok-node.ensures.ok c.follow.new.pass (c.follow.ensures.taken c.in_default.is)
    (part_below p s s (part_in p c.args.index) c.args.index c.fits.ensures refl refl refl)
    c.args.mode c.in-Some.found told.1)

pub returns-in-None-clause-err : goal.returns-in-None-clause-err
returns-in-None-clause-err g c = let p = c.args.pass.now in let s = shape_of_pass p in
    misses_row p c.lead.new.pass c.args.index (g.A.Fields.fields_of c.args.tuple.now)
    c.args.info.now c.in_ok-node.node c.requires.known c.in_ok-node.ensures.ok c.follow.new.pass
    (c.follow.ensures.taken c.in_default.is)
    (part_below p s s (part_in p c.args.index) c.args.index c.fits.ensures refl refl refl)
    c.confirm.new.pass c.args.mode c.in-None.ensures.none

pub follow-requires-clause-node : goal.follow-requires-clause-node
follow-requires-clause-node g c = node_in_hand c.args.pass.now c.lead.new.pass c.args.index
    (g.A.Fields.fields_of c.args.tuple.now) c.args.info.now c.in_ok-node.node c.requires.known
    c.in_ok-node.ensures.ok

pub follow-requires-clause-frames : goal.follow-requires-clause-frames
follow-requires-clause-frames g c = let p = c.args.pass.now in let s = shape_of_pass p in
    no_frame p c.lead.new.pass c.args.index (g.A.Fields.fields_of c.args.tuple.now)
    c.args.info.now c.in_ok-node.node c.requires.known c.in_ok-node.ensures.ok
    (part_below p s s (part_in p c.args.index) c.args.index c.fits.ensures refl refl refl)
    c.requires.frames

pub confirm-requires-clause-known : goal.confirm-requires-clause-known
confirm-requires-clause-known g c = (c.follow.ensures.taken c.in_default.is).does.known

pub confirm-requires-clause-fields : goal.confirm-requires-clause-fields
confirm-requires-clause-fields g c = subst (λ (t : Terms Shape).
    length (g.A.Fields.fields_of c.args.tuple.now) ≤ fields_for t.shape c.args.index)
    (c.requires.own.1.1 ∙ sym c.follow.ensures.own.1.1) c.requires.fields

pub returns-in-Busy-clause-own : goal.returns-in-Busy-clause-own
returns-in-Busy-clause-own g c = (
  passes_both c.args.pass.now c.lead.new.pass c.follow.new.pass c.lead.ensures.own.0
      c.follow.ensures.own.0,
  c.follow.ensures.own.1,
)

pub returns-in-Some-clause-own : goal.returns-in-Some-clause-own
returns-in-Some-clause-own g c = (
  passes_both c.args.pass.now c.lead.new.pass c.confirm.new.pass c.lead.ensures.own.0
      (passes_both c.lead.new.pass c.follow.new.pass c.confirm.new.pass c.follow.ensures.own.0
      c.confirm.ensures.own.0),
  c.confirm.ensures.own.1,
)

pub returns-in-None-clause-own : goal.returns-in-None-clause-own
returns-in-None-clause-own g c = (
  passes_both c.args.pass.now c.lead.new.pass c.confirm.new.pass c.lead.ensures.own.0
      (passes_both c.lead.new.pass c.follow.new.pass c.confirm.new.pass c.follow.ensures.own.0
      c.confirm.ensures.own.0),
  c.confirm.ensures.own.1,
)
