-- hash_guess/proofs/confirming/confirm/Answers.antt
use Rattle.std.proofs.Common.{◌≡◌, Bool, refl, sym, subst}
use Rattle.forest_law.specs.declared.objects.Frame.{Frame}
use Rattle.hash_maintain.specs.Leaves.{HasRowInFrame}
use Rattle.buffer_pool.proofs.CallLemmas.{frame_has}
use Rattle.hash_guess.specs.Confirms.{SuitsFrame, Confirms, Refutes}
use Rattle.hash_guess.proofs.ConfirmLemmas.{suits_frame, has_row, read_is, refutes_if, confirms_if, none_tells, some_tells}
use Rattle.hash_guess.proofs.confirming.confirm.Goals as goal

pub check_frame-told-requires-clause-row : goal.check_frame-told-requires-clause-row
check_frame-told-requires-clause-row g c = let p = c.args.pass.now in
    let n = c.args.node.now in
    subst (λ (f : Frame). HasRowInFrame f n.place)
    (sym (read_is p c.args.index n c.requires.row c.requires.known c.args.mode
    (g.A.Fields.fields_of c.args.tuple.now) c.frame.result.now c.frame.ensures))
    (has_row p c.args.index n c.requires.row c.frames_tell_pages.ensures c.fits.ensures)

pub check_frame-told-requires-clause-fields : goal.check_frame-told-requires-clause-fields
check_frame-told-requires-clause-fields g c = let p = c.args.pass.now in
    let n = c.args.node.now in let tuple = g.A.Fields.fields_of c.args.tuple.now in
    subst (λ (f : Frame). SuitsFrame f c.args.index tuple)
    (sym (read_is p c.args.index n c.requires.row c.requires.known c.args.mode tuple
    c.frame.result.now c.frame.ensures))
    (suits_frame p c.args.index n c.requires.row c.frames_tell_pages.ensures c.fits.ensures tuple
    c.requires.fields)

pub returns-then-is_none-clause-none : goal.returns-then-is_none-clause-none
returns-then-is_none-clause-none g c =
    refutes_if c.args.pass.now c.args.index c.args.node.now c.requires.row c.requires.known
    c.args.mode (g.A.Fields.fields_of c.args.tuple.now) c.frame.result.now c.frame.ensures
    c.check_frame-told.result c.check_frame-told.ensures c.give_back.new.pass
    c.give_back.ensures.gave

pub returns-else-is_none-clause-some : goal.returns-else-is_none-clause-some
returns-else-is_none-clause-some g c =
    confirms_if c.args.pass.now c.args.index c.args.node.now c.requires.row c.requires.known
    c.args.mode (g.A.Fields.fields_of c.args.tuple.now) c.frame.result.now c.frame.ensures
    c.check_frame-told.result c.check_frame-told.ensures

pub frame-requires-clause-held : goal.frame-requires-clause-held
frame-requires-clause-held g c = let row = c.requires.row in (
  row.frame,
  row.frame,
  frame_has c.args.pass.now c.requires.known c.args.node.now.block row.frame (row.taken, row.held),
)

pub give_back-requires-clause-held : goal.give_back-requires-clause-held
give_back-requires-clause-held g c = let row = c.requires.row in (
  row.frame,
  frame_has c.args.pass.now c.requires.known c.args.node.now.block row.frame (row.taken, row.held),
  row.inside,
)

pub returns-then-is_none-clause-some : goal.returns-then-is_none-clause-some
returns-then-is_none-clause-some g c = let p = c.args.pass.now in
    none_tells (λ (found : Bool). (c.give_back.new.pass ≡ p) × Confirms p c.args.index c.args.mode
    (g.A.Fields.fields_of c.args.tuple.now) c.args.node.now found) c.check_frame-told.result
    c.is_none.result c.is_none.ensures c.if-is_none.true

pub returns-else-is_none-clause-none : goal.returns-else-is_none-clause-none
returns-else-is_none-clause-none g c = let p = c.args.pass.now in
    some_tells (Refutes p c.args.index c.args.mode (g.A.Fields.fields_of c.args.tuple.now)
    c.args.node.now p) c.check_frame-told.result c.is_none.result c.is_none.ensures
    c.if-is_none.false

pub returns-then-is_none-clause-own : goal.returns-then-is_none-clause-own
returns-then-is_none-clause-own g c = c.give_back.ensures.own

pub returns-else-is_none-clause-own : goal.returns-else-is_none-clause-own
returns-else-is_none-clause-own g c = ((refl, refl), c.requires.own.1)
