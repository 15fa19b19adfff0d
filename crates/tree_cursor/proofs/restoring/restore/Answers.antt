use Rattle.std.proofs.Common.{rules, ◌≡◌, ◌<◌, ap, sym, refl, ◌∙◌}
use Rattle.clock_law.specs.ModifyClock.{last_clock}
use Rattle.forest_law.specs.declared.objects.Frame.{Frame}
use Rattle.tree_cursor.proofs.RestoreLemmas.{cursor_below, holds_again, may_go_back, restores_moved, restores_last, restores_busy}
use Rattle.tree_cursor.proofs.restoring.restore.Goals as goal

pub try_frame-requires-clause-there : goal.try_frame-requires-clause-there
try_frame-requires-clause-there c =
    cursor_below c.args.pass.now c.args.cursor.now c.requires.referred c.fits.ensures

pub try_frame-requires-clause-lacks : goal.try_frame-requires-clause-lacks
try_frame-requires-clause-lacks c =
    c.requires.frames c.args.cursor.now.block
    (cursor_below c.args.pass.now c.args.cursor.now c.requires.referred c.fits.ensures) tt

pub give_back-requires-clause-held : goal.give_back-requires-clause-held
give_back-requires-clause-held c =
    let p = c.args.pass.now in let cursor = c.args.cursor.now in
    let lacked = c.requires.frames cursor.block
    (cursor_below p cursor c.requires.referred c.fits.ensures) tt in
    may_go_back p cursor c.try_frame.new.pass c.in-Taken.ensures.did.0 c.requires.known lacked
    c.in-Taken.ensures.did.1

pub returns-then-cursor-clause-told : goal.returns-then-cursor-clause-told
returns-then-cursor-clause-told c =
    restores_last c.args.pass.now c.args.cursor.now c.requires.known c.if-cursor.true

pub returns-in-Busy-clause-told : goal.returns-in-Busy-clause-told
returns-in-Busy-clause-told c = let below : c.args.cursor.now.clock < last_clock = search rules in
    restores_busy c.args.pass.now c.args.cursor.now c.in-Busy.holder c.try_frame.new.pass
    c.requires.known below c.in-Busy.ensures.did

pub returns-then-found-cursor-clause-told : goal.returns-then-found-cursor-clause-told
returns-then-found-cursor-clause-told c =
    let p = c.args.pass.now in let cursor = c.args.cursor.now in
    let took = c.in-Taken.ensures.did.0 in
    let lacked = c.requires.frames cursor.block
    (cursor_below p cursor c.requires.referred c.fits.ensures) tt in
    let read : c.frame.result.now ≡ took.frame = c.frame.ensures took.frame took.frame took.has in
    let below : cursor.clock < last_clock = search rules in (
      refl,
      below,
      holds_again p cursor c.try_frame.new.pass took c.requires.known lacked
          c.in-Taken.ensures.did.1
          (ap (λ (f : Frame). f.clock) (sym read) ∙ c.if-found-cursor.true) below,
    )

pub returns-else-found-cursor-clause-told : goal.returns-else-found-cursor-clause-told
returns-else-found-cursor-clause-told c =
    let p = c.args.pass.now in let cursor = c.args.cursor.now in
    let took = c.in-Taken.ensures.did.0 in
    let lacked = c.requires.frames cursor.block
    (cursor_below p cursor c.requires.referred c.fits.ensures) tt in
    let read : c.frame.result.now ≡ took.frame = c.frame.ensures took.frame took.frame took.has in
    let below : cursor.clock < last_clock = search rules in
    restores_moved p cursor c.try_frame.new.pass took c.requires.known lacked
    c.in-Taken.ensures.did.1 c.give_back.new.pass c.give_back.ensures.gave
    c.frame.result.now.clock (ap (λ (f : Frame). f.clock) (sym read)) c.if-found-cursor.false below
