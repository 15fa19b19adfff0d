use Rattle.std.proofs.Common.{◌≡◌, ◌-◌, length, take, drop, arith, length-drop}
use Rattle.std.proofs.lemmas.List.{take_all}
use Rattle.std.proofs.Math.Seq.{take-add}
use Rattle.std.proofs.KnownBytes.{Appends-kept, Appends-trans}
use Rattle.io_port.proofs.streams.write_whole.Goals as goal

pub writes-preserved : goal.writes-preserved
writes-preserved g c =
    let bytes = c.args.bytes.now in
    let done = c.writes.done in
    let more = Appends-trans _ _ _ _ _ c.writes.invariant.taken c.in-Some.ensures.bytes in
    let rest : take (length bytes - done) (drop done bytes) ≡ drop done bytes = take_all _ _ (omega (arith, length-drop done bytes)) in
    record {
      taken = rw (take-add done c.in-Some.taken bytes) (rw rest at more);
      within = omega (arith, c.in-Some.ensures.bound, length-drop done bytes);
    }

pub returns-clause-ok : goal.returns-clause-ok
returns-clause-ok g c = rw (take_all c.writes.done c.args.bytes.now c.writes-test.false) at c.writes.invariant.taken

pub returns-in-None-clause-err : goal.returns-in-None-clause-err
returns-in-None-clause-err g c = (c.writes.done, Appends-kept _ _ _ _ c.writes.invariant.taken c.in-None.ensures.none)
