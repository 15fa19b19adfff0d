use Rattle.std.proofs.Common.{ℕ, ◌<◌, length, refl, arith, length-append, length-take}
use Rattle.io_port.proofs.ReadLemmas.{all_read, lost_more, more_read}
use Rattle.io_port.proofs.streams.read_within.Goals as goal

pub returns-clause-ok : goal.returns-clause-ok
returns-clause-ok g c = tt

pub returns-clause-within : goal.returns-clause-within
returns-clause-within g c = tt

pub reads-preserved : goal.reads-preserved
reads-preserved g c = record {
  lost = lost_more _ _ _ c.reads.bytes.items _ _ _ _ c.in-Some.ensures.bound c.in_ok-extend_from_slice.ensures.items c.reads.invariant.lost c.in-Some.ensures.bytes;
  within = omega (arith, length-take {A = ℕ}, c.in_ok-extend_from_slice.ensures.len, c.in-Some.ensures.bound, c.read_some.auto.piece, c.min.ensures, c.len-in-reads.ensures, c.len.ensures, c.reads-test.true);
}

pub reads-smaller : goal.reads-smaller
reads-smaller g c = omega (arith, length-take {A = ℕ}, length-append {A = ℕ}, c.in_ok-extend_from_slice.ensures.len, c.in-Some.ensures.bound, c.if-read-eq0.false, c.len.ensures, c.reads-test.true)

pub returns-then-read-eq0-clause-ok : goal.returns-then-read-eq0-clause-ok
returns-then-read-eq0-clause-ok g c =
    let room : 0 < length c.read_some.new.piece = omega (arith, length-take {A = ℕ}, c.read_some.auto.piece, c.min.ensures) in
    all_read _ _ _ _ c.read_some.new.piece c.in-Some.read c.reads.invariant.lost c.in-Some.ensures.bytes c.if-read-eq0.true (c.in-Some.ensures.end c.if-read-eq0.true room)

pub slice_bounds-extend_from_slice-end : goal.slice_bounds-extend_from_slice-end
slice_bounds-extend_from_slice-end g c = omega (arith, length-take {A = ℕ}, length-append {A = ℕ}, c.in-Some.ensures.bound)

pub returns-clause-too_long : goal.returns-clause-too_long
returns-clause-too_long g c =
    let long : c.args.limit < length c.reads.bytes.items = omega (arith, c.reads.bytes.ok.0, c.len.ensures, c.reads-test.false) in
    (refl, more_read _ _ _ _ c.reads.invariant.lost long)

pub slice_bounds-piece-end-in-reads : goal.slice_bounds-piece-end-in-reads
slice_bounds-piece-end-in-reads g c = omega (arith, length-append {A = ℕ}, c.in-Some.ensures.bound)

pub slice_bounds-read_some-end : goal.slice_bounds-read_some-end
slice_bounds-read_some-end g c = omega (arith, length-take {A = ℕ}, c.min.ensures)

pub returns-then-read-eq0-clause-within : goal.returns-then-read-eq0-clause-within
returns-then-read-eq0-clause-within g c = omega (arith, c.len.ensures, c.reads-test.true)
