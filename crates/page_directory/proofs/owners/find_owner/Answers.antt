use Rattle.std.proofs.Common.{arith}
use Rattle.page_directory.proofs.OwnerLemmas.{way_to_owner, way_ends, way_over, way_goes_on, is_owner}
use Rattle.page_directory.proofs.owners.find_owner.Goals as goal

pub loop-init : goal.loop-init
loop-init c = λ m gs free s h r.
    let w = way_to_owner r in
    let short = w.1.short in (w.0, h, r.record_at, w.1, omega arith)

pub owns-requires : goal.owns-requires
owns-requires c =
    let r = c.requires in
    let w = c.loop.invariant r.0 r.1 r.2 r.3 r.4 r.5 in (r.0, w.1, w.2)

pub next_of-owner-requires : goal.next_of-owner-requires
next_of-owner-requires c =
    let r = c.requires in
    let w = c.loop.invariant r.0 r.1 r.2 r.3 r.4 r.5 in (r.0, w.1, w.2)

pub returns-then-owns-gt0 : goal.returns-then-owns-gt0
returns-then-owns-gt0 c = λ m gs free s h r.
    let w = c.loop.invariant m gs free s h r in
    is_owner w.1 c.loop.owner r w.2 (way_ends w.0 w.3 (omega (arith, c.owns.ensures m w.1 w.2)))

pub loop-preserved : goal.loop-preserved
loop-preserved c = λ m gs free s h r.
    let w = c.loop.invariant m gs free s h r in
    let on = way_goes_on w.0 w.3 (omega (arith, c.owns.ensures m w.1 w.2)) in (
      on.0,
      m.next w.1,
      c.next_of-owner.ensures m w.1 w.2,
      on.1,
      omega (arith, on.2, w.4),
    )

pub returns : goal.returns
returns c = λ m gs free s h r.
    let w = c.loop.invariant m gs free s h r in
    is_owner w.1 c.loop.owner r w.2 (way_over w.0 w.3 (omega (arith, w.4)))
