use Rattle.std.proofs.Common.{◌≡◌, ◌∙◌, ◌-◌, ℕ, sym, ap, subst, arith}
use Rattle.page_mirror.specs.Mirror.{Mirrors}
use Rattle.page_mirror.specs.Steps.{HasOrigin}
use Rattle.page_heap.specs.Heap.{cell_of, record_from, rewritten}
use Rattle.page_rows.specs.Inserting.{taken_mirror}
use Rattle.page_rows.proofs.RoomLemmas.{free_there}
use Rattle.page_rows.proofs.TakingLemmas.{told_start, told_fits, taken_free, after_head, wasted_enough}
use Rattle.page_rows.proofs.taking.take_free.Goals as goal

pub next_of-next-requires : goal.next_of-next-requires
next_of-next-requires g c =
    let p = c.requires.there.0 in
    let t = c.requires.there.1 in
    let s = t.take.spells in
    (p.mirror, t.h, subst (λ (x : ℕ). HasOrigin c.args.page.now p.mirror t.h x) (sym (c.first_free-head.ensures p.mirror s.page.is)) (free_there t.h t.rest s t.free).at)

pub write_over-at-requires : goal.write_over-at-requires
write_over-at-requires g c =
    let p = c.requires.there.0 in
    let t = c.requires.there.1 in
    let s = t.take.spells in (
      p.mirror,
      t.h,
      p.of t.h,
      subst (λ (x : ℕ). HasOrigin c.args.page.now p.mirror t.h x) (sym (c.first_free-head.ensures p.mirror s.page.is)) (free_there t.h t.rest s t.free).at,
      told_fits t (told_start t c.requires.start),
    )

pub set_first_free-requires : goal.set_first_free-requires
set_first_free-requires g c =
    let p = c.requires.there.0 in
    let t = c.requires.there.1 in
    let s = t.take.spells in
    let head = subst (λ (x : ℕ). HasOrigin c.args.page.now p.mirror t.h x) (sym (c.first_free-head.ensures p.mirror s.page.is)) (free_there t.h t.rest s t.free).at in
    let start = told_start t c.requires.start in
    let over = subst (λ (x : ℕ). HasOrigin c.write_over-at.new.page (rewritten p.mirror t.h (cell_of (record_from x t.h c.args.kind (g.A.Fields.fields_of c.args.key.now) c.args.tail.now))) t.h c.write_over-at.result) start
    (c.write_over-at.ensures p.mirror t.h (p.of t.h) head (told_fits t start)) in (
      rewritten p.mirror t.h (cell_of (record_from (p.of t.h).start t.h c.args.kind (g.A.Fields.fields_of c.args.key.now) c.args.tail.now)),
      over.is,
    )

pub overflow_sub-wasted : goal.overflow_sub-wasted
overflow_sub-wasted g c =
    let p = c.requires.there.0 in
    let t = c.requires.there.1 in
    omega (arith, wasted_enough t, c.garbage-wasted.ensures p.mirror t.take.spells.page.is)

pub set_garbage-requires : goal.set_garbage-requires
set_garbage-requires g c =
    let p = c.requires.there.0 in
    let t = c.requires.there.1 in
    let s = t.take.spells in
    let head = subst (λ (x : ℕ). HasOrigin c.args.page.now p.mirror t.h x) (sym (c.first_free-head.ensures p.mirror s.page.is)) (free_there t.h t.rest s t.free).at in
    let start = told_start t c.requires.start in
    let over = subst (λ (x : ℕ). HasOrigin c.write_over-at.new.page (rewritten p.mirror t.h (cell_of (record_from x t.h c.args.kind (g.A.Fields.fields_of c.args.key.now) c.args.tail.now))) t.h c.write_over-at.result) start
    (c.write_over-at.ensures p.mirror t.h (p.of t.h) head (told_fits t start)) in
    let m1 = rewritten p.mirror t.h (cell_of (record_from (p.of t.h).start t.h c.args.kind (g.A.Fields.fields_of c.args.key.now) c.args.tail.now)) in (
      record m1 { free = c.list_after.result },
      c.set_first_free.ensures m1 over.is,
    )

pub returns : goal.returns
returns g c = λ p t.
    let m = p.mirror in
    let s = t.take.spells in
    let first = c.first_free-head.ensures m s.page.is in
    let head = subst (λ (x : ℕ). HasOrigin c.args.page.now m t.h x) (sym first) (free_there t.h t.rest s t.free).at in
    let cell = cell_of (record_from (p.of t.h).start t.h c.args.kind (g.A.Fields.fields_of c.args.key.now) c.args.tail.now) in
    let m1 = rewritten m t.h cell in
    let start = told_start t c.requires.start in
    let over = subst (λ (x : ℕ). HasOrigin c.write_over-at.new.page (rewritten p.mirror t.h (cell_of (record_from x t.h c.args.kind (g.A.Fields.fields_of c.args.key.now) c.args.tail.now))) t.h c.write_over-at.result) start
    (c.write_over-at.ensures p.mirror t.h (p.of t.h) head (told_fits t start)) in
    let second = c.set_first_free.ensures m1 over.is in
    let third = c.set_garbage.ensures (record m1 { free = c.list_after.result }) second in
    let after : c.list_after.result ≡ after_head m.free c.next_of-next.result = c.list_after.ensures ∙ ap (λ (x : ℕ). after_head x c.next_of-next.result) first in
    let wasted = c.garbage-wasted.ensures m s.page.is in
    taken_free t (c.next_of-next.ensures m t.h head) over
    (subst (λ (x : ℕ). Mirrors c.set_garbage.new.page (taken_mirror m t.h cell m.count m.top x (m.garbage - c.args.size))) after
    (subst (λ (x : ℕ). Mirrors c.set_garbage.new.page (taken_mirror m t.h cell m.count m.top c.list_after.result (x - c.args.size))) wasted third))
