use Rattle.std.proofs.Common.{◌≡◌, ◌∙◌, ◌+◌, ℕ, sym, ap, subst, arith}
use Rattle.page_mirror.specs.Mirror.{Mirrors, origin_of}
use Rattle.page_mirror.specs.Steps.{HasOrigin, led}
use Rattle.page_directory.specs.Owners.{first_else}
use Rattle.page_rows.specs.Spelling.{size_of_record}
use Rattle.page_rows.specs.Deleting.{origin_after}
use Rattle.page_rows.proofs.FreedLemmas.{freed_leads, wasted_few, freed_spells}
use Rattle.page_rows.proofs.deleting.free_record.Goals as goal

pub first_free-head-requires : goal.first_free-head-requires
first_free-head-requires c = let r = c.requires in (r.1.mirror, r.3.spells.page.is)

pub garbage-wasted-requires : goal.garbage-wasted-requires
garbage-wasted-requires c = let r = c.requires in (r.1.mirror, r.3.spells.page.is)

pub lead-requires : goal.lead-requires
lead-requires c = let r = c.requires in (r.1.mirror, r.2, r.3.loose_at)

pub set_first_free-requires : goal.set_first_free-requires
set_first_free-requires c =
    let p = c.requires.1 in
    let m = p.mirror in
    let h = c.requires.2 in
    let r = c.requires.3 in
    let to = c.free_behind.ensures ∙ ap (λ (x : ℕ). origin_after x c.args.at) (c.first_free-head.ensures m r.spells.page.is) in
    (led m h (first_else p.free h), c.lead.ensures m h (first_else p.free h) r.loose_at (subst (λ (x : ℕ). HasOrigin c.args.page.now m (first_else p.free h) x) (sym to) (freed_leads r)))

pub overflow_add-wasted : goal.overflow_add-wasted
overflow_add-wasted c =
    let r = c.requires.3 in
    omega (arith, wasted_few r, c.garbage-wasted.ensures c.requires.1.mirror r.spells.page.is)

pub set_garbage-requires : goal.set_garbage-requires
set_garbage-requires c =
    let p = c.requires.1 in
    let m = p.mirror in
    let h = c.requires.2 in
    let r = c.requires.3 in
    let to = c.free_behind.ensures ∙ ap (λ (x : ℕ). origin_after x c.args.at) (c.first_free-head.ensures m r.spells.page.is) in
    let m1 = led m h (first_else p.free h) in
    let first = c.lead.ensures m h (first_else p.free h) r.loose_at (subst (λ (x : ℕ). HasOrigin c.args.page.now m (first_else p.free h) x) (sym to) (freed_leads r)) in
    (record m1 { free = c.args.at }, c.set_first_free.ensures m1 first)

pub returns : goal.returns
returns c = λ fields p h r.
    let m = p.mirror in
    let to = c.free_behind.ensures ∙ ap (λ (x : ℕ). origin_after x c.args.at) (c.first_free-head.ensures m r.spells.page.is) in
    let m1 = led m h (first_else p.free h) in
    let first = c.lead.ensures m h (first_else p.free h) r.loose_at (subst (λ (x : ℕ). HasOrigin c.args.page.now m (first_else p.free h) x) (sym to) (freed_leads r)) in
    let second = c.set_first_free.ensures m1 first in
    let third = c.set_garbage.ensures (record m1 { free = c.args.at }) second in
    let wasted : c.garbage-wasted.result + c.args.size ≡ m.garbage + size_of_record (p.of h) =
    ap (λ (x : ℕ). x + c.args.size) (c.garbage-wasted.ensures m r.spells.page.is) ∙ ap (λ (x : ℕ). m.garbage + x) r.size_is in
    freed_spells r
    (subst (λ (x : ℕ). Mirrors c.set_garbage.new.page (record m1 { free = origin_of m h; garbage = x })) wasted
    (subst (λ (x : ℕ). Mirrors c.set_garbage.new.page (record m1 { free = x; garbage = c.garbage-wasted.result + c.args.size })) (sym r.loose_at.placed) third))
