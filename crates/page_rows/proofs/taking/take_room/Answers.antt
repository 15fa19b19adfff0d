use Rattle.std.proofs.Common.{◌∙◌, sym}
use Rattle.page_rows.proofs.TakingLemmas.{record_behind_fits, taken_behind, choose_free, choose_behind}
use Rattle.page_rows.proofs.taking.take_room.Goals as goal

pub take_free-requires : goal.take_free-requires
take_free-requires g c =
    let r = c.requires in
    record {
      start = c.page_room-room.ensures.start;
      there = (r.0, choose_free r.1 (rw c.page_room-room.ensures.gaps at (sym c.fits_free.ensures ∙ c.if-fits_free.true)));
    }

pub write_behind-requires-clause-there : goal.write_behind-requires-clause-there
write_behind-requires-clause-there g c =
    let r = c.requires in
    (r.0.mirror, record_behind_fits (choose_behind r.1 (rw c.page_room-room.ensures.gaps at (sym c.fits_free.ensures ∙ c.if-fits_free.false))))

pub returns-then-fits_free : goal.returns-then-fits_free
returns-then-fits_free g c = λ p t.
    c.take_free.ensures p (choose_free t (rw c.page_room-room.ensures.gaps at (sym c.fits_free.ensures ∙ c.if-fits_free.true)))

pub returns-else-fits_free : goal.returns-else-fits_free
returns-else-fits_free g c = λ p t.
    let behind = choose_behind t (rw c.page_room-room.ensures.gaps at (sym c.fits_free.ensures ∙ c.if-fits_free.false)) in
    taken_behind behind (c.write_behind.ensures p.mirror (record_behind_fits behind))
