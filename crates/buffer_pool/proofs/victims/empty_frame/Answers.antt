use Rattle.std.proofs.Common.{◌∙◌, sym, ap, is_some}
use Rattle.buffer_pool.proofs.CallLemmas.{frame_has}
use Rattle.buffer_pool.proofs.EmptyLemmas.{page_of_some, page_of_none, empties_itself}
use Rattle.buffer_pool.proofs.victims.empty_frame.Goals as goal

pub frame-requires-clause-held : goal.frame-requires-clause-held
frame-requires-clause-held g c = let h = c.requires.both in
    (h.2, h.2, frame_has c.args.pass.now h.3.known c.args.block h.2 h.3.frame)

pub returns-then-not-has_page-clause-empty : goal.returns-then-not-has_page-clause-empty
returns-then-not-has_page-clause-empty g c = λ t x f both.
    empties_itself c.args.pass.now c.args.block t x f both c.fits.ensures
    (page_of_none f.page
    (ap (λ z. is_some z.page)
    (sym (c.frame.ensures f f (frame_has c.args.pass.now both.known c.args.block f both.frame)))
    ∙ (sym c.has_page.ensures ∙ c.if-not-has_page.true)))

pub evict-requires-clause-both : goal.evict-requires-clause-both
evict-requires-clause-both g c = let h = c.requires.both in
    let has = frame_has c.args.pass.now h.3.known c.args.block h.2 h.3.frame in
    let page = page_of_some h.2.page
    (ap (λ z. is_some z.page) (sym (c.frame.ensures h.2 h.2 has))
    ∙ (sym c.has_page.ensures ∙ c.if-not-has_page.false)) in
    (h.0, h.1, h.2, page.0, h.3, page.1, h.4)
