use Rattle.std.proofs.Common.{is_some, ap, sym, ◌∙◌}
use Rattle.key_tuple.specs.KeyPlace.{cut_of}
use Rattle.index_page.specs.declared.head.PageHead.{PageHead}
use Rattle.guess_check.proofs.BesideLemmas.{last_none, last_some}
use Rattle.guess_check.proofs.checking.is_last.Goals as goal

pub returns-in-None : goal.returns-in-None
returns-in-None g c =
    last_none (cut_of c.args.mode (g.A.Fields.fields_of c.args.tuple.now)) c.args.page.now
    c.args.place c.next.result c.is_none.result c.next.ensures c.in-None.is
    (sym (ap (λ (h : PageHead). is_some h.next) c.head.ensures) ∙ c.is_none.ensures)

pub returns-in-Some : goal.returns-in-Some
returns-in-Some g c =
    last_some (cut_of c.args.mode (g.A.Fields.fields_of c.args.tuple.now)) c.args.page.now
    c.args.place c.next.result c.in-Some.after c.row.result.row c.is_past.result
    c.next.ensures c.in-Some.is c.row.ensures.row c.is_past.ensures
