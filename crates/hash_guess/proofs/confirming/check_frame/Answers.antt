use Rattle.std.proofs.Common.{refl, sym, ap, ◌∙◌, inl, inr}
use Rattle.index_page.specs.declared.head.PageHead.{PageHead}
use Rattle.hash_guess.proofs.confirming.check_frame.Goals as goal

pub check-requires-clause-fields : goal.check-requires-clause-fields
check-requires-clause-fields g c =
    c.requires.fields c.in-Some.page c.in-Some.is
    (ap (λ (h : PageHead). h.index) (sym c.head.ensures) ∙ c.if-head-index.false)

pub returns-then-head-index : goal.returns-then-head-index
returns-then-head-index g c = record {
  page = c.in-Some.page;
  paged = c.in-Some.is;
  checks = inl (λ is. c.if-head-index.true (ap (λ (h : PageHead). h.index) c.head.ensures ∙ is), refl);
}

pub returns : goal.returns
returns g c = record {
  page = c.in-Some.page;
  paged = c.in-Some.is;
  checks = inr (ap (λ (h : PageHead). h.index) (sym c.head.ensures) ∙ c.if-head-index.false, c.check.ensures);
}
