use Rattle.std.proofs.Common.{◌≡◌, Bool, true, false, sym, subst}
use Rattle.buffer_pool.specs.Pages.{HasTreePage}
use Rattle.buffer_pool.proofs.AgainLemmas.{passes_both}
use Rattle.buffer_pool.proofs.PageIfLemmas.{none_found, paged_has, other_found}
use Rattle.buffer_pool.proofs.paging.page_if.Goals as goal

both_ways : (b : Bool) → b ≡ true → b ≡ false → ⊥
both_ways b so not = absurd cc

pub returns-in_default-clause-did : goal.returns-in_default-clause-did
returns-in_default-clause-did g c = none_found c.args.pass.now c.hold_page.new.pass c.args.page
    c.args.index c.args.level c.in_default.ensures.did

pub frame-requires-clause-held : goal.frame-requires-clause-held
frame-requires-clause-held g c = let pages = c.in-Some.ensures.did in (
  pages.frame,
  pages.frame,
  paged_has c.args.pass.now c.hold_page.new.pass c.args.page c.in-Some.block pages,
)

pub returns-then-has_tree_page-clause-did : goal.returns-then-has_tree_page-clause-did
returns-then-has_tree_page-clause-did g c = let pages = c.in-Some.ensures.did in record {
  paged = pages;
  is = subst (λ f. HasTreePage f c.args.index c.args.level)
      (c.frame.ensures pages.frame pages.frame
      (paged_has c.args.pass.now c.hold_page.new.pass c.args.page c.in-Some.block pages))
      (c.has_tree_page.ensures.there c.if-has_tree_page.true);
}

pub give_back-requires-clause-held : goal.give_back-requires-clause-held
give_back-requires-clause-held g c = let pages = c.in-Some.ensures.did in (
  pages.frame,
  paged_has c.args.pass.now c.hold_page.new.pass c.args.page c.in-Some.block pages,
  pages.inside,
)

pub returns-clause-did : goal.returns-clause-did
returns-clause-did g c = let pages = c.in-Some.ensures.did in
    other_found c.args.pass.now c.hold_page.new.pass c.args.page c.in-Some.block pages
    c.give_back.new.pass c.give_back.ensures.gave c.args.index c.args.level
    (λ is. both_ways c.has_tree_page.result
    (c.has_tree_page.ensures.none
    (subst (λ f. HasTreePage f c.args.index c.args.level)
    (sym (c.frame.ensures pages.frame pages.frame
    (paged_has c.args.pass.now c.hold_page.new.pass c.args.page c.in-Some.block pages))) is))
    c.if-has_tree_page.false)

pub returns-clause-own : goal.returns-clause-own
returns-clause-own g c = (
  passes_both c.args.pass.now c.hold_page.new.pass c.give_back.new.pass
      c.hold_page.ensures.own.0 c.give_back.ensures.own.0,
  c.give_back.ensures.own.1,
)

pub returns-clause-fits : goal.returns-clause-fits
returns-clause-fits g c = c.give_back.ensures.fits

pub returns-in_default-clause-own : goal.returns-in_default-clause-own
returns-in_default-clause-own g c = c.hold_page.ensures.own

pub returns-in_default-clause-fits : goal.returns-in_default-clause-fits
returns-in_default-clause-fits g c = c.hold_page.ensures.fits

pub returns-then-has_tree_page-clause-own : goal.returns-then-has_tree_page-clause-own
returns-then-has_tree_page-clause-own g c = c.hold_page.ensures.own

pub returns-then-has_tree_page-clause-fits : goal.returns-then-has_tree_page-clause-fits
returns-then-has_tree_page-clause-fits g c = c.hold_page.ensures.fits
