use Rattle.std.proofs.Common.{ap, sym, ◌∙◌, subst}
use Rattle.std.proofs.lemmas.Option.{none-some}
use Rattle.list_facts.proofs.Places.{same_some}
use Rattle.index_page.specs.Page.{PageRows}
use Rattle.forest_law.specs.declared.objects.Frame.{Frame}
use Rattle.tree_growth.specs.Pages.{TellsRoom}
use Rattle.tree_growth.proofs.looking.page_in_hand.Goals as goal

pub unreachable-requires : goal.unreachable-requires
unreachable-requires c = let h = c.requires.held in none-some h.1 (sym c.in-None.is
    ∙ (ap (λ (f : Frame). f.page) (c.frame.ensures h.0 h.0 h.2) ∙ h.3))

pub returns : goal.returns
returns c = λ f page has paged.
    let is = ap (λ (f : Frame). f.page) (c.frame.ensures f f has) in
    subst (λ (page : PageRows). TellsRoom c.args.block page c.args.need c.room_on.result)
    (same_some c.in-Some.page page (sym c.in-Some.is ∙ (is ∙ paged))) c.room_on.ensures
