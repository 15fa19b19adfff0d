-- The pages that a page's rows point to.
use Rattle.std.proofs.Common.{Some, ap, ◌∙◌}
use Rattle.tree_law.proofs.PlacingLemmas.{pointed_to}
use Rattle.forest_law.specs.State.{page_within, pages_of, heights_of}
use Rattle.tree_facts.specs.InnerPages.{PointersBoundChildren}
use Rattle.tree_facts.proofs.FrameLemmas.{tells_page, tagged_page}

pub pointers_bound_children : PointersBoundChildren
pointers_bound_children w law b f page is level above fore row aft parts n body =
    let up = page_within page f.low f.high in
    let shape = law.objects.pages.shape in
    let there = (tells_page w law b f page is).is
    ∙ ap (λ xs. Some (record up { rows = xs })) parts in
    tagged_page w law n _ (shape.children n _
    (pointed_to w.shape.indexes (heights_of w.objects) (pages_of w.shape w.objects) shape page.head.number n up
    fore row aft level there is.tree above body))
