-- What the frame of an inner page tells of its pointers, and of a descent.
use Rattle.std.proofs.Common.{◌≡◌, ◌∷◌, inl, inr, sym, ap, subst, ◌∙◌, arith}
use Rattle.list_facts.proofs.Places.{same_some}
use Rattle.index_page.specs.Search.{AllIn}
use Rattle.tree_law.specs.TreeShape.{first_from}
use Rattle.tree_law.specs.Pages.{pointers_of}
use Rattle.tree_law.proofs.PickLemmas.{are_inner, descent_steps}
use Rattle.tree_law.proofs.PlacingLemmas.{low_not_high}
use Rattle.forest_law.specs.State.{page_within, pages_of, heights_of, maps_of, fields_for}
use Rattle.forest_law.proofs.FramePageLemmas.{cuts_have_pages}
use Rattle.tree_facts.specs.TreeFrames.{low_of, high_of}
use Rattle.tree_facts.specs.InnerPages.{InnerPagesPoint, ChildrenHaveCuts}
use Rattle.tree_facts.proofs.FrameLemmas.{tells_page}

pub inner_pages_point : InnerPagesPoint
inner_pages_point w law b f page is above = let tells = tells_page w law b f page is in
    let sound = tells.sound is.tree in
    record {
      some = λ none. low_not_high (low_of f) (high_of f) sound.bounds
          (sym (sound.begins above)
          ∙ ap (λ rows. first_from (pointers_of rows) (high_of f)) none);
      inner = are_inner page.head.level (λ e. omega (arith, e, above)) page.rows tells.order.bodies;
      begins = sound.begins above;
      rise = sound.rise above;
    }

pub children_have_cuts : ChildrenHaveCuts
children_have_cuts w law b f page is level above p cut low high place picked row there n body =
    let tells = tells_page w law b f page is in
    let steps = descent_steps w.shape.indexes (fields_for w.shape) (heights_of w.objects)
    (maps_of w.lists) (pages_of w.shape w.objects) law.objects.pages p cut page.head.number level
    (page_within page f.low f.high) tells.is is.tree above low high in
    cuts_have_pages w law p page.head.index level n
    (elim picked [
      | inl last ↦ steps.last last.left last.right row n last.split
          (last.last ∙ (sym last.there ∙ there)) body last.out last.past
      | inr first ↦ (let same = same_some first.row row (sym first.there ∙ there) in
          let rows : page.rows ≡ row ∷ first.rest = first.is ∙ ap (λ z. z ∷ first.rest) same in
          steps.first row first.rest n rows body (subst (AllIn p) rows first.past).1)
    ])
