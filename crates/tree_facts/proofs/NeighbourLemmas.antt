-- The pages beside another.
use Rattle.std.proofs.Common.{sym, ap, subst, ◌∙◌}
use Rattle.list_facts.proofs.Places.{same_some}
use Rattle.tree_law.specs.TreeShape.{Tag, tag_of, map_tag, tag_at, NextFits, PrevFits}
use Rattle.tree_law.specs.Pages.{outline, forest}
use Rattle.tree_law.proofs.NeighbourLemmas.{fore_link}
use Rattle.tree_law.proofs.PageRowLemmas.{tree_is}
use Rattle.tree_law.proofs.PlacingLemmas.{low_not_high}
use Rattle.forest_law.specs.State.{page_within, pages_of, heights_of, fields_for}
use Rattle.tree_facts.specs.TreeFrames.{low_of, high_of}
use Rattle.tree_facts.specs.Neighbours.{NextPagesFit, PreviousPagesFit}
use Rattle.tree_facts.proofs.FrameLemmas.{tells_page, tree_outline, tagged_page}

pub next_pages_fit : NextPagesFit
next_pages_fit w law b f page is m next = let pages = pages_of w.shape w.objects in
    let trees = forest pages in
    let shape = law.objects.pages.shape in
    let this = outline (page_within page f.low f.high) in
    let there = tree_outline w law b f page is in
    let fits = subst (NextFits trees (tag_of this)) next (shape.nexts page.head.number this there) in
    let has = tagged_page w law m fits.0 fits.1 in
    let index = has.index ∙ fits.2.index in
    record {
      after = has.page;
      at = has.at;
      tree = has.tree;
      index = index;
      level = has.at_level ∙ fits.2.level;
      fields = (law.objects.pages.orderly m has.page has.at).fields
          ∙ (ap (fields_for w.shape) index ∙ sym (tells_page w law b f page is).order.fields);
      other = λ e. low_not_high (low_of f) (high_of f)
          (shape.pages page.head.number this there).bounds
          (ap (λ (t : Tag). t.low) (same_some (tag_of this) fits.0
          (sym (ap map_tag there) ∙ (ap (tag_at trees) (sym e) ∙ fits.1))) ∙ fits.2.meets);
      meets = has.low ∙ fits.2.meets;
      back = fore_link w.shape.indexes (heights_of w.objects) trees shape m page.head.number this
          (outline has.page) there (tree_is pages m has.page has.at has.tree) next;
    }

pub previous_pages_fit : PreviousPagesFit
previous_pages_fit w law b f page is m prev = let trees = forest (pages_of w.shape w.objects) in
    let shape = law.objects.pages.shape in
    let this = outline (page_within page f.low f.high) in
    let there = tree_outline w law b f page is in
    let fits = subst (PrevFits trees (tag_of this)) prev (shape.prevs page.head.number this there) in
    let has = tagged_page w law m fits.0 fits.1 in
    record {
      former = has.page;
      at = has.at;
      tree = has.tree;
      index = has.index ∙ sym fits.2.index;
      level = has.at_level ∙ sym fits.2.level;
      other = λ e. low_not_high (low_of f) (high_of f)
          (shape.pages page.head.number this there).bounds
          (fits.2.meets ∙ sym (ap (λ (t : Tag). t.high) (same_some (tag_of this) fits.0
          (sym (ap map_tag there) ∙ (ap (tag_at trees) (sym e) ∙ fits.1)))));
      meets = has.high ∙ sym fits.2.meets;
    }
