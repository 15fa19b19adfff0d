-- Pages whose rows became those of one.
use Rattle.std.proofs.Common.{◌≡◌, ℕ, Option, Some, None, List, [], ◌++◌, sym, ap, ◌∙◌, subst}
use Rattle.index_page.specs.Rows.{Row, SameRows}
use Rattle.index_page.specs.Page.{PageRows, linked, IsPageInOrder}
use Rattle.index_page.specs.Moves.{MovesAll}
use Rattle.tree_merging.specs.Merges.{emptied, MergesPage}
use Rattle.tree_merging.specs.Lifts.{LiftsPage}

-- a page without rows that was linked is emptied
pub is_emptied : (other mid gone : PageRows) (number : ℕ) → mid.head ≡ other.head → mid.rows ≡ []
    → number ≡ other.head.number → gone.head ≡ linked mid.head (Some number) None
    → gone.rows ≡ mid.rows → gone ≡ emptied other
is_emptied other mid gone number head none is link rows i = record {
  head = (link ∙ (λ j. linked (head j) (Some (is j)) None)) i;
  rows = (rows ∙ none) i;
}

-- rows that moved behind others, between pages that were linked
pub merges_page : (page mid whole other left gone : PageRows) (prev next : Option ℕ) (number : ℕ)
    → MovesAll other left page mid → prev ≡ page.head.prev → next ≡ other.head.next
    → number ≡ other.head.number → whole.head ≡ linked mid.head prev next → whole.rows ≡ mid.rows
    → gone.head ≡ linked left.head (Some number) None → gone.rows ≡ left.rows
    → IsPageInOrder whole → MergesPage page whole other gone
merges_page page mid whole other left gone prev next number m p n is head rows link none order =
    record {
      moved = m.moved;
      behind = rows ∙ m.behind;
      same = m.same;
      head = head ∙ (λ i. linked (m.to_head i) (p i) (n i));
      is_gone = is_emptied other left gone number m.head m.gone is link none;
      order = order;
    }

-- rows that moved to a page of another level
pub lifts_page : (page top under left gone empty : PageRows) (number level : ℕ)
    → MovesAll under left empty top → empty.rows ≡ []
    → empty.head ≡ record page.head { level = level } → level ≡ under.head.level
    → number ≡ under.head.number → gone.head ≡ linked left.head (Some number) None
    → gone.rows ≡ left.rows → IsPageInOrder top → LiftsPage page top under gone
lifts_page page top under left gone empty number level m none is l n link rows order = record {
  go = subst (SameRows under.rows)
      (sym (m.behind ∙ ap (λ (xs : List Row). xs ++ m.moved) none)) m.same;
  head = m.to_head ∙ is ∙ (λ i. (let h = page.head in record h { level = l i }));
  is_gone = is_emptied under left gone number m.head m.gone n link rows;
  order = order;
}
