-- A pointer that was put in and taken out again.
use Rattle.std.proofs.Common.{◌≡◌, ℕ, [], ◌∷◌, ◌++◌, List, sym, ap, subst, ◌∙◌, append_assoc, Some, IsSome, is_some}
use Rattle.key_tuple.specs.Order.{FieldList}
use Rattle.list_facts.proofs.Places.{same_some}
use Rattle.index_page.specs.Rows.{Row, find_row}
use Rattle.index_page.specs.Page.{PageRows, PlacesDiffer}
use Rattle.index_page.proofs.RowLemmas.{find_among}
use Rattle.forest_law.specs.declared.objects.Frame.{Frame}
use Rattle.tree_restructure.specs.FrameCuts.{CutsFrame}
use Rattle.tree_restructure.specs.Pointers.{PointsAround, PutsPointer, PutsBehind}
use Rattle.tree_restructure.specs.SplitCalls.{SuitsSplit, SplitsUnder, TakesRow, HasRowAt}
use Rattle.tree_restructure.proofs.WalkLemmas.{same_parts}

module _ (left right : ℕ) (f g : Frame) (at : FieldList)
    (p : PutsPointer left right f g at) where
  has : g.page ≡ Some p.new
  has = ap (λ (x : Frame). x.page) p.kept

  parted : p.new.rows ≡ (p.fore ++ p.this ∷ []) ++ p.pointer ∷ p.aft
  parted = p.is ∙ sym (append_assoc p.fore (p.this ∷ []) (p.pointer ∷ p.aft))

  -- stands at its place
  pub stands_in : (place : ℕ) → p.pointer.place ≡ place → HasRowAt g place
  stands_in place here = record {
    page = p.new;
    has = has;
    there = subst (λ n. IsSome (find_row n p.new.rows)) here
        (subst (λ (rows : List Row). IsSome (find_row p.pointer.place rows)) (sym parted)
        (ap is_some (find_among (p.fore ++ p.this ∷ []) p.pointer p.aft
        (subst PlacesDiffer parted p.order.places))));
  }

  module _ (h : Frame) (place : ℕ) (here : p.pointer.place ≡ place) (d : TakesRow g h place) where
    same : d.page ≡ p.new
    same = same_some d.page p.new (sym d.had ∙ has)

    parts : (d.deletes.left ≡ p.fore ++ p.this ∷ []) × (d.deletes.row ≡ p.pointer)
        × (d.deletes.right ≡ p.aft)
    parts = let split = sym (ap (λ (q : PageRows). q.rows) same ∙ parted) ∙ d.deletes.was in
        let there = same_parts (p.fore ++ p.this ∷ []) p.pointer p.aft d.deletes.left d.deletes.row
        d.deletes.right (subst PlacesDiffer parted p.order.places) split
        (here ∙ sym d.deletes.place_is) in
        (sym there.0, sym there.1, sym there.2)

    rows : d.new.rows ≡ p.page.rows
    rows = d.deletes.is ∙ ((λ i. parts.0 i ++ parts.2 i)
        ∙ append_assoc p.fore (p.this ∷ []) p.aft ∙ sym p.was)

    page : d.new ≡ p.page
    page i = record {
      head = (d.deletes.head ∙ ap (λ (q : PageRows). q.head) same ∙ p.head) i;
      rows = rows i;
    }

    -- leaves the frame as it was
    pub taken_back : h ≡ f
    taken_back = d.kept ∙ ((λ i. (let x = p.kept i in record x { page = Some (page i) }))
        ∙ (λ i. record f { page = (sym p.had) i }))

-- a cut under a pointer that was put in by the right page's number
pub splits_under : (l m r n u v : Frame) (spot place number : ℕ) (at : FieldList)
    → SuitsSplit l r u spot at → CutsFrame l m r n at
    → ((page : PageRows) → r.page ≡ Some page → number ≡ page.head.number)
    → PutsBehind place number u v at → SplitsUnder l m r n u v at
splits_under l m r n u v spot place number at s c its put =
    let same : s.frames.page ≡ c.page =
    same_some s.frames.page c.page (sym s.frames.has ∙ c.had) in
    let around = subst (λ (q : PageRows). PointsAround u q.head.number at) same s.around in record {
      cut = c;
      pointer = subst (λ k. PutsPointer c.page.head.number k u v at) (its c.fresh c.had_fresh)
          (put c.page.head.number around).0;
    }
