-- The pages of an open space are lawful, and what a descent needs.
use Rattle.std.proofs.Common.{◌≡◌, ℕ, ◌<◌, Bool, true, false, cond, Some, None, [], refl, sym, ap, ◌∙◌, subst, inl, arith, lt-ltb, ltb-true, ltb}
use Rattle.key_tuple.specs.KeyPlace.{Start, End, before}
use Rattle.tree_law.specs.TreeShape.{Outline, Forest, Tag, tag_of, map_tag, IsSound, NextFits, PrevFits}
use Rattle.tree_law.specs.Pages.{Page, outline, tree_page, forest, page_pairs, AreLawfulPages, IsOrderly, first_page, first_pages}
use Rattle.tree_law.proofs.OnePageLemmas.{page_at}

module _ (fields_of : ℕ → ℕ) (indexes : ℕ) where
  abbrev trees : Forest
  trees = forest (first_pages fields_of indexes)

  start_end : before Start End ≡ true
  unfolding before
  start_end = refl

  -- each page is a first one
  first_is : (n : ℕ) (page : Outline) → trees n ≡ Some page → (n < indexes) × (page ≡ outline (first_page fields_of n))
  first_is n page is = go (ltb n indexes) refl is
    where
      go : (b : Bool) → ltb n indexes ≡ b → tree_page n (cond b (Some (first_page fields_of n)) None) ≡ Some page → (n < indexes) × (page ≡ outline (first_page fields_of n))
      go true e f = (ltb-true n indexes e, cc)
      go false e f = absurd cc

  by_first : (P : ℕ → Outline → Type 0) → ((n : ℕ) → n < indexes → P n (outline (first_page fields_of n))) → (n : ℕ) (page : Outline) → trees n ≡ Some page → P n page
  by_first P h n page is = let f = first_is n page is in subst (P n) (sym f.1) (h n f.0)

  pub opening_lawful : AreLawfulPages indexes fields_of (λ i. 0) (λ i. []) (first_pages fields_of indexes)
  opening_lawful = record {
    shape = record {
      roots = λ i in'. ap (λ b. map_tag (tree_page i (cond b (Some (first_page fields_of i)) None))) (lt-ltb i indexes in');
      pages = by_first (λ n page. IsSound indexes (λ i. 0) (tag_of page) page.pointers) (λ n l. record { index = l; level = omega arith; bounds = start_end; begins = λ k. absurd (omega arith); rise = λ k. absurd (omega arith) });
      children = λ n t u. absurd (omega (arith, u.level, ap (λ (o : Outline). o.level) (first_is u.number u.up u.is).1));
      parents = λ n t is. let p = page_at trees n t is in inl (sym (ap (λ (t : Tag). t.index) (sym p.2) ∙ ap (λ (o : Outline). o.index) (first_is n p.0 p.1).1));
      nexts = by_first (λ n page. NextFits trees (tag_of page) page.next) (λ n l. refl);
      prevs = by_first (λ n page. PrevFits trees (tag_of page) page.prev) (λ n l. refl);
    };
    contents = λ n page is leaf. let f = first_is n page is in ap (λ b. page_pairs (cond b (Some (first_page fields_of n)) None)) (lt-ltb n indexes f.0);
    outside = λ n page is e. go n page (ltb n indexes) is e;
    orderly = λ n page is. order n page (ltb n indexes) is;
  }
    where
      go : (n : ℕ) (page : Page) (b : Bool) → cond b (Some (first_page fields_of n)) None ≡ Some page → page.prev ≡ Some n → page.rows ≡ []
      go n page true f e = absurd (let same : first_page fields_of n ≡ page = cc in cc (ap (λ (p : Page). p.prev) same, e))
      go n page false f e = absurd cc

      order : (n : ℕ) (page : Page) (b : Bool) → cond b (Some (first_page fields_of n)) None ≡ Some page → IsOrderly fields_of page
      order n page true f = let same : first_page fields_of n ≡ page = cc in subst (IsOrderly fields_of) same (record { fields = refl; keys = tt; low = tt; high = tt; bodies = tt; places = tt })
      order n page false f = absurd cc
