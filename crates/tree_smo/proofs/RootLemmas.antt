-- The root of an index that is to rise, and the new page under it.
use Rattle.std.proofs.Common.{◌≡◌, ◌≢◌, ℕ, ◌<◌, [], ◌∷◌, sym, ap, subst, ◌∙◌, arith, Some}
use Rattle.latch_space.specs.Has.{IsKnown}
use Rattle.latch_space.specs.Passes.{view}
use Rattle.index_page.specs.declared.head.PageHead.{PageHead}
use Rattle.index_page.specs.Page.{PageRows}
use Rattle.index_law.specs.Shape.{Shape}
use Rattle.forest_law.specs.declared.objects.Frame.{Frame}
use Rattle.forest_law.specs.Law.{IsLawful}
use Rattle.forest_law.specs.Numbers.{tree_id, frame_id}
use Rattle.forest_law.specs.State.{ForestState, fields_for}
use Rattle.forest_world.specs.Held.{TreePass, shape_of_pass, HasFrame}
use Rattle.tree_restructure.specs.Links.{HasAPage}
use Rattle.buffer_pool.specs.Calls.{DoesSilently}
use Rattle.buffer_pool.specs.Forests.{FitsTrees}
use Rattle.buffer_pool.specs.NewPages.{GetsPage}
use Rattle.buffer_pool.proofs.AddedLemmas.{tree_still}
use Rattle.buffer_pool.proofs.CallLemmas.{frame_has, silently_both}
use Rattle.tree_smo.specs.Raising.{CanRaise, RaisesRoot}
use Rattle.tree_smo.specs.Storeys.{raise_ids, HoldsStoreys, MakesRaise}
use Rattle.tree_smo.proofs.BesideLemmas.{lacked_apart, still_known, known_before}
use Rattle.tree_smo.proofs.LawfulLemmas.{known_tells}
use Rattle.tree_smo.proofs.SilentLemmas.{silently_weaker, does_shape}

module _ (p : TreePass) (known : IsKnown p) (i b : ℕ) (can : CanRaise (view p) i b) (f : Frame)
    (read : (x y : Frame) → HasFrame p b x y → f ≡ y) where
  paged : f.page ≡ Some can.page.page
  paged = ap (λ (x : Frame). x.page) (read can.root can.root (frame_has p known b can.root
      can.knows_root)) ∙ can.page.paged

  pub root_page : HasAPage f
  root_page = record { page = can.page.page; has = paged }

  -- the head that was read is the root's
  module _ (head : PageHead) (is : (page : PageRows) → f.page ≡ Some page → head ≡ page.head) where
    pub head_is : head ≡ can.page.page.head
    head_is = is can.page.page paged

    pub index_is : head.index ≡ i
    index_is = ap (λ (z : PageHead). z.index) head_is ∙ can.page.index

    pub index_there : i < (shape_of_pass p).indexes → head.index < (shape_of_pass p).indexes
    index_there below = subst (λ n. n < (shape_of_pass p).indexes) (sym index_is) below

    pub root_fields : (w : ForestState) → IsLawful w → FitsTrees w (view p)
        → head.fields ≡ fields_for (shape_of_pass p) head.index
    root_fields w law fits = ap (λ (z : PageHead). z.fields) head_is
        ∙ ((known_tells w law (view p) fits b can.root can.page.page can.knows_root
        can.page.paged).order.fields
        ∙ ((λ j. fields_for (fits.shape j) can.page.page.head.index)
        ∙ ap (λ (z : PageHead). fields_for (shape_of_pass p) z.index) (sym head_is)))

    module _ (under : ℕ) (q : TreePass) (got : GetsPage p head under q) where
      pub root_got : GetsPage p can.page.page.head under q
      root_got = subst (λ z. GetsPage p z under q) head_is got

module _ (p q : TreePass) (i b under : ℕ) (can : CanRaise (view p) i b)
    (got : GetsPage p can.page.page.head under q) where
  -- no tree's number is that of the new page's frame
  tree_apart : i < (shape_of_pass p).indexes → tree_id i ≢ frame_id (shape_of_pass p) under
  tree_apart below e = omega (arith, below, e)

  -- the root and the new page are held
  pub storeys_held : i < (shape_of_pass p).indexes → HoldsStoreys (view q) i b under
  storeys_held below = record {
    can = record {
      tree = can.tree;
      root = can.root;
      level = can.level;
      knows_tree = tree_still (view p) (view q) (frame_id (shape_of_pass p) under ∷ [])
          got.silently.does.rest i (tree_apart below, tt) can.tree can.knows_tree;
      knows_root = still_known p q can.page.page.head under got b can.root can.knows_root;
      page = can.page;
      number = can.number;
      two = can.two;
    };
    fresh = got.frame;
    number = got.number;
    knows = got.knows;
    blank = got.has;
  }

  -- and the raise was made
  pub raises_root : i < (shape_of_pass p).indexes → (r : TreePass) → MakesRaise q i b under r
      → RaisesRoot p i b under r
  raises_root below r makes =
      let was = makes.raises.was in
      let k = frame_id (shape_of_pass p) under in
      record {
        silently = silently_both p q r (raise_ids (shape_of_pass p) i b under)
            (silently_weaker p q (k ∷ []) (raise_ids (shape_of_pass p) i b under)
            (λ j a. (a.1.0, tt)) got.silently)
            (subst (λ (s : Shape). DoesSilently q r (raise_ids s i b under))
            (does_shape p q (k ∷ []) got.silently.added got.silently.does) makes.silently);
        was = record {
          tree = was.can.tree;
          root = was.can.root;
          level = was.can.level;
          knows_tree = (
            was.can.knows_tree.0,
            sym (got.silently.does.rest (tree_id i) (tree_apart below, tt)) ∙ was.can.knows_tree.1,
          );
          knows_root = known_before p q can.page.page.head under got b was.can.root
              (lacked_apart (view p) b under can.root can.knows_root got.lacked)
              was.can.knows_root;
          page = was.can.page;
          number = was.can.number;
          two = was.can.two;
        };
        lacked = got.lacked;
        head = was.can.page.page.head;
        fresh = was.fresh;
        number = was.number;
        blank = was.blank;
        tree = makes.raises.tree;
        root = makes.raises.top;
        below = makes.raises.low;
        knows_tree = makes.raises.knows_tree;
        knows_root = makes.raises.knows_top;
        knows_below = makes.raises.knows_low;
        raises = makes.raises.raises;
        grows = makes.raises.grows;
        count = makes.count ∙ got.count;
      }
