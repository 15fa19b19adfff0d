-- What the calls on an index's tree do.
use Rattle.std.proofs.Common.{◌≡◌, ℕ, ◌<◌, sym, ap, subst, ◌∙◌, Some}
use mathlib.Core.Option.{some-injective}
use Rattle.list_facts.proofs.Places.{none_is_not}
use Rattle.latch_law.specs.Views.{holding, with_held, with_refused, releasing}
use Rattle.latch_space.specs.Has.{Has, Swapped, DidRelease}
use Rattle.latch_space.specs.Passes.{view}
use Rattle.latch_space.specs.Takes.{DidTakeAfter}
use Rattle.index_law.specs.Shape.{Shape}
use Rattle.forest_law.specs.declared.objects.Tree.{Tree}
use Rattle.forest_law.specs.declared.objects.Object.TheVariants as object
use Rattle.forest_law.specs.Law.{IsLawful}
use Rattle.forest_law.specs.Numbers.{tree_id}
use Rattle.index_law.specs.Rightness.{IsRight}
use Rattle.forest_law.specs.References.{IsReference}
use Rattle.forest_world.specs.Held.{TreePass, shape_of_pass, HasTree}
use Rattle.buffer_pool.specs.Forests.{TreeView, WasObject}
use Rattle.buffer_pool.specs.Trees.{TakesTree, ChangesTree, GivesTree}
use Rattle.buffer_pool.proofs.FrameLemmas.{one_held, taken_rests}
use Rattle.buffer_pool.proofs.KeepLemmas.{keeps_beside_tree, rest_kept, rest_but}

module _ (p q : TreePass) (i : ℕ)
    (told : DidTakeAfter IsLawful IsRight IsReference p (tree_id i) q)
    (below : i < (shape_of_pass p).indexes) where
  -- what was taken is the index's tree
  pub takes_tree : TakesTree p i q
  takes_tree =
      let w = told.was_free.whole in
      let there =
      told.was_free.is_lawful.objects.kinds.trees i
      (subst (λ (s : Shape). i < s.indexes) (sym told.was_free.fits.shape) below) in
      let is : told.value ≡ object.Tree there.tree =
      some-injective told.value (object.Tree there.tree) (sym told.was_free.value ∙ there.at) in
      let terms : (view q).terms ≡ (view p).terms = ap (λ (v : TreeView). v.terms) told.view in
      let has : Has q (tree_id i) (object.Tree there.tree) (object.Tree there.tree) =
      subst (λ x. Has q (tree_id i) x x) is told.took.has in
      record {
        tree = there.tree;
        index = there.index;
        root = there.root;
        refused = told.refused;
        tries = told.tries;
        was = subst (WasObject (with_refused (view p) told.refused) (tree_id i)) is told.was_free;
        view = told.view
            ∙ ap (λ x. with_held (with_refused (view p) told.refused) (tree_id i)
            (Some (holding x x))) is;
        has = has;
        hand = keeps_beside_tree p q terms i below told.took.others;
        rest = rest_kept p q (tree_id i) terms told.took.others
            (taken_rests q (tree_id i) (object.Tree there.tree) has);
        count = told.took.count;
      }

-- a tree in hand becomes another
pub changes_tree : (p q : TreePass) (i : ℕ) (u : Tree) → i < (shape_of_pass p).indexes
    → Swapped p q (tree_id i) (object.Tree u) → ChangesTree p i u q
changes_tree p q i u below swapped = record {
  has = λ t s has. swapped.has (object.Tree t) (object.Tree s) has;
  hand = keeps_beside_tree p q (ap (λ (v : TreeView). v.terms) swapped.same_view) i below
      swapped.others;
  rest = rest_but p q (tree_id i) (ap (λ (v : TreeView). v.terms) swapped.same_view)
      swapped.others;
  view = swapped.same_view;
  count = swapped.count;
}

-- what a tree that is given back leaves behind
pub gives_tree : (p q : TreePass) (i : ℕ) (t : Tree) → i < (shape_of_pass p).indexes
    → HasTree p i t t → DidRelease p (tree_id i) q → GivesTree p i q
gives_tree p q i t below has told =
    let h = holding has.held.0 (object.Tree t) in
    let view' : view q ≡ releasing (view p) (tree_id i) h =
    told.view
    ∙ ap (releasing (view p) (tree_id i)) (one_held p (tree_id i) told.holding h told.held
    has.held.1) in
    let terms : (view q).terms ≡ (view p).terms = ap (λ (v : TreeView). v.terms) view' in
    record {
      taken = has.held.0;
      tree = t;
      held = has.held.1;
      view = view';
      lacks = told.gave.lacks;
      hand = keeps_beside_tree p q terms i below told.gave.others;
      rest = rest_kept p q (tree_id i) terms told.gave.others
          (λ g held. absurd (none_is_not g (sym told.gave.lacks ∙ held)));
      count = told.gave.count;
    }
