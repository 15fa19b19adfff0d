-- A leaf to which a way led, held alone.
use Rattle.std.proofs.Common.{◌≡◌, ℕ, ◌+◌, ◌<◌, length, sym, ap, subst, ◌∙◌, arith}
use lib.ListN.{get_elem?}
use Rattle.key_tuple.specs.Order.{FieldList}
use Rattle.key_tuple.specs.declared.mode.Mode.TheVariants as mode
use Rattle.latch_law.specs.declared.knows.Terms.{Terms}
use Rattle.latch_space.specs.Passes.{view, count}
use Rattle.index_law.specs.Shape.{Shape}
use Rattle.forest_law.specs.Numbers.{part_id}
use Rattle.forest_law.specs.State.{fields_for}
use Rattle.forest_world.specs.Held.{TreePass, shape_of_pass}
use Rattle.call_law.specs.Hands.{LacksObject}
use Rattle.buffer_pool.proofs.CallLemmas.{frame_has}
use Rattle.tree_descent.specs.declared.descending.Leaf.{Leaf}
use Rattle.tree_descent.specs.Leaves.{IsLeafFor}
use Rattle.leaf_changes.specs.Holds.{HoldsFreshAlone}
use Rattle.index_engine.specs.Leaving.{ComesToLeaf}
use Rattle.index_engine.specs.Traces.{Finding}
use Rattle.leaf_changes.proofs.HoldLemmas.{key_inside, page_fields}

-- a leaf to which a way led is held alone
pub fresh_leaf : (found : Finding) (p q : TreePass) (i : ℕ) (key : FieldList) (leaf : Leaf)
    → ComesToLeaf found p i key leaf q → count p ≡ 0
    → length key ≡ fields_for (shape_of_pass p) i
    → ((k : ℕ) → k < (shape_of_pass p).parts → LacksObject (view p) (part_id (shape_of_pass p) k))
    → HoldsFreshAlone q leaf.block i key leaf.spot
fresh_leaf found p q i key leaf went none fits free =
    let same = went.silently.does.adds.numbers.terms in
    let known = went.silently.does.known in
    let is = subst
    (λ (t : Terms Shape). IsLeafFor t.shape went.frame i mode.Ge key leaf.spot)
    (sym same) went.is in
    let as_many = fits ∙ ap (λ (t : Terms Shape). fields_for t.shape i) (sym same) in
    record {
      fresh = record {
        frame = went.frame;
        holds = record {
          has = frame_has q known leaf.block went.frame went.knows;
          leaf = record {
            page = is.page;
            inside = key_inside (shape_of_pass q) i key went.frame is.page as_many;
          };
        };
        finds = record {
          level = is.page.is.at_level;
          fields = as_many
              ∙ sym (page_fields (shape_of_pass q) i key went.frame is.page as_many);
          finds = is.finds;
        };
        known = known;
      };
      one = went.count ∙ ap (λ n. n + 1) none;
      parts = λ k below. (let few = subst (λ (t : Terms Shape). k < t.shape.parts) same below in
          ap (λ (t : Terms Shape). get_elem? (view q).held (part_id t.shape k)) same
          ∙ (went.silently.does.rest (part_id (shape_of_pass p) k)
          ((λ e. omega (arith, few, e)), tt) ∙ free k few));
    }
