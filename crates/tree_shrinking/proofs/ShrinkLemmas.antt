-- The way up, from the take of the index's tree until it is given back.
use Rattle.std.proofs.Common.{◌≡◌, ℕ, ◌<◌, ◌≤◌, length, ◌++◌, refl, arith}
use Rattle.key_tuple.specs.Order.{FieldList}
use Rattle.latch_space.specs.Passes.{count}
use Rattle.forest_law.specs.declared.objects.Object.TheVariants as object
use Rattle.forest_law.specs.Numbers.{tree_id}
use Rattle.forest_law.specs.State.{fields_for}
use Rattle.forest_world.specs.Held.{TreePass, shape_of_pass}
use Rattle.buffer_pool.specs.Trees.{TakesTree, GivesTree}
use Rattle.buffer_pool.proofs.AddedLemmas.{only_given}
use Rattle.buffer_pool.proofs.CallLemmas.{gave_tree}
use Rattle.tree_growth.specs.Ways.{GoesOn}
use Rattle.tree_law.proofs.ListLemmas.{In-append_left, In-append_right}
use Rattle.tree_growth.proofs.AddLemmas.{same_shape, goes_both}
use Rattle.tree_growth.proofs.TreeLemmas.{goes_tree, grows_of}
use Rattle.tree_shrinking.specs.Shrinking.{Shrinks}
use Rattle.tree_shrinking.specs.Joins.{WalksUp}
use Rattle.tree_shrinking.proofs.GivenLemmas.{rests_more, freed_append}

module _ {p q r s : TreePass} {i : ℕ} {key : FieldList} (below : i < (shape_of_pass p).indexes)
    (few : (shape_of_pass p).pages ≤ 65536)
    (fields : length key ≡ fields_for (shape_of_pass p) i) (none : count p ≡ 0)
    (took : TakesTree p i q) (walks : WalksUp q i key r) (gave : GivesTree r i s) where
  abbrev first : GoesOn p q
  first = goes_tree p q i key below few fields none took

  abbrev last : GoesOn r s
  last = record {
    added = only_given (tree_id i) gave.taken (object.Tree gave.tree);
    adds = (gave_tree r s walks.to.way.known i gave).adds;
    silent = refl;
  }

  abbrev mid : GoesOn p r
  mid = goes_both p q r first walks.to.goes

  abbrev all : GoesOn p s
  all = goes_both p r s mid last

  none_left : count s ≡ 0
  none_left = let less = gave.count in let one = walks.to.way.count in omega (arith, less, one)

  pub shrinks : Shrinks p i key s
  unfolding goes_both
  shrinks =
      let rs = walks.to.goes.added.references in
      let end = last.added.references in
      let sum = freed_append (first.added.references ++ rs) end in
      let part = freed_append first.added.references rs in
      let many = walks.ends.freed in
      record {
        silently = record {
          added = all.added;
          grows = grows_of p s all.added all.adds none none_left;
          silent = all.silent;
        };
        ends = record {
          top = walks.ends.top;
          freed = omega (arith, sum, part, many);
          rests = rests_more rs all.added.references
              (λ x among. In-append_left x (first.added.references ++ rs) end
              (In-append_right x first.added.references rs among)) (shape_of_pass q) (shape_of_pass p)
              (same_shape p q first.added first.adds) i walks.ends.top key walks.ends.rests;
        };
      }
