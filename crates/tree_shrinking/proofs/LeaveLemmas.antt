-- What is told on the way up of pages that stay apart, and of pages that were freed.
use Rattle.std.proofs.Common.{◌≡◌, ℕ, suc, ◌+◌, ◌≤◌, true, false, List, [], inl, inr, sym, ap, subst, ◌∙◌, refl, arith}
use Rattle.list_facts.proofs.Places.{same_some}
use Rattle.key_tuple.specs.Order.{FieldList}
use Rattle.key_tuple.specs.declared.mode.Mode.TheVariants as mode
use Rattle.latch_space.specs.Passes.{view}
use Rattle.tree_law.specs.Pages.{IsOrderly}
use Rattle.index_page.specs.Page.{PageRows}
use Rattle.index_law.specs.Shape.{Shape}
use Rattle.forest_law.specs.declared.objects.Frame.{Frame}
use Rattle.forest_law.specs.State.{page_within, fields_for}
use Rattle.forest_world.specs.Held.{TreePass, shape_of_pass}
use Rattle.buffer_pool.specs.Forests.{IsFittedTree}
use Rattle.buffer_pool.specs.Frames.{GivesFrame}
use Rattle.tree_descent.specs.Descents.{HoldsInner}
use Rattle.tree_descent.specs.Leaves.{HasCutWithin, cut_in}
use Rattle.tree_descent.specs.Paths.{PicksChild}
use Rattle.tree_growth.specs.declared.looking.PageInHand.{PageInHand}
use Rattle.tree_growth.specs.Pages.{HoldsRoot}
use Rattle.tree_growth.specs.Ways.{ArrivesAt}
use Rattle.tree_growth.proofs.AddLemmas.{same_shape}
use Rattle.tree_descent.proofs.InnerLemmas.{one_known}
use Rattle.tree_shrinking.specs.declared.families.Family.{Family}
use Rattle.tree_shrinking.specs.declared.pairs.Pair.{Pair}
use Rattle.tree_shrinking.specs.declared.pairs.Siblings.{Siblings}
use Rattle.tree_shrinking.specs.Families.{TellsFamily, siblings_before, siblings_after}
use Rattle.tree_shrinking.specs.Merging.{MergesChildren}
use Rattle.tree_shrinking.specs.Pairs.{AreToJoin, GoesTo, ComesBack, TakesPair}
use Rattle.tree_shrinking.specs.Shrinking.{WasGiven}
use Rattle.tree_shrinking.specs.Joins.{GivesPair, LeavesPair, LeavesPairIf, LeavesChild, FreesUnder, RestsOn, FreesOne, FreesMany, WalksUp}
use Rattle.tree_shrinking.proofs.GivenLemmas.{given_more, apart_more, alone_more, rests_more, among_first, among_second, freed_both, gave_among}
use Rattle.tree_shrinking.proofs.JoinedLemmas.{way_joined, joined_freed}
use Rattle.tree_shrinking.proofs.JoinLemmas.{back_after, taken_back, taken_still}
use Rattle.tree_shrinking.proofs.LevelLemmas.{given_at_once, given_after, arrived}
use Rattle.tree_shrinking.proofs.WayLemmas.{to_both, way_gave}

-- the shape stays along a way
shape_to : {p q : TreePass} {i : ℕ} {key : FieldList} {bs : List ℕ} → GoesTo p i key bs q
    → shape_of_pass q ≡ shape_of_pass p
shape_to {p} {q} to = same_shape p q to.goes.added to.goes.adds

-- a pair that isn't to be merged was given back
pub leaves_pair : {p q r : TreePass} {pair : Pair} {asked : Siblings} {i : ℕ} {key : FieldList}
    (took : TakesPair p pair asked i key q) (gave : GivesPair q pair i key r)
    → (AreToJoin took.held.is_left.page took.held.is_right.page asked.right_asks → ⊥)
    → LeavesPair p pair.parent asked i key r
leaves_pair {pair = pair} took gave apart =
    let h = took.held in let more = among_second took.to gave.to in record {
      back = taken_back took gave.to gave.still;
      still = taken_still took gave.to gave.still;
      apart = record {
        level = h.level;
        lower_block = pair.left;
        upper_block = pair.right;
        lower = h.lower;
        upper = h.upper;
        gave_left = given_more more (shape_to took.to) (gave.left h.lower h.knows_left);
        gave_right = given_more more (shape_to took.to) (gave.right h.upper h.knows_right);
        is_left = h.is_left;
        is_right = h.is_right;
        left_number = took.left;
        right_number = took.right;
        apart = apart;
      };
    }

-- a pair was merged, and the way led back to the page above
pub frees_pair : {p q r s : TreePass} {pair : Pair} {asked : Siblings} {i : ℕ} {key : FieldList}
    (fitted : IsFittedTree (view q)) (took : TakesPair p pair asked i key q)
    (made : MergesChildren q pair.parent pair.left pair.right i r)
    → ComesBack r pair.parent i key s → FreesUnder p pair.parent i key s
frees_pair fitted took made back =
    let joined = way_joined fitted took.to.way made in
    let way = to_both took.to joined in
    let some = joined_freed fitted took.to.way made in
    let sum = freed_both took.to joined in
    let all = freed_both way back.to in
    record { back = back_after way back; freed = omega (arith, some, sum, all) }

-- the child stays alone where it stays apart from both pages beside it
pub leaves_child : {p q r : TreePass} {parent i : ℕ} {key : FieldList} (family : Family)
    (held : HoldsInner (view p) parent i mode.Ge key)
    → TellsFamily held.page.is.page.rows family
    → PicksChild (cut_in (shape_of_pass p) i mode.Ge key) held.page.is.page.rows family.child
    → LeavesPairIf p parent (siblings_before family) i key q
    → LeavesPairIf q parent (siblings_after family) i key r
    → LeavesChild p parent i key held r
leaves_child family held tells picks one two =
    let first = one.back.to in let second = two.back.to in record {
      back = back_after first two.back;
      still = λ f knows. two.still f (one.still f knows);
      family = family;
      tells = tells;
      picks = picks;
      alone = record {
        before = λ n e. apart_more (among_first first second) refl
            (one.apart (record { left = n; right = family.child; right_asks = true })
            (ap (λ o. siblings_before (record family { left = o })) e));
        after = λ n e. apart_more (among_second first second) (shape_to first)
            (two.apart (record { left = family.child; right = n; right_asks = false })
            (ap (λ o. siblings_after (record family { right = o })) e));
      };
    }

-- a page was freed on a second way
pub frees_after : {p q r : TreePass} {parent i : ℕ} {key : FieldList} {bs : List ℕ}
    → GoesTo p i key bs q → FreesUnder q parent i key r → FreesUnder p parent i key r
frees_after first second = record {
  back = back_after first second.back;
  freed = (let sum = freed_both first second.back.to in
      let some = second.freed in omega (arith, sum, some));
}

module _ {p q : TreePass} {i : ℕ} {key : FieldList} {at : PageInHand}
    (reaches : ArrivesAt p i key 0 at q) where
  shape_is : shape_of_pass q ≡ shape_of_pass p
  shape_is = same_shape p q reaches.goes.added reaches.goes.adds

  -- the root isn't above the level, and was given back
  pub rests_below : {level : ℕ} {r : TreePass} → at.level ≤ level → HoldsRoot (view q) at.block i
      → GivesFrame q at.block r → RestsOn p i level key r
  rests_below low root gave =
      let back : GoesTo q i key [] _ = way_gave reaches.way gave (λ k ne each. (ne, tt)) refl in
      let to = given_at_once reaches gave in
      let given : WasGiven (shape_of_pass p) at.block gave.frame to.goes.added.references =
      given_more (among_second (arrived reaches) back) shape_is
      (gave_among [] reaches.way gave (λ k ne each. (ne, tt)) refl) in
      let same = one_known (view q) at.block gave.frame reaches.is.frame (gave.taken, gave.held)
      reaches.is.knows in
      let page = reaches.is.page.is in
      let one_frame = one_known (view q) at.block reaches.is.frame root.frame reaches.is.knows
      root.knows in
      let one_page = same_some page.page root.has.page
      (sym page.paged ∙ (ap (λ (f : Frame). f.page) one_frame ∙ root.has.paged)) in
      record {
        to = to;
        rests = inr (record {
          top = at.level;
          block = at.block;
          root = reaches.is.frame;
          gave = subst (λ f. WasGiven (shape_of_pass p) at.block f to.goes.added.references) same
              given;
          page = page;
          number = ap (λ (x : PageRows). x.head.number) one_page ∙ root.has.number;
          low = low;
        });
      }

  module _ {r s : TreePass} (gave : GivesFrame r at.block s) where
    abbrev back : (c : ComesBack q at.block i key r) → GoesTo r i key [] s
    back c = way_gave c.to.way gave (λ k ne each. (ne, tt)) refl

    -- the child that has the key stays alone, and the page above was given back
    pub rests_under : {level : ℕ} (held : HoldsInner (view q) at.block i mode.Ge key)
        → held.level ≡ level → LeavesChild q at.block i key held r → RestsOn p i level key s
    rests_under held lev leaves =
        let c = leaves.back in
        let way = to_both (arrived reaches) c.to in
        let to = given_after reaches c gave in
        let given : WasGiven (shape_of_pass p) at.block gave.frame to.goes.added.references =
        given_more (among_second way (back c)) (shape_to c.to ∙ shape_is)
        (gave_among [] c.to.way gave (λ k ne each. (ne, tt)) refl) in
        let same = one_known (view r) at.block gave.frame held.frame (gave.taken, gave.held)
        (leaves.still held.frame held.knows) in
        let page = held.page in
        record {
          to = to;
          rests = inl (record {
            parent = at.block;
            up = held.frame;
            gave = subst (λ f. WasGiven (shape_of_pass p) at.block f to.goes.added.references) same
                given;
            page = record {
              is = record {
                page = page.is.page;
                paged = page.is.paged;
                tree = page.is.tree;
                index = page.is.index;
                at_level = page.is.at_level ∙ ap suc lev;
              };
              order = subst
                  (λ (z : Shape). IsOrderly (fields_for z)
                  (page_within page.is.page held.frame.low held.frame.high)) shape_is page.order;
              within = subst (λ (z : Shape). HasCutWithin held.frame (cut_in z i mode.Ge key))
                  shape_is page.within;
            };
            family = leaves.family;
            tells = leaves.tells;
            picks = subst
                (λ (z : Shape). PicksChild (cut_in z i mode.Ge key) page.is.page.rows
                leaves.family.child) shape_is leaves.picks;
            alone = alone_more
                (λ x among. among_first way (back c) x
                (among_second (arrived reaches) c.to x among)) shape_is leaves.alone;
          });
        }

    -- a page was freed, and the page above was given back
    pub frees_one : FreesUnder q at.block i key r → FreesOne p i key s
    frees_one frees =
        let c = frees.back in
        let way = to_both (arrived reaches) c.to in
        let sum = freed_both way (back c) in
        let part = freed_both (arrived reaches) c.to in
        let some = frees.freed in
        record { to = given_after reaches c gave; freed = omega (arith, sum, part, some) }

-- level by level
pub frees_more : {p q r : TreePass} {i level above : ℕ} {key : FieldList}
    → FreesMany p i level key q → FreesOne q i key r → above ≡ level + 1
    → FreesMany p i above key r
frees_more many one e = record {
  to = to_both many.to one.to;
  freed = (let sum = freed_both many.to one.to in
      let was = many.freed in let some = one.freed in omega (arith, sum, was, some, e));
}

-- until none is to be merged
pub walks_up : {p q r : TreePass} {i level : ℕ} {key : FieldList} → FreesMany p i level key q
    → RestsOn q i level key r → WalksUp p i key r
walks_up {p} {q} {i = i} {level} {key} many rests = record {
  to = to_both many.to rests.to;
  ends = record {
    top = level;
    freed = (let sum = freed_both many.to rests.to in
        let was = many.freed in omega (arith, sum, was));
    rests = rests_more rests.to.goes.added.references
        (to_both many.to rests.to).goes.added.references (among_second many.to rests.to)
        (shape_of_pass q) (shape_of_pass p) (shape_to many.to) i level key rests.rests;
  };
}
