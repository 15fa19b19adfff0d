-- The index's tree, which is in hand from the first call to the last.
use Rattle.std.proofs.Common.{◌≡◌, ℕ, ◌<◌, ◌≤◌, suc, zero, List, [], ◌∷◌, length, Some, Result, Ok, Err, OnOk, IfErr, inl, inr, sym, ap, subst, ◌∙◌, refl, arith}
use Rattle.std.proofs.lemmas.Bool.{cases_lt}
use mathlib.Core.Option.{some}
use mathlib.Core.Option as maybe
use lib.ListN.{get_elem?}
use Rattle.list_facts.proofs.Places.{inside, none_is_not}
use Rattle.key_tuple.specs.Order.{FieldList}
use Rattle.latch_law.specs.declared.knows.Terms.{Terms}
use Rattle.latch_space.specs.declared.space.SpaceOf.{SpaceOf}
use Rattle.latch_space.specs.Passes.{view, count}
use Rattle.latch_space.specs.Spaces.{IsPassOf}
use Rattle.latch_space.proofs.Pointwise.{lacks_each, none_known}
use Rattle.index_law.specs.Answers.{MadeChange, Saying}
use Rattle.index_law.specs.Shape.{Shape}
use Rattle.forest_law.specs.declared.objects.Object.{Object}
use Rattle.forest_law.specs.declared.objects.Object.TheVariants as object
use Rattle.forest_law.specs.Numbers.{tree_id}
use Rattle.forest_law.specs.State.{fields_for}
use Rattle.forest_world.specs.Held.{TreePass, shape_of_pass}
use Rattle.call_law.specs.Trace.{Added, Adds}
use Rattle.buffer_pool.specs.declared.error.PoolError.{PoolError}
use Rattle.buffer_pool.specs.Forests.{IsForest}
use Rattle.buffer_pool.specs.Trees.{LacksTree, TakesTree, GivesTree}
use Rattle.buffer_pool.proofs.AddedLemmas.{only_refused, only_given}
use Rattle.buffer_pool.proofs.CallLemmas.{took_tree, gave_tree}
use Rattle.buffer_pool.proofs.SpaceLemmas.{objects_of}
use Rattle.tree_growth.specs.Growing.{Grows, GrowsSilently, MakesRoom, FindsNoRoom}
use Rattle.tree_growth.specs.Ways.{HoldsOnly, IsGoingDown, GoesOn, SaysFull, StopsOnWay, WalksDown}
use Rattle.tree_growth.proofs.AddLemmas.{same_shape, goes_both, room_first, room_second, full_after, full_before}

-- behind the end of a list there is nothing
beyond : {A : Type 0} (xs : List A) (k : ℕ) → length xs ≤ k → get_elem? xs k ≡ maybe.none
beyond [] k past = refl
beyond (x ∷ xs) zero past = absurd (omega (arith, past))
beyond (x ∷ xs) (suc k) past = beyond xs k (omega (arith, past))

-- a pass that holds nothing lacks the index's tree
pub lacks_tree : {Q : Type 0} (s : SpaceOf Shape Object MadeChange Saying Q) (p : TreePass)
    → IsForest s → IsPassOf s p → (i : ℕ) → i < (shape_of_pass p).indexes → count p ≡ 0
    → LacksTree p i
lacks_tree s p forest own i below none =
    lacks_each p (tree_id i) none
    (let objects = objects_of s p forest own in omega (arith, objects, below))

-- what two passes that hold nothing hold is the same
pub grows_of : (p q : TreePass) (a : Added) → Adds (view p) (view q) a → count p ≡ 0
    → count q ≡ 0 → Grows p q a
grows_of p q a adds none none' = record {
  adds = adds;
  rest = λ k apart. rest k;
  known = none_known q none';
  count = none' ∙ sym none;
}
  where
    objects : (view q).terms.objects ≡ (view p).terms.objects
    objects = ap (λ (t : Terms Shape). t.objects) adds.numbers.terms

    rest : (k : ℕ) → get_elem? (view q).held k ≡ get_elem? (view p).held k
    rest k = let all = p.all in let all' = q.all in elim (cases_lt k (view p).terms.objects) [
      | inl below ↦ lacks_each q k none' (omega (arith, below, objects)) ∙ sym (lacks_each p k none below)
      | inr past ↦ beyond (view q).held k (omega (arith, past, objects, all'.0))
          ∙ sym (beyond (view p).held k (omega (arith, past, all.0)))
    ]

module _ (p q : TreePass) (i : ℕ) (key : FieldList) (below : i < (shape_of_pass p).indexes)
    (few : (shape_of_pass p).pages ≤ 65536)
    (fields : length key ≡ fields_for (shape_of_pass p) i) (none : count p ≡ 0)
    (took : TakesTree p i q) where
  -- the tree was taken
  pub goes_tree : GoesOn p q
  goes_tree = record {
    added = only_refused took.refused;
    adds = (took_tree p q (none_known p none) i took).adds;
    silent = refl;
  }

  tree_only : HoldsOnly (view q) i []
  tree_only k h held not apart = let does = took_tree p q (none_known p none) i took in
      let was = sym (does.rest k (not, tt)) ∙ held in
      let room = inside (view p).held k (Some h) was in let all = p.all in
      none_is_not h (sym (lacks_each p k none (omega (arith, room, all.0))) ∙ was)

  pub way_tree : IsGoingDown q i key []
  way_tree = let does = took_tree p q (none_known p none) i took in
      let shape = same_shape p q _ does.adds in let more = took.count in record {
        index = subst (λ (s : Shape). i < s.indexes) (sym shape) below;
        few = subst (λ (s : Shape). s.pages ≤ 65536) (sym shape) few;
        fields = fields ∙ ap (λ (s : Shape). fields_for s i) (sym shape);
        tree = took.tree;
        knows = took.has.held;
        only = tree_only;
        known = does.known;
        count = omega (arith, more, none);
      }

  -- and is given back at the end
  module _ (r s : TreePass) (way : IsGoingDown r i key []) (gave : GivesTree r i s) where
    goes_back : GoesOn r s
    goes_back = record {
      added = only_given (tree_id i) gave.taken (object.Tree gave.tree);
      adds = (gave_tree r s way.known i gave).adds;
      silent = refl;
    }

    none_left : count s ≡ 0
    none_left = let less = gave.count in let one = way.count in omega (arith, less, one)

    all_goes : GoesOn q r → GoesOn p s
    all_goes goes = goes_both p r s (goes_both p q r goes_tree goes) goes_back

    pub grows_silently : GoesOn q r → GrowsSilently p s
    grows_silently goes = let all = all_goes goes in search (grows_of p s all.added all.adds none none_left)

    pub makes_room : (need : ℕ) → WalksDown q i key need r → MakesRoom p i key need s
    unfolding all_goes grows_silently
    makes_room need walks = record {
      silently = grows_silently walks.goes;
      room = room_first p r s i key need (goes_both p q r goes_tree walks.goes) goes_back
          (room_second p q r i key need goes_tree walks.goes walks.room);
    }

    pub finds_no_room : SaysFull q i r → FindsNoRoom p i s
    finds_no_room says =
        let all = full_before p r s i (full_after p q r i goes_tree says) goes_back in search (grows_of p s all.added all.adds none none_left)

-- the tree alone is in hand, whatever was answered
pub way_either : {A : Type 0} (r : Result A PoolError) (q s : TreePass) (i : ℕ) (key : FieldList)
    (need : ℕ) → OnOk r (WalksDown q i key need s) → IfErr r (λ e. StopsOnWay q i key e s)
    → IsGoingDown s i key []
way_either (Ok x) q s i key need walks stops = walks.way
way_either (Err e) q s i key need walks stops = stops.way
