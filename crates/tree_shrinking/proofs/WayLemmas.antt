-- What is in hand on the way up, as frames are taken, freed and given back.
use Rattle.std.proofs.Common.{◌≡◌, ◌≢◌, ℕ, ◌+◌, ◌<◌, ◌≤◌, List, [], ◌∷◌, length, None, inl, inr, sym, ap, subst, ◌∙◌, arith}
use Rattle.std.proofs.lemmas.Bool.{cases_eq}
use Rattle.std.specs.List.{AllByRecursion}
use mathlib.Core.Option.{some}
use lib.ListN.{get_elem?}
use Rattle.list_facts.proofs.Places.{none_is_not}
use Rattle.key_tuple.specs.Order.{FieldList}
use Rattle.latch_space.specs.Has.{IsKnown}
use Rattle.latch_space.specs.Passes.{view, count}
use Rattle.index_law.specs.Shape.{Shape}
use Rattle.forest_law.specs.declared.objects.Tree.{Tree}
use Rattle.forest_law.specs.Numbers.{tree_id, frame_id}
use Rattle.forest_law.specs.State.{fields_for}
use Rattle.forest_world.specs.Held.{TreePass, shape_of_pass}
use Rattle.call_law.specs.Hands.{KnowsTree, HoldsTheRest}
use Rattle.call_law.specs.Trace.{Added, Adds}
use Rattle.buffer_pool.specs.Calls.{GetsNothing}
use Rattle.buffer_pool.specs.Frames.{GivesFrame}
use Rattle.buffer_pool.specs.Pages.{PagesIn}
use Rattle.buffer_pool.proofs.AddedLemmas.{frame_no_tree, frame_still, tree_still}
use Rattle.tree_growth.specs.Ways.{HoldsOnly, IsGoingDown}
use Rattle.tree_growth.proofs.AddLemmas.{same_shape, goes_silently, goes_both}
use Rattle.tree_growth.proofs.HandLemmas.{frames_apart, way_more, way_less, goes_gave}
use Rattle.tree_growth.proofs.KnownLemmas.{lacked_apart}
use Rattle.tree_shrinking.specs.Pairs.{GoesTo, StillKnows}

module _ {p q : TreePass} {i : ℕ} {key : FieldList} {bs cs : List ℕ}
    (way : IsGoingDown p i key bs) where
  -- a page was taken besides
  pub way_took : {n b : ℕ} → PagesIn p n b q
      → ((k : ℕ) → AllByRecursion (λ (c : ℕ). k ≢ frame_id (shape_of_pass p) c) cs
      → (k ≢ frame_id (shape_of_pass p) b)
      × AllByRecursion (λ (c : ℕ). k ≢ frame_id (shape_of_pass p) c) bs)
      → length cs ≡ length bs + 1 → GoesTo p i key cs q
  way_took {b = b} took cover long =
      let does = took.silently.does in let s = shape_of_pass p in
      let had = way.count in let more = took.count in record {
        goes = goes_silently p q (frame_id s b ∷ []) took.silently;
        way = way_more p q i key bs cs way (frame_id s b ∷ []) took.silently.added does.adds
            does.rest does.known
            (λ k not each. (let c = cover k each in ((c.0, tt), c.1))) way.tree
            (tree_still (view p) (view q) (frame_id s b ∷ []) does.rest i
            ((λ e. frame_no_tree s b i way.index (sym e)), tt) way.tree way.knows)
            (omega (arith, had, more, long));
      }

  -- a frame was given back
  unfoldable pub way_gave : {b : ℕ} → GivesFrame p b q
      → ((k : ℕ) → k ≢ frame_id (shape_of_pass p) b
      → AllByRecursion (λ (c : ℕ). k ≢ frame_id (shape_of_pass p) c) cs
      → AllByRecursion (λ (c : ℕ). k ≢ frame_id (shape_of_pass p) c) bs)
      → length bs ≡ length cs + 1 → GoesTo p i key cs q
  way_gave {b} gave cover long = record {
    goes = goes_gave p q b way.known gave;
    way = way_less p q i key bs cs way b gave cover long;
  }

  -- a frame is lacked now, while others changed
  unfoldable pub way_without : (b : ℕ) (ks : List ℕ) (a : Added) → Adds (view p) (view q) a → a.said ≡ []
      → HoldsTheRest (view p) (view q) ks → IsKnown q
      → get_elem? (view q).held (frame_id (shape_of_pass p) b) ≡ some None
      → ((k : ℕ) → k ≢ tree_id i → k ≢ frame_id (shape_of_pass p) b
      → AllByRecursion (λ (c : ℕ). k ≢ frame_id (shape_of_pass p) c) cs
      → AllByRecursion (λ (j : ℕ). k ≢ j) ks
      × AllByRecursion (λ (c : ℕ). k ≢ frame_id (shape_of_pass p) c) bs)
      → (t : Tree) → KnowsTree (view q) i t → count q ≡ length cs + 1 → GoesTo p i key cs q
  way_without b ks a adds silent rest known lacks cover t knows counted =
      let shape = same_shape p q a adds in
      let only : HoldsOnly (view q) i cs = λ k h held not apart. (
      let apart0 = subst
      (λ (s : Shape). AllByRecursion (λ (c : ℕ). k ≢ frame_id s c) cs) shape apart in
      elim (cases_eq k (frame_id (shape_of_pass p) b)) [
        | inl e ↦ none_is_not h (sym lacks ∙ (ap (get_elem? (view q).held) (sym e) ∙ held))
        | inr ne ↦ (let c = cover k not ne apart0 in
            way.only k h (sym (rest k c.0) ∙ held) not c.1)
      ]) in
      record {
        goes = record { added = a; adds = adds; silent = silent };
        way = record {
          index = subst (λ (s : Shape). i < s.indexes) (sym shape) way.index;
          few = subst (λ (s : Shape). s.pages ≤ 65536) (sym shape) way.few;
          fields = way.fields ∙ ap (λ (s : Shape). fields_for s i) (sym shape);
          tree = t;
          knows = knows;
          only = only;
          known = known;
          count = counted;
        };
      }

-- one way behind another
unfoldable pub to_both : {p q r : TreePass} {i : ℕ} {key : FieldList} {bs cs : List ℕ}
    → GoesTo p i key bs q → GoesTo q i key cs r → GoesTo p i key cs r
to_both {p} {q} {r} first second =
    record { goes = goes_both p q r first.goes second.goes; way = second.way }

-- a call that got nothing leaves all in hand
module _ {p q : TreePass} (got : GetsNothing p q) where
  pub still_nothing : (b : ℕ) → StillKnows p b q
  still_nothing b f knows = let does = got.silently.does in
      frame_still (view p) (view q) [] does.adds.numbers does.rest b tt f knows

  pub way_nothing : {i : ℕ} {key : FieldList} {bs : List ℕ} → IsGoingDown p i key bs
      → GoesTo p i key bs q
  way_nothing {i} {key} {bs} way = let does = got.silently.does in let same = got.count in
      let had = way.count in record {
        goes = goes_silently p q [] got.silently;
        way = way_more p q i key bs bs way [] got.silently.added does.adds does.rest does.known
            (λ k not each. (tt, each)) way.tree
            (tree_still (view p) (view q) [] does.rest i tt way.tree way.knows)
            (omega (arith, same, had));
      }

-- a frame that is known stays so where a page was taken
pub still_took : {p q : TreePass} {n b : ℕ} → PagesIn p n b q → (c : ℕ) → StillKnows p c q
still_took {p} {q} {n} {b} took c f knows = let does = took.silently.does in
    frame_still (view p) (view q) (frame_id (shape_of_pass p) b ∷ []) does.adds.numbers does.rest c
    (frames_apart (shape_of_pass p) c b (lacked_apart p c b f took.lacked knows), tt) f knows
