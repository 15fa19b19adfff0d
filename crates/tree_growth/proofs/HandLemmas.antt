-- What is in hand on the way, as frames are taken and given back.
use Rattle.std.proofs.Common.{◌≡◌, ◌≢◌, ℕ, ◌+◌, ◌<◌, ◌≤◌, List, [], ◌∷◌, length, None, inl, inr, sym, ap, subst, ◌∙◌, refl, arith}
use Rattle.std.proofs.lemmas.Bool.{cases_eq}
use Rattle.std.specs.List.{AllByRecursion}
use mathlib.Core.Option.{some}
use lib.ListN.{get_elem?}
use Rattle.list_facts.proofs.Each.{each_weaker}
use Rattle.list_facts.proofs.Places.{none_is_not}
use Rattle.key_tuple.specs.Order.{FieldList}
use Rattle.latch_law.specs.declared.knows.Terms.{Terms}
use Rattle.latch_space.specs.declared.space.SpaceOf.{SpaceOf}
use Rattle.latch_space.specs.Has.{IsKnown}
use Rattle.latch_space.specs.Passes.{view, count}
use Rattle.latch_space.specs.Spaces.{IsPassOf}
use Rattle.index_law.specs.Answers.{MadeChange, Saying}
use Rattle.index_law.specs.Shape.{Shape}
use Rattle.forest_law.specs.declared.objects.Frame.{Frame}
use Rattle.forest_law.specs.declared.objects.Tree.{Tree}
use Rattle.forest_law.specs.declared.objects.Object.{Object}
use Rattle.forest_law.specs.declared.objects.Object.TheVariants as object
use Rattle.forest_law.specs.Numbers.{pool_id, tree_id, part_id, frame_id}
use Rattle.forest_law.specs.State.{fields_for}
use Rattle.forest_world.specs.Held.{TreePass, shape_of_pass}
use Rattle.call_law.specs.Hands.{KnowsFrame, KnowsTree, LacksObject, HoldsNoFrameBut, HoldsNoTable, HoldsTheRest}
use Rattle.call_law.specs.Spoken.{View}
use Rattle.call_law.specs.Trace.{Added, Adds, SameNumbers}
use Rattle.call_law.proofs.TableLemmas.{IsTableNumber, table_no_frame, table_no_tree}
use Rattle.buffer_pool.specs.Forests.{IsForest}
use Rattle.buffer_pool.specs.Frames.{GivesFrame}
use Rattle.buffer_pool.proofs.AddedLemmas.{only_given, frame_no_tree, frame_still, tree_still}
use Rattle.buffer_pool.proofs.CallLemmas.{gave_frame}
use Rattle.buffer_pool.proofs.PageLemmas.{lacks_if}
use Rattle.buffer_pool.proofs.SpaceLemmas.{objects_of}
use Rattle.tree_growth.specs.Ways.{HoldsOnly, IsGoingDown, GoesOn}
use Rattle.tree_growth.proofs.AddLemmas.{same_shape}

-- frames of different blocks are different objects
pub frames_apart : (s : Shape) (c b : ℕ) → c ≢ b → frame_id s c ≢ frame_id s b
frames_apart s c b ne e = ne (omega (arith, e))

module _ (v v' : View) (i : ℕ) (bs cs : List ℕ) (same : SameNumbers v v')
    (only : HoldsOnly v i bs) where
  -- the pass holds other objects perhaps, which are the tree and frames of the second blocks
  pub only_more : (ks : List ℕ) → HoldsTheRest v v' ks
      → ((k : ℕ) → k ≢ tree_id i → AllByRecursion (λ (b : ℕ). k ≢ frame_id v.terms.shape b) cs
      → AllByRecursion (λ (j : ℕ). k ≢ j) ks
      × AllByRecursion (λ (b : ℕ). k ≢ frame_id v.terms.shape b) bs)
      → HoldsOnly v' i cs
  only_more ks rest cover k h held not apart =
      let c = cover k not
      (subst (λ (t : Terms Shape). AllByRecursion (λ (b : ℕ). k ≢ frame_id t.shape b) cs)
      same.terms apart) in only k h (sym (rest k c.0) ∙ held) not c.1

  -- one frame less
  pub only_less : (b : ℕ) → HoldsTheRest v v' (frame_id v.terms.shape b ∷ [])
      → get_elem? v'.held (frame_id v.terms.shape b) ≡ some None
      → ((k : ℕ) → k ≢ frame_id v.terms.shape b
      → AllByRecursion (λ (b : ℕ). k ≢ frame_id v.terms.shape b) cs
      → AllByRecursion (λ (b : ℕ). k ≢ frame_id v.terms.shape b) bs)
      → HoldsOnly v' i cs
  only_less b rest lacks cover k h held not apart0 =
      let apart =
      subst (λ (t : Terms Shape). AllByRecursion (λ (b : ℕ). k ≢ frame_id t.shape b) cs)
      same.terms apart0 in
      elim (cases_eq k (frame_id v.terms.shape b)) [
        | inl e ↦ absurd (none_is_not h (sym lacks ∙ (ap (get_elem? v'.held) (sym e) ∙ held)))
        | inr ne ↦ only k h (sym (rest k (ne, tt)) ∙ held) not (cover k ne apart)
      ]

module _ (p q : TreePass) (i : ℕ) (key : FieldList) (bs cs : List ℕ) (way : IsGoingDown p i key bs) where
  -- on the way with more in hand
  pub way_more : (ks : List ℕ) (a : Added) → Adds (view p) (view q) a
      → HoldsTheRest (view p) (view q) ks → IsKnown q
      → ((k : ℕ) → k ≢ tree_id i
      → AllByRecursion (λ (b : ℕ). k ≢ frame_id (shape_of_pass p) b) cs
      → AllByRecursion (λ (j : ℕ). k ≢ j) ks
      × AllByRecursion (λ (b : ℕ). k ≢ frame_id (shape_of_pass p) b) bs)
      → (t : Tree) → KnowsTree (view q) i t → count q ≡ length cs + 1
      → IsGoingDown q i key cs
  way_more ks a adds rest known cover t knows counted = let shape = same_shape p q a adds in record {
    index = subst (λ (s : Shape). i < s.indexes) (sym shape) way.index;
    few = subst (λ (s : Shape). s.pages ≤ 65536) (sym shape) way.few;
    fields = way.fields ∙ ap (λ (s : Shape). fields_for s i) (sym shape);
    tree = t;
    knows = knows;
    only = only_more (view p) (view q) i bs cs adds.numbers way.only ks rest cover;
    known = known;
    count = counted;
  }

  -- on the way with a frame less
  pub way_less : (b : ℕ) → GivesFrame p b q
      → ((k : ℕ) → k ≢ frame_id (shape_of_pass p) b
      → AllByRecursion (λ (b : ℕ). k ≢ frame_id (shape_of_pass p) b) cs
      → AllByRecursion (λ (b : ℕ). k ≢ frame_id (shape_of_pass p) b) bs)
      → length bs ≡ length cs + 1 → IsGoingDown q i key cs
  way_less b gave cover less =
      let does = gave_frame p q way.known b gave in
      let shape = same_shape p q _ does.adds in
      let counted = gave.count in let had = way.count in record {
        index = subst (λ (s : Shape). i < s.indexes) (sym shape) way.index;
        few = subst (λ (s : Shape). s.pages ≤ 65536) (sym shape) way.few;
        fields = way.fields ∙ ap (λ (s : Shape). fields_for s i) (sym shape);
        tree = way.tree;
        knows = tree_still (view p) (view q) (frame_id (shape_of_pass p) b ∷ []) does.rest i
            ((λ e. frame_no_tree (shape_of_pass p) b i way.index (sym e)), tt) way.tree way.knows;
        only = only_less (view p) (view q) i bs cs does.adds.numbers way.only b does.rest
            (subst (λ (s : Shape). get_elem? (view q).held (frame_id s b) ≡ some None) shape
            gave.lacks) cover;
        known = does.known;
        count = omega (arith, counted, had, less);
      }

module _ (p q : TreePass) (b : ℕ) (known : IsKnown p) (gave : GivesFrame p b q) where
  -- giving a frame back says nothing
  unfoldable pub goes_gave : GoesOn p q
  goes_gave = record {
    added = only_given (frame_id (shape_of_pass p) b) gave.taken (object.Frame gave.frame);
    adds = (gave_frame p q known b gave).adds;
    silent = refl;
  }

  -- another frame stays
  pub still_gave : (c : ℕ) (f : Frame) → c ≢ b → KnowsFrame (view p) c f → KnowsFrame (view q) c f
  still_gave c f ne knows = let does = gave_frame p q known b gave in
      frame_still (view p) (view q) (frame_id (shape_of_pass p) b ∷ []) does.adds.numbers does.rest c
      (frames_apart (shape_of_pass p) c b ne, tt) f knows

-- what isn't in hand on the way
module _ {Q : Type 0} (s : SpaceOf Shape Object MadeChange Saying Q) (p : TreePass)
    (forest : IsForest s) (own : IsPassOf s p) (i : ℕ) (key : FieldList) (bs : List ℕ)
    (way : IsGoingDown p i key bs) where
  pub no_frame_but : HoldsNoFrameBut (view p) bs
  no_frame_but c below apart = let objects = objects_of s p forest own in
      lacks_if p (frame_id (shape_of_pass p) c) (omega (arith, objects, below))
      (λ h held. way.only (frame_id (shape_of_pass p) c) h held
      (frame_no_tree (shape_of_pass p) c i way.index)
      (each_weaker (λ (b : ℕ). c ≢ b)
      (λ (b : ℕ). frame_id (shape_of_pass p) c ≢ frame_id (shape_of_pass p) b)
      (λ b ne. frames_apart (shape_of_pass p) c b ne) bs apart))

  pub no_table : HoldsNoTable (view p)
  no_table = record {
    pool = lacked pool_id (inl refl);
    parts = λ k below. lacked (part_id (shape_of_pass p) k) (inr (k, below, refl));
  }
    where
      below : (k : ℕ) → IsTableNumber (shape_of_pass p) k → k < (view p).terms.objects
      below k (inl pool) = let objects = objects_of s p forest own in omega (arith, pool, objects)
      below k (inr part) = let objects = objects_of s p forest own in
          let there = part.1 in let number = part.2 in omega (arith, there, number, objects)

      apart : (k : ℕ) → IsTableNumber (shape_of_pass p) k → (bs : List ℕ)
          → AllByRecursion (λ (b : ℕ). k ≢ frame_id (shape_of_pass p) b) bs
      apart k table [] = tt
      apart k table (b ∷ bs) = (table_no_frame (shape_of_pass p) k b table, apart k table bs)

      lacked : (k : ℕ) → IsTableNumber (shape_of_pass p) k → LacksObject (view p) k
      lacked k table = lacks_if p k (below k table) (λ h held. way.only k h held
          (table_no_tree (shape_of_pass p) k i way.index table) (apart k table bs))
