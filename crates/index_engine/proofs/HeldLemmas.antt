-- What a call leaves behind that held a leaf with its partition.
use Rattle.std.proofs.Common.{◌≡◌, ◌≢◌, ◌<◌, ℕ, [], ◌∷◌, refl, List, sym, ap, subst, ◌∙◌, inl, inr, Option, Some, None, Result, Ok, Err, IfOk, IfErr}
use Rattle.std.specs.List.{AllByRecursion}
use Rattle.list_facts.proofs.Places.{same_some}
use Rattle.key_tuple.specs.Order.{FieldList}
use Rattle.latch_law.specs.declared.knows.Terms.{Terms}
use Rattle.latch_space.specs.Passes.{view}
use Rattle.map_history.specs.declared.reply.Told.{Told}
use Rattle.map_history.specs.Map.{Pair}
use Rattle.map_history.specs.Operation.{Ask}
use Rattle.index_page.specs.declared.error.PageError.{PageError}
use Rattle.index_page.specs.declared.error.PageError.TheVariants as refused
use Rattle.hash_law.specs.Blocks.{part_for}
use Rattle.index_law.specs.Shape.{Shape}
use Rattle.forest_law.specs.declared.objects.Frame.{Frame}
use Rattle.forest_law.specs.Numbers.{part_id, frame_id}
use Rattle.forest_world.specs.Held.{TreePass, shape_of_pass, HasFrame}
use Rattle.call_law.specs.Hands.{KnowsFrame}
use Rattle.buffer_pool.specs.Pages.{HasNumber}
use Rattle.buffer_pool.specs.Parts.{part_of_index, HoldsPartIf}
use Rattle.buffer_pool.proofs.AddedLemmas.{frame_still}
use Rattle.tree_descent.specs.declared.descending.Leaf.{Leaf}
use Rattle.leaf_changes.specs.Changes.{RefusesHolding}
use Rattle.leaf_changes.specs.Hashed.{GivesBoth, HoldsLeafAndPart, HoldsToChange}
use Rattle.leaf_changes.specs.Holds.{KeepsNumber, HoldsStill, StaysKnown}
use Rattle.leaf_changes.specs.Says.{AnswersAndLeaves}
use Rattle.index_engine.specs.Leaving.{LooksAndLeaves}
use Rattle.leaf_changes.specs.Says.{AnswersHolding}
use Rattle.index_engine.specs.Traces.{IsFullLeaf}
use Rattle.leaf_changes.proofs.BothLemmas.{both_held, part_is_one}
use Rattle.engine_law.proofs.KnownLemmas.{part_no_frame}
use Rattle.engine_law.proofs.KnownLemmas.{gave_known}
use Rattle.leaf_changes.proofs.NumberLemmas.{leaf_inside}
use Rattle.leaf_changes.proofs.TellLemmas.{beside_looks, beside_says}

module _ (p0 q0 q1 : TreePass) (i : ℕ) (key : FieldList) (leaf : Leaf) (part : Option ℕ)
    (took : HoldsToChange p0 i key leaf part q0) where
  abbrev b : ℕ
  b = leaf.block

  still_both : HoldsStill q1 b → StaysKnown q0 q1 → (view q1).terms ≡ (view q0).terms
      → HoldsLeafAndPart q1 b part
  still_both = both_held p0 q0 q1 b i key leaf.spot took.alone took.fits part took.named took.took

  -- however a write ends, both are held as they are known to be
  pub held_then : (value : List ℕ) (ask : Ask) (row : Pair) (result : Result Told PageError)
      → IfOk result (λ told. AnswersHolding q0 q1 b i ask told row)
      → IfErr result (λ e. RefusesHolding q0 q1 b i key value e) → HoldsLeafAndPart q1 b part
  held_then value ask row (Ok told) answers refuses =
      still_both answers.holds answers.stays answers.says.once.adds.numbers.terms
  held_then value ask row (Err e) answers refuses = let r = refuses.holds in
      still_both (record {
        frame = r.frame;
        has = r.holds.has;
        inside = leaf_inside q1 b i key r.frame r.frame r.holds;
      }) refuses.stays refuses.looks.quiet.adds.numbers.terms

  pub held_told : (ask : Ask) (row : Pair) (told : Told)
      → AnswersHolding q0 q1 b i ask told row → HoldsLeafAndPart q1 b part
  held_told ask row told answers =
      still_both answers.holds answers.stays answers.says.once.adds.numbers.terms

  -- the leaf is known so where the partition came
  knows_then : (o : Option ℕ) → o ≡ part → HoldsPartIf p0 o q0 → (f : Frame)
      → KnowsFrame (view p0) b f → KnowsFrame (view q0) b f
  knows_then None is came f knows =
      subst (λ (z : TreePass). KnowsFrame (view z) b f) (sym came) knows
  knows_then (Some k) is came f knows = frame_still (view p0) (view q0)
      (part_id (shape_of_pass p0) k ∷ []) came.tries.does.adds.numbers came.tries.does.rest b
      (apart took.alone.fresh.frame.hashed (is ∙ took.named)) f knows
    where
      none_some : Some k ≡ None → ⊥
      none_some e = absurd cc

      few : (o : Option ℕ) → Some k ≡ part_of_index (shape_of_pass p0) o
          → k < (shape_of_pass p0).parts
      few None e = absurd (none_some e)
      few (Some index) e = subst (λ n. n < (shape_of_pass p0).parts)
          (sym (same_some k (part_for (shape_of_pass p0).parts index) e))
          (let terms = came.tries.does.adds.numbers.terms in
          subst (λ (t : Terms Shape). part_for t.shape.parts index < t.shape.parts) terms
          (part_is_one q0 index took.fits))

      apart : (o : Option ℕ) → Some k ≡ part_of_index (shape_of_pass p0) o
          → AllByRecursion (λ (j : ℕ). frame_id (shape_of_pass p0) b ≢ j)
          (part_id (shape_of_pass p0) k ∷ [])
      apart o e = ((λ same. part_no_frame (shape_of_pass p0) k b (few o e) (sym same)), tt)

  -- the terms stay where it came
  terms_took : (o : Option ℕ) → HoldsPartIf p0 o q0 → (view q0).terms ≡ (view p0).terms
  terms_took None same = ap (λ (z : TreePass). (view z).terms) same
  terms_took (Some k) came = came.tries.does.adds.numbers.terms

  module _ (q : TreePass) (gave : GivesBoth q1 b part q) where
    pub number_then : (f : Frame) → HasFrame q1 b f f → KeepsNumber (view q0) b f
        → KeepsNumber (view p0) b gave.gave.frame
    number_then f has keeps g n knows had = subst (λ z. HasNumber z n)
        (gave_known gave.between q b f (gave.frame f has).held gave.gave)
        (keeps g n (knows_then part refl took.took g knows) had)

    -- an answer was told by the leaf, which was given back
    abbrev pub answers_then : (ask : Ask) (told : Told) (row : Pair)
        → AnswersHolding q0 q1 b i ask told row → AnswersAndLeaves p0 b i ask told row q
    answers_then ask told row answers = record {
      between = gave.between;
      says = beside_says p0 q0 q1 gave.between i part took.took gave.gave_part ask told row
          answers.says;
      gave = gave.gave;
      number = number_then answers.holds.frame answers.holds.has answers.number;
    }

    module _ (value : List ℕ) (e : PageError) (refuses : RefusesHolding q0 q1 b i key value e) where
      -- or none was told
      abbrev pub looks_then : LooksAndLeaves p0 b i q
      looks_then = record {
        between = gave.between;
        looks = beside_looks p0 q0 q1 gave.between i part took.took gave.gave_part refuses.looks;
        gave = gave.gave;
        number = number_then refuses.holds.frame refuses.holds.holds.has refuses.number;
      }

      terms : (view q1).terms ≡ (view p0).terms
      terms = refuses.looks.quiet.adds.numbers.terms ∙ terms_took part took.took

      -- and the leaf had no room, where it wasn't memory that lacked
      pub full_then : (e ≡ refused.NoMemory → ⊥)
          → IsFullLeaf (shape_of_pass p0) i key value gave.gave.frame
      full_then other = elim refuses.holds.why [
        | inl memory ↦ absurd (other memory)
        | inr full ↦ subst (IsFullLeaf (shape_of_pass p0) i key value)
            (gave_known gave.between q b refuses.holds.frame
            (gave.frame refuses.holds.frame refuses.holds.holds.has).held gave.gave)
            (subst (λ (t : Terms Shape). IsFullLeaf t.shape i key value refuses.holds.frame) terms
            (record { page = refuses.holds.holds.leaf.page; full = full }))
      ]
