-- A seek that is answered by the row to which the hash led.
use Rattle.std.proofs.Common.{◌≡◌, inl, ℕ, Bool, [], ◌∷◌, ◌++◌, sym, ap, subst, ◌∙◌, refl, arith, Some, None}
use lib.ListN.{get_elem?}
use Rattle.list_facts.proofs.Places.{same_some}
use Rattle.key_tuple.specs.Order.{FieldList}
use Rattle.key_tuple.specs.declared.mode.Mode.{Mode}
use Rattle.latch_law.specs.Views.{holding}
use Rattle.latch_law.specs.Whole.{reference}
use Rattle.latch_law.specs.declared.knows.Terms.{Terms}
use Rattle.latch_space.specs.Passes.{view}
use Rattle.map_history.specs.declared.columns.How.TheVariants as ways
use Rattle.map_history.specs.declared.reply.Reply.TheVariants as words
use Rattle.map_history.specs.declared.reply.Told.{Told}
use Rattle.map_history.specs.Map.{Pair, map_after}
use Rattle.map_history.specs.Operation.{Seek}
use Rattle.map_history.specs.Reply.{row_reply, sought}
use Rattle.map_history.proofs.HistoryLemmas.{map_after-ascends}
use Rattle.learning.specs.declared.info.Info.{Info}
use Rattle.search_info.specs.declared.knows.Knows.{Knows}
use Rattle.index_page.specs.Laws.{StandsAt}
use Rattle.index_page.specs.Rows.{Row, Bytes, find_row}
use Rattle.tree_law.specs.GuessCheck.{IsLeaf, Reaches}
use Rattle.tree_law.specs.Pages.{Page}
use Rattle.tree_law.specs.TreeShape.{In}
use Rattle.tree_law.proofs.SearchLemmas.{guess_reaches}
use Rattle.guess_check.proofs.CheckLemmas.{checked}
use Rattle.index_law.specs.Shape.{Shape}
use Rattle.index_law.specs.State.{changes}
use Rattle.forest_law.specs.declared.objects.Object.TheVariants as object
use Rattle.forest_law.specs.FramePages.{TellsPage}
use Rattle.forest_law.specs.Law.{IsLawful}
use Rattle.forest_law.specs.Numbers.{frame_id}
use Rattle.forest_law.specs.Objects.{IsFrameOf}
use Rattle.forest_law.specs.State.{ForestState, bound, page_within, pages_of, heights_of, maps_of, list_of, fields_for}
use Rattle.forest_law.proofs.FramePageLemmas.{frames_tell_pages}
use Rattle.forest_world.specs.Held.{TreePass, shape_of_pass}
use Rattle.call_law.specs.Spoken.{View}
use Rattle.call_law.specs.Trace.{SparesTrees, frame_references}
use Rattle.call_law.proofs.TraceLemmas.{both_added, quiet_of, quiet_then_once, once_then_silent}
use Rattle.buffer_pool.specs.AsTaken.{AreAsTaken}
use Rattle.buffer_pool.specs.Tries.{tries_and_given}
use Rattle.buffer_pool.proofs.AddedLemmas.{only_given, gave_adds, frame_no_tree, given_spares, spares_both}
use Rattle.buffer_pool.proofs.AsTakenLemmas.{both_as_taken, same_as_taken}
use Rattle.hash_guess.specs.Guesses.{HitsRow, part_given}
use Rattle.hash_guess.specs.Hits.{HoldsHit}
use Rattle.hash_guess.proofs.HitLemmas.{stands_among, found_at}
use Rattle.index_seeks.specs.SeekHands.{HoldsHitAlone}
use Rattle.tree_neighbours.specs.LeafHands.{HoldsLeavesAlone}
use Rattle.index_seeks.specs.SeekSteps.{AnswersHit}
use Rattle.index_seeks.specs.SeekTraces.{TellsOfSeek}
use Rattle.index_seeks.specs.Seeks.{HasKnown, CanTell}
use Rattle.engine_law.proofs.FrameTraceLemmas.{frames_both}
use Rattle.engine_law.proofs.KnownLemmas.{part_no_frame}
use Rattle.tree_neighbours.proofs.HandLemmas.{only_then, frames_apart}
use Rattle.engine_law.proofs.FrameTraceLemmas.{said_spares}

module _ (v : View) (i : ℕ) (mode : Mode) (tuple : FieldList) (block place : ℕ) (found : Bool)
    (hit : HoldsHit v i mode tuple block place found) where
  -- in a lawful state that has what is known the hit's row is the one that the map answers
  module _ (w : ForestState) (law : IsLawful w) (has : HasKnown w v) where
    at_block : IsFrameOf w.shape w.objects block hit.frame
    at_block = ap (λ (s : Shape). get_elem? w.objects (frame_id s block)) has.shape
        ∙ has.known (frame_id v.terms.shape block)
        (holding hit.knows.0 (object.Frame hit.frame)) hit.knows.1

    tells : TellsPage w hit.frame hit.is.page
    tells = frames_tell_pages w law block hit.frame hit.is.page at_block hit.is.paged

    abbrev page_there : Page
    page_there = page_within hit.is.page hit.frame.low hit.frame.high

    leaf : IsLeaf (pages_of w.shape w.objects) i hit.is.page.head.number page_there
    leaf = record {
      is = tells.is;
      tree = hit.is.tree;
      index = hit.is.index;
      leaf = hit.is.at_level;
    }

    reaches : Reaches (pages_of w.shape w.objects) i (maps_of w.lists i) mode tuple
        hit.is.page.head.number hit.checks.row.place
    reaches = guess_reaches w.shape.indexes (fields_for w.shape) (heights_of w.objects)
        (maps_of w.lists) (pages_of w.shape w.objects) law.objects.pages i
        hit.is.page.head.number page_there leaf
        (λ j. map_after-ascends (changes (list_of (get_elem? w.lists j)))) mode tuple
        hit.checks.left hit.checks.row hit.checks.right hit.checks.split
        (checked.told mode tuple hit.is.page (bound hit.frame.low) (bound hit.frame.high)
        hit.checks.left hit.checks.row hit.checks.right found (sym hit.checks.is))

    same_page : reaches.page ≡ page_there
    same_page = same_some reaches.page page_there (sym reaches.leaf.is ∙ tells.is)

    stands_there : StandsAt hit.is.page.rows reaches.row.place reaches.row
    stands_there = stands_among hit.is.page.rows reaches.row
        (subst (λ (g : Page). In reaches.row g.rows) same_page reaches.among)

    row_there : find_row hit.checks.row.place hit.is.page.rows ≡ Some reaches.row
    row_there = found_at hit.is.page.rows stands_there.left reaches.row stands_there.right
        stands_there.split tells.order.places hit.checks.row.place reaches.at

    module _ (row : Row) (there : find_row place hit.is.page.rows ≡ Some row) (pair : Pair)
        (key : row.key ≡ pair.key) (body : row.body ≡ Bytes pair.value) where
      same_row : row ≡ reaches.row
      same_row = same_some row reaches.row (sym there
          ∙ (ap (λ n. find_row n hit.is.page.rows) (sym hit.checks.place_is) ∙ row_there))

      same_value : reaches.value ≡ pair.value
      same_value = let e : Bytes reaches.value ≡ Bytes pair.value =
          sym reaches.body ∙ (ap (λ (z : Row). z.body) (sym same_row) ∙ body) in cc

      sought_is : sought mode tuple (maps_of w.lists i) ≡ Some pair
      sought_is = reaches.sought ∙ (λ j. Some (record {
        key = (ap (λ (z : Row). z.key) (sym same_row) ∙ key) j;
        value = same_value j;
      }))

  -- so that row may be told
  pub hit_tells : (row : Row) → find_row place hit.is.page.rows ≡ Some row → (pair : Pair)
      → row.key ≡ pair.key → row.body ≡ Bytes pair.value
      → CanTell v i mode tuple None words.Found pair
  hit_tells row there pair key body w law has xs listed speaks =
      ap (λ o. Some (row_reply o))
      (sym (ap (λ l. sought mode tuple (map_after (changes (list_of l)))) (sym listed)
      ∙ sought_is w law has row there pair key body))

-- the hash led to the leaf, and nothing else is held
pub hit_alone : (p q : TreePass) (i : ℕ) (mode : Mode) (tuple : FieldList) (info : Info)
    (block place : ℕ) (found : Bool) → HoldsLeavesAlone p []
    → HitsRow p i mode tuple info block place found q → HoldsHitAlone q i mode tuple block place
hit_alone p q i mode tuple info block place found none hits = record {
  only = only_then p q [] (block ∷ []) (frame_id (shape_of_pass p) block ∷ []) none
      (record {
        added = tries_and_given [] (part_given p i hits.part ∷ []);
        does = hits.does;
        silent = refl;
      })
      (λ c apart. (tt, (frames_apart (shape_of_pass p) block c apart.0, tt)))
      ((λ e. omega (arith, e)), tt)
      (λ k below. (part_no_frame (shape_of_pass p) k block below, tt))
      (let more = hits.count in let zero = none.count in omega (arith, more, zero));
  found = found;
  hit = hits.hit;
}

-- the answer was told by the leaf alone to which the hash led
pub hit_seeks : (p q r : TreePass) (m : Knows) (i : ℕ) (mode : Mode) (tuple : FieldList)
    (info : Info)
    (block place : ℕ) (found : Bool) → HitsRow p i mode tuple info block place found q
    → (told : Told) (row : Pair) → told.how ≡ ways.Hit
    → AnswersHit q block i mode tuple told row r
    → TellsOfSeek (view p) (view r) m i mode tuple told row
unfolding quiet_of quiet_then_once once_then_silent
hit_seeks p q r m i mode tuple info block place found hits told row by answers =
    let q1 = answers.between in let gave = answers.gave in let says = answers.says in
    let shape = shape_of_pass p in let way = tries_and_given [] (part_given p i hits.part ∷ []) in
    let ask = Seek mode tuple in
    let back = only_given (frame_id (shape_of_pass q1) block) gave.taken (object.Frame gave.frame) in
    let terms = says.once.adds.numbers.terms ∙ hits.does.adds.numbers.terms in
    let quiet = quiet_of (view p) (view q) i way hits.does.adds refl in
    let once = quiet_then_once i ask says.answer (view p) (view q) (view q1) quiet says.once in
    let last = reference (frame_id shape block) gave.taken (object.Frame gave.frame) in
    let all = both_added (both_added way says.once.added) back in
    record {
      tells = record {
        answer = says.answer;
        is_told = says.is_told;
        once = once_then_silent i ask says.answer (view p) (view q1) (view r) back once
            (gave_adds (view q1) (view r) (frame_id (shape_of_pass q1) block)
            (holding gave.taken (object.Frame gave.frame)) gave.view) refl
            (ap (λ (z : View). z.seen) gave.view);
      };
      ends = inl (
        by,
        record {
          leaf = last;
          is = ap (λ (t : Terms Shape). frame_references ((way.references
              ++ says.once.added.references)
              ++ reference (frame_id t.shape block) gave.taken (object.Frame gave.frame) ∷ [])) terms
              ∙ (frames_both (way.references ++ says.once.added.references) (last ∷ [])
              ∙ ap (λ z. frame_references (way.references ++ z) ++ last ∷ []) says.only.references);
          page = record {
            block = block;
            taken = gave.taken;
            frame = gave.frame;
            is = refl;
            page = answers.page;
          };
        },
      );
      as_taken = inl (
        by,
        both_as_taken (way.references ++ says.once.added.references) back.references
            (both_as_taken way.references says.once.added.references
            (same_as_taken (object.Part hits.part), tt)
            (subst AreAsTaken (sym says.only.references) tt))
            (hits.held_as_taken (holding gave.taken (object.Frame gave.frame)) answers.held, tt),
      );
      spares = spares_both shape (both_added way says.once.added) back
          (spares_both shape way says.once.added hits.does.spares
          (subst (λ (t : Terms Shape). SparesTrees t.shape says.once.added)
          hits.does.adds.numbers.terms
          (said_spares (shape_of_pass q) says.once.added says.only)))
          (subst (λ (t : Terms Shape). SparesTrees t.shape back) terms
          (given_spares (shape_of_pass q1) (frame_id (shape_of_pass q1) block) gave.taken
          (object.Frame gave.frame) (frame_no_tree (shape_of_pass q1) block)));
    }
