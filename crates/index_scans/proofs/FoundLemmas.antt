-- How a scan's first leaf was found: what that leaves in hand, and what it teaches.
use Rattle.std.proofs.Common.{◌≡◌, inl, inr, ℕ, List, [], ◌∷◌, sym, ap, subst, ◌∙◌, refl}
use Rattle.key_tuple.specs.Order.{FieldList}
use Rattle.latch_law.specs.declared.knows.Holding.{Holding}
use Rattle.latch_law.specs.declared.knows.Reference.{Reference}
use Rattle.latch_law.specs.declared.knows.Terms.{Terms}
use Rattle.latch_law.specs.Rule.{Holds}
use Rattle.latch_law.specs.Whole.{reference}
use Rattle.latch_space.specs.Passes.{view, count}
use Rattle.learning.specs.declared.event.Event.TheVariants as event
use Rattle.map_history.specs.declared.columns.How.TheVariants as how
use Rattle.search_info.specs.declared.knows.Knows.{Knows}
use Rattle.search_info.specs.Tries.{TriesAfter}
use Rattle.index_law.specs.Shape.{Shape}
use Rattle.forest_law.specs.declared.objects.Object.{Object}
use Rattle.forest_law.specs.declared.objects.Object.TheVariants as object
use Rattle.forest_law.specs.Numbers.{frame_id}
use Rattle.forest_world.specs.Held.{TreePass, shape_of_pass}
use Rattle.buffer_pool.specs.AsTaken.{AreAsTakenBut, Exception, IsAsTaken, NoException}
use Rattle.buffer_pool.specs.Tries.{tries_and_given}
use Rattle.buffer_pool.proofs.AsTakenLemmas.{as_taken_but, none_as_taken, none_but, same_as_taken}
use Rattle.buffer_pool.proofs.GivingLemmas.{parts_no_frames}
use Rattle.hash_guess.specs.Guesses.{part_given}
use Rattle.leaf_search.specs.Downs.{figures_at}
use Rattle.leaf_search.specs.Lessons.{descent_to}
use Rattle.leaf_search.specs.Taught.{IsAsTaught}
use Rattle.leaf_search.proofs.DownLemmas.{taught_leaf}
use Rattle.leaf_search.proofs.SearchLemmas.{cause_is_no_hit}
use Rattle.leaf_search.proofs.TaughtLemmas.{new_is_taught}
use Rattle.leaf_search.proofs.TryLemmas.{tries_after, of_tries, missed_tries, learnt_tries}
use Rattle.tree_neighbours.specs.LeafHands.{IsLeafReference}
use Rattle.index_seeks.specs.SeekTraces.{AreAsTakenBy}
use Rattle.index_seeks.proofs.SeekLearnLemmas.{taught_hand, taught_leaf_given}
use Rattle.index_scans.specs.declared.scan_call.FirstLeaf.{FirstLeaf}
use Rattle.index_scans.specs.FirstLeaves.{FoundByHit, FoundByWay, FindsFirst}
use Rattle.index_scans.specs.Scans.{IsOfLesson}
use Rattle.index_scans.proofs.ComeLemmas.{ComesSilently, hand_by_rest, silent_both}

module _ (p q : TreePass) (l m : Knows) (i : ℕ) (from : FieldList) (leaf : FirstLeaf)
    (none : count p ≡ 0) where
  -- by a hit
  hit_comes : FoundByHit p l i from leaf q m → ComesSilently NoException (view p) (view q)
  hit_comes hit = let hits = hit.guess.hits in record {
    way = record {
      added = tries_and_given [] (part_given p i hits.part ∷ []);
      adds = hits.does.adds;
      silent = refl;
      spares = hits.does.spares;
      as_taken = (inl (same_as_taken (object.Part hits.part)), tt);
    };
    hand = λ r held. inl (hand_by_rest p q leaf.block none hits.does.adds.numbers hits.does.rest
        hits.held_as_taken r held);
  }

  -- by a way that was learnt from
  module _ (found : FoundByWay p l i from leaf q m) where
    abbrev s : TreePass
    s = found.down.between

    -- the leaf as the lesson left it
    abbrev given : Reference Object
    given = taught_leaf_given s q found.read m i found.way.block (figures_at found.way.spot)
        leaf.note found.down.taught

    abbrev but_given : Exception
    but_given r = r ≡ given

    terms : (view s).terms ≡ (view p).terms
    terms = found.down.went.silently.does.adds.numbers.terms
        ∙ found.guess.keeps.silently.does.adds.numbers.terms

    given_is : IsLeafReference (shape_of_pass p) i given
    given_is = record {
      block = found.way.block;
      taken = found.down.taught.becomes.taken;
      frame = found.down.taught.new;
      is = ap (λ (t : Terms Shape). reference (frame_id t.shape found.way.block)
          found.down.taught.becomes.taken (object.Frame found.down.taught.new)) terms;
      page = (taught_leaf s q found.read m i found.way.block (figures_at found.way.spot) leaf.note
          found.down.taught).is;
    }

    given_taught : IsAsTaught (shape_of_pass p) i m given.taken given.released
    given_taught = subst
        (λ (t : Terms Shape). IsAsTaught t.shape i m found.down.taught.becomes.taken
        (object.Frame found.down.taught.new)) terms
        (new_is_taught s q found.read m i found.way.block (figures_at found.way.spot) leaf.note
        found.down.taught found.down.went.held_as_taken)

    before : (k : ℕ) (h : Holding Object) → Holds (view s) k h → IsAsTaken h.taken h.known
    before k h held =
        hand_by_rest found.between s found.way.block (found.guess.keeps.count ∙ none)
        found.down.went.silently.does.adds.numbers found.down.went.silently.does.rest
        found.down.went.held_as_taken (reference k h.taken h.known) held

    way_comes : ComesSilently but_given (view p) (view q)
    way_comes =
        let first = found.guess.keeps.silently in let way = found.down.went.silently in
        let taught = found.down.taught in record {
          way = silent_both but_given (view p) (view found.between) (view q)
              (record {
                added = first.added;
                adds = first.does.adds;
                silent = first.silent;
                spares = first.does.spares;
                as_taken = as_taken_but but_given first.added.references found.guess.as_taken;
              })
              (silent_both but_given (view found.between) (view s) (view q)
              (record {
                added = way.added;
                adds = way.does.adds;
                silent = way.silent;
                spares = way.does.spares;
                as_taken = as_taken_but but_given way.added.references found.down.went.as_taken;
              })
              (record {
                added = tries_and_given taught.becomes.refused taught.given;
                adds = taught.becomes.does.adds;
                silent = refl;
                spares = taught.becomes.does.spares;
                as_taken = as_taken_but but_given taught.given
                    (none_as_taken taught.given (parts_no_frames taught.given taught.parts));
              }));
          hand = taught_hand s q found.read m i found.way.block (figures_at found.way.spot)
              leaf.note taught before;
        }

  -- what isn't as it was taken: nothing, or the leaf of the lesson
  abbrev pub but_of : FindsFirst p l i from leaf q m → Exception
  but_of (inl hit) = NoException
  but_of (inr way) = but_given way

  pub found_comes : (finds : FindsFirst p l i from leaf q m)
      → ComesSilently (but_of finds) (view p) (view q)
  found_comes (inl hit) = hit_comes hit
  found_comes (inr way) = way_comes way

  pub found_taken : (finds : FindsFirst p l i from leaf q m) (qs : List (Reference Object))
      → AreAsTakenBut (but_of finds) qs → AreAsTakenBy (shape_of_pass p) i m leaf.how qs
  found_taken (inl hit) qs each = inl (hit.how_is, none_but qs each)
  found_taken (inr way) qs each = inr (
    (λ is. cause_is_no_hit way.cause (sym way.how_is ∙ is)),
    record {
      leaf = given way;
      is = given_is way;
      taught = given_taught way;
      others = each;
    },
  )

  pub found_lesson : (finds : FindsFirst p l i from leaf q m) (r : Reference Object)
      → but_of finds r → IsOfLesson (shape_of_pass p) i m r
  found_lesson (inl hit) r never = absurd never
  found_lesson (inr way) r is =
      subst (IsOfLesson (shape_of_pass p) i m) (sym is) (given_is way, given_taught way)

-- what was tried of the learner
pub found_tried : (p q : TreePass) (l m : Knows) (i : ℕ) (from : FieldList) (leaf : FirstLeaf)
    → FindsFirst p l i from leaf q m → TriesAfter l i leaf.how m
found_tried p q l m i from leaf (inl hit) = subst (λ h. TriesAfter l i h m) (sym hit.how_is)
    (tries_after l i how.Hit m
    (of_tries l i hit.guess.info event.Hit hit.learn m hit.guess.learns))
found_tried p q l m i from leaf (inr found) =
    let taught = found.down.taught in
    subst (λ h. TriesAfter l i h m) (sym found.how_is)
    (missed_tries l i found.cause found.guess.info found.learn found.read m found.guess.learns
    (learnt_tries found.read i
    (event.Descent (descent_to (shape_of_pass found.down.between) i (figures_at found.way.spot)
    taught.leaf.frame taught.leaf.is.page)) taught.learn m taught.counts.told))
