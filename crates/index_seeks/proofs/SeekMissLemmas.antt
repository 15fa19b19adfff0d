-- A seek that the hash told nothing: what it tells, and what it has tried to teach.
use Rattle.std.proofs.Common.{◌≡◌, inr, ℕ, Option, sym, ap, subst, ◌∙◌}
use Rattle.key_tuple.specs.Order.{FieldList}
use Rattle.key_tuple.specs.declared.mode.Mode.{Mode}
use Rattle.latch_law.specs.declared.knows.Reference.{Reference}
use Rattle.latch_law.specs.declared.knows.Terms.{Terms}
use Rattle.latch_law.specs.Whole.{reference}
use Rattle.latch_space.specs.Passes.{view, count}
use Rattle.learning.specs.declared.event.Event.TheVariants as event
use Rattle.map_history.specs.declared.columns.Note.{Note}
use Rattle.map_history.specs.declared.reply.Told.{Told}
use Rattle.map_history.specs.Map.{Pair}
use Rattle.search_info.specs.declared.knows.Knows.{Knows}
use Rattle.search_info.specs.declared.outcome.Learn.{Learn}
use Rattle.index_law.specs.Shape.{Shape}
use Rattle.forest_law.specs.declared.objects.Object.{Object}
use Rattle.forest_law.specs.declared.objects.Object.TheVariants as object
use Rattle.forest_law.specs.Numbers.{frame_id}
use Rattle.forest_world.specs.Held.{TreePass, shape_of_pass}
use Rattle.hash_guess.specs.declared.cause.Cause.{Cause}
use Rattle.hash_guess.specs.Guesses.{GuessMisses}
use Rattle.tree_neighbours.specs.declared.pairs.LeafPair.{LeafPair}
use Rattle.leaf_search.specs.Downs.{figures_at}
use Rattle.leaf_search.specs.Hows.{how_of}
use Rattle.leaf_search.specs.Lessons.{descent_to}
use Rattle.leaf_search.specs.Taught.{IsAsTaught}
use Rattle.leaf_search.proofs.DownLemmas.{taught_leaf}
use Rattle.leaf_search.proofs.TaughtLemmas.{new_is_taught}
use Rattle.search_info.specs.Tries.{TriesAfter}
use Rattle.leaf_search.proofs.SearchLemmas.{cause_is_no_hit}
use Rattle.leaf_search.proofs.TryLemmas.{missed_tries, learnt_tries}
use Rattle.index_seeks.specs.SeekSteps.{FindsPair, SeeksFrom}
use Rattle.tree_neighbours.specs.LeafHands.{IsLeafReference}
use Rattle.index_seeks.specs.SeekTraces.{TellsOfSeek}
use Rattle.index_seeks.proofs.SeekLearnLemmas.{taught_comes, taught_leaf_given}
use Rattle.index_seeks.proofs.SeekTryLemmas.{way_seeks}

module _ (p q r s : TreePass) (l n m : Knows) (i : ℕ) (mode : Mode) (tuple : FieldList)
    (cause : Cause) (learn : Option Learn)
    (guessed : GuessMisses p l i mode tuple cause learn q n) (pair : LeafPair) (note : Note)
    (found : FindsPair q n i mode tuple pair note r m) (told : Told) (row : Pair)
    (how_is : told.how ≡ how_of cause) where
  -- the terms are those of the first
  way_terms : (view found.between).terms ≡ (view p).terms
  way_terms = found.went.silently.does.adds.numbers.terms
      ∙ guessed.keeps.silently.does.adds.numbers.terms

  -- the leaf was given back as the lesson left it
  abbrev given : Reference Object
  given = taught_leaf_given found.between r n m i pair.leaf.block (figures_at pair.leaf.spot) note
      found.taught

  given_is : IsLeafReference (shape_of_pass p) i given
  given_is = record {
    block = pair.leaf.block;
    taken = found.taught.becomes.taken;
    frame = found.taught.new;
    is = ap (λ (t : Terms Shape). reference (frame_id t.shape pair.leaf.block)
        found.taught.becomes.taken (object.Frame found.taught.new)) way_terms;
    page = (taught_leaf found.between r n m i pair.leaf.block (figures_at pair.leaf.spot) note
        found.taught).is;
  }

  -- it was told by leaves to which a way led
  pub miss_told : count q ≡ 0
      → SeeksFrom (shape_of_pass r) (view r) (view s) pair.leaf.block i mode tuple told row
      → TellsOfSeek (view p) (view s) m i mode tuple told row
  miss_told none seeks =
      let figures = figures_at pair.leaf.spot in let taught = found.taught in
      let comes = taught_comes q found.between i mode tuple pair found.went none r n m figures note
      taught in
      let way = way_seeks
      (λ (z : Reference Object). z ≡ given) p q r (view s) i mode tuple pair.leaf.block guessed.keeps
      guessed.as_taken comes told row seeks in
      record {
        tells = way.tells;
        ends = inr ((λ hit. cause_is_no_hit cause (sym how_is ∙ hit)), way.ends);
        as_taken = inr (
          (λ hit. cause_is_no_hit cause (sym how_is ∙ hit)),
          record {
            leaf = given;
            is = given_is;
            taught = subst
                (λ (t : Terms Shape). IsAsTaught t.shape i m taught.becomes.taken
                (object.Frame taught.new)) way_terms
                (new_is_taught found.between r n m i pair.leaf.block figures note taught
                found.went.held_as_taken);
            others = way.as_taken;
          },
        );
        spares = way.spares;
      }

  -- a miss was tried, where the hash was asked, and a descent
  pub miss_tried : TriesAfter l i told.how m
  miss_tried = let taught = found.taught in subst (λ h. TriesAfter l i h m) (sym how_is)
      (missed_tries l i cause guessed.info learn n m guessed.learns
      (learnt_tries n i (event.Descent (descent_to (shape_of_pass found.between) i
      (figures_at pair.leaf.spot) taught.leaf.frame taught.leaf.is.page)) taught.learn m
      taught.counts.told))
