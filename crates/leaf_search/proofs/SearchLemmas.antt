-- What a search leaves: after a hit, and after a way down.
use Rattle.std.proofs.Common.{◌≡◌, ◌≢◌, inl, inr, ℕ, Bool, true, false, Option, List, [], ◌∷◌, ◌++◌, length, cond, sym, ap, subst, ◌∙◌, refl, arith, append_assoc, append-nil}
use Rattle.std.proofs.lemmas.Bool.{eq-eqb}
use lib.ListN.{get_elem?}
use Rattle.key_tuple.specs.KeyPlace.{above, cut_of}
use Rattle.key_tuple.specs.Order.{FieldList}
use Rattle.key_tuple.specs.Position.{position_cut}
use Rattle.key_tuple.specs.declared.mode.Mode.{Mode}
use Rattle.key_tuple.specs.declared.mode.Mode.TheVariants.{Ge}
use Rattle.latch_law.specs.declared.knows.Reference.{Reference}
use Rattle.latch_law.specs.declared.knows.Terms.{Terms}
use Rattle.latch_space.specs.Passes.{view}
use Rattle.learning.specs.declared.info.Info.{Info}
use Rattle.learning.specs.declared.event.BlockFigures.{BlockFigures}
use Rattle.learning.specs.declared.event.Event.TheVariants as event
use Rattle.map_history.specs.Columns.{may_stand, may_teach}
use Rattle.map_history.specs.Words.{Descent as Down, how_word, note_word}
use Rattle.map_history.specs.declared.columns.How.TheVariants as how
use Rattle.map_history.specs.declared.columns.Note.{Note}
use Rattle.search_info.specs.declared.knows.Knows.{Knows}
use Rattle.search_info.specs.declared.outcome.Learn.{Learn}
use Rattle.search_info.specs.declared.outcome.Learn.TheVariants.{Learnt, Raced, Worn}
use Rattle.index_page.specs.Page.{PageRows}
use Rattle.index_page.specs.Search.{Finds}
use Rattle.index_page.specs.declared.spot.Spot.{Spot}
use Rattle.hash_upkeep.specs.declared.built.Build.{Build}
use Rattle.hash_upkeep.specs.declared.built.Build.TheVariants.{Built, NotNeeded, ArenaFull}
use Rattle.tree_law.specs.Pages.{IsOrderly, high_place, low_place}
use Rattle.index_law.specs.Shape.{Shape}
use Rattle.forest_law.specs.declared.objects.Frame.{Frame}
use Rattle.forest_law.specs.declared.objects.Object.{Object}
use Rattle.forest_law.specs.declared.objects.Object.TheVariants as object
use Rattle.forest_law.specs.Numbers.{frame_id}
use Rattle.forest_law.specs.State.{bound, fields_for, page_within}
use Rattle.forest_world.specs.Held.{TreePass, shape_of_pass}
use Rattle.call_law.specs.Trace.{Added, frame_references}
use Rattle.call_law.proofs.TraceLemmas.{both_added}
use Rattle.buffer_pool.specs.AsTaken.{AreAsTaken}
use Rattle.buffer_pool.specs.Calls.{Does, DoesSilently, GetsNothing}
use Rattle.buffer_pool.specs.Forests.{IsFittedTree}
use Rattle.buffer_pool.specs.Hands.{LacksFrame}
use Rattle.buffer_pool.specs.Tries.{tries_and_given}
use Rattle.buffer_pool.proofs.AsTakenLemmas.{same_as_taken, none_as_taken, both_as_taken}
use Rattle.buffer_pool.proofs.CallLemmas.{does_both, does_none}
use Rattle.buffer_pool.proofs.GivingLemmas.{parts_no_frames}
use Rattle.hash_guess.specs.declared.cause.Cause.{Cause}
use Rattle.hash_guess.specs.declared.cause.Cause.TheVariants.{Cold, Short, PartBusy, NoEntry, BlockBusy, Unequal}
use Rattle.hash_guess.specs.Causes.{is_miss}
use Rattle.hash_guess.specs.Guesses.{GuessHits, GuessMisses, LearnsIf, part_given}
use Rattle.tree_descent.specs.declared.descending.Leaf.{Leaf}
use Rattle.tree_descent.specs.Descents.{Descends}
use Rattle.tree_descent.specs.Leaves.{IsPageFor, cut_in}
use Rattle.tree_descent.specs.Paths.{LeadFromRoot}
use Rattle.tree_descent.proofs.WayLemmas.{frames_both}
use Rattle.leaf_search.specs.Downs.{SearchesDown, figures_at}
use Rattle.leaf_search.specs.Hows.{how_of, note_of_hit}
use Rattle.leaf_search.specs.Lessons.{EndsLesson, Teaches, descent_to, note_of_build}
use Rattle.leaf_search.specs.Searches.{Searches}
use Rattle.leaf_search.specs.Taught.{IsAsTaught}
use Rattle.leaf_search.proofs.DownLemmas.{taught_frame, taught_leaf, taught_page, taught_shape, went_shape}
use Rattle.leaf_search.proofs.HitLemmas.{hit_page}
use Rattle.leaf_search.proofs.TaughtLemmas.{holds_as_taught}
use Rattle.leaf_search.proofs.TryLemmas.{learnt_tries, missed_tries, of_tries, tries_after}

-- the position of a whole key is one in each mode
pub cut_whole : (fields : ℕ) (mode : Mode) (key : FieldList) → length key ≡ fields
    → position_cut fields mode key ≡ position_cut fields Ge key
cut_whole fields mode key whole = λ j x. (
    ap (λ b. cond b (above key x) (cut_of mode key x)) (eq-eqb (length key) fields whole)
    ∙ sym (ap (λ b. cond b (above key x) (cut_of Ge key x)) (eq-eqb (length key) fields whole))) j

-- the columns of a hit
pub hit_stands : (told : Learn) → may_stand (record { how = how.Hit; note = note_of_hit told }) ≡ true
hit_stands (Learnt before after build) = refl
hit_stands (Raced read found) = refl
hit_stands Worn = refl

module _ {p q : TreePass} {l m : Knows} {i : ℕ} {mode : Mode} {key : FieldList}
    (whole : length key ≡ fields_for (shape_of_pass p) i) (fitted : IsFittedTree (view q))
    {block place : ℕ} {found : Bool} {told : Learn}
    (guess : GuessHits p l i mode key block place found told q m) where
  hit_shape : shape_of_pass q ≡ shape_of_pass p
  hit_shape = ap (λ (t : Terms Shape). t.shape) guess.hits.does.adds.numbers.terms

  pub hit_whole : length key ≡ fields_for (shape_of_pass q) i
  hit_whole = whole ∙ ap (λ (s : Shape). fields_for s i) (sym hit_shape)

  -- after a hit
  pub searches_hit : (spot : Spot) → Finds Ge key guess.hits.hit.is.page.rows spot
      → Searches p l i key (record {
        leaf = record { block = block; spot = spot };
        how = how.Hit;
        note = note_of_hit told;
      }) q m
  searches_hit spot finds = record {
    silently = search (tries_and_given [] (part_given p i guess.hits.part ∷ []));
    as_taken = (same_as_taken (object.Part guess.hits.part), tt);
    as_found = λ h held. inl (refl, guess.hits.held_as_taken h held);
    lacked = guess.hits.lacked;
    frame = guess.hits.hit.frame;
    knows = guess.hits.hit.knows;
    is = record {
      page = hit_page fitted guess.hits.hit hit_whole (shape_of_pass p) hit_shape;
      finds = finds;
    };
    came = inl (refl, refl);
    stands = hit_stands told;
    tried = tries_after l i how.Hit m (of_tries l i guess.info event.Hit told m guess.learns);
    count = guess.hits.count;
  }

-- the columns of a way down
build_tells : (answer : Build) → may_teach Down (note_word (note_of_build answer)).lesson ≡ true
build_tells (Built nodes) = refl
build_tells NotNeeded = refl
build_tells (ArenaFull need spare) = refl

pub lesson_tells : (p : TreePass) (i b : ℕ) (f : Frame) (page : PageRows) (block : BlockFigures)
    (learn : Learn) (told : Note) (g : Frame) (given : List (Reference Object))
    → EndsLesson p i b f page block learn told g given
    → may_teach Down (note_word told).lesson ≡ true
lesson_tells p i b f page block (Learnt before after true) told g given ends =
    ap (λ z. may_teach Down (note_word z).lesson) ends.note_is ∙ build_tells ends.answer
lesson_tells p i b f page block (Learnt before after false) told g given ends =
    ap (λ z. may_teach Down (note_word z).lesson) ends.0
lesson_tells p i b f page block (Raced read found) told g given ends =
    ap (λ z. may_teach Down (note_word z).lesson) ends.0
lesson_tells p i b f page block Worn told g given ends =
    ap (λ z. may_teach Down (note_word z).lesson) ends.0

pub cause_is_down : (cause : Cause) → (how_word (how_of cause)).search ≡ Down
cause_is_down Cold = refl
cause_is_down (Short have need) = refl
cause_is_down (PartBusy n) = refl
cause_is_down (NoEntry fold) = refl
cause_is_down (BlockBusy n) = refl
cause_is_down (Unequal block place) = refl

pub cause_is_no_hit : (cause : Cause) → how_of cause ≢ how.Hit
cause_is_no_hit cause is = not_down (sym (ap (λ h. (how_word h).search) is) ∙ cause_is_down cause)
  where
    not_down : (how_word how.Hit).search ≡ Down → ⊥
    not_down e = absurd cc

module _ {p q r s : TreePass} (l : Knows) {n m : Knows} {i : ℕ} {mode : Mode} {key : FieldList}
    (whole : length key ≡ fields_for (shape_of_pass p) i) (nothing : GetsNothing p q)
    (gave : AreAsTaken nothing.silently.added.references) {way : Leaf} {told : Note} (went : Descends q i mode key way r)
    (taught : Teaches r n i way.block (figures_at way.spot) told s m) where
  shape_q : shape_of_pass q ≡ shape_of_pass p
  shape_q = ap (λ (t : Terms Shape). t.shape) nothing.silently.does.adds.numbers.terms

  pub shape_r : shape_of_pass r ≡ shape_of_pass p
  shape_r = went_shape went ∙ shape_q

  abbrev own : ℕ
  own = frame_id (shape_of_pass p) way.block

  own_q : frame_id (shape_of_pass q) way.block ≡ own
  own_q = ap (λ (z : Shape). frame_id z way.block) shape_q

  own_r : frame_id (shape_of_pass r) way.block ≡ own
  own_r = ap (λ (z : Shape). frame_id z way.block) shape_r

  abbrev a0 : Added
  a0 = nothing.silently.added

  abbrev a1 : Added
  a1 = went.silently.added

  abbrev a2 : Added
  a2 = tries_and_given taught.becomes.refused taught.given

  abbrev all : Added
  all = both_added (both_added a0 a1) a2

  all_does : Does p s (own ∷ []) all
  all_does = does_both p r s (own ∷ []) (both_added a0 a1) a2
      (does_both p q r (own ∷ []) a0 a1 (does_none p q a0 (own ∷ []) nothing.silently.does)
      (subst (λ k. Does q r (k ∷ []) a1) own_q went.silently.does))
      (subst (λ k. Does r s (k ∷ []) a2) own_r taught.becomes.does)

  abbrev down_silently : DoesSilently p s (own ∷ [])
  down_silently = record {
    added = all;
    does = all_does;
    silent = λ j. (nothing.silently.silent j ++ went.silently.silent j) ++ [];
  }

  -- each frame that kept its page was given back as it was taken
  all_as_taken : AreAsTaken all.references
  all_as_taken = both_as_taken (a0.references ++ a1.references) taught.given
      (both_as_taken a0.references a1.references gave went.as_taken)
      (none_as_taken taught.given (parts_no_frames taught.given taught.parts))

  down_lacked : LacksFrame p way.block
  down_lacked = sym (nothing.silently.does.rest own tt)
      ∙ (ap (get_elem? (view q).held) (sym own_q) ∙ went.lacked)

  pub cut_is : cut_in (shape_of_pass q) i mode key ≡ cut_in (shape_of_pass p) i Ge key
  cut_is = ap (λ (z : Shape). cut_in z i mode key) shape_q
      ∙ cut_whole (fields_for (shape_of_pass p) i) mode key whole

  frame_is : taught.leaf.frame ≡ went.frame
  frame_is = taught_frame went taught

  page_is : taught.leaf.is.page ≡ went.is.page.is.page
  page_is = taught_page went taught

  pub low_is : taught.new.low ≡ went.frame.low
  low_is = taught.same.low ∙ ap (λ (z : Frame). z.low) frame_is

  pub high_is : taught.new.high ≡ went.frame.high
  high_is = taught.same.high ∙ ap (λ (z : Frame). z.high) frame_is

  -- the leaf is that of the key
  abbrev pub down_page : IsPageFor (shape_of_pass p) taught.new i 0 (cut_in (shape_of_pass p) i Ge key)
  down_page = record {
    is = (taught_leaf r s n m i way.block (figures_at way.spot) told taught).is;
    order = subst (λ (z : Shape). IsOrderly (fields_for z)
        (page_within taught.leaf.is.page taught.new.low taught.new.high))
        (taught_shape r s n m i way.block (figures_at way.spot) told taught ∙ shape_r)
        (taught_leaf r s n m i way.block (figures_at way.spot) told taught).order;
    within = record {
      low = (λ j. sym cut_is j (low_place (bound (low_is j)))) ∙ went.is.page.within.low;
      high = (λ j. sym cut_is j (high_place (bound (high_is j)))) ∙ went.is.page.within.high;
    };
  }

  frames_are : frame_references all.references
      ≡ (frame_references a0.references ++ went.path.vain) ++ went.path.path
  frames_are = frames_both (a0.references ++ a1.references) taught.given
      ∙ (ap (λ z. frame_references (a0.references ++ a1.references) ++ z)
      (parts_no_frames taught.given taught.parts)
      ∙ (append-nil (frame_references (a0.references ++ a1.references))
      ∙ (frames_both a0.references a1.references
      ∙ (ap (λ z. frame_references a0.references ++ z) went.path.references
      ∙ sym (append_assoc (frame_references a0.references) went.path.vain went.path.path)))))

  leads : LeadFromRoot (shape_of_pass p) (cut_in (shape_of_pass p) i Ge key) i 0
      taught.leaf.is.page.head.number went.path.path
  leads = subst (λ (z : PageRows). LeadFromRoot (shape_of_pass p) (cut_in (shape_of_pass p) i Ge key)
      i 0 z.head.number went.path.path) (sym page_is)
      (subst (λ c. LeadFromRoot (shape_of_pass p) c i 0 went.is.page.is.page.head.number
      went.path.path) cut_is
      (subst (λ (z : Shape). LeadFromRoot z (cut_in (shape_of_pass q) i mode key) i 0
      went.is.page.is.page.head.number went.path.path) shape_q went.path.leads))

  -- after a way down
  pub searches_way : (cause : Cause) (info : Info) (learn : Option Learn)
      → LearnsIf (is_miss cause) l i info learn n → (spot : Spot)
      → Finds Ge key taught.leaf.is.page.rows spot → Searches p l i key (record {
        leaf = record { block = way.block; spot = spot };
        how = how_of cause;
        note = told;
      }) s m
  searches_way cause info learn learns spot finds = record {
    silently = down_silently;
    as_taken = all_as_taken;
    as_found = λ h held. inr (
      cause_is_no_hit cause,
      subst (λ (z : Shape). IsAsTaught z i m h.taken h.known) shape_r
          (holds_as_taught r s n m i way.block (figures_at way.spot) told taught
          went.held_as_taken h held),
    );
    lacked = down_lacked;
    frame = taught.new;
    knows = (taught_leaf r s n m i way.block (figures_at way.spot) told taught).knows;
    is = record { page = down_page; finds = finds };
    came = inr (
      cause_is_no_hit cause,
      record {
        vain = frame_references a0.references ++ went.path.vain;
        path = went.path.path;
        references = frames_are;
        leads = leads;
      },
    );
    stands = ap (λ z. may_teach z (note_word told).lesson) (cause_is_down cause)
        ∙ lesson_tells r i way.block taught.leaf.frame taught.leaf.is.page taught.block
        taught.learn told taught.new taught.given taught.ends;
    tried = missed_tries l i cause info learn n m learns
        (learnt_tries n i (event.Descent (descent_to (shape_of_pass r) i (figures_at way.spot)
        taught.leaf.frame taught.leaf.is.page)) taught.learn m taught.counts.told);
    count = (let x = nothing.count in let y = went.count in let z = taught.becomes.count in
        omega (arith, x, y, z));
  }

-- the same, by what the way down tells
pub searches_down_too : {p q s : TreePass} {l n m : Knows} {i : ℕ} {mode : Mode} {key : FieldList}
    → length key ≡ fields_for (shape_of_pass p) i → {cause : Cause} {learn : Option Learn}
    → GuessMisses p l i mode key cause learn q n → {leaf : Leaf} {told : Note}
    → SearchesDown q n i mode key leaf told s m → Searches p l i key (record {
      leaf = leaf;
      how = how_of cause;
      note = told;
    }) s m
searches_down_too {p} {s = s} {l} {m = m} {i} {key = key} whole {cause} guess {leaf} {told} down =
    subst (λ b. Searches p l i key (record {
      leaf = record { block = b; spot = leaf.spot };
      how = how_of cause;
      note = told;
    }) s m) (sym down.block_is)
    (searches_way l whole guess.keeps guess.as_taken down.went down.taught cause guess.info _ guess.learns
    leaf.spot (subst (λ (z : PageRows). Finds Ge key z.rows leaf.spot)
    (sym (taught_page down.went down.taught)) down.finds))
