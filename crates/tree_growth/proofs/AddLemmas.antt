-- What was added on the way, by one call behind the other.
use Rattle.std.proofs.Common.{◌≡◌, ℕ, List, [], ◌++◌, append-nil, sym, ap, subst, ◌∙◌, refl}
use Rattle.key_tuple.specs.Order.{FieldList}
use Rattle.latch_law.specs.declared.knows.Terms.{Terms}
use Rattle.latch_space.specs.Passes.{view}
use Rattle.index_law.specs.Shape.{Shape}
use Rattle.forest_world.specs.Held.{TreePass, shape_of_pass}
use Rattle.call_law.specs.Spoken.{spoken}
use Rattle.call_law.specs.Trace.{Added, Adds, AreGivenAt, fulls}
use Rattle.call_law.proofs.TraceLemmas.{both_added, adds_both}
use Rattle.buffer_pool.specs.Calls.{DoesSilently, GetsNothing}
use Rattle.buffer_pool.specs.declared.error.PoolError.{PoolError}
use Rattle.buffer_pool.specs.declared.error.PoolError.TheVariants.{SpaceFull, NoMemory}
use Rattle.buffer_pool.specs.NewPages.{FindsNoneFree}
use Rattle.buffer_pool.proofs.AddedLemmas.{none_added, held_adds}
use Rattle.tree_growth.specs.declared.looking.PageInHand.{PageInHand}
use Rattle.tree_growth.specs.Growing.{HadRoom}
use Rattle.tree_growth.specs.Ways.{GoesOn, SaysFull, SaysError, StopsOnWay, ArrivesAt}
use Rattle.tree_law.proofs.ListLemmas.{In-append_left, In-append_right}

-- the space has its shape
pub same_shape : (p q : TreePass) (a : Added) → Adds (view p) (view q) a
    → shape_of_pass q ≡ shape_of_pass p
same_shape p q a adds = ap (λ (t : Terms Shape). t.shape) adds.numbers.terms

-- a call that says nothing
pub goes_silently : (p q : TreePass) (ks : List ℕ) → DoesSilently p q ks → GoesOn p q
goes_silently p q ks silently =
    record { added = silently.added; adds = silently.does.adds; silent = silently.silent }

-- no call
pub goes_nowhere : (p : TreePass) → GoesOn p p
goes_nowhere p = search (none_added, held_adds (view p) (view p) (view p).held refl)

module _ (p q r : TreePass) where
  -- one call behind the other
  unfoldable pub goes_both : GoesOn p q → GoesOn q r → GoesOn p r
  goes_both first second = record {
    added = both_added first.added second.added;
    adds = adds_both (view p) (view q) (view r) first.added second.added first.adds second.adds;
    silent = λ k. first.silent k ++ second.silent k;
  }

  -- the leaf had room in the first call, or in the second
  pub room_first : (i : ℕ) (key : FieldList) (need : ℕ) (first : GoesOn p q)
      (second : GoesOn q r) → HadRoom (shape_of_pass p) i key need first.added
      → HadRoom (shape_of_pass p) i key need (goes_both first second).added
  unfolding goes_both
  room_first i key need first second had = search (In-append_left _ first.added.references second.added.references had.among)

  pub room_second : (i : ℕ) (key : FieldList) (need : ℕ) (first : GoesOn p q)
      (second : GoesOn q r) → HadRoom (shape_of_pass q) i key need second.added
      → HadRoom (shape_of_pass p) i key need (goes_both first second).added
  unfolding goes_both
  room_second i key need first second had0 =
      let had = subst (λ s. HadRoom s i key need second.added)
      (same_shape p q first.added first.adds) had0 in record {
        block = had.block;
        taken = had.taken;
        leaf = had.leaf;
        among = In-append_right _ first.added.references second.added.references had.among;
        page = had.page;
        room = had.room;
      }

  -- it was said in the second call that no number was free
  pub full_after : (i : ℕ) → GoesOn p q → SaysFull q i r → SaysFull p i r
  full_after i first second = record {
    added = both_added first.added second.added;
    adds = adds_both (view p) (view q) (view r) first.added second.added first.adds second.adds;
    given = subst (AreGivenAt i (view p).low)
        (sym (ap (λ z. z ++ second.added.said) first.silent))
        (subst (λ n. AreGivenAt i n second.added.said) first.adds.numbers.low second.given);
    silent = ap (λ z. spoken (z ++ second.added.said)) first.silent ∙ second.silent;
    places = second.places;
    full = ap (λ z. fulls (z ++ second.added.said)) first.silent ∙ second.full;
    pool = second.pool;
    held = record {
      now = second.held.now;
      among = In-append_right _ first.added.references second.added.references second.held.among;
    };
    none = second.none;
  }

  -- or in the first
  pub full_before : (i : ℕ) → SaysFull p i q → GoesOn q r → SaysFull p i r
  full_before i first second =
      let same : first.added.said ++ second.added.said ≡ first.added.said =
      ap (λ z. first.added.said ++ z) second.silent ∙ append-nil first.added.said in record {
        added = both_added first.added second.added;
        adds = adds_both (view p) (view q) (view r) first.added second.added first.adds second.adds;
        given = subst (AreGivenAt i (view p).low) (sym same) first.given;
        silent = ap spoken same ∙ first.silent;
        places = first.places;
        full = ap fulls same ∙ first.full;
        pool = first.pool;
        held = record {
          now = first.held.now;
          among = In-append_left _ first.added.references second.added.references first.held.among;
        };
        none = first.none;
      }

  -- so it is with what either error tells
  pub says_after : (i : ℕ) (e : PoolError) → GoesOn p q → SaysError q i e r → SaysError p i e r
  says_after i SpaceFull first second = full_after i first second
  says_after i NoMemory first second = goes_both first second

  pub says_before : (i : ℕ) (e : PoolError) → SaysError p i e q → GoesOn q r → SaysError p i e r
  says_before i SpaceFull first second = full_before i first second
  says_before i NoMemory first second = goes_both first second

  -- where the way begins with a call more
  pub stops_after : (i : ℕ) (key : FieldList) (e : PoolError) → GoesOn p q → StopsOnWay q i key e r
      → StopsOnWay p i key e r
  stops_after i key e first stops =
      record { says = says_after i e first stops.says; way = stops.way }

  pub reaches_after : (i : ℕ) (key : FieldList) (need : ℕ) (at : PageInHand) → GoesOn p q
      → ArrivesAt q i key need at r → ArrivesAt p i key need at r
  reaches_after i key need at first reaches =
      record { goes = goes_both first reaches.goes; way = reaches.way; is = reaches.is }

-- a call that found no number free
pub says_none_free : (p q : TreePass) (i : ℕ) → FindsNoneFree p i q → SaysFull p i q
says_none_free p q i finds = search

-- what the error of a split or a raise tells
pub says_refused : (p q : TreePass) (i : ℕ) (e : PoolError)
    → (e ≡ SpaceFull → FindsNoneFree p i q) → (e ≡ NoMemory → GetsNothing p q) → SaysError p i e q
says_refused p q i SpaceFull full memory = says_none_free p q i (full refl)
says_refused p q i NoMemory full memory = goes_silently p q [] (memory refl).silently
