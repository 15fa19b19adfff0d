-- A split or a raise that found no page number, or no memory.
use Rattle.std.proofs.Common.{◌≡◌, ◌≢◌, ℕ, List, [], ◌∷◌, ◌∙◌, refl}
use Rattle.key_tuple.specs.Order.{FieldList}
use Rattle.latch_space.specs.Passes.{view, count}
use Rattle.forest_law.specs.declared.objects.Frame.{Frame}
use Rattle.forest_law.specs.Outside.{HasNoOutside}
use Rattle.forest_world.specs.Held.{TreePass}
use Rattle.call_law.specs.Hands.{KnowsFrame}
use Rattle.call_law.specs.Trace.{Added}
use Rattle.buffer_pool.specs.Calls.{Does, GetsNothing}
use Rattle.buffer_pool.specs.declared.error.PoolError.{PoolError}
use Rattle.buffer_pool.specs.declared.error.PoolError.TheVariants.{SpaceFull, NoMemory}
use Rattle.buffer_pool.specs.Frames.{GivesFrame}
use Rattle.buffer_pool.specs.Hands.{MayGiveBack}
use Rattle.buffer_pool.proofs.CallLemmas.{frame_has}
use Rattle.buffer_pool.specs.NewPages.{FindsNoneFree}
use Rattle.buffer_pool.proofs.AddedLemmas.{frame_still, tree_still}
use Rattle.tree_growth.specs.Ways.{IsGoingDown, SaysError, StopsOnWay}
use Rattle.tree_growth.proofs.AddLemmas.{says_before, says_refused}
use Rattle.tree_growth.proofs.HandLemmas.{way_more, way_less, goes_gave, still_gave}

-- the error was told, and what is in hand is as before
pub record IsRefused (p : TreePass) (i : ℕ) (key : FieldList) (bs : List ℕ) (e : PoolError)
    (q : TreePass) : Type 0 where
  pub says : SaysError p i e q
  pub way : IsGoingDown q i key bs
  pub frames : (b : ℕ) (f : Frame) → KnowsFrame (view p) b f → KnowsFrame (view q) b f

module _ (p q : TreePass) (i : ℕ) (key : FieldList) (bs : List ℕ) (way : IsGoingDown p i key bs) where
  -- a call that changed nothing in hand
  way_still : (a : Added) → Does p q [] a → count q ≡ count p → IsGoingDown q i key bs
  way_still a does same =
      way_more p q i key bs bs way [] a does.adds does.rest does.known (λ k not each. (tt, each))
      way.tree (tree_still (view p) (view q) [] does.rest i tt way.tree way.knows) (same ∙ way.count)

  frames_still : (a : Added) → Does p q [] a → (b : ℕ) (f : Frame) → KnowsFrame (view p) b f
      → KnowsFrame (view q) b f
  frames_still a does b f knows =
      frame_still (view p) (view q) [] does.adds.numbers does.rest b tt f knows

  pub is_refused : (e : PoolError) → (e ≡ SpaceFull → FindsNoneFree p i q)
      → (e ≡ NoMemory → GetsNothing p q) → IsRefused p i key bs e q
  is_refused SpaceFull full memory = let finds = (full refl).full in record {
    says = says_refused p q i SpaceFull full memory;
    way = way_still finds.added finds.does finds.count;
    frames = frames_still finds.added finds.does;
  }
  is_refused NoMemory full memory = let gets = memory refl in record {
    says = says_refused p q i NoMemory full memory;
    way = way_still gets.silently.added gets.silently.does gets.count;
    frames = frames_still gets.silently.added gets.silently.does;
  }

-- then the frame in hand was given back
pub stops_one : (p q r : TreePass) (i : ℕ) (key : FieldList) (b : ℕ) (e : PoolError)
    → IsRefused p i key (b ∷ []) e q → GivesFrame q b r → StopsOnWay p i key e r
stops_one p q r i key b e refused gave = record {
  says = says_before p q r i e refused.says (goes_gave q r b refused.way.known gave);
  way = way_less q r i key (b ∷ []) [] refused.way b gave (λ k apart each. (apart, tt)) refl;
}

-- or both frames were
module _ (p q r : TreePass) (i : ℕ) (key : FieldList) (b c : ℕ) (e : PoolError)
    (refused : IsRefused p i key (b ∷ c ∷ []) e q) (gave : GivesFrame q c r) where
  first_back : IsGoingDown r i key (b ∷ [])
  first_back = way_less q r i key (b ∷ c ∷ []) (b ∷ []) refused.way c gave
      (λ k apart each. (each.0, (apart, tt))) refl

  pub holds_second : (f : Frame) → HasNoOutside f → b ≢ c → KnowsFrame (view p) b f
      → MayGiveBack r b
  holds_second f inside ne knows = (
    f,
    frame_has r first_back.known b f
        (still_gave q r c refused.way.known gave b f ne (refused.frames b f knows)),
    inside,
  )

  pub stops_two : (s : TreePass) → GivesFrame r b s → StopsOnWay p i key e s
  stops_two s again = record {
    says = says_before p r s i e
        (says_before p q r i e refused.says (goes_gave q r c refused.way.known gave))
        (goes_gave r s b first_back.known again);
    way = way_less r s i key (b ∷ []) [] first_back b again (λ k apart each. (apart, tt)) refl;
  }
