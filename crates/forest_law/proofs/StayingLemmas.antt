-- What was right stays right while the lists grow.
use Rattle.std.proofs.Common.{◌≡◌, ℕ, suc, ◌≤◌, List, [], ◌∷◌, ◌++◌, length, take, length-append, sym, ap, subst, ◌∙◌, arith, refl}
use Rattle.std.specs.Prelude.{cond}
use Rattle.std.proofs.lemmas.List.{length-map}
use Rattle.std.proofs.lemmas.List.Sums.{sum_by-append, sum_by-cons}
use mathlib.Core.List.{map-append}
use mathlib.Core.Option.{some-injective}
use Rattle.list_facts.specs.Growing.{AreBeginnings}
use Rattle.latch_law.specs.declared.knows.Entry.{Entry}
use Rattle.latch_law.specs.Moves.{Away, Next}
use Rattle.map_history.specs.Map.{slice, map_after, writes}
use Rattle.map_history.specs.Operation.{Ask}
use Rattle.map_history.proofs.HistoryLemmas.{map_after-stays}
use Rattle.index_law.specs.Answers.{MadeChange, Word, Gives, LogFull, SpaceFull, Saying, Replies, Piece, Full, Look}
use Rattle.index_law.specs.Rightness.{map_at, IsReply, IsAllowed, IsShort, IsWord, IsSaid, IsRight}
use Rattle.index_law.specs.State.{Entries, changes, written_in, written_in_all}
use Rattle.forest_law.specs.State.{ForestState}
use Rattle.forest_law.specs.Law.{MayFollow}
use Rattle.forest_law.specs.References.{IsReference}

-- what is written in a list is written in one that goes on with it
written_more : (xs ys : Entries) → written_in xs ≤ written_in (xs ++ ys)
written_more xs ys =
    let both = sum_by-append (λ (e : Entry MadeChange). cond (writes e.change.change) 1 0) xs ys in
    omega (arith, both)

-- so it is with all lists
all_more : (old new : List Entries) → AreBeginnings old new
    → written_in_all old ≤ written_in_all new
all_more [] new grows = omega arith
all_more (xs ∷ old) [] grows = let at = grows 0 xs refl in absurd cc
all_more (xs ∷ old) (ys ∷ new) grows = let at = grows 0 xs refl in
    let here : written_in xs ≤ written_in ys =
    subst (λ (z : Entries). written_in xs ≤ written_in z)
    (sym (some-injective ys (xs ++ at.0) at.1)) (written_more xs at.0) in
    let rest = all_more old new (λ i zs there. grows (suc i) zs there) in
    let one = sum_by-cons written_in xs old in let two = sum_by-cons written_in ys new in
    omega (arith, here, rest, one, two)

-- pages that are few stay few
pub short_stays : (name : ℕ) (w w' : ForestState) → Away name w w' → IsShort w → IsShort w'
short_stays name w w' away short =
    let more = all_more w.lists w'.lists away.grows in
    let pages = ap (λ z. z.pages) away.shape in
    let indexes = ap (λ z. z.indexes) away.shape in
    let passes = away.passes in
    omega (arith, short, more, pages, indexes, passes)

module _ (name : ℕ) (w w' : ForestState) (away : Away name w w') (xs ys : Entries) (p : ℕ)
    (within : p ≤ length xs) where
  -- the changes of a list that grows are its old ones and the new ones
  longer : changes (xs ++ ys) ≡ changes xs ++ changes ys
  longer = map-append (λ (e : Entry MadeChange). e.change.change) xs ys

  -- the point lies within the changes
  point : p ≤ length (changes xs)
  point = let same : length (changes xs) ≡ length xs =
      length-map xs (λ (e : Entry MadeChange). e.change.change) in omega (arith, within, same)

  -- the map at the point stays
  map_stays : map_at (xs ++ ys) p ≡ map_at xs p
  map_stays = ap (λ cs. map_after (take p cs)) longer
      ∙ map_after-stays (changes xs) (changes ys) p point

  -- so a word that was right at the point stays right there
  word_stays : (ask : Ask) (word : Word) → IsWord w xs p ask word
      → IsWord w' (xs ++ ys) p ask word
  word_stays ask (Gives reply) so = subst (λ m. IsReply m ask reply) (sym map_stays) so
  word_stays ask LogFull so =
      (so.0 ∙ sym away.max_changes, subst (λ m. IsAllowed m ask) (sym map_stays) so.1)
  word_stays ask SpaceFull so = (so.0, short_stays name w w' away so.1)

  -- and so does all that is said
  said_stays : (a : Saying) → IsSaid w xs p a
      → IsSaid w' (xs ++ ys) p a
  said_stays (Replies ask word bound columns) so = λ speaks. word_stays ask word (so speaks)
  said_stays (Piece ask low high rows bound columns) so =
      λ speaks. so speaks ∙ ap (slice low high) (sym map_stays)
  said_stays (Full places) so =
      (so.0 ∙ ap (λ z. z.pages) (sym away.shape), so.1, short_stays name w w' away so.2)
  said_stays Look so = tt

-- a right answer stays right in each state that follows
pub stay_lemma : (name : ℕ) (w w' : ForestState)
    → Next IsRight IsReference MayFollow name w w' → (i p : ℕ) (a : Saying)
    → IsRight w i p a → IsRight w' i p a
stay_lemma name w w' next i p a right = let away = next.0 in
    let more = away.grows i right.list right.there in let within = right.point in record {
      list = right.list ++ more.0;
      there = more.1;
      point = omega (arith, within, length-append right.list more.0);
      said = said_stays name w w' away right.list more.0 p within a right.said;
    }
