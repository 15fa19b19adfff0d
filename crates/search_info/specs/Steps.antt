-- What a load and an exchange tell.
use Rattle.std.specs.Prelude.{◌≡◌, ◌≢◌, ℕ, ◌<◌, ◌==◌, List, [], ◌∷◌, ◌++◌, length, slice_set, Option, Some, None, if◌then◌else◌}
use mathlib.Core.Option.{some}
use lib.ListN.{get_elem?}
use Rattle.atomic_table.specs.Table.{Me, Step}
use Rattle.learning.specs.declared.event.Event.{Event}
use Rattle.learning.specs.Bounds.{IsEventOf}
use Rattle.learning.specs.Learning.{learn}
use Rattle.learning.specs.Word.{word_of}
use Rattle.list_facts.specs.Growing.{ExtendsSeen}
use Rattle.search_info.specs.declared.knows.Entry.{Entry}
use Rattle.search_info.specs.declared.knows.Fate.{Fate}
use Rattle.search_info.specs.declared.knows.Fate.TheVariants.{Counted, Raced, Worn}
use Rattle.search_info.specs.declared.knows.Knows.{Knows}
use Rattle.search_info.specs.History.{Start, History, known_after}
use Rattle.search_info.specs.Rule.{FitsHistory}

-- some history that fits the pass has just this list of the index
pub record StandsInHistory (v : Knows) (i : ℕ) (xs : List Entry) : Type 0 where
  pub lists : History
  pub fits : FitsHistory lists v
  pub list : get_elem? lists i ≡ some xs

-- the pass has its numbers, and a beginning of as many lists
pub record KeepsNumbers (v v' : Knows) : Type 0 where
  pub opening : v'.opening ≡ v.opening
  pub low : v'.low ≡ v.low
  pub end : v'.end ≡ v.end
  pub lists : length v'.seen ≡ length v.seen

-- the list begins with what the pass has seen of it
abbrev pub BeginsWithSeen : Knows → ℕ → List Entry → Type 0
BeginsWithSeen v i xs = ExtendsSeen v.seen i xs

-- a list more seen
abbrev pub seeing : Knows → ℕ → List Entry → Knows
seeing v i xs = record v { seen = slice_set v.seen i xs }

-- one try more
abbrev pub with_try : Knows → ℕ → Event → Fate → Knows
with_try v i event fate = record v {
  tries = v.tries ++ record { index = i; event = event; by = v.low; fate = fate } ∷ [];
}

-- the entry of an event, in the name of a pass
abbrev pub event_entry : Knows → Event → Entry
event_entry v event = record { event = event; by = v.low }

-- the event was counted behind the list xs
abbrev pub counting : Knows → ℕ → List Entry → Event → Knows
counting v i xs event =
    with_try (seeing v i (xs ++ event_entry v event ∷ [])) i event (Counted (length xs))

-- the list xs was loaded, for an event or for none: a worn try where no more events can be counted
abbrev pub loading : Option Event → Knows → ℕ → Start → List Entry → Knows
loading None v i s xs = seeing v i xs
loading (Some event) v i s xs =
    if (known_after s xs).events == 4294967295
    then with_try (seeing v i xs) i event Worn else seeing v i xs

-- a load found the word of a list that begins with all that the pass had seen
pub record Loaded (asked : Option Event) (v : Knows) (i word : ℕ) (v' : Knows) : Type 0 where
  pub start : Start
  pub is_start : get_elem? v.opening.starts i ≡ some start
  pub list : List Entry
  pub extends : BeginsWithSeen v i list
  pub word_is : word ≡ word_of (known_after start list)
  pub stands : StandsInHistory v' i list
  pub view : v' ≡ loading asked v i start list

-- the same of a step of the table
abbrev pub loaded : Option Event → Step ℕ → Me ℕ Knows → ℕ → Me ℕ Knows → Type 0
loaded asked st m found m' = Loaded asked m.0 st.word found m'.0 × (m'.1 ≡ m.1)

-- an exchange after a load of the list xs: the event was counted
pub record Hits (v : Knows) (i : ℕ) (xs : List Entry) (event : Event) (v' : Knows) : Type 0 where
  pub stands : StandsInHistory v' i (xs ++ event_entry v event ∷ [])
  pub view : v' ≡ counting v i xs event

-- a longer list stood there, and the try raced
pub record Misses (v : Knows) (i : ℕ) (s : Start) (xs : List Entry) (event : Event) (word : ℕ)
    (v' : Knows) : Type 0 where
  pub more : List Entry
  pub word_is : word ≡ word_of (known_after s (xs ++ more))
  pub stands : StandsInHistory v' i (xs ++ more)
  pub view : v' ≡ with_try v i event (Raced (known_after s xs) (known_after s (xs ++ more)))

-- the same of a step of the table: by the word that it found
abbrev pub exchanged : Option Event → Step ℕ → Me ℕ Knows → ℕ → Me ℕ Knows → Type 0
exchanged asked st m found m' = (event : Event) (s : Start) (xs : List Entry) → asked ≡ Some event
    → get_elem? m.0.opening.starts st.word ≡ some s → get_elem? m.0.seen st.word ≡ some xs
    → st.first ≡ word_of (known_after s xs)
    → (found ≡ st.first → Hits m.0 st.word xs event m'.0)
    × (found ≢ st.first → Misses m.0 st.word s xs event found m'.0) × (m'.1 ≡ m.1)

-- an exchange of the word of the list that the pass has seen for the word with one event more
pub record MayExchange (v : Knows) (i old new : ℕ) (event : Event) : Type 0 where
  pub start : Start
  pub is_start : get_elem? v.opening.starts i ≡ some start
  pub list : List Entry
  pub is_seen : get_elem? v.seen i ≡ some list
  pub old_is : old ≡ word_of (known_after start list)
  pub new_is : new ≡ word_of (learn (known_after start list) event)
  pub fair : IsEventOf start.1 event
  pub room : (known_after start list).events < 4294967295

-- an exchange that found the old word counted the event
abbrev pub HitTells : Knows → ℕ → Event → ℕ → ℕ → Knows → Type 0
HitTells v i event old found v' = (xs : List Entry) → get_elem? v.seen i ≡ some xs → found ≡ old
    → Hits v i xs event v'

-- an exchange that found another word did not
abbrev pub MissTells : Knows → ℕ → Event → ℕ → ℕ → Knows → Type 0
MissTells v i event old found v' = (s : Start) (xs : List Entry)
    → get_elem? v.opening.starts i ≡ some s → get_elem? v.seen i ≡ some xs → found ≢ old
    → Misses v i s xs event found v'
