-- The laws of learning.
use Rattle.std.specs.Prelude.{◌≡◌, ℕ, ◌+◌, ◌<◌, ◌≤◌, true, List, length}
use Rattle.key_tuple.specs.declared.TheConstants.{MAX_FIELDS}
use Rattle.learning.specs.declared.info.Info.{Info}
use Rattle.learning.specs.declared.event.Event.{Event}
use Rattle.learning.specs.declared.event.Figures.{Figures}
use Rattle.learning.specs.Bounds.{IsInfoOf, IsEventOf}
use Rattle.learning.specs.Learning.{learn, info_after}
use Rattle.learning.specs.Recommendation.{recommendation, promise, confirms}
use Rattle.learning.specs.Word.{word_of, FitsWord}

-- two infos with one word are one
abbrev pub WordsTellInfos : Type 0
WordsTellInfos = (i j : Info) → FitsWord i → FitsWord j → word_of i ≡ word_of j → i ≡ j

-- while events can be counted, what an index learns asks for no more fields than it has, and fits
-- the word
abbrev pub InfosStayBounded : Type 0
InfosStayBounded = (unique : ℕ) (info : Info) (event : Event) → 1 ≤ unique → unique ≤ MAX_FIELDS
    → IsInfoOf unique info → IsEventOf unique event → info.events < 4294967295
    → IsInfoOf unique (learn info event)

-- each event is counted
abbrev pub EventsAreCounted : Type 0
EventsAreCounted = (info : Info) (events : List Event)
    → (info_after info events).events ≡ info.events + length events

-- what a search recommends, the same search confirms
abbrev pub RecommendationsAreConfirmed : Type 0
RecommendationsAreConfirmed = (unique : ℕ) (f : Figures) → 0 < promise f
    → confirms unique f (recommendation unique f) ≡ true
