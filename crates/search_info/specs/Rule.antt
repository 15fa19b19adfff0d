-- The rule of a learner's table.
use Rattle.std.specs.Prelude.{◌≡◌, ◌≢◌, ℕ, ◌<◌, ◌≤◌, Bool, true, false, ◌&&◌, ◌==◌, List, [], ◌∷◌, ◌++◌, map, length, replicate, count_by}
use mathlib.Core.Option.{some}
use lib.ListN.{get_elem?}
use Rattle.atomic_table.specs.Table.{State}
use Rattle.learning.specs.declared.info.Info.{Info}
use Rattle.learning.specs.Word.{word_of}
use Rattle.list_facts.specs.Growing.{IsListed, AreBeginnings}
use Rattle.list_facts.specs.Passes.{EachLive, AreApart}
use Rattle.search_info.specs.declared.knows.Entry.{Entry}
use Rattle.search_info.specs.declared.knows.Fate.{Fate}
use Rattle.search_info.specs.declared.knows.Fate.TheVariants.{Counted, Raced, Worn}
use Rattle.search_info.specs.declared.knows.Knows.{Knows}
use Rattle.search_info.specs.declared.knows.Opening.{Opening}
use Rattle.search_info.specs.declared.knows.Try.{Try}
use Rattle.search_info.specs.declared.law.Settings.{Settings}
use Rattle.search_info.specs.History.{Start, History, WasKnown, IsHistory, known_after}

-- what the settings of the table open with
abbrev pub opening_of : Settings → Opening
opening_of t = record { starts = t.starts.items; passes = t.passes }

-- what the first pass knows: all numbers, and that each list begins
abbrev pub first_knows : Opening → Knows
first_knows o = record {
  opening = o;
  low = 0;
  end = o.passes;
  seen = replicate (length o.starts) [];
  tries = [];
}

-- and so by the settings of the table
abbrev pub knows_first : Settings → Knows
knows_first t = first_knows (opening_of t)

-- the words at the start
abbrev pub first_words : List Start → List ℕ
first_words starts = map (λ s. word_of s.0) starts ++ 0 ∷ []

-- the try was counted
abbrev pub is_counted : Fate → Bool
is_counted (Counted place) = true
is_counted (Raced read found) = false
is_counted Worn = false

-- how many of the tries were counted in the list i under the number n
abbrev pub times_counted : ℕ → ℕ → List Try → ℕ
times_counted i n tries = count_by (λ q. is_counted q.fate && (q.index == i) && (q.by == n)) tries

-- how many of the tries were counted in the list i
abbrev pub tries_counted : ℕ → List Try → ℕ
tries_counted i tries = count_by (λ q. is_counted q.fate && (q.index == i)) tries

-- how many events of a list have the number n
abbrev pub times_made : ℕ → List Entry → ℕ
times_made n xs = count_by (λ e. e.by == n) xs

-- a try is so: counted, it is the event at its place; raced, the index knew two different things;
-- worn, its event count was at its last value
abbrev pub IsTrueWithFate : List Start → History → Try → Fate → Type 0
IsTrueWithFate starts lists q (Counted place) =
    IsListed lists q.index place record { event = q.event; by = q.by }
IsTrueWithFate starts lists q (Raced read found) = WasKnown starts lists q.index read
    × WasKnown starts lists q.index found × (read ≢ found)
IsTrueWithFate starts lists q Worn = (info : Info) × WasKnown starts lists q.index info
    × (info.events ≡ 4294967295)

-- a try is so, with its own fate
abbrev pub IsTrueTry : List Start → History → Try → Type 0
IsTrueTry starts lists q = IsTrueWithFate starts lists q q.fate

-- the try that an entry at a place is
abbrev pub counted_try : ℕ → ℕ → Entry → Try
counted_try i n e = record { index = i; event = e.event; by = e.by; fate = Counted n }

-- what a pass knows is so: it has seen a beginning of each list, its tries are so, and its counted
-- tries are exactly the events that carry its numbers, each once
pub record FitsHistory (lists : History) (v : Knows) : Type 0 where
  pub history : IsHistory v.opening lists
  pub all : length v.seen ≡ length v.opening.starts
  pub numbers : v.end ≤ v.opening.passes
  pub seen : AreBeginnings v.seen lists
  pub mine : (j : ℕ) (q : Try) → get_elem? v.tries j ≡ some q → (v.low ≤ q.by) × (q.by < v.end)
  pub so : (j : ℕ) (q : Try) → get_elem? v.tries j ≡ some q → IsTrueTry v.opening.starts lists q
  pub own : (i n : ℕ) (e : Entry) → IsListed lists i n e → v.low ≤ e.by → e.by < v.end
      → (j : ℕ) × (get_elem? v.tries j ≡ some (counted_try i n e))
  pub once : (i n : ℕ) (xs : List Entry) → get_elem? lists i ≡ some xs → v.low ≤ n → n < v.end
      → times_counted i n v.tries ≡ times_made n xs

-- each word is what its index knows from one list, all that the passes know is so, and no two have
-- a number in common
pub record KeptWords (t : Settings) (s : State ℕ Knows) : Type 0 where
  pub lists : History
  pub history : IsHistory (opening_of t) lists
  pub words : (i : ℕ) (start : Start) (xs : List Entry) → get_elem? t.starts.items i ≡ some start
      → get_elem? lists i ≡ some xs → get_elem? s.words i ≡ some (word_of (known_after start xs))
  pub same : EachLive (λ v. v.low) (λ v. v.end) (λ v. v.opening ≡ opening_of t) s.views
  pub each : EachLive (λ v. v.low) (λ v. v.end) (FitsHistory lists) s.views
  pub apart : AreApart (λ v. v.low) (λ v. v.end) s.views
