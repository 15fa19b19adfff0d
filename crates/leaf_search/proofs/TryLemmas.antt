-- Which events a search has tried to count, one after another.
use Rattle.std.proofs.Common.{◌≡◌, ℕ, List, [], ◌∷◌, ◌++◌, map, length, sym, ap, subst, ◌∙◌, refl, append_assoc, append-nil, Option}
use Rattle.std.specs.List.{AllByRecursion}
use Rattle.std.proofs.lemmas.List.{map-append}
use Rattle.list_facts.proofs.Each.{each_append}
use Rattle.learning.specs.declared.info.Info.{Info}
use Rattle.learning.specs.declared.event.Event.{Event}
use Rattle.learning.specs.declared.event.Event.TheVariants as event
use Rattle.map_history.specs.declared.columns.How.{How}
use Rattle.map_history.specs.declared.columns.How.TheVariants as how
use Rattle.search_info.specs.declared.knows.Entry.{Entry}
use Rattle.search_info.specs.declared.knows.Fate.{Fate}
use Rattle.search_info.specs.declared.knows.Fate.TheVariants.{Counted, Raced as Overtaken, Worn as WornOut}
use Rattle.search_info.specs.declared.knows.Knows.{Knows}
use Rattle.search_info.specs.declared.knows.Try.{Try}
use Rattle.search_info.specs.declared.outcome.Learn.{Learn}
use Rattle.search_info.specs.declared.outcome.Learn.TheVariants.{Learnt, Raced, Worn}
use Rattle.search_info.specs.Outcomes.{Recommends, TellsLearn}
use Rattle.search_info.specs.Steps.{event_entry, seeing, with_try}
use Rattle.hash_guess.specs.declared.cause.Cause.{Cause}
use Rattle.hash_guess.specs.declared.cause.Cause.TheVariants.{Cold, Short, PartBusy, NoEntry, BlockBusy, Unequal}
use Rattle.hash_guess.specs.Causes.{is_miss}
use Rattle.hash_guess.specs.Guesses.{LearnsIf, LearnsOf}
use Rattle.leaf_search.specs.Hows.{how_of}
use Rattle.search_info.specs.Tries.{Kind, Miss, Descent, TriesAfter, kind_of, kinds_after}

-- the pass has its numbers, and has tried besides events of these kinds
pub record AddsTries (l : Knows) (i : ℕ) (kinds : List Kind) (m : Knows) : Type 0 where
  pub opening : m.opening ≡ l.opening
  pub low : m.low ≡ l.low
  pub end : m.end ≡ l.end
  pub tries : List Try
  pub added : m.tries ≡ l.tries ++ tries
  pub each : AllByRecursion (λ (t : Try). (t.index ≡ i) × (t.by ≡ l.low)) tries
  pub are : map (λ (t : Try). kind_of t.event) tries ≡ kinds

-- an info was read
pub read_tries : (l : Knows) (i : ℕ) (info : Info) (m : Knows) → Recommends l i info m
    → AddsTries l i [] m
read_tries l i info m read = record {
  opening = ap (λ (v : Knows). v.opening) read.view;
  low = ap (λ (v : Knows). v.low) read.view;
  end = ap (λ (v : Knows). v.end) read.view;
  tries = [];
  added = ap (λ (v : Knows). v.tries) read.view ∙ sym (append-nil l.tries);
  each = tt;
  are = refl;
}

-- one event was tried
one_try : (l : Knows) (i : ℕ) (xs : List Entry) (event : Event) (fate : Fate) (m : Knows)
    → m ≡ with_try (seeing l i xs) i event fate → AddsTries l i (kind_of event ∷ []) m
one_try l i xs event fate m is = record {
  opening = ap (λ (v : Knows). v.opening) is;
  low = ap (λ (v : Knows). v.low) is;
  end = ap (λ (v : Knows). v.end) is;
  tries = record { index = i; event = event; by = l.low; fate = fate } ∷ [];
  added = ap (λ (v : Knows). v.tries) is;
  each = ((refl, refl), tt);
  are = refl;
}

pub learnt_tries : (l : Knows) (i : ℕ) (event : Event) (told : Learn) (m : Knows)
    → TellsLearn l i event told m → AddsTries l i (kind_of event ∷ []) m
learnt_tries l i event (Learnt before after build) m tells = one_try l i
    (tells.0.list ++ event_entry l event ∷ []) event (Counted (length tells.0.list)) m
    tells.0.view
learnt_tries l i event (Raced read found) m tells = one_try l i tells.list event
    (Overtaken read found) m tells.view
learnt_tries l i event Worn m tells = one_try l i tells.list event WornOut m tells.view

-- some tries behind others
pub more_tries : (l q m : Knows) (i : ℕ) (ks js : List Kind) → AddsTries l i ks q
    → AddsTries q i js m → AddsTries l i (ks ++ js) m
more_tries l q m i ks js first second = record {
  opening = second.opening ∙ first.opening;
  low = second.low ∙ first.low;
  end = second.end ∙ first.end;
  tries = first.tries ++ second.tries;
  added = second.added
      ∙ (ap (λ z. z ++ second.tries) first.added
      ∙ append_assoc l.tries first.tries second.tries);
  each = each_append (λ (t : Try). (t.index ≡ i) × (t.by ≡ l.low)) first.tries second.tries
      first.each
      (subst (λ n. AllByRecursion (λ (t : Try). (t.index ≡ i) × (t.by ≡ n)) second.tries) first.low
      second.each);
  are = map-append (λ (t : Try). kind_of t.event) first.tries second.tries
      ∙ (λ j. first.are j ++ second.are j);
}

-- so a search has tried what is said of it
pub tries_after : (l : Knows) (i : ℕ) (how : How) (m : Knows) → AddsTries l i (kinds_after how) m
    → TriesAfter l i how m
tries_after l i how m adds = search

-- after a read one event was tried
pub of_tries : (l : Knows) (i : ℕ) (info : Info) (event : Event) (told : Learn) (m : Knows)
    → LearnsOf l i info event told m → AddsTries l i (kind_of event ∷ []) m
of_tries l i info event told m of = more_tries l of.read m i [] (kind_of event ∷ [])
    (read_tries l i info of.read of.recommends) (learnt_tries of.read i event told m of.tells)

-- what was tried when a guess led nowhere, and then a way was gone
pub missed_tries : (l : Knows) (i : ℕ) (cause : Cause) (info : Info) (told : Option Learn)
    (q m : Knows) → LearnsIf (is_miss cause) l i info told q → AddsTries q i (Descent ∷ []) m
    → TriesAfter l i (how_of cause) m
missed_tries l i Cold info told q m learns down = tries_after l i how.Cold m
    (more_tries l q m i [] (Descent ∷ []) (read_tries l i info q learns.1) down)
missed_tries l i (Short have need) info told q m learns down = tries_after l i how.Short m
    (more_tries l q m i [] (Descent ∷ []) (read_tries l i info q learns.1) down)
missed_tries l i (PartBusy n) info told q m learns down = tries_after l i how.PartBusy m
    (more_tries l q m i (Miss ∷ []) (Descent ∷ [])
    (of_tries l i info event.Miss learns.0 q learns.2) down)
missed_tries l i (NoEntry fold) info told q m learns down = tries_after l i how.NoEntry m
    (more_tries l q m i (Miss ∷ []) (Descent ∷ [])
    (of_tries l i info event.Miss learns.0 q learns.2) down)
missed_tries l i (BlockBusy n) info told q m learns down = tries_after l i how.BlockBusy m
    (more_tries l q m i (Miss ∷ []) (Descent ∷ [])
    (of_tries l i info event.Miss learns.0 q learns.2) down)
missed_tries l i (Unequal block place) info told q m learns down = tries_after l i how.Unequal m
    (more_tries l q m i (Miss ∷ []) (Descent ∷ [])
    (of_tries l i info event.Miss learns.0 q learns.2) down)
