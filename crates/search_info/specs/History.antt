-- The lists of events, one for each index, and what the indexes know from them.
use Rattle.std.specs.Prelude.{◌≡◌, ℕ, ◌<◌, ◌≤◌, List, map, length}
use mathlib.Core.Option.{some}
use lib.ListN.{get_elem?}
use Rattle.key_tuple.specs.declared.TheConstants.{MAX_FIELDS}
use Rattle.learning.specs.declared.info.Info.{Info}
use Rattle.learning.specs.Bounds.{IsInfoOf, IsEventOf}
use Rattle.learning.specs.Learning.{info_after}
use Rattle.list_facts.specs.Growing.{IsListed, IsBeginning}
use Rattle.search_info.specs.declared.knows.Entry.{Entry}
use Rattle.search_info.specs.declared.knows.Opening.{Opening}

-- what an index knew first, and its number of fields
abbrev pub Start : Type 0
Start = Info × ℕ

-- the list of each index
abbrev pub History : Type 0
History = List (List Entry)

-- an index may begin so
pub record IsStart (s : Start) : Type 0 where
  pub some : 1 ≤ s.1
  pub few : s.1 ≤ MAX_FIELDS
  pub info : IsInfoOf s.1 s.0

-- each index has such a start
abbrev pub AreStarts : List Start → Type 0
AreStarts starts = (i : ℕ) (s : Start) → get_elem? starts i ≡ some s → IsStart s

-- what an index knows from its list
abbrev pub known_after : Start → List Entry → Info
known_after s xs = info_after s.0 (map (λ e. e.event) xs)

-- the index knew this after a beginning of its list
abbrev pub WasKnown : List Start → History → ℕ → Info → Type 0
WasKnown starts lists i info = (s : Start) × (xs : List Entry) × (get_elem? starts i ≡ some s)
    × IsBeginning lists i xs × (known_after s xs ≡ info)

-- the lists may stand so: each event was made by a pass and is one of its index, and what each
-- index knows asks for no more fields than it has and fits the word
pub record IsHistory (o : Opening) (lists : History) : Type 0 where
  pub all : length lists ≡ length o.starts
  pub starts : AreStarts o.starts
  pub makers : (i n : ℕ) (e : Entry) → IsListed lists i n e → e.by < o.passes
  pub events : (i n : ℕ) (e : Entry) (s : Start) → IsListed lists i n e
      → get_elem? o.starts i ≡ some s → IsEventOf s.1 e.event
  pub infos : (i : ℕ) (s : Start) (xs : List Entry) → get_elem? o.starts i ≡ some s
      → get_elem? lists i ≡ some xs → IsInfoOf s.1 (known_after s xs)
