-- What a clause says of a learner and a pass.
use Rattle.std.specs.Prelude.{◌≡◌, ℕ, List}
use Rattle.std.specs.List.{zip}
use mathlib.Core.Option.{some}
use lib.ListN.{get_elem?}
use Rattle.atomic_table.specs.declared.shared.Seat.{Seat}
use Rattle.learning.specs.declared.event.Event.{Event}
use Rattle.learning.specs.declared.info.Info.{Info}
use Rattle.learning.specs.Bounds.{IsEventOf}
use Rattle.search_info.specs.declared.knows.Knows.{Knows}
use Rattle.search_info.specs.declared.knows.Opening.{Opening}
use Rattle.search_info.specs.declared.learner.Learner.{Learner}
use Rattle.search_info.specs.declared.pass.LearnPass.{LearnPass}
use Rattle.search_info.specs.History.{Start}
use Rattle.search_info.specs.Rule.{opening_of}
pub use Rattle.search_info.specs.Rule.{first_knows}

-- what the pass knows
abbrev pub knowledge : LearnPass → Knows
knowledge p = p.seat.me.0

-- the pass has all numbers
abbrev pub HasAllNumbers : Knows → Type 0
HasAllNumbers v = (v.low ≡ 0) × (v.end ≡ v.opening.passes)

-- what `open` fixed
abbrev pub opening : Learner → Opening
opening l = opening_of l.settings

-- what is fixed by opening a learner with these infos, numbers of fields and number of passes
abbrev pub opened_with : List Info → List ℕ → ℕ → Opening
opened_with first unique passes = record { starts = zip first unique; passes = passes }

-- it is a seat at this learner's table
abbrev pub IsSeatOf : Learner → Seat ℕ Knows → Type 0
IsSeatOf l s = (s.table_id ≡ l.table.shared.table_id) × (s.me.0.opening ≡ opening l)

-- it is the same seat, later
abbrev pub IsSameSeat : Seat ℕ Knows → Seat ℕ Knows → Type 0
IsSameSeat s s' = (s'.table_id ≡ s.table_id) × (s'.id ≡ s.id)

-- it is a pass of this learner
abbrev pub IsLearnPassOf : Learner → LearnPass → Type 0
IsLearnPassOf l p = IsSeatOf l p.seat

-- it is the same pass, later
abbrev pub IsSameLearnPass : LearnPass → LearnPass → Type 0
IsSameLearnPass p q = IsSameSeat p.seat q.seat

-- the index exists, and has so many fields
abbrev pub HasUnique : Learner → ℕ → ℕ → Type 0
HasUnique l i unique = (s : Start) × (get_elem? (opening l).starts i ≡ some s) × (s.1 ≡ unique)

-- the index exists, and the event is one of it
abbrev pub IsEventAt : Learner → ℕ → Event → Type 0
IsEventAt l i event = (s : Start) × (get_elem? (opening l).starts i ≡ some s) × IsEventOf s.1 event
