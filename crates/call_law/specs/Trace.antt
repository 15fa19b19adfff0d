-- What a call adds to what its pass knows.
use Rattle.std.specs.Prelude.{ℕ, ◌≡◌, ◌≢◌, ◌<◌, Bool, true, false, List, [], ◌∷◌, ◌++◌, filter}
use Rattle.std.specs.List.{AllByRecursion}
use mathlib.Core.Option.{some}
use lib.ListN.{get_elem?}
use Rattle.latch_law.specs.declared.knows.Reference.{Reference}
use Rattle.latch_law.specs.declared.knows.Refusal.{Refusal}
use Rattle.latch_law.specs.declared.knows.Statement as what
use Rattle.forest_law.specs.declared.objects.Object.{Object}
use Rattle.forest_law.specs.declared.objects.Object.TheVariants as object
use Rattle.forest_law.specs.Numbers.{tree_id}
use Rattle.index_law.specs.Answers.{MadeChange, Where, Saying, Replies, Piece, Full, Look}
use Rattle.index_law.specs.Shape.{Shape}
use Rattle.index_law.specs.State.{Entries}
use Rattle.call_law.specs.Spoken.{View, OwnAnswer}

-- the same numbers of the same space
pub record SameNumbers (v v' : View) : Type 0 where
  pub low : v'.low ≡ v.low
  pub end : v'.end ≡ v.end
  pub terms : v'.terms ≡ v.terms

-- what was seen of each list is still seen, and perhaps more
abbrev pub SeesMore : View → View → Type 0
SeesMore v v' =
    (j : ℕ) (ys : Entries) → get_elem? v.seen j ≡ some ys
    → (zs : Entries) × (get_elem? v'.seen j ≡ some (ys ++ zs))

-- what was added: own answers and changes, refused tries, and references
pub record Added : Type 0 where
  pub said : List OwnAnswer
  pub refused : List (Refusal Object)
  pub references : List (Reference Object)

-- it is the same pass, which knows what it knew and this besides; it may hold other objects, and
-- have seen more of the lists
pub record Adds (v v' : View) (added : Added) : Type 0 where
  pub numbers : SameNumbers v v'
  pub said : v'.said ≡ v.said ++ added.said
  pub refused : v'.refused ≡ v.refused ++ added.refused
  pub references : v'.references ≡ v.references ++ added.references
  pub seen : SeesMore v v'

-- nothing was taken, tried in vain or given back
pub record IsOnlySaid (added : Added) : Type 0 where
  pub refused : added.refused ≡ []
  pub references : added.references ≡ []

-- the number is that of no tree
abbrev pub IsNoTree : Shape → ℕ → Type 0
IsNoTree shape k = (i : ℕ) → i < shape.indexes → k ≢ tree_id i

-- no tree was tried in vain or given back
pub record SparesTrees (shape : Shape) (added : Added) : Type 0 where
  pub refused : AllByRecursion (λ (f : Refusal Object). IsNoTree shape f.object) added.refused
  pub references : AllByRecursion (λ (q : Reference Object). IsNoTree shape q.object)
      added.references

-- the object is a frame
abbrev pub is_frame : Object → Bool
is_frame (object.Frame f) = true
is_frame (object.Part p) = false
is_frame (object.Pool p) = false
is_frame (object.Tree t) = false

-- those references that are of frames
abbrev pub frame_references : List (Reference Object) → List (Reference Object)
frame_references qs = filter (λ (q : Reference Object). is_frame q.released) qs

-- each of these was given at the list of the index i, by the number n
abbrev pub AreGivenAt : ℕ → ℕ → List OwnAnswer → Type 0
AreGivenAt i n qs = AllByRecursion (λ (q : OwnAnswer). (q.index ≡ i) × (q.by ≡ n)) qs

-- the places of a full; nothing else has any
abbrev pub full_places : what.Statement MadeChange Saying → List (List Where)
full_places (what.TheVariants.Change deed) = []
full_places (what.TheVariants.Answer (Replies ask word bound columns)) = []
full_places (what.TheVariants.Answer (Piece ask low high rows bound columns)) = []
full_places (what.TheVariants.Answer (Full places)) = places ∷ []
full_places (what.TheVariants.Answer Look) = []

-- the places of the fulls among these
abbrev pub fulls : List OwnAnswer → List (List Where)
fulls [] = []
fulls (q ∷ qs) = full_places q.what ++ fulls qs
