-- What was seen of a list on the way of a seek, and what a state has that fits a pass.
use Rattle.std.proofs.Common.{◌≡◌, ℕ, ◌<◌, ◌++◌, true, length, length-append, append_assoc, append-nil, [], ◌∷◌, Option, Some, sym, ap, subst, ◌∙◌, arith}
use Rattle.std.proofs.lemmas.Bool.{eqb-true}
use mathlib.Core.Option.{some, some-injective}
use lib.ListN.{get_elem?}
use Rattle.atomic_table.proofs.Lists.{set_here}
use Rattle.key_tuple.specs.KeyPlace.{KeyPlace, cut_of}
use Rattle.key_tuple.specs.Order.{FieldList}
use Rattle.key_tuple.specs.declared.mode.Mode.{Mode}
use Rattle.latch_law.specs.declared.knows.Terms.{Terms}
use Rattle.latch_law.specs.Fitting.{DidRead}
use Rattle.map_history.specs.Map.{map_after}
use Rattle.index_law.specs.Answers.{Saying, speaks_at}
use Rattle.index_law.specs.Rightness.{IsRight}
use Rattle.index_law.specs.Shape.{Shape}
use Rattle.index_law.specs.State.{Entries, changes}
use Rattle.forest_law.specs.Law.{IsLawful}
use Rattle.forest_law.specs.References.{IsReference}
use Rattle.forest_law.specs.State.{ForestState}
use Rattle.call_law.specs.Spoken.{View}
use Rattle.call_law.specs.Trace.{SeesMore}
use Rattle.buffer_pool.specs.Forests.{FitsTrees}
use Rattle.buffer_pool.proofs.AddedLemmas.{read_adds}
use Rattle.tree_neighbours.specs.Sides.{side_of}
use Rattle.index_seeks.specs.Seeks.{NothingUpTo, HasKnown, PassesNothing, SawNothing}
use Rattle.index_seeks.specs.SeekSteps.{CountsPast}

-- a state that fits has what is known
pub fits_known : (w : ForestState) (v : View) → FitsTrees w v → HasKnown w v
fits_known w v fits = record { shape = fits.shape; known = fits.known; seen = fits.seen }

-- and what was known before a look at a list
pub known_before : (v v' : View) (i : ℕ) (a : Saying) (point : ℕ)
    (did : DidRead IsLawful IsRight IsReference v i a point v') (w : ForestState) → HasKnown w v'
    → HasKnown w v
known_before v v' i a point did w has = let adds = read_adds v v' i did.list a did.extends did.view in
    record {
      shape = has.shape ∙ ap (λ (t : Terms Shape). t.shape) adds.numbers.terms;
      known = λ k h held. has.known k h (ap (λ (z : View). get_elem? z.held k) did.view ∙ held);
      seen = λ j ys at. (let more = adds.seen j ys at in
          let rest = has.seen j (ys ++ more.0) more.1 in
          (more.0 ++ rest.0, rest.1 ∙ ap some (append_assoc ys more.0 rest.0)));
    }

module _ (i n : ℕ) (mode : Mode) (tuple : FieldList) (place : KeyPlace) where
  -- what was seen is seen when more is
  pub saw_more : (v v' : View) → SeesMore v v' → SawNothing v i n mode tuple place
      → SawNothing v' i n mode tuple place
  saw_more v v' sees saw = let more = sees i (saw.list ++ saw.more) saw.seen in record {
    list = saw.list;
    more = saw.more ++ more.0;
    seen = more.1 ∙ ap some (append_assoc saw.list saw.more more.0);
    counted = saw.counted;
    none = saw.none;
  }

  -- a list with as many changes is the one that was seen
  same_list : (ys zs xs : Entries) → ys ++ zs ≡ xs → length ys ≡ length xs → ys ≡ xs
  same_list ys [] xs is long = sym (append-nil ys) ∙ is
  same_list ys (z ∷ zs) xs is long = let whole = ap length is in
      absurd (omega (arith, whole, long, length-append ys (z ∷ zs)))

  -- so nothing comes before the place by such a list
  pub saw_passes : (v : View) → SawNothing v i n mode tuple place
      → PassesNothing v i mode tuple (Some n) place
  saw_passes v saw w law has xs listed speaks =
      let more = has.seen i (saw.list ++ saw.more) saw.seen in
      let is : saw.list ++ (saw.more ++ more.0) ≡ xs =
      some-injective (saw.list ++ (saw.more ++ more.0)) xs
      (sym (more.1 ∙ ap some (append_assoc saw.list saw.more more.0)) ∙ listed) in
      let long : length saw.list ≡ length xs =
      saw.counted ∙ eqb-true n (length xs) speaks in
      subst (λ z. NothingUpTo (side_of mode) (cut_of mode tuple) place (map_after (changes z)))
      (same_list saw.list (saw.more ++ more.0) xs is long) saw.none

-- a look counts the changes of a list, and what comes before no place then does so by it
pub counts_past : (v v' : View) (i : ℕ) (mode : Mode) (tuple : FieldList) (bound : Option ℕ)
    (a : Saying) (point : ℕ) (did : DidRead IsLawful IsRight IsReference v i a point v')
    → i < length v.seen → speaks_at bound point ≡ true
    → CountsPast v v' i mode tuple bound (Some point)
counts_past v v' i mode tuple bound a point did room speaks place passes = record {
  list = did.list;
  more = [];
  seen = ap (λ (z : View). get_elem? z.seen i) did.view
      ∙ (set_here v.seen i did.list room ∙ ap some (sym (append-nil did.list)));
  counted = sym did.point;
  none = passes did.stands.whole did.stands.is_lawful
      (known_before v v' i a point did did.stands.whole
      (fits_known did.stands.whole v' did.stands.fits)) did.list did.stands.list
      (ap (speaks_at bound) (sym did.point) ∙ speaks);
}
