-- Lists that are sorted by number.
use Rattle.std.proofs.Common.{◌≡◌, ℕ, zero, suc, ◌+◌, ◌<◌, ◌≤◌, Some, List, [], ◌∷◌, length, map, set, drop, refl, ap, sym, ◌∙◌, subst, arith, Vec}
use Rattle.std.proofs.lemmas.List.{length-map, get_or-map}
use Rattle.std.proofs.lemmas.List.Sorted.{IsPermutation-map}
use Rattle.std.specs.List.{AllZip, slice_get}
use Rattle.std.specs.List.Sorted.{IsPermutation, IsNonDecreasingBy}
use Rattle.std.specs.declared.alloc.Global.{Global}
use Rattle.list_facts.proofs.Places.{get_inside, get_there, same_some}
use Rattle.list_facts.proofs.Elements.{all_zip_at, all_zip_length}
use Rattle.change_log.specs.declared.change.LaneChange.{LaneChange}
use Rattle.change_log.specs.Log.{ChangeNote, note_of, Log}
use Rattle.change_log.specs.Merge.{note_lists, IsSorted, AreSpread, AreMerges}

-- changes that are sorted are seen so
pub seen_sorted : (old new : List LaneChange) → IsPermutation old new → IsNonDecreasingBy (λ (c : LaneChange). c.number) new → IsSorted (map note_of old) (map note_of new)
seen_sorted old new same up = record {
  same = IsPermutation-map note_of old new same;
  ascending = λ i j d le below.
      let low : j < length new = omega (arith, below, length-map new note_of) in
      let c = get_there new j low in
      let first = get_or-map note_of new i c.0 d (omega arith) in
      let second = get_or-map note_of new j c.0 d low in
      let rises = up i j c.0 le low in
      omega (arith, rises, ap (λ (n : ChangeNote). n.number) first, ap (λ (n : ChangeNote). n.number) second);
}

-- so many of the first lists were sorted, and the others are as they were
abbrev pub SortsFirst : ℕ → List (Vec LaneChange Global) → List (Vec LaneChange Global) → Type 0
SortsFirst zero old new = new ≡ old
SortsFirst (suc n) [] [] = Unit {0}
SortsFirst (suc n) [] (y ∷ new) = ⊥
SortsFirst (suc n) (x ∷ old) [] = ⊥
SortsFirst (suc n) (x ∷ old) (y ∷ new) = IsSorted (map note_of x.items) (map note_of y.items) × SortsFirst n old new

-- as many lists
pub sorts_as_many : (n : ℕ) (old new : List (Vec LaneChange Global)) → SortsFirst n old new → length new ≡ length old
sorts_as_many zero old new same = ap length same
sorts_as_many (suc n) [] [] sorts = refl
sorts_as_many (suc n) [] (y ∷ new) sorts = absurd sorts
sorts_as_many (suc n) (x ∷ old) [] sorts = absurd sorts
sorts_as_many (suc n) (x ∷ old) (y ∷ new) sorts = let h = sorts_as_many n old new sorts.1 in omega (arith, h)

-- one list more
sorts_more : (n : ℕ) (old new : List (Vec LaneChange Global)) (list after : Vec LaneChange Global) → slice_get new n ≡ Some list → IsSorted (map note_of list.items) (map note_of after.items) → SortsFirst n old new → SortsFirst (suc n) old (set new n after)
sorts_more zero old [] list after at one same = absurd cc
sorts_more zero [] (y ∷ new) list after at one same = absurd cc
sorts_more zero (x ∷ old) (y ∷ new) list after at one same =
    let first : x ≡ list = same_some x list (ap (λ (vs : List (Vec LaneChange Global)). slice_get vs zero) (sym same) ∙ at) in
    (subst (λ (v : Vec LaneChange Global). IsSorted (map note_of v.items) (map note_of after.items)) (sym first) one, ap (drop 1) same)
sorts_more (suc n) [] [] list after at one sorts = absurd cc
sorts_more (suc n) [] (y ∷ new) list after at one sorts = absurd sorts
sorts_more (suc n) (x ∷ old) [] list after at one sorts = absurd sorts
sorts_more (suc n) (x ∷ old) (y ∷ new) list after at one sorts = (sorts.0, sorts_more n old new list after at one sorts.1)

-- the step of the loop over them
pub sorts_next : (n : ℕ) (old new : List (Vec LaneChange Global)) (list after : Vec LaneChange Global) → slice_get new n ≡ Some list → IsSorted (map note_of list.items) (map note_of after.items) → SortsFirst n old new → SortsFirst (n + 1) old (set new n after)
sorts_next n old new list after at one sorts =
    let next : suc n ≡ n + 1 = omega arith in
    subst (λ m. SortsFirst m old (set new n after)) next (sorts_more n old new list after at one sorts)

-- all lists
pub sorts_all : (n : ℕ) (old new : List (Vec LaneChange Global)) → length old ≤ n → SortsFirst n old new → AllZip IsSorted (note_lists old) (note_lists new)
sorts_all zero [] new all same = subst (λ (vs : List (Vec LaneChange Global)). AllZip IsSorted [] (note_lists vs)) (sym same) tt
sorts_all zero (x ∷ old) new all same = absurd (omega (arith, all))
sorts_all (suc n) [] [] all sorts = tt
sorts_all (suc n) [] (y ∷ new) all sorts = absurd sorts
sorts_all (suc n) (x ∷ old) [] all sorts = absurd sorts
sorts_all (suc n) (x ∷ old) (y ∷ new) all sorts = (sorts.0, sorts_all n old new (omega (arith, all)) sorts.1)

-- the changes of each index, sorted, are their merge
pub are_merges : (n : ℕ) (logs : List Log) (lists sorted : List (List ChangeNote)) → AreSpread n logs lists → AllZip IsSorted lists sorted → AreMerges n logs sorted
are_merges n logs lists sorted spread all = record {
  count = all_zip_length IsSorted lists sorted all ∙ spread.count;
  each = λ i merged at.
      let below = get_inside sorted i merged at in
      let list = get_there lists i (omega (arith, below, all_zip_length IsSorted lists sorted all)) in
      subst (λ z. IsSorted z merged) (spread.each i list.0 list.1) (all_zip_at IsSorted lists sorted i list.0 merged all list.1 at);
}
