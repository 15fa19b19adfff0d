-- Rows that lie in one buffer: how many, which parts, after one more, and the first of them.
use Rattle.std.proofs.Common.{◌≡◌, ℕ, zero, suc, ◌+◌, ◌-◌, ◌<◌, ◌≤◌, List, [], ◌∷◌, ◌++◌, length, take, drop, get_or, sym, ap, ◌∙◌, arith, length-drop, length-take, map, length-append, subst}
use Rattle.std.proofs.lemmas.List.{map-append, length-map, take-map, get_or-drop, get_or-take}
use Rattle.std.proofs.Math.ListN.{get_or-map}
use Rattle.std.proofs.lemmas.Grind.{get_or_after_one}
use Rattle.std.specs.List.{slice_range, AllByRecursion}
use Rattle.list_facts.proofs.Each.{each_append}
use Rattle.key_tuple.specs.Order.{FieldList}
use Rattle.key_tuple.specs.Parts.{parts}
use Rattle.key_tuple.proofs.PartsLemmas.{IsRange, range_of_part, length-parts, get_or-parts, parts-push}
use Rattle.map_history.specs.Map.{Pair, Map}
use Rattle.map_history.specs.Rows.{row_of_parts, rows_of_parts, row_at, IsReadable, AreRows}
use Rattle.map_history.proofs.CutLemmas.{parts-take, climb-rise, climbs, ClimbTo-push, ClimbTo-take, rises_to}

pub length-rows : (lists : FieldList) (ends : List ℕ) → length (rows_of_parts lists ends) ≡ length ends
length-rows lists ends = length-map (parts lists 0 ends) row_of_parts ∙ length-parts lists 0 ends

-- what holds of each holds of one
pub each_at : {A : Type 0} (P : A → Type 0) (xs : List A) (i : ℕ) (d : A) → i < length xs → AllByRecursion P xs → P (get_or xs i d)
each_at P [] i d h a = absurd (omega arith)
each_at P (x ∷ xs) zero d h a = a.0
each_at P (x ∷ xs) (suc i) d h a = each_at P xs i d (omega arith) a.1

each_take : {A : Type 0} (P : A → Type 0) (n : ℕ) (xs : List A) → AllByRecursion P xs → AllByRecursion P (take n xs)
each_take P zero xs a = tt
each_take P (suc n) [] a = tt
each_take P (suc n) (x ∷ xs) a = (a.0, each_take P n xs a.1)

-- the row at a place, whose parts begin at `start` and end before `end`
pub record IsRowIn (m : Map) (lists : FieldList) (ends : List ℕ) (i start end : ℕ) : Type 0 where
  pub there : i < length ends
  pub climbs : start < end
  pub fits : end ≤ length lists
  pub fields : length (row_at m i).key ≡ end - start - 1
  pub field : (k : ℕ) → k < end - start - 1 → get_or (row_at m i).key k [] ≡ get_or lists (start + 1 + k) []
  pub value : (row_at m i).value ≡ get_or lists start []
  pub readable : IsReadable (row_at m i)

-- the parts in a range, but for the first
length-rest : (lists : FieldList) (start end : ℕ) → end ≤ length lists → length (drop 1 (slice_range lists start end)) ≡ end - start - 1
length-rest lists start end fits = length-drop 1 (slice_range lists start end) ∙ omega (arith, length-take (end - start) (drop start lists), length-drop start lists)

in_range : (lists : FieldList) (start end k : ℕ) → start + k < end → get_or (slice_range lists start end) k [] ≡ get_or lists (start + k) []
in_range lists start end k h = get_or-take (end - start) (drop start lists) k [] (omega arith) ∙ get_or-drop start lists k []

module _ (lists : FieldList) (ends : List ℕ) (i : ℕ) (are : AreRows lists ends) (there : i < length ends) where
  range : IsRange (get_or (0 ∷ ends) i 0) (get_or ends i 0) (length lists)
  range = range_of_part 0 ends (length lists) i (climb-rise 0 ends (length lists) are.climb) there

  up : get_or (0 ∷ ends) i 0 < get_or ends i 0
  up = climbs 0 ends (length lists) i are.climb there

  is : row_at (rows_of_parts lists ends) i ≡ row_of_parts (slice_range lists (get_or (0 ∷ ends) i 0) (get_or ends i 0))
  is = get_or-map row_of_parts (parts lists 0 ends) i [] ∙ ap row_of_parts (get_or-parts lists 0 ends i there)

  one : (k : ℕ) → k < get_or ends i 0 - get_or (0 ∷ ends) i 0 - 1 → get_or (drop 1 (slice_range lists (get_or (0 ∷ ends) i 0) (get_or ends i 0))) k [] ≡ get_or lists (get_or (0 ∷ ends) i 0 + 1 + k) []
  one k h =
      get_or_after_one (slice_range lists (get_or (0 ∷ ends) i 0) (get_or ends i 0)) k [] ∙ in_range lists (get_or (0 ∷ ends) i 0) (get_or ends i 0) (1 + k) (omega (arith, up))
      ∙ ap (λ n. get_or lists n []) (omega arith)

  first : get_or (slice_range lists (get_or (0 ∷ ends) i 0) (get_or ends i 0)) 0 [] ≡ get_or lists (get_or (0 ∷ ends) i 0) []
  first = in_range lists (get_or (0 ∷ ends) i 0) (get_or ends i 0) 0 (omega (arith, up)) ∙ ap (λ n. get_or lists n []) (omega arith)

  row_in : IsRowIn (rows_of_parts lists ends) lists ends i (get_or (0 ∷ ends) i 0) (get_or ends i 0)
  row_in = record {
    there = there;
    climbs = up;
    fits = range.fits;
    fields = ap (λ (r : Pair). length r.key) is ∙ length-rest lists (get_or (0 ∷ ends) i 0) (get_or ends i 0) range.fits;
    field = λ k h. ap (λ (r : Pair). get_or r.key k []) is ∙ one k h;
    value = ap (λ (r : Pair). r.value) is ∙ first;
    readable = each_at IsReadable (rows_of_parts lists ends) i (record { key = []; value = [] }) (omega (arith, length-rows lists ends)) are.readable;
  }

-- the row that a view shows at a place
pub row_found : (lists : FieldList) (ends : List ℕ) (m : Map) (i : ℕ) → AreRows lists ends → rows_of_parts lists ends ≡ m → i < length m → IsRowIn m lists ends i (get_or (0 ∷ ends) i 0) (get_or ends i 0)
row_found lists ends m i are view there =
    subst (λ (n : Map). IsRowIn n lists ends i (get_or (0 ∷ ends) i 0) (get_or ends i 0)) view (row_in lists ends i are (omega (arith, length-rows lists ends, ap (λ (n : Map). length n) view)))

-- one row more at the end
pub rows-push : (lists : FieldList) (ends : List ℕ) (key : FieldList) (value : List ℕ) → AreRows lists ends → rows_of_parts (lists ++ value ∷ key) (ends ++ length (lists ++ value ∷ key) ∷ []) ≡ rows_of_parts lists ends ++ record { key = key; value = value } ∷ []
rows-push lists ends key value are =
    ap (map row_of_parts) (parts-push lists (value ∷ key) 0 ends (length (lists ++ value ∷ key)) (climb-rise 0 ends (length lists) are.climb) (length-append lists (value ∷ key))) ∙ map-append row_of_parts (parts lists 0 ends) ((value ∷ key) ∷ [])

pub AreRows-push : (lists : FieldList) (ends : List ℕ) (key : FieldList) (value : List ℕ) → AreRows lists ends → IsReadable (record { key = key; value = value }) → AreRows (lists ++ value ∷ key) (ends ++ length (lists ++ value ∷ key) ∷ [])
AreRows-push lists ends key value are readable = record {
  climb = ClimbTo-push 0 ends (length lists) (length (lists ++ value ∷ key)) are.climb (omega (arith, length-append lists (value ∷ key)));
  readable = rw (rows-push lists ends key value are) (each_append IsReadable (rows_of_parts lists ends) (record { key = key; value = value } ∷ []) are.readable (readable, tt));
}

-- the first rows
pub rows-take : (lists : FieldList) (ends : List ℕ) (n : ℕ) → AreRows lists ends → n ≤ length ends → rows_of_parts (take (get_or (0 ∷ ends) n 0) lists) (take n ends) ≡ take n (rows_of_parts lists ends)
rows-take lists ends n are le = ap (map row_of_parts) (parts-take lists 0 ends (length lists) n (climb-rise 0 ends (length lists) are.climb) le) ∙ sym (take-map row_of_parts n (parts lists 0 ends))

pub AreRows-take : (lists : FieldList) (ends : List ℕ) (n : ℕ) → AreRows lists ends → n ≤ length ends → AreRows (take (get_or (0 ∷ ends) n 0) lists) (take n ends)
AreRows-take lists ends n are le = record {
  climb = rw whole (ClimbTo-take 0 ends (length lists) n are.climb le);
  readable = rw (rows-take lists ends n are le) (each_take IsReadable n (rows_of_parts lists ends) are.readable);
}
  where
    whole : length (take (get_or (0 ∷ ends) n 0) lists) ≡ get_or (0 ∷ ends) n 0
    whole = length-take (get_or (0 ∷ ends) n 0) lists ∙ omega (arith, rises_to 0 ends (length lists) n (climb-rise 0 ends (length lists) are.climb) le)
