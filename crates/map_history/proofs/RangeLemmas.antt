-- The first row of a range of a map, and the last.
use Rattle.std.proofs.Common.{◌≡◌, ℕ, Bool, true, false, not, cond, ◌&&◌, Option, Some, None, List, [], ◌∷◌, map, refl, sym, ap, ◌∙◌, is_lt, is_le, is_gt, ◌++◌, Ordering, Less, Equal, Greater}
use denote.Ref.{Bor}
use Rattle.std.specs.Prelude.{option_map, MatchOption}
use Rattle.std.specs.Ordering.{ordering_reverse}
use Rattle.std.specs.List.{filter}
use Rattle.list_facts.proofs.ByteLists.{byte_lists_total}
use Rattle.key_tuple.specs.declared.key.Key.{Key}
use Rattle.key_tuple.specs.Order.{FieldList, key_cmp}
use Rattle.key_tuple.specs.KeyPlace.{At, before}
use Rattle.map_history.specs.Map.{Pair, Map}
use Rattle.map_history.specs.Pairs.{pair_of, pair_by}
use Rattle.map_history.specs.Reply.{first_after, or_else}
use Rattle.map_history.specs.Ranges.{from_key, row_from, row_below}

reversed : (o : Ordering) → (is_le o && not false) ≡ not (is_lt (ordering_reverse o))
reversed Less = refl
reversed Equal = refl
reversed Greater = refl

test_same : (key : FieldList) (e : Key × List ℕ) → (is_le (key_cmp key e.0.tuple) && not false) ≡ from_key key (At e.0.tuple)
unfolding before
test_same key e = reversed (key_cmp key e.0.tuple) ∙ ap (λ (o : Ordering). not (is_lt o)) (sym (byte_lists_total.antisymm e.0.tuple key))

abbrev first_of : List (Key × List ℕ) → Option Pair
first_of [] = None
first_of (e ∷ es) = Some (pair_of e)

abbrev from_on : FieldList → List (Key × List ℕ) → List (Key × List ℕ)
from_on key es = filter (λ (e : Key × List ℕ). is_le (key_cmp key e.0.tuple) && not false) es

first_filter : (key : FieldList) (es : List (Key × List ℕ)) → row_from key (map pair_of es) ≡ first_of (from_on key es)
first_filter key [] = refl
first_filter key (e ∷ es) = go (is_le (key_cmp key e.0.tuple) && not false) (test_same key e) (first_filter key es)
  where
    go : (b : Bool) → b ≡ from_key key (At e.0.tuple) → row_from key (map pair_of es) ≡ first_of (from_on key es)
        → cond (from_key key (At e.0.tuple)) (Some (pair_of e)) (row_from key (map pair_of es)) ≡ first_of (cond b (e ∷ from_on key es) (from_on key es))
    go true is more = rw (sym is) refl
    go false is more = rw (sym is) more

pub first_in_range : (key : FieldList) (es run left : List (Key × List ℕ)) (next : Option (Bor Key × Bor (List ℕ))) → run ≡ from_on key es
    → MatchOption next ((run ≡ []) × (left ≡ [])) (λ x. run ≡ (x.0.now, x.1.now) ∷ left) → option_map pair_by next ≡ row_from key (map pair_of es)
first_in_range key es run left None is h = ap first_of (sym h.0 ∙ is) ∙ sym (first_filter key es)
first_in_range key es run left (Some x) is h = ap first_of (sym h ∙ is) ∙ sym (first_filter key es)

-- the last one below
abbrev last_of : List (Key × List ℕ) → Option Pair
last_of [] = None
last_of (e ∷ es) = or_else (last_of es) (Some (pair_of e))

below_same : (key : FieldList) (e : Key × List ℕ) → (true && not (is_le (key_cmp key e.0.tuple))) ≡ not (from_key key (At e.0.tuple))
unfolding before
below_same key e = below_reversed (key_cmp key e.0.tuple) ∙ ap (λ (o : Ordering). not (not (is_lt o))) (sym (byte_lists_total.antisymm e.0.tuple key))
  where
    below_reversed : (o : Ordering) → (true && not (is_le o)) ≡ not (not (is_lt (ordering_reverse o)))
    below_reversed Less = refl
    below_reversed Equal = refl
    below_reversed Greater = refl

abbrev below_on : FieldList → List (Key × List ℕ) → List (Key × List ℕ)
below_on key es = filter (λ (e : Key × List ℕ). true && not (is_le (key_cmp key e.0.tuple))) es

last_filter : (key : FieldList) (es : List (Key × List ℕ)) → row_below key (map pair_of es) ≡ last_of (below_on key es)
last_filter key [] = refl
last_filter key (e ∷ es) = go (true && not (is_le (key_cmp key e.0.tuple))) (from_key key (At e.0.tuple)) (below_same key e) (last_filter key es)
  where
    go : (b t : Bool) → b ≡ not t → row_below key (map pair_of es) ≡ last_of (below_on key es)
        → or_else (row_below key (map pair_of es)) (cond t None (Some (pair_of e))) ≡ last_of (cond b (e ∷ below_on key es) (below_on key es))
    go true true is more = absurd cc
    go true false is more = ap (λ (o : Option Pair). or_else o (Some (pair_of e))) more
    go false true is more = none (row_below key (map pair_of es)) ∙ more
      where
        none : (o : Option Pair) → or_else o None ≡ o
        none None = refl
        none (Some x) = refl
    go false false is more = absurd cc

last_push : (es : List (Key × List ℕ)) (e : Key × List ℕ) → last_of (es ++ e ∷ []) ≡ Some (pair_of e)
last_push [] e = refl
last_push (d ∷ es) e = ap (λ (o : Option Pair). or_else o (Some (pair_of d))) (last_push es e)

pub last_in_range : (key : FieldList) (es run left : List (Key × List ℕ)) (next : Option (Bor Key × Bor (List ℕ))) → run ≡ below_on key es
    → MatchOption next ((run ≡ []) × (left ≡ [])) (λ x. run ≡ left ++ (x.0.now, x.1.now) ∷ []) → option_map pair_by next ≡ row_below key (map pair_of es)
last_in_range key es run left None is h = ap last_of (sym h.0 ∙ is) ∙ sym (last_filter key es)
last_in_range key es run left (Some x) is h = sym (last_push left (x.0.now, x.1.now)) ∙ (ap last_of (sym h ∙ is) ∙ sym (last_filter key es))
