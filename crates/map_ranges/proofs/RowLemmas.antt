-- The rows that two cuts find.
use Rattle.std.proofs.Common.{◌≡◌, ℕ, Bool, true, false, not, cond, ◌&&◌, ◌-◌, ◌≤◌, Option, Some, None, List, [], ◌∷◌, ◌++◌, length, replicate, map, refl, sym, ap, subst, ◌∙◌, arith, is_lt}
use denote.Ref.{Bor}
use Rattle.std.proofs.lemmas.List.{map-append}
use Rattle.std.specs.Prelude.{option_map, MatchOption, IfSome}
use Rattle.std.specs.List.{filter, AllByRecursion}
use Rattle.list_facts.proofs.Each.{each_weaker}
use Rattle.key_tuple.specs.declared.key.Key.{Key}
use Rattle.key_tuple.specs.declared.TheConstants.{MAX_FIELDS, MAX_KEY_BYTES}
use Rattle.key_tuple.specs.declared.mode.Mode.{Mode}
use Rattle.key_tuple.specs.declared.mode.Mode.TheVariants.{Ge, G, Le, L}
use Rattle.key_tuple.specs.Order.{FieldList, byte_count, key_cmp}
use Rattle.key_tuple.specs.Limits.{IsWithinLimits}
use Rattle.key_tuple.specs.KeyPlace.{KeyPlace, At, before, above, cut_of, IsCut}
use Rattle.key_tuple.proofs.PlaceLemmas.{before-itself, before_not_after}
use Rattle.key_tuple.proofs.TupleLemmas.{not_below_cut, above_cut}
use Rattle.map_history.specs.Map.{Pair, Map, Ascends}
use Rattle.map_history.specs.Pairs.{pair_of, pair_by}
use Rattle.map_history.specs.Ranges.{from_key, row_below}
use Rattle.map_history.specs.Reply.{first_after, last_before}
use Rattle.map_history.proofs.AnswerLemmas.{last_before-out}
use Rattle.map_history.proofs.SearchLemmas.{first-found, each_member}
use Rattle.map_ranges.specs.Bounds.{padded}
use Rattle.map_ranges.proofs.TupleCutLemmas.{above_is_after, after_is_above}

-- cuts that part the keys alike find the same first row
pub same_first : (p q : KeyPlace → Bool) → ((key : FieldList) → p (At key) ≡ q (At key)) → (m : Map)
    → first_after p m ≡ first_after q m
same_first p q alike [] = refl
same_first p q alike (x ∷ m) = λ j. cond (alike x.key j) (Some x) (same_first p q alike m j)

-- so do cuts of which one is past the other, where the row that is found is past both
pub later_first : (p q : KeyPlace → Bool) → ((key : FieldList) → p (At key) ≡ true → q (At key) ≡ true)
    → (m : Map) → ((x : Pair) → first_after q m ≡ Some x → q (At x.key) ≡ true → p (At x.key) ≡ true)
    → first_after p m ≡ first_after q m
later_first p q past [] found = refl
later_first p q past (x ∷ m) found =
    go (q (At x.key)) refl (p (At x.key)) refl found (later_first p q past m)
  where
    go : (b : Bool) → q (At x.key) ≡ b → (a : Bool) → p (At x.key) ≡ a
        → ((y : Pair) → cond b (Some x) (first_after q m) ≡ Some y → q (At y.key) ≡ true → p (At y.key) ≡ true)
        → (((y : Pair) → first_after q m ≡ Some y → q (At y.key) ≡ true → p (At y.key) ≡ true)
        → first_after p m ≡ first_after q m)
        → cond a (Some x) (first_after p m) ≡ cond b (Some x) (first_after q m)
    go true e true d found more = refl
    go true e false d found more = absurd (cc (found x refl e))
    go false e true d found more = absurd (cc (past x.key d))
    go false e false d found more = more found

-- the first row after all keys that begin with a tuple of as many bytes as a key may have is the
-- first above it, if it is within the limits
pub behind_is_above : (tuple : FieldList) (m : Map) (row : Option (Bor Key × Bor (List ℕ)))
    → MAX_KEY_BYTES ≤ byte_count tuple
    → option_map pair_by row ≡ first_after (before (At (padded tuple))) m
    → IfSome row (λ x. IsWithinLimits x.0.now.tuple)
    → option_map pair_by row ≡ first_after (above tuple) m
behind_is_above tuple m row full is within =
    is ∙ sym (later_first (above tuple) (before (At (padded tuple)))
    (above_is_after tuple (replicate (MAX_FIELDS - length tuple) [])) m (found row is within))
  where
    found : (o : Option (Bor Key × Bor (List ℕ)))
        → option_map pair_by o ≡ first_after (before (At (padded tuple))) m
        → IfSome o (λ x. IsWithinLimits x.0.now.tuple)
        → (x : Pair) → first_after (before (At (padded tuple))) m ≡ Some x
        → before (At (padded tuple)) (At x.key) ≡ true → above tuple (At x.key) ≡ true
    found None is within x first past = absurd (cc (is ∙ first))
    found (Some y) is within x first past =
        let same : pair_by y ≡ x = cc (is ∙ first) in
        let limits : IsWithinLimits x.key = subst (λ (z : Pair). IsWithinLimits z.key) same within in
        after_is_above tuple (MAX_FIELDS - length tuple) x.key (omega (arith, limits.few))
        (omega (arith, limits.short, full)) past

-- no row is before a cut that all pass
none_short : (p : KeyPlace → Bool) (m : Map) → AllByRecursion (λ (y : Pair). p (At y.key) ≡ true) m
    → last_before p m ≡ None
none_short p [] all = refl
none_short p (x ∷ m) all = rw (all.0, none_short p m all.1) refl

-- the last row before a cut is the last below the first row past it
below_first : (p : KeyPlace → Bool) (m : Map) (x : Pair) → Ascends m → IsCut p
    → first_after p m ≡ Some x → last_before p m ≡ row_below x.key m
below_first p [] x rises cut is = absurd cc
below_first p (y ∷ m) x rises cut is =
    go (p (At y.key)) refl is (below_first p m x rises.1 cut)
  where
    at_first : p (At y.key) ≡ true → y ≡ x → last_before p (y ∷ m) ≡ row_below x.key (y ∷ m)
    at_first past same =
        let later : AllByRecursion (λ (z : Pair). p (At z.key) ≡ true) m =
        each_weaker _ _ (λ (z : Pair) b. cut.rises (At y.key) (At z.key) b past) m rises.0 in
        let behind : AllByRecursion (λ (z : Pair). from_key y.key (At z.key) ≡ true) m =
        each_weaker _ _ (λ (z : Pair) b. ap not (before_not_after (At y.key) (At z.key) b)) m rises.0 in
        none_short p (y ∷ m) (past, later)
        ∙ sym (none_short (from_key y.key) (y ∷ m) (ap not (before-itself (At y.key)), behind))
        ∙ ap (λ (z : Pair). row_below z.key (y ∷ m)) same

    go : (b : Bool) → p (At y.key) ≡ b → cond b (Some y) (first_after p m) ≡ Some x
        → (first_after p m ≡ Some x → last_before p m ≡ row_below x.key m)
        → last_before p (y ∷ m) ≡ row_below x.key (y ∷ m)
    go true e is rest = at_first e cc
    go false e is rest =
        let there = (first-found p m x rises.1 is).member in
        let low : from_key x.key (At y.key) ≡ false = ap not (each_member _ m x rises.0 there) in
        rw (e, low, rest is) refl

-- where each mode cuts the keys
mode_cut : (mode : Mode) (tuple : FieldList) → IsCut (cut_of mode tuple)
mode_cut Ge tuple = not_below_cut tuple
mode_cut G tuple = above_cut tuple
mode_cut Le tuple = above_cut tuple
mode_cut L tuple = not_below_cut tuple

pub below_first_past : (mode : Mode) (tuple : FieldList) (m : Map) (x : Pair) → Ascends m
    → first_after (cut_of mode tuple) m ≡ Some x
    → last_before (cut_of mode tuple) m ≡ row_below x.key m
below_first_past mode tuple m x rises is =
    below_first (cut_of mode tuple) m x rises (mode_cut mode tuple) is

-- where no row is past a cut, the last row is before it
last_fails : (p : KeyPlace → Bool) (m : Map) (x : Pair) → first_after p (m ++ x ∷ []) ≡ None
    → p (At x.key) ≡ false
last_fails p [] x none = go (p (At x.key)) none
  where
    go : (b : Bool) → cond b (Some x) None ≡ None → b ≡ false
    go true e = absurd cc
    go false e = refl
last_fails p (y ∷ m) x none = go (p (At y.key)) none (last_fails p m x)
  where
    go : (b : Bool) → cond b (Some y) (first_after p (m ++ x ∷ [])) ≡ None
        → (first_after p (m ++ x ∷ []) ≡ None → p (At x.key) ≡ false) → p (At x.key) ≡ false
    go true e rest = absurd cc
    go false e rest = rest e

pub last_of_all : (p : KeyPlace → Bool) (es part left : List (Key × List ℕ))
    (next : Option (Bor Key × Bor (List ℕ))) → part ≡ es → first_after p (map pair_of es) ≡ None
    → MatchOption next ((part ≡ []) × (left ≡ [])) (λ x. part ≡ left ++ (x.0.now, x.1.now) ∷ [])
    → option_map pair_by next ≡ last_before p (map pair_of es)
last_of_all p es part left None whole none taken =
    ap (λ (r : List (Key × List ℕ)). last_before p (map pair_of r)) (sym taken.0 ∙ whole)
last_of_all p es part left (Some x) whole none taken =
    let rows : map pair_of es ≡ map pair_of left ++ pair_by x ∷ [] =
    ap (map pair_of) (sym whole ∙ taken) ∙ map-append pair_of left ((x.0.now, x.1.now) ∷ []) in
    let fails = last_fails p (map pair_of left) (pair_by x) (ap (first_after p) (sym rows) ∙ none) in
    sym (ap (last_before p) rows ∙ last_before-out p (map pair_of left) (pair_by x) fails)

-- the first row of a part of the map is the first that passes
abbrev first_of : List (Key × List ℕ) → Option Pair
first_of [] = None
first_of (e ∷ es) = Some (pair_of e)

first_filter : (p : KeyPlace → Bool) (test : Key × List ℕ → Bool)
    → ((e : Key × List ℕ) → test e ≡ p (At e.0.tuple)) → (es : List (Key × List ℕ))
    → first_after p (map pair_of es) ≡ first_of (filter test es)
first_filter p test alike [] = refl
first_filter p test alike (e ∷ es) =
    go (test e) (alike e) (first_filter p test alike es)
  where
    go : (b : Bool) → b ≡ p (At e.0.tuple) → first_after p (map pair_of es) ≡ first_of (filter test es)
        → cond (p (At e.0.tuple)) (Some (pair_of e)) (first_after p (map pair_of es))
        ≡ first_of (cond b (e ∷ filter test es) (filter test es))
    go true is more = rw (sym is) refl
    go false is more = rw (sym is) more

after_same : (key : FieldList) (e : Key × List ℕ)
    → (is_lt (key_cmp key e.0.tuple) && not false) ≡ before (At key) (At e.0.tuple)
unfolding before
after_same key e = go (is_lt (key_cmp key e.0.tuple))
  where
    go : (b : Bool) → (b && not false) ≡ b
    go true = refl
    go false = refl

pub first_in_part : (key : FieldList) (es part left : List (Key × List ℕ))
    (next : Option (Bor Key × Bor (List ℕ)))
    → part ≡ filter (λ (e : Key × List ℕ). is_lt (key_cmp key e.0.tuple) && not false) es
    → MatchOption next ((part ≡ []) × (left ≡ [])) (λ x. part ≡ (x.0.now, x.1.now) ∷ left)
    → option_map pair_by next ≡ first_after (before (At key)) (map pair_of es)
first_in_part key es part left None is taken =
    ap first_of (sym taken.0 ∙ is) ∙ sym (first_filter (before (At key)) _ (after_same key) es)
first_in_part key es part left (Some x) is taken =
    ap first_of (sym taken ∙ is) ∙ sym (first_filter (before (At key)) _ (after_same key) es)
