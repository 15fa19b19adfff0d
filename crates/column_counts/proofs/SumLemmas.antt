-- Sums of counts are counts of columns in a row.
use Rattle.std.proofs.Common.{◌≡◌, ◌≢◌, ◌⊎◌, ℕ, zero, suc, ◌+◌, ◌<◌, ◌≤◌, Bool, cond, eqb, Some, List, [], ◌∷◌, ◌++◌, length, get_or, set, drop, map, replicate, refl, ap, ap₂, sym, ◌∙◌, arith, inl, inr, ⊎_elim, length-set, eq-eqb, ne_eqb, append_assoc, append-nil}
use Rattle.std.proofs.lemmas.List.Concat.{flat_map-cons}
use Rattle.std.proofs.lemmas.List.Sums.{sum_by-append}
use Rattle.std.specs.List.{AllByRecursion, AllZip, slice_get, zip, flat_map}
use Rattle.std.specs.Prelude.{Vec}
use Rattle.std.specs.declared.alloc.Global.{Global}
use Rattle.list_facts.proofs.Elements.{map_get_from, zip_from}
use Rattle.list_facts.proofs.Places.{same_some}
use Rattle.map_history.specs.declared.counts.Counts.{Counts}
use Rattle.map_history.specs.Report.{Columns}
use Rattle.map_history.specs.Statistics.{has_word, times, counts_of}
use Rattle.map_history.specs.Words.{counted_words}
use Rattle.column_counts.specs.Counted.{AreCounts}
use Rattle.column_counts.specs.Sums.{added, sum_of, sums_of, all_sums, count_lists}

-- a word stands in columns in a row as often as in both parts
times_append : (word : List ℕ) (xs ys : List Columns) → times word (xs ++ ys) ≡ times word xs + times word ys
times_append word xs ys = sum_by-append (λ (c : Columns). cond (has_word word c) 1 0) xs ys

words_append : (xs ys : List Columns) (words : List (List ℕ)) → map (λ (word : List ℕ). times word (xs ++ ys)) words ≡ added (map (λ (word : List ℕ). times word xs) words) (map (λ (word : List ℕ). times word ys) words)
words_append xs ys [] = refl
words_append xs ys (word ∷ words) = ap₂ (λ (n : ℕ) (ns : List ℕ). n ∷ ns) (times_append word xs ys) (words_append xs ys words)

-- so the counts are the sums
pub counts_append : (xs ys : List Columns) → counts_of (xs ++ ys) ≡ sum_of (counts_of xs) (counts_of ys)
counts_append xs ys = λ i. record { numbers = words_append xs ys counted_words i }

pub sums_long : (xs ys : List Counts) → length ys ≡ length xs → length (sums_of xs ys) ≡ length xs
sums_long [] ys long = refl
sums_long (x ∷ xs) [] long = absurd (omega (arith, long))
sums_long (x ∷ xs) (y ∷ ys) long = ap suc (sums_long xs ys (omega (arith, long)))

-- the lists from a place on are added by adding the one there and then those behind it
pub sums_step : (lists : List (Vec Counts Global)) (i : ℕ) (d : Vec Counts Global) (sums : List Counts) → i < length lists
    → all_sums sums (count_lists (drop i lists)) ≡ all_sums (sums_of sums (get_or lists i d).items) (count_lists (drop (suc i) lists))
sums_step [] i d sums below = absurd (omega (arith, below))
sums_step (list ∷ lists) zero d sums below = refl
sums_step (list ∷ lists) (suc i) d sums below = sums_step lists i d sums (omega (arith, below))

-- behind the last list there is none
pub none_left : (lists : List (Vec Counts Global)) (i : ℕ) → length lists ≤ i → drop i lists ≡ []
none_left [] zero past = refl
none_left [] (suc i) past = refl
none_left (list ∷ lists) zero past = absurd (omega (arith, past))
none_left (list ∷ lists) (suc i) past = none_left lists i (omega (arith, past))

-- lists that are all as long are so at each place
pub long_at : (n : ℕ) (lists : List (Vec Counts Global)) (i : ℕ) (d : Vec Counts Global) → i < length lists
    → AllByRecursion (λ (list : Vec Counts Global). length list.items ≡ n) lists → length (get_or lists i d).items ≡ n
long_at n [] i d below all = absurd (omega (arith, below))
long_at n (list ∷ lists) zero d below all = all.0
long_at n (list ∷ lists) (suc i) d below all = long_at n lists i d (omega (arith, below)) all.1

-- sums index by index count the columns of both
pub sums_counted : (indexes : ℕ) (f g : ℕ → List Columns) (xs ys : List Counts) → AreCounts indexes f xs → AreCounts indexes g ys → AreCounts indexes (λ i. f i ++ g i) (sums_of xs ys)
sums_counted indexes f g xs ys a b = record { long = sums_long xs ys (b.long ∙ sym a.long) ∙ a.long; each = each }
  where
    each : (i : ℕ) (counts : Counts) → slice_get (sums_of xs ys) i ≡ Some counts → counts ≡ counts_of (f i ++ g i)
    each i counts at =
        let p = map_get_from (λ (c : Counts × Counts). sum_of c.0 c.1) (zip xs ys) i counts at in
        let both = zip_from xs ys i p.0 p.1 in
        sym p.2 ∙ ap₂ (λ (x y : Counts). sum_of x y) (a.each i p.0.0 both.0) (b.each i p.0.1 both.1) ∙ sym (counts_append (f i) (g i))

-- counts of the same columns
pub counts_as : (indexes : ℕ) (f g : ℕ → List Columns) (all : List Counts) → ((i : ℕ) → f i ≡ g i) → AreCounts indexes f all → AreCounts indexes g all
counts_as indexes f g all same a = record { long = a.long; each = λ i counts at. a.each i counts at ∙ ap counts_of (same i) }

-- after a write at a place stands there what was written, and elsewhere what stood there
written : (all : List Counts) (k i : ℕ) (v counts : Counts) → slice_get (set all k v) i ≡ Some counts → ((k ≡ i) × (v ≡ counts)) ⊎ ((k ≢ i) × (slice_get all i ≡ Some counts))
written [] k i v counts at = absurd cc
written (x ∷ all) zero zero v counts at = inl (refl, same_some v counts at)
written (x ∷ all) zero (suc i) v counts at = inr ((λ e. absurd (omega arith)), at)
written (x ∷ all) (suc k) zero v counts at = inr ((λ e. absurd (omega arith)), at)
written (x ∷ all) (suc k) (suc i) v counts at = ⊎_elim (λ h. inl (ap suc h.0, h.1)) (λ h. let apart = h.0 in inr ((λ e. apart (omega arith)), h.1)) (written all k i v counts at)

-- columns of an index, counted with those that it had
pub one_more : (indexes k : ℕ) (f : ℕ → List Columns) (all : List Counts) (n : Counts) (c : Columns) → AreCounts indexes f all → slice_get all k ≡ Some n
    → AreCounts indexes (λ i. f i ++ cond (eqb k i) (c ∷ []) []) (set all k (sum_of n (counts_of (c ∷ []))))
one_more indexes k f all n c a at = record { long = length-set all k (sum_of n (counts_of (c ∷ []))) ∙ a.long; each = each }
  where
    each : (i : ℕ) (counts : Counts) → slice_get (set all k (sum_of n (counts_of (c ∷ [])))) i ≡ Some counts → counts ≡ counts_of (f i ++ cond (eqb k i) (c ∷ []) [])
    each i counts there = ⊎_elim
        (λ (h : (k ≡ i) × (sum_of n (counts_of (c ∷ [])) ≡ counts)).
        let is = a.each k n at ∙ ap (λ (j : ℕ). counts_of (f j)) h.0 in
        sym h.1 ∙ (ap (λ (m : Counts). sum_of m (counts_of (c ∷ []))) is ∙ (sym (counts_append (f i) (c ∷ [])) ∙ ap (λ (b : Bool). counts_of (f i ++ cond b (c ∷ []) [])) (sym (eq-eqb k i h.0)))))
        (λ (h : (k ≢ i) × (slice_get all i ≡ Some counts)).
        a.each i counts h.1 ∙ (ap counts_of (sym (append-nil (f i))) ∙ ap (λ (b : Bool). counts_of (f i ++ cond b (c ∷ []) [])) (sym (ne_eqb k i h.0))))
        (written all k i (sum_of n (counts_of (c ∷ []))) counts there)

-- counts of nothing
pub none_counted : (indexes : ℕ) → AreCounts indexes (λ i. []) (replicate indexes (counts_of []))
none_counted indexes = record { long = long indexes; each = λ i counts at. each indexes i counts at }
  where
    long : (n : ℕ) → length (replicate n (counts_of [])) ≡ n
    long zero = refl
    long (suc n) = ap suc (long n)

    each : (n i : ℕ) (counts : Counts) → slice_get (replicate n (counts_of [])) i ≡ Some counts → counts ≡ counts_of []
    each zero i counts at = absurd cc
    each (suc n) zero counts at = cc
    each (suc n) (suc i) counts at = each n i counts at

module _ {X : Type 0} (indexes : ℕ) (columns : ℕ → X → List Columns) where
  all_from : (before : ℕ → List Columns) (sums : List Counts) (lanes : List X) (lists : List (List Counts)) → AreCounts indexes before sums → AllZip (λ lane list. AreCounts indexes (λ i. columns i lane) list) lanes lists
      → AreCounts indexes (λ i. before i ++ flat_map (columns i) lanes) (all_sums sums lists)
  all_from before sums [] [] a all = counts_as indexes before (λ i. before i ++ []) sums (λ i. sym (append-nil (before i))) a
  all_from before sums [] (l ∷ lists) a all = absurd all
  all_from before sums (x ∷ lanes) [] a all = absurd all
  all_from before sums (x ∷ lanes) (l ∷ lists) a all =
      counts_as indexes (λ i. (before i ++ columns i x) ++ flat_map (columns i) lanes) (λ i. before i ++ flat_map (columns i) (x ∷ lanes)) (all_sums (sums_of sums l) lists)
      (λ i. append_assoc (before i) (columns i x) (flat_map (columns i) lanes) ∙ ap (λ t. before i ++ t) (sym (flat_map-cons (columns i) x lanes)))
      (all_from (λ i. before i ++ columns i x) (sums_of sums l) lanes lists (sums_counted indexes before (λ i. columns i x) sums l a all.0) all.1)

  -- where each list counts the columns of a lane, the sums count those of all lanes
  pub all_counted : (lanes : List X) (lists : List (List Counts)) → AllZip (λ lane list. AreCounts indexes (λ i. columns i lane) list) lanes lists
      → AreCounts indexes (λ i. flat_map (columns i) lanes) (all_sums (replicate indexes (counts_of [])) lists)
  all_counted lanes lists all = all_from (λ i. []) (replicate indexes (counts_of [])) lanes lists (none_counted indexes) all
