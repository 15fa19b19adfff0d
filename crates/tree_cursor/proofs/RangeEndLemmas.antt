-- The first of some rows of the map, and where their range ends: with all rows, just behind the last
-- that was taken, or at TO.
use Rattle.std.proofs.Common.{◌≡◌, ◌⊎◌, inl, inr, ℕ, Bool, true, false, cond, Option, Some, None, [], ◌∷◌, ◌++◌, length, sym, ap, subst, ◌∙◌, refl}
use Rattle.std.proofs.lemmas.Bool.{both_ways}
use Rattle.std.proofs.lemmas.List.{append_assoc}
use Rattle.std.specs.List.{AllByRecursion}
use Rattle.list_facts.proofs.Each.{each_all, each_filter, each_left, each_right, each_weaker}
use Rattle.key_tuple.specs.Order.{FieldList}
use Rattle.key_tuple.specs.KeyPlace.{KeyPlace, At, End, before, within, not_below}
use Rattle.key_tuple.proofs.PlaceLemmas.{before-itself, before-trans, before_not_after, before_upto}
use Rattle.key_tuple.proofs.PositionLemmas.{within_parts}
use Rattle.key_tuple.proofs.TupleLemmas.{not_below_cut}
use Rattle.map_history.specs.Map.{Pair, Map, Ascends, slice, map_after}
use Rattle.map_history.proofs.HistoryLemmas.{map_after-ascends}
use Rattle.map_history.proofs.WriteLemmas.{ascends-filter}
use Rattle.index_law.specs.State.{changes}
use Rattle.call_law.specs.Spoken.{View}
use Rattle.scan_law.specs.AfterKey.{after_key}
use Rattle.scan_law.specs.SaidScans.{EndsScan}
use Rattle.scan_law.proofs.EdgeLemmas.{at_from}
use Rattle.scan_law.proofs.PlaceLemmas.{after_later, after_upto, End_after, cut_slice, upto_after}
use Rattle.scan_law.proofs.RowLemmas.{cut_upto, false_where, true_where}
use Rattle.scan_law.proofs.SaidLemmas.{from_on}
use Rattle.tree_cursor.specs.MapRows.{AreMapRows}
use Rattle.tree_cursor.specs.Telling.{end_at}

-- the first rows are the map's from `low` up to the place, which isn't before `low`
pub record ReachTo (v : View) (i : ℕ) (low place : KeyPlace) (rows : Map) : Type 0 where
  pub map_rows : AreMapRows v i low place rows
  pub in_order : before place low ≡ false

-- a leaf's high end is the end of all keys or a key of the index's
abbrev pub EndsAt : ℕ → KeyPlace → Type 0
EndsAt n high = (high ≡ End) ⊎ ((h : FieldList) × (high ≡ At h) × (length h ≡ n))

-- each row of a slice is before its end
before_end : (low high : KeyPlace) (m : Map)
    → AllByRecursion (λ (e : Pair). before (At e.key) high ≡ true) (slice low high m)
before_end low high m =
    each_weaker _ _ (λ (e : Pair) b. (within_parts low high (At e.key) b.0).1) (slice low high m)
    (each_filter (λ (e : Pair). Unit {0}) (λ (e : Pair). within low high (At e.key)) m
    (each_all _ (λ e. tt) m))

module _ (v : View) (i : ℕ) (low high : KeyPlace) (rows : Map)
    (are : AreMapRows v i low high rows) (upto : before high low ≡ false)
    (later : AllByRecursion (λ (e : Pair). before (At e.key) low ≡ false) rows) where
  -- all rows reach to where they end
  pub all_reach : (taken : Map) → rows ≡ taken → ReachTo v i low high taken
  all_reach taken all = record {
    map_rows = λ w law fits xs there. sym all ∙ are w law fits xs there;
    in_order = upto;
  }

  -- those up to one of them reach to just behind it
  pub some_reach : (fore : Map) (e : Pair) (rest : Map) (n : ℕ) → rows ≡ (fore ++ e ∷ []) ++ rest
      → AllByRecursion (λ (x : Pair). length x.key ≡ n) rows → EndsAt n high
      → ReachTo v i low (after_key e.key) (fore ++ e ∷ [])
  some_reach fore e rest n all long ends =
      let parted : rows ≡ fore ++ e ∷ rest = all ∙ append_assoc fore (e ∷ []) rest in
      let longs = subst (AllByRecursion (λ (x : Pair). length x.key ≡ n)) parted long in
      let behind = each_right (λ (x : Pair). length x.key ≡ n) fore (e ∷ rest) longs in
      let not_before = (each_right (λ (x : Pair). before (At x.key) low ≡ false) fore (e ∷ rest)
      (subst (AllByRecursion (λ (x : Pair). before (At x.key) low ≡ false)) parted later)).0 in
      record {
        map_rows = λ w law fits xs there.
            (let m = map_after (changes xs) in
            let whole : (fore ++ e ∷ []) ++ rest ≡ slice low high m =
            sym all ∙ are w law fits xs there in
            let cut : fore ++ e ∷ rest ≡ slice low high m =
            sym parted ∙ are w law fits xs there in
            let early = (each_right (λ (x : Pair). before (At x.key) high ≡ true) fore (e ∷ rest)
            (subst (AllByRecursion (λ (x : Pair). before (At x.key) high ≡ true)) (sym cut)
            (before_end low high m))).0 in
            upto_after low high m fore rest e n
            (subst Ascends (sym cut) (ascends-filter
            (λ (x : Pair). within low high (At x.key)) m (map_after-ascends (changes xs))))
            whole (each_left (λ (x : Pair). length x.key ≡ n) fore (e ∷ rest) longs) behind.1 behind.0
            (not_above behind.0 high ends early));
        in_order = after_later e.key low not_before;
      }
    where
      not_above : length e.key ≡ n → (top : KeyPlace) → EndsAt n top
          → before (At e.key) top ≡ true → before top (after_key e.key) ≡ false
      not_above same top (inl end) early =
          ap (λ z. before z (after_key e.key)) end ∙ End_after e.key
      not_above same top (inr (k, at, as_long)) early =
          ap (λ z. before z (after_key e.key)) at
          ∙ after_upto e.key k (same ∙ sym as_long)
          (ap (before (At e.key)) (sym at) ∙ early)

  -- and those below TO reach to there, or to `low` where TO is before it
  pub below_reach : (t : FieldList) (taken rest : Map) → rows ≡ taken ++ rest
      → (rest ≡ [] → before high (At t) ≡ false)
      → AllByRecursion (λ (e : Pair). not_below t (At e.key) ≡ false) taken
      → AllByRecursion (λ (e : Pair). not_below t (At e.key) ≡ true) rest
      → ReachTo v i low (end_at (Some t) low) taken
  below_reach t taken rest all far below past = go (before low (At t)) refl
    where
      early : AllByRecursion (λ (e : Pair). before (At e.key) (At t) ≡ true) taken
      early = each_weaker (λ (e : Pair). not_below t (At e.key) ≡ false)
          (λ (e : Pair). before (At e.key) (At t) ≡ true)
          (λ e is. true_where (before (At e.key) (At t))
          (λ f. both_ways (not_below t (At e.key)) is (from_on t e.key f))) taken below

      late : AllByRecursion (λ (e : Pair). before (At e.key) (At t) ≡ false) rest
      late = each_weaker (λ (e : Pair). not_below t (At e.key) ≡ true)
          (λ (e : Pair). before (At e.key) (At t) ≡ false) (λ e is. at_from t e.key is) rest past

      after_all : AllByRecursion (λ (e : Pair). before (At e.key) low ≡ false) (taken ++ rest)
      after_all = subst (AllByRecursion (λ (e : Pair). before (At e.key) low ≡ false)) all later

      -- TO isn't behind the leaf
      far_by : (xs : Map) → (xs ≡ [] → before high (At t) ≡ false)
          → AllByRecursion (λ (e : Pair). before (At e.key) (At t) ≡ false) xs
          → AllByRecursion (λ (e : Pair). before (At e.key) high ≡ true) xs
          → before high (At t) ≡ false
      far_by [] none a c = none refl
      far_by (e ∷ xs) none a c = false_where (before high (At t))
          (λ f. both_ways (before (At e.key) (At t)) a.0
          (before-trans (At e.key) high (At t) c.0 f))

      -- where TO is before `low`, no row is below it
      none : before low (At t) ≡ false → (xs : Map)
          → AllByRecursion (λ (e : Pair). before (At e.key) (At t) ≡ true) xs
          → AllByRecursion (λ (e : Pair). before (At e.key) low ≡ false) xs
          → AllByRecursion (λ (e : Pair). before (At e.key) low ≡ true) xs
      none isnt [] a c = tt
      none isnt (e ∷ xs) a c =
          (before_upto (At e.key) (At t) low a.0 isnt, none isnt xs a.1 c.1)

      go : (b : Bool) → before low (At t) ≡ b → ReachTo v i low (cond b (At t) low) taken
      go true is = record {
        map_rows = λ w law fits xs there.
            (let cut : taken ++ rest ≡ slice low high (map_after (changes xs)) =
            sym all ∙ are w law fits xs there in
            cut_slice low (At t) high (map_after (changes xs)) taken rest
            (far_by rest far late
            (each_right (λ (e : Pair). before (At e.key) high ≡ true) taken rest
            (subst (AllByRecursion (λ (e : Pair). before (At e.key) high ≡ true)) (sym cut)
            (before_end low high (map_after (changes xs))))))
            cut early late);
        in_order = before_not_after low (At t) is;
      }
      go false isnt = record {
        map_rows = λ w law fits xs there.
            cut_slice low low high (map_after (changes xs)) taken rest upto
            (sym all ∙ are w law fits xs there)
            (none isnt taken early
            (each_left (λ (e : Pair). before (At e.key) low ≡ false) taken rest after_all))
            (each_right (λ (e : Pair). before (At e.key) low ≡ false) taken rest after_all);
        in_order = before-itself low;
      }

-- a range that reaches TO, or the end of all keys, ends a scan
pub end_ends : (to : Option FieldList) (low : KeyPlace) (left : ℕ)
    → EndsScan to left (end_at to low)
end_ends None low left = inr (inl refl)
end_ends (Some t) low left = inr (inr (go (before low (At t)) refl))
  where
    there : not_below t (At t) ≡ true
    there = from_on t t (before-itself (At t))

    go : (b : Bool) → before low (At t) ≡ b → not_below t (cond b (At t) low) ≡ true
    go true is = there
    go false isnt = cut_upto (not_below t) (not_below_cut t) (At t) low isnt there
