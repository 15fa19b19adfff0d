-- Maps after changes, lists of changes, and replies at their points.
use Rattle.std.proofs.Common.{◌≡◌, ◌≢◌, ℕ, zero, suc, ◌<◌, ◌≤◌, Bool, true, false, cond, Some, List, [], ◌∷◌, ◌++◌, length, take, refl, sym, ap, ◌∙◌, arith, is_some, is_none, length-append, inl, inr}
use Rattle.std.proofs.lemmas.List.{take-append-le}
use Rattle.std.proofs.lemmas.Bool.{cases_lt}
use Rattle.std.proofs.lemmas.Option.{slice_get_within}
use Rattle.std.proofs.Math.Seq.{take-append_seam}
use Rattle.std.specs.List.{slice_get}
use Rattle.key_tuple.specs.Order.{FieldList}
use Rattle.key_tuple.specs.KeyPlace.{KeyPlace, At, within}
use Rattle.map_history.specs.Map.{Map, MapChange, Put, Set, Del, Ascends, slice, value_at, write, key_of, value_of, is_allowed, after_change, after_changes, map_after, AreLawful}
use Rattle.map_history.specs.Operation.{Ask}
use Rattle.map_history.specs.Reply.{reply_of}
use Rattle.map_history.proofs.ApplyLemmas.{after-allowed}
use Rattle.map_history.proofs.WriteLemmas.{write-ascends, value_at-write, value_at-write_elsewhere, value_at-slice, slice-write_in, slice-write_out}

pub after_change-ascends : (m : Map) (c : MapChange) → Ascends m → Ascends (after_change m c)
after_change-ascends m c asc = go (is_allowed m c)
  where
    go : (b : Bool) → Ascends (cond b (write (key_of c) (value_of c) m) m)
    go true = write-ascends (key_of c) (value_of c) m asc
    go false = asc

pub after_changes-ascends : (m : Map) (cs : List MapChange) → Ascends m → Ascends (after_changes m cs)
after_changes-ascends m [] asc = asc
after_changes-ascends m (c ∷ cs) asc = after_changes-ascends (after_change m c) cs (after_change-ascends m c asc)

pub map_after-ascends : (cs : List MapChange) → Ascends (map_after cs)
map_after-ascends cs = after_changes-ascends [] cs tt

pub value_at-after_change : (m : Map) (c : MapChange) → is_allowed m c ≡ true → value_at (key_of c) (after_change m c) ≡ value_of c
value_at-after_change m c h = ap (value_at (key_of c)) (after-allowed m c h) ∙ value_at-write (key_of c) (value_of c) m

pub value_at-after_change_other : (m : Map) (c : MapChange) (k : FieldList) → k ≢ key_of c → value_at k (after_change m c) ≡ value_at k m
value_at-after_change_other m c k ne = go (is_allowed m c)
  where
    go : (b : Bool) → value_at k (cond b (write (key_of c) (value_of c) m) m) ≡ value_at k m
    go true = value_at-write_elsewhere (key_of c) k (value_of c) m (λ e. ne (sym e))
    go false = refl

-- whether a change is allowed is read off the value at its key
pub allowed-by_value : (m n : Map) (c : MapChange) → value_at (key_of c) m ≡ value_at (key_of c) n → is_allowed m c ≡ is_allowed n c
allowed-by_value m n (Put k v) e = ap is_none e
allowed-by_value m n (Set k v) e = ap is_some e
allowed-by_value m n (Del k) e = ap is_some e

pub slice-after_change_in : (low high : KeyPlace) (m : Map) (c : MapChange) → within low high (At (key_of c)) ≡ true → slice low high (after_change m c) ≡ after_change (slice low high m) c
slice-after_change_in low high m c h = go (is_allowed m c) ∙ ap (λ b. cond b (write (key_of c) (value_of c) (slice low high m)) (slice low high m)) (allowed-by_value m (slice low high m) c (sym (value_at-slice low high (key_of c) m h)))
  where
    go : (b : Bool) → slice low high (cond b (write (key_of c) (value_of c) m) m) ≡ cond b (write (key_of c) (value_of c) (slice low high m)) (slice low high m)
    go true = slice-write_in low high (key_of c) (value_of c) m h
    go false = refl

pub slice-after_change_out : (low high : KeyPlace) (m : Map) (c : MapChange) → within low high (At (key_of c)) ≡ false → slice low high (after_change m c) ≡ slice low high m
slice-after_change_out low high m c h = go (is_allowed m c)
  where
    go : (b : Bool) → slice low high (cond b (write (key_of c) (value_of c) m) m) ≡ slice low high m
    go true = slice-write_out low high (key_of c) (value_of c) m h
    go false = refl

-- a list with one more change, and its places
after_changes-push : (m : Map) (cs : List MapChange) (c : MapChange) → after_changes m (cs ++ c ∷ []) ≡ after_change (after_changes m cs) c
after_changes-push m [] c = refl
after_changes-push m (d ∷ cs) c = after_changes-push (after_change m d) cs c

pub map_after-push : (cs : List MapChange) (c : MapChange) → map_after (cs ++ c ∷ []) ≡ after_change (map_after cs) c
map_after-push cs c = after_changes-push [] cs c

slice_get-front : {A : Type 0} (xs ys : List A) (n : ℕ) → n < length xs → slice_get (xs ++ ys) n ≡ slice_get xs n
slice_get-front [] ys n h = absurd (omega arith)
slice_get-front (x ∷ xs) ys zero h = refl
slice_get-front (x ∷ xs) ys (suc n) h = slice_get-front xs ys n (omega arith)

slice_get-end : {A : Type 0} (xs : List A) (x : A) → slice_get (xs ++ x ∷ []) (length xs) ≡ Some x
slice_get-end [] x = refl
slice_get-end (y ∷ xs) x = slice_get-end xs x

pub lawful-none : AreLawful []
lawful-none n c e = absurd cc

pub lawful-push : (cs : List MapChange) (c : MapChange) → AreLawful cs → is_allowed (map_after cs) c ≡ true → AreLawful (cs ++ c ∷ [])
lawful-push cs c lawful allowed n d e = elim (cases_lt n (length cs)) [ inl lt ↦ earlier lt | inr ge ↦ latest (omega (arith, slice_get_within (cs ++ c ∷ []) n d e, length-append cs (c ∷ []))) ]
  where
    earlier : n < length cs → is_allowed (map_after (take n (cs ++ c ∷ []))) d ≡ true
    earlier lt =
        let le : n ≤ length cs = omega arith in
        rw (take-append-le n cs (c ∷ []) le) (lawful n d (sym (slice_get-front cs (c ∷ []) n lt) ∙ e))

    latest : n ≡ length cs → is_allowed (map_after (take n (cs ++ c ∷ []))) d ≡ true
    latest is =
        let same : d ≡ c = cc (ap (slice_get (cs ++ c ∷ [])) is, slice_get-end cs c) in
        rw (is, take-append_seam cs (c ∷ []), same) allowed

pub lawful-last : (cs : List MapChange) (c : MapChange) → AreLawful (cs ++ c ∷ []) → is_allowed (map_after cs) c ≡ true
lawful-last cs c lawful = ap (λ ds. is_allowed (map_after ds) c) (sym (take-append_seam cs (c ∷ []))) ∙ lawful (length cs) c (slice_get-end cs c)

pub lawful-front : (cs more : List MapChange) → AreLawful (cs ++ more) → AreLawful cs
lawful-front cs more lawful n c e =
    let lt = slice_get_within cs n c e in
    let le : n ≤ length cs = omega arith in
    ap (λ ds. is_allowed (map_after ds) c) (sym (take-append-le n cs more le)) ∙ lawful n c (slice_get-front cs more n lt ∙ e)

-- the map and the reply at a point
pub map_after-stays : (cs more : List MapChange) (point : ℕ) → point ≤ length cs → map_after (take point (cs ++ more)) ≡ map_after (take point cs)
map_after-stays cs more point le = ap map_after (take-append-le point cs more le)

pub reply_of-stays : (cs more : List MapChange) (point : ℕ) (ask : Ask) → point ≤ length cs → reply_of (map_after (take point (cs ++ more))) ask ≡ reply_of (map_after (take point cs)) ask
reply_of-stays cs more point ask le = ap (λ m. reply_of m ask) (map_after-stays cs more point le)
