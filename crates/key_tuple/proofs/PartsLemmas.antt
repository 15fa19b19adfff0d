-- Parts of a list: how many, which, and after one more; how long those of a buffer are.
use Rattle.std.proofs.Common.{◌≡◌, ℕ, zero, suc, ◌+◌, ◌-◌, ◌<◌, ◌≤◌, List, [], ◌∷◌, ◌++◌, length, take, drop, get_or, set, refl, ap, ◌∙◌, arith, length-take, length-drop, map}
use Rattle.std.proofs.lemmas.List.Sums.{sum_by-cons}
use Rattle.std.proofs.lemmas.List.{take-append-le, drop-append-le, take_more_set}
use Rattle.std.proofs.Math.Seq.{drop-append_seam, take-length}
use Rattle.std.specs.List.{slice_range}
use Rattle.key_tuple.specs.Order.{byte_count}
use Rattle.key_tuple.specs.Parts.{parts, RiseTo}

pub length-parts : {A : Type 0} (xs : List A) (from : ℕ) (ends : List ℕ) → length (parts xs from ends) ≡ length ends
length-parts xs from [] = refl
length-parts xs from (end ∷ ends) = ap suc (length-parts xs end ends)

pub RiseTo-le : (from : ℕ) (ends : List ℕ) (to : ℕ) → RiseTo from ends to → from ≤ to
RiseTo-le from [] to h = omega (arith, h)
RiseTo-le from (end ∷ ends) to h = omega (arith, h.0, RiseTo-le end ends to h.1)

pub RiseTo-push : (from : ℕ) (ends : List ℕ) (to more : ℕ) → RiseTo from ends to → to ≤ more → RiseTo from (ends ++ more ∷ []) more
RiseTo-push from [] to more h le = (omega (arith, h), refl)
RiseTo-push from (end ∷ ends) to more h le = (h.0, RiseTo-push end ends to more h.1 le)

-- what stands before the end, cut out of a longer list
pub range_kept : {A : Type 0} (xs more : List A) (from to : ℕ) → from ≤ to → to ≤ length xs → slice_range (xs ++ more) from to ≡ slice_range xs from to
range_kept xs more from to rises fits =
    let start : from ≤ length xs = omega arith in
    let rest : to - from ≤ length (drop from xs) = omega (arith, length-drop from xs) in
    ap (λ ys. take (to - from) ys) (drop-append-le from xs more start) ∙ take-append-le (to - from) (drop from xs) more rest

pub range_added : {A : Type 0} (xs more : List A) (from to : ℕ) → from ≡ length xs → to ≡ length xs + length more → slice_range (xs ++ more) from to ≡ more
range_added xs more from to e f =
    let whole : to - from ≡ length more = omega arith in
    rw (whole, e, drop-append_seam xs more) (take-length more)

-- one part more at the end of the list
pub parts-push : {A : Type 0} (xs more : List A) (from : ℕ) (ends : List ℕ) (to : ℕ) → RiseTo from ends (length xs) → to ≡ length xs + length more → parts (xs ++ more) from (ends ++ to ∷ []) ≡ parts xs from ends ++ more ∷ []
parts-push xs more from [] to h e = ap (λ x. x ∷ []) (range_added xs more from to h e)
parts-push xs more from (end ∷ ends) to h e =
    let kept = range_kept xs more from end h.0 (RiseTo-le end ends (length xs) h.1) in
    let rest = parts-push xs more end ends to h.1 e in
    cc

-- the same of offsets that are kept in an array
pub rises_after : (bytes more ends : List ℕ) (count to : ℕ) → count < length ends → to ≡ length bytes + length more → RiseTo 0 (take count ends) (length bytes) → RiseTo 0 (take (count + 1) (set ends count to)) to
rises_after bytes more ends count to lt e rises = rw (take_more_set ends count to lt) (RiseTo-push 0 (take count ends) (length bytes) to rises (omega arith))

pub parts_after : (bytes more ends : List ℕ) (count to : ℕ) → count < length ends → to ≡ length bytes + length more → RiseTo 0 (take count ends) (length bytes) → parts (bytes ++ more) 0 (take (count + 1) (set ends count to)) ≡ parts bytes 0 (take count ends) ++ more ∷ []
parts_after bytes more ends count to lt e rises = rw (take_more_set ends count to lt) (parts-push bytes more 0 (take count ends) to rises e)

-- all fields together have the bytes from the first one's beginning to the last one's end
pub byte_count-parts : (bytes : List ℕ) (from : ℕ) (ends : List ℕ) (to : ℕ) → RiseTo from ends to → to ≤ length bytes → byte_count (parts bytes from ends) + from ≡ to
byte_count-parts bytes from [] to h fits = omega (arith, h)
byte_count-parts bytes from (end ∷ ends) to h fits =
    let more = byte_count-parts bytes end ends to h.1 fits in
    let within = RiseTo-le end ends to h.1 in
    let sum : byte_count (parts bytes from (end ∷ ends)) ≡ length (slice_range bytes from end) + byte_count (parts bytes end ends) = sum_by-cons length (slice_range bytes from end) (parts bytes end ends) in
    let len : length (slice_range bytes from end) ≡ end - from = length-take (end - from) (drop from bytes) ∙ omega (arith, length-drop from bytes, h.0) in
    omega (arith, h.0)

-- the part at a place reaches from the end before it to its own end
pub get_or-parts : {A : Type 0} (xs : List A) (from : ℕ) (ends : List ℕ) (i : ℕ) → i < length ends → get_or (parts xs from ends) i [] ≡ slice_range xs (get_or (from ∷ ends) i 0) (get_or ends i 0)
get_or-parts xs from [] i h = absurd (omega arith)
get_or-parts xs from (end ∷ ends) zero h = refl
get_or-parts xs from (end ∷ ends) (suc i) h = get_or-parts xs end ends i (omega arith)

pub record IsRange (from to most : ℕ) : Type 0 where
  pub rises : from ≤ to
  pub fits : to ≤ most

pub range_of_part : (from : ℕ) (ends : List ℕ) (to i : ℕ) → RiseTo from ends to → i < length ends → IsRange (get_or (from ∷ ends) i 0) (get_or ends i 0) to
range_of_part from [] to i h lt = absurd (omega arith)
range_of_part from (end ∷ ends) to zero h lt = record { rises = h.0; fits = RiseTo-le end ends to h.1 }
range_of_part from (end ∷ ends) to (suc i) h lt = range_of_part end ends to i h.1 (omega arith)

-- a buffer has a field for each offset in use, and the bytes up to the last one's end
pub length-view : (bytes ends : List ℕ) (count : ℕ) → count ≤ length ends → length (parts bytes 0 (take count ends)) ≡ count
length-view bytes ends count le = length-parts bytes 0 (take count ends) ∙ length-take count ends ∙ omega arith

pub byte_count-view : (bytes ends : List ℕ) (count : ℕ) → RiseTo 0 (take count ends) (length bytes) → byte_count (parts bytes 0 (take count ends)) ≡ length bytes
byte_count-view bytes ends count rises = omega (arith, byte_count-parts bytes 0 (take count ends) (length bytes) rises (omega arith))

-- the first fields and the next one have no more bytes than all
pub byte_count-take-le : {X : Type 0} (f : X → List ℕ) (xs : List X) (i : ℕ) (d : X) → i < length xs → byte_count (map f (take i xs)) + length (f (get_or xs i d)) ≤ byte_count (map f xs)
byte_count-take-le f [] i d below = absurd (omega arith)
byte_count-take-le f (x ∷ xs) zero d below = omega (arith, sum_by-cons length (f x) (map f xs))
byte_count-take-le f (x ∷ xs) (suc i) d below =
    let rest = byte_count-take-le f xs i d (omega arith) in
    let whole : byte_count (map f (x ∷ xs)) ≡ length (f x) + byte_count (map f xs) = sum_by-cons length (f x) (map f xs) in
    let part : byte_count (map f (take (suc i) (x ∷ xs))) ≡ length (f x) + byte_count (map f (take i xs)) = sum_by-cons length (f x) (map f (take i xs)) in
    omega arith
