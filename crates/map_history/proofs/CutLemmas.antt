-- The first parts of a list, and offsets that climb.
use Rattle.std.proofs.Common.{◌≡◌, ℕ, zero, suc, ◌+◌, ◌-◌, ◌<◌, ◌≤◌, List, [], ◌∷◌, ◌++◌, length, take, drop, get_or, refl, ap, ◌∙◌, arith}
use Rattle.std.proofs.lemmas.List.{take-take, drop-take}
use Rattle.std.specs.List.{slice_range}
use Rattle.key_tuple.specs.Parts.{parts, RiseTo}
use Rattle.key_tuple.proofs.PartsLemmas.{RiseTo-le}
use Rattle.map_history.specs.Rows.{ClimbTo}

-- where the first parts end
pub RiseTo-take : (from : ℕ) (ends : List ℕ) (to n : ℕ) → RiseTo from ends to → n ≤ length ends → RiseTo from (take n ends) (get_or (from ∷ ends) n 0)
RiseTo-take from ends to zero h le = refl
RiseTo-take from [] to (suc n) h le = absurd (omega arith)
RiseTo-take from (end ∷ ends) to (suc n) h le = (h.0, RiseTo-take end ends to n h.1 (omega arith))

pub rises_to : (from : ℕ) (ends : List ℕ) (to n : ℕ) → RiseTo from ends to → n ≤ length ends → get_or (from ∷ ends) n 0 ≤ to
rises_to from ends to zero h le = RiseTo-le from ends to h
rises_to from [] to (suc n) h le = absurd (omega arith)
rises_to from (end ∷ ends) to (suc n) h le = rises_to end ends to n h.1 (omega arith)

range_within : {A : Type 0} (xs : List A) (from to most : ℕ) → from ≤ to → to ≤ most → slice_range (take most xs) from to ≡ slice_range xs from to
range_within xs from to most rises fits =
    let whole : most ≡ from + (most - from) = omega arith in
    let rest = ap (λ n. drop from (take n xs)) whole ∙ drop-take from (most - from) xs in
    ap (λ ys. take (to - from) ys) rest ∙ take-take (to - from) (most - from) (drop from xs) (omega arith)

-- the first parts, of no more than reaches to their end
pub parts-take : {A : Type 0} (xs : List A) (from : ℕ) (ends : List ℕ) (to n : ℕ) → RiseTo from ends to → n ≤ length ends → parts (take (get_or (from ∷ ends) n 0) xs) from (take n ends) ≡ take n (parts xs from ends)
parts-take xs from ends to zero h le = refl
parts-take xs from [] to (suc n) h le = absurd (omega arith)
parts-take xs from (end ∷ ends) to (suc n) h le =
    let last : end ≤ get_or (end ∷ ends) n 0 = RiseTo-le end (take n ends) (get_or (end ∷ ends) n 0) (RiseTo-take end ends to n h.1 (omega arith)) in
    let first = range_within xs from end (get_or (end ∷ ends) n 0) h.0 last in
    let rest = parts-take xs end ends to n h.1 (omega arith) in
    cc

-- offsets that climb rise
pub climb-rise : (from : ℕ) (ends : List ℕ) (to : ℕ) → ClimbTo from ends to → RiseTo from ends to
climb-rise from [] to h = h
climb-rise from (end ∷ ends) to h = (omega (arith, h.0), climb-rise end ends to h.1)

pub ClimbTo-push : (from : ℕ) (ends : List ℕ) (to more : ℕ) → ClimbTo from ends to → to < more → ClimbTo from (ends ++ more ∷ []) more
ClimbTo-push from [] to more h lt = (omega (arith, h), refl)
ClimbTo-push from (end ∷ ends) to more h lt = (h.0, ClimbTo-push end ends to more h.1 lt)

pub ClimbTo-take : (from : ℕ) (ends : List ℕ) (to n : ℕ) → ClimbTo from ends to → n ≤ length ends → ClimbTo from (take n ends) (get_or (from ∷ ends) n 0)
ClimbTo-take from ends to zero h le = refl
ClimbTo-take from [] to (suc n) h le = absurd (omega arith)
ClimbTo-take from (end ∷ ends) to (suc n) h le = (h.0, ClimbTo-take end ends to n h.1 (omega arith))

-- each part ends above where it begins
pub climbs : (from : ℕ) (ends : List ℕ) (to i : ℕ) → ClimbTo from ends to → i < length ends → get_or (from ∷ ends) i 0 < get_or ends i 0
climbs from [] to i h lt = absurd (omega arith)
climbs from (end ∷ ends) to zero h lt = h.0
climbs from (end ∷ ends) to (suc i) h lt = climbs end ends to i h.1 (omega arith)
