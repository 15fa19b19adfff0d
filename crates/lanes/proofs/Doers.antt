-- Doers that worked, place by place.
use Rattle.std.proofs.Common.{◌≡◌, ◌<◌, length, ℕ, zero, suc, List, [], ◌∷◌, ◌++◌, take, drop, subst, sym, ap, ◌∙◌, arith}
use Rattle.std.specs.List.{AllZip, slice_index_or}
use Rattle.std.proofs.Math.Seq.{take-append_seam}
use Rattle.std.proofs.lemmas.Slice.Zip.{AllZip-long}

-- lists of one length, each place of which is related to the same place of the other
pub AllZip-each : {D : Type 0} (worked : D → D → Type 0) (old new : List D) → length new ≡ length old
    → ((i : ℕ) (d : D) → i < length old → worked (slice_index_or old i d) (slice_index_or new i d))
    → AllZip worked old new
AllZip-each worked [] [] long each = tt
AllZip-each worked [] (y ∷ new) long each = absurd (omega (arith, long))
AllZip-each worked (x ∷ old) [] long each = absurd (omega (arith, long))
AllZip-each worked (x ∷ old) (y ∷ new) long each =
    (each zero x (omega arith), AllZip-each worked old new (omega (arith, long)) (λ i d below. each (suc i) d (omega (arith, below))))

-- and of none
pub AllZip-none : {D : Type 0} (worked : D → D → Type 0) (all : List D) → length all ≡ 0 → AllZip worked all all
AllZip-none worked [] none = tt
AllZip-none worked (x ∷ all) none = absurd (omega (arith, none))

-- what one doer became, by what a call was handed and what it left
pub became : {D : Type 0} (worked : D → D → Type 0) (handed left old new : D) → handed ≡ old → left ≡ new → worked handed left → worked old new
became worked handed left old new same same' did = subst (λ d. worked d new) same (subst (λ d. worked handed d) same' did)

-- a list that was lent whole, and came back with others in the place of all
pub AllZip-lent : {D : Type 0} (worked : D → D → Type 0) (n : ℕ) (all lent after : List D) → lent ≡ all → length lent ≡ n → AllZip worked lent after
    → AllZip worked all (take n (after ++ drop (length after) all))
AllZip-lent worked n all lent after same long did =
    let rest = drop (length after) all in
    let whole : take n (after ++ rest) ≡ after = ap (λ k. take k (after ++ rest)) (sym (AllZip-long worked lent after did ∙ long)) ∙ take-append_seam after rest in
    subst (λ xs. AllZip worked xs (take n (after ++ rest))) same (subst (λ ys. AllZip worked lent ys) (sym whole) did)
