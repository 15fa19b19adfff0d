-- Several calls one after another.
use Rattle.std.proofs.Common.{inl, inr, ⊎_elim, ℕ, ◌≤◌, List, [], ◌++◌, take, Option, Some, None, option_map, refl, sym, ◌∙◌, ap, arith, append_assoc}
use Rattle.std.proofs.lemmas.List.{append-nil}
use Rattle.std.proofs.Math.Nat.{eq-or-lt_of_le}
use Rattle.io_port.specs.Faults.{ShowsFault}
use Rattle.io_port.specs.Sink.{Puts, PutsSome}

-- no put writes nothing
pub Puts-nil : (told : Option (List ℕ)) → Puts told told []
Puts-nil None = refl
Puts-nil (Some bytes) = ap (λ (l : List ℕ). Some l) (sym (append-nil bytes))

-- two puts write their bytes one after another
pub Puts-trans : (old mid new : Option (List ℕ)) (first then : List ℕ) → Puts old mid first → Puts mid new then → Puts old new (first ++ then)
Puts-trans None mid new first then p q = q ∙ ap (option_map (λ w. w ++ then)) p
Puts-trans (Some bytes) mid new first then p q =
    q ∙ ap (option_map (λ w. w ++ then)) p ∙ ap (λ (l : List ℕ). Some l) (append_assoc bytes first then)

-- a put that failed after others
pub PutsSome-after : (old mid new : Option (List ℕ)) (first then : List ℕ) → Puts old mid first → PutsSome mid new then → (n : ℕ) × Puts old new (first ++ take n then)
PutsSome-after old mid new first then p q = (q.0, Puts-trans old mid new first (take q.0 then) p q.1)

-- a fault that came in a later call came since the earlier moment
pub ShowsFault-since : (old mid new : ℕ) → old ≤ mid → ShowsFault mid new → ShowsFault old new
ShowsFault-since old mid new le (inl rose) = inl (omega arith)
ShowsFault-since old mid new le (inr last) = inr last

-- a fault that came in an earlier call still shows
pub ShowsFault-until : (old mid new : ℕ) → ShowsFault old mid → old ≤ mid → mid ≤ new → ShowsFault old new
ShowsFault-until old mid new (inl rose) le le' = inl (omega arith)
ShowsFault-until old mid new (inr last) le le' = ⊎_elim (λ same. inr (omega arith)) (λ less. inl (omega arith)) (eq-or-lt_of_le le')
