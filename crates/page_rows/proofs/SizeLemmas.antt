-- The slots that the bytes tell are those of the page.
use Rattle.std.proofs.Common.{◌≡◌, ℕ, suc, ◌+◌, ◌<◌, List, [], ◌∷◌, length, slice_index, refl, ap, ap₂, ◌∙◌, arith}
use Rattle.page_mirror.specs.Words.{owned_count, slot_word}
use Rattle.page_mirror.specs.Mirror.{Mirror}
use Rattle.page_directory.specs.Groups.{Group, HasGroups}
use Rattle.page_directory.specs.Sizes.{group_sizes}
use Rattle.page_directory.proofs.OwnerLemmas.{slots_counted, group_owns}
use Rattle.page_rows.specs.Slots.{sizes_from, sizes_in_bytes}

sizes_each : (bytes : List ℕ) (gs : List Group) (s : ℕ) → ((k : ℕ) → k < length gs → owned_count bytes (slot_word bytes (s + k)) ≡ slice_index (group_sizes gs) k)
    → sizes_from bytes s (length gs) ≡ group_sizes gs
unfolding sizes_from
sizes_each bytes [] s each = refl
sizes_each bytes (g ∷ gs) s each =
    let none : s + 0 ≡ s = omega arith in
    let first : owned_count bytes (slot_word bytes s) ≡ length g.front + 1 = rw none at (each 0 (omega arith)) in
    let later : (k : ℕ) → k < length gs → owned_count bytes (slot_word bytes (s + 1 + k)) ≡ slice_index (group_sizes gs) k =
    λ k w. let at : s + 1 + k ≡ s + suc k = omega arith in rw at (each (suc k) (omega arith)) in
    ap₂ (λ (x : ℕ) (xs : List ℕ). x ∷ xs) first (sizes_each bytes gs (s + 1) later)

pub sizes_told : {bytes : List ℕ} {m : Mirror} {gs : List Group} {free : List ℕ} → HasGroups bytes m gs free → sizes_in_bytes bytes ≡ group_sizes gs
sizes_told {bytes} {m} {gs} r =
    let slots = slots_counted r.groups in
    let count = r.is.head.dir_slots ∙ slots in
    let each : (k : ℕ) → k < length gs → owned_count bytes (slot_word bytes (0 + k)) ≡ slice_index (group_sizes gs) k = λ k w.
    let within : k < length m.slots = omega arith in
    let none : 0 + k ≡ k = omega arith in
    rw none (ap (owned_count bytes) (r.is.slots k within) ∙ (r.is.cells (slice_index m.slots k) (r.is.names k within)).owns ∙ group_owns k r.groups w) in
    ap (sizes_from bytes 0) count ∙ sizes_each bytes gs 0 each
