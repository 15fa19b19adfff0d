use Rattle.std.specs.List.{AllZip}
use Rattle.index_page.specs.Store.{PlaceLists}
use Rattle.std.proofs.Common.{◌≡◌, ℕ, ◌+◌, ◌≤◌, ◌++◌, [], ◌∷◌, List, length, refl, ap, ◌∙◌, arith, vec_capacity}
use Rattle.index_page.proofs.places.Places.copy.Goals as goal

-- what is cloned is the same
same_items : (xs ys : List ℕ) → AllZip (λ (x y : ℕ). y ≡ x) xs ys → ys ≡ xs
same_items [] [] all = refl
same_items [] (y ∷ ys) all = absurd all
same_items (x ∷ xs) [] all = absurd all
same_items (x ∷ xs) (y ∷ ys) all = λ i. all.0 i ∷ same_items xs ys all.1 i

abbrev lists_of : List ℕ → List ℕ → PlaceLists
lists_of live free = record { live = live; free = free }

same_lists : {live free live' free' : List ℕ} {now : PlaceLists} → live' ≡ live → free' ≡ free → lists_of live free ≡ now → lists_of live' free' ≡ now
same_lists same_live same_free is = (λ i. lists_of (same_live i) (same_free i)) ∙ is

-- as many numbers fit in no less room
fits_in : (live free live' free' cap asked got kept : ℕ) → live' ≡ live → free' ≡ free → asked ≡ cap → asked ≤ got → got ≤ kept → live + free ≤ cap → live' + free' ≤ kept
fits_in live free live' free' cap asked got kept same_live same_free is room more fits = omega arith

pub returns : goal.returns
returns c =
    let live = same_items c.self.inside.live.items c.in_ok-clone.field-0.items c.in_ok-clone.ensures.cases.0 in
    let free = c.in_ok-extend_from_slice.ensures.items ∙ (λ i. c.in_ok-free.ensures.items i ++ c.deref.ensures.value i) in
    same_lists live free c.self.view_is

pub invariant_of-result : goal.invariant_of-result
invariant_of-result c =
    let live = ap length (same_items c.self.inside.live.items c.in_ok-clone.field-0.items c.in_ok-clone.ensures.cases.0) in
    let empty = c.in_ok-free.ensures.items in
    let whole : c.extend_from_slice.new.self.items ≡ c.self.inside.free.items = c.in_ok-extend_from_slice.ensures.items ∙ (λ i. empty i ++ c.deref.ensures.value i) in
    let free = ap length whole in
    fits_in (length c.self.inside.live.items) (length c.self.inside.free.items) (length c.in_ok-clone.field-0.items) (length c.extend_from_slice.new.self.items) (vec_capacity c.self.inside.free) c.capacity.result
    (vec_capacity c.in_ok-free.free) (vec_capacity c.extend_from_slice.new.self) live free c.capacity.ensures c.in_ok-free.ensures.capacity c.in_ok-extend_from_slice.ensures.capacity c.self.invariant
