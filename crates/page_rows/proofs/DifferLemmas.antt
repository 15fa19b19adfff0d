-- No two rows of a page stand at one place.
use Rattle.std.proofs.Common.{◌≡◌, ◌≢◌, ℕ, ◌<◌, ◌≤◌, List, [], ◌∷◌, ◌++◌, map, nat_eq, count_by, cond, refl, ap, arith}
use Rattle.std.proofs.lemmas.List.Sums.{sum_by-append, sum_by-cons}
use Rattle.std.specs.List.{AllByRecursion}
use Rattle.list_facts.proofs.Each.{each_left}
use Rattle.page_mirror.specs.Mirror.{Mirrors, origin_of}
use Rattle.page_mirror.specs.Steps.{HasOrigin}
use Rattle.page_directory.specs.Groups.{records}
use Rattle.page_directory.proofs.ListLemmas.{counted_apart}
use Rattle.page_directory.proofs.OwnerLemmas.{origin_once}
use Rattle.index_page.specs.Rows.{Row}
use Rattle.index_page.specs.Page.{PlacesDiffer}
use Rattle.page_rows.specs.Reading.{rows_in_bytes}
use Rattle.page_rows.specs.Spelling.{PageParts, IsPageOfRows}
use Rattle.page_rows.proofs.SpellingLemmas.{row_of, rows_are, whole_list}

-- rows of other records stand at other places
pub places_apart : {bytes : List ℕ} (p : PageParts) → Mirrors bytes p.mirror → (h place : ℕ) → h < p.mirror.count → origin_of p.mirror h ≡ place → (hs : List ℕ)
    → AllByRecursion (λ k. k < p.mirror.count) hs → AllByRecursion (λ k. k ≡ h → ⊥) hs → AllByRecursion (λ (y : Row). y.place ≢ place) (map (row_of p) hs)
places_apart p is h place w at [] inside apart = tt
places_apart {bytes} p is h place w at (k ∷ hs) inside apart =
    let here : HasOrigin bytes p.mirror h place = record { is = is; within = w; placed = at } in
    (λ e. apart.0 (origin_once (record { is = is; within = inside.0; placed = e }) here), places_apart p is h place w at hs inside.1 apart.1)

differ_each : {bytes : List ℕ} (p : PageParts) → Mirrors bytes p.mirror → (hs : List ℕ) → AllByRecursion (λ k. k < p.mirror.count) hs
    → ((h : ℕ) → count_by (λ k. nat_eq k h) hs ≤ 1) → PlacesDiffer (map (row_of p) hs)
differ_each p is [] inside once = tt
differ_each p is (h ∷ hs) inside once = (
  places_apart p is h (origin_of p.mirror h) inside.0 refl hs inside.1 (counted_apart h [] hs (once h)).1,
  differ_each p is hs inside.1 (λ k. let all = once k in omega (arith, sum_by-cons (λ (x : ℕ). cond (nat_eq x k) 1 0) h hs)),
)

pub rows_differ : {bytes : List ℕ} {fields : ℕ} → IsPageOfRows bytes fields → PlacesDiffer (rows_in_bytes bytes fields)
rows_differ {bytes} {fields} page =
    let p = page.parts in
    let s = page.spells in
    let once : (h : ℕ) → count_by (λ k. nat_eq k h) p.inner ≤ 1 =
    λ k. let f : ℕ → ℕ = λ x. cond (nat_eq x k) 1 0 in
    let all = s.page.order.once k in
    omega (arith, sum_by-append f (records p.groups) p.free, ap (count_by (λ x. nat_eq x k)) s.list, sum_by-cons f 0 (p.inner ++ 1 ∷ []), sum_by-append f p.inner (1 ∷ [])) in
    rw (rows_are s) (differ_each p s.page.is p.inner (each_left (λ k. k < p.mirror.count) p.inner (1 ∷ []) (whole_list s).inside.1) once)
