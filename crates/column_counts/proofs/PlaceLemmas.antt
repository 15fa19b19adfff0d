-- A number that is raised at the place of a word counts that word once more.
use Rattle.std.proofs.Common.{◌≡◌, ℕ, zero, suc, ◌+◌, Option, Some, None, List, [], ◌∷◌, length, replicate, refl, ap, ap₂, ◌∙◌, arith, length-set}
use Rattle.std.specs.Prelude.{slice_set}
use Rattle.std.specs.List.{slice_index_or}
use Rattle.map_history.specs.declared.columns.How.{How}
use Rattle.map_history.specs.declared.columns.How.TheVariants as how
use Rattle.map_history.specs.declared.columns.Note.{Note}
use Rattle.map_history.specs.declared.columns.Note.TheVariants as note
use Rattle.map_history.specs.Statistics.{counts_of}
use Rattle.column_counts.specs.Places.{how_place, note_place, raised_at}
use Rattle.column_counts.specs.Sums.{added}

-- so many numbers, 1 at a place and 0 elsewhere
abbrev unit : ℕ → ℕ → List ℕ
unit zero k = []
unit (suc m) zero = 1 ∷ replicate m 0
unit (suc m) (suc k) = 0 ∷ unit m k

-- the same, if there is a place
abbrev ones : ℕ → Option ℕ → List ℕ
ones m None = replicate m 0
ones m (Some k) = unit m k

add_none : (ns : List ℕ) → ns ≡ added ns (replicate (length ns) 0)
add_none [] = refl
add_none (n ∷ ns) = ap₂ (λ (x : ℕ) (xs : List ℕ). x ∷ xs) (omega arith) (add_none ns)

pub raised_long : (place : Option ℕ) (ns : List ℕ) → length (raised_at place ns) ≡ length ns
raised_long None ns = refl
raised_long (Some k) ns = length-set ns k (slice_index_or ns k 0 + 1)

add_twice : (xs ys zs : List ℕ) → added (added xs ys) zs ≡ added xs (added ys zs)
add_twice [] ys zs = refl
add_twice (x ∷ xs) [] zs = refl
add_twice (x ∷ xs) (y ∷ ys) [] = refl
add_twice (x ∷ xs) (y ∷ ys) (z ∷ zs) = ap₂ (λ (n : ℕ) (ns : List ℕ). n ∷ ns) (omega arith) (add_twice xs ys zs)

add_one : (ns : List ℕ) (k : ℕ) → slice_set ns k (slice_index_or ns k 0 + 1) ≡ added ns (unit (length ns) k)
add_one [] k = refl
add_one (n ∷ ns) zero = ap (λ (xs : List ℕ). (n + 1) ∷ xs) (add_none ns)
add_one (n ∷ ns) (suc k) = ap₂ (λ (x : ℕ) (xs : List ℕ). x ∷ xs) (omega arith) (add_one ns k)

raised_is : (place : Option ℕ) (ns : List ℕ) → raised_at place ns ≡ added ns (ones (length ns) place)
raised_is None ns = add_none ns
raised_is (Some k) ns = add_one ns k

-- what one answer counts is a number for each of its words
one_told : (h : How) (n : Note) → added (ones 18 (how_place h)) (ones 18 (note_place n)) ≡ (counts_of (record { how = h; note = n } ∷ [])).numbers
one_told how.Dash note.Dash = refl
one_told how.Dash note.No = refl
one_told how.Dash note.Built = refl
one_told how.Dash note.Same = refl
one_told how.Dash note.Arena = refl
one_told how.Dash note.Raced = refl
one_told how.Dash note.Worn = refl
one_told how.Hit note.Dash = refl
one_told how.Hit note.No = refl
one_told how.Hit note.Built = refl
one_told how.Hit note.Same = refl
one_told how.Hit note.Arena = refl
one_told how.Hit note.Raced = refl
one_told how.Hit note.Worn = refl
one_told how.Off note.Dash = refl
one_told how.Off note.No = refl
one_told how.Off note.Built = refl
one_told how.Off note.Same = refl
one_told how.Off note.Arena = refl
one_told how.Off note.Raced = refl
one_told how.Off note.Worn = refl
one_told how.Cold note.Dash = refl
one_told how.Cold note.No = refl
one_told how.Cold note.Built = refl
one_told how.Cold note.Same = refl
one_told how.Cold note.Arena = refl
one_told how.Cold note.Raced = refl
one_told how.Cold note.Worn = refl
one_told how.Short note.Dash = refl
one_told how.Short note.No = refl
one_told how.Short note.Built = refl
one_told how.Short note.Same = refl
one_told how.Short note.Arena = refl
one_told how.Short note.Raced = refl
one_told how.Short note.Worn = refl
one_told how.PartBusy note.Dash = refl
one_told how.PartBusy note.No = refl
one_told how.PartBusy note.Built = refl
one_told how.PartBusy note.Same = refl
one_told how.PartBusy note.Arena = refl
one_told how.PartBusy note.Raced = refl
one_told how.PartBusy note.Worn = refl
one_told how.NoEntry note.Dash = refl
one_told how.NoEntry note.No = refl
one_told how.NoEntry note.Built = refl
one_told how.NoEntry note.Same = refl
one_told how.NoEntry note.Arena = refl
one_told how.NoEntry note.Raced = refl
one_told how.NoEntry note.Worn = refl
one_told how.BlockBusy note.Dash = refl
one_told how.BlockBusy note.No = refl
one_told how.BlockBusy note.Built = refl
one_told how.BlockBusy note.Same = refl
one_told how.BlockBusy note.Arena = refl
one_told how.BlockBusy note.Raced = refl
one_told how.BlockBusy note.Worn = refl
one_told how.Clock note.Dash = refl
one_told how.Clock note.No = refl
one_told how.Clock note.Built = refl
one_told how.Clock note.Same = refl
one_told how.Clock note.Arena = refl
one_told how.Clock note.Raced = refl
one_told how.Clock note.Worn = refl
one_told how.Unequal note.Dash = refl
one_told how.Unequal note.No = refl
one_told how.Unequal note.Built = refl
one_told how.Unequal note.Same = refl
one_told how.Unequal note.Arena = refl
one_told how.Unequal note.Raced = refl
one_told how.Unequal note.Worn = refl
one_told how.ByClock note.Dash = refl
one_told how.ByClock note.No = refl
one_told how.ByClock note.Built = refl
one_told how.ByClock note.Same = refl
one_told how.ByClock note.Arena = refl
one_told how.ByClock note.Raced = refl
one_told how.ByClock note.Worn = refl
one_told how.ByBusy note.Dash = refl
one_told how.ByBusy note.No = refl
one_told how.ByBusy note.Built = refl
one_told how.ByBusy note.Same = refl
one_told how.ByBusy note.Arena = refl
one_told how.ByBusy note.Raced = refl
one_told how.ByBusy note.Worn = refl
one_told how.ByMoved note.Dash = refl
one_told how.ByMoved note.No = refl
one_told how.ByMoved note.Built = refl
one_told how.ByMoved note.Same = refl
one_told how.ByMoved note.Arena = refl
one_told how.ByMoved note.Raced = refl
one_told how.ByMoved note.Worn = refl
one_told how.ByLast note.Dash = refl
one_told how.ByLast note.No = refl
one_told how.ByLast note.Built = refl
one_told how.ByLast note.Same = refl
one_told how.ByLast note.Arena = refl
one_told how.ByLast note.Raced = refl
one_told how.ByLast note.Worn = refl

-- so numbers that are raised at the places of both words count them
pub raised_both : (h : How) (n : Note) (ns : List ℕ) → length ns ≡ 18 → raised_at (note_place n) (raised_at (how_place h) ns) ≡ added ns (counts_of (record { how = h; note = n } ∷ [])).numbers
raised_both h n ns long =
    let first : raised_at (how_place h) ns ≡ added ns (ones 18 (how_place h)) = raised_is (how_place h) ns ∙ ap (λ (m : ℕ). added ns (ones m (how_place h))) long in
    let second : raised_at (note_place n) (raised_at (how_place h) ns) ≡ added (raised_at (how_place h) ns) (ones 18 (note_place n)) =
    raised_is (note_place n) (raised_at (how_place h) ns) ∙ ap (λ (m : ℕ). added (raised_at (how_place h) ns) (ones m (note_place n))) (raised_long (how_place h) ns ∙ long) in
    second ∙ (ap (λ (xs : List ℕ). added xs (ones 18 (note_place n))) first ∙ (add_twice ns (ones 18 (how_place h)) (ones 18 (note_place n)) ∙ ap (added ns) (one_told h n)))
