-- The statistics of an index, word by word.
use Rattle.std.proofs.Common.{◌≡◌, ℕ, zero, suc, ◌+◌, ◌<◌, List, [], ◌∷◌, length, map, get_or, refl, sym, ap, ◌∙◌, arith}
use Rattle.std.specs.List.{slice_index_or}
use Rattle.map_history.specs.Statistics.{numbered_from}
use Rattle.map_history.specs.Words.{counted_words}

-- what stands at a place of the words and numbers that are put together from a place of the numbers on
numbered_at : (from : ℕ) (words : List (List ℕ)) (numbers : List ℕ) (i : ℕ) (w : List ℕ) (d : List ℕ × ℕ) → i < length words
    → (get_or words i w, slice_index_or numbers (from + i) 0) ≡ get_or (numbered_from from words numbers) i d
numbered_at from [] numbers i w d below = absurd (omega arith)
numbered_at from (word ∷ words) numbers zero w d below = let same : from + 0 ≡ from = omega arith in ap (λ (n : ℕ). (word, slice_index_or numbers n 0)) same
numbered_at from (word ∷ words) numbers (suc i) w d below =
    let same : from + suc i ≡ suc from + i = omega arith in
    ap (λ (n : ℕ). (get_or words i w, slice_index_or numbers n 0)) same ∙ numbered_at (suc from) words numbers i w d (omega arith)

-- what is made of an element at a place
made_at : {X Y : Type 0} (f : X → Y) (xs : List X) (i : ℕ) (d : X) → get_or (map f xs) i (f d) ≡ f (get_or xs i d)
made_at f [] i d = refl
made_at f (x ∷ xs) zero d = refl
made_at f (x ∷ xs) (suc i) d = made_at f xs i d

-- a word of the statistics and its number, by what stands at its place
pub statistic_at : {X : Type 0} (text : X → List ℕ) (names : List X) (numbers : List ℕ) (i : ℕ) (name : X) (d : List ℕ × ℕ) → map text names ≡ counted_words → i < length counted_words
    → (text (get_or names i name), slice_index_or numbers i 0) ≡ get_or (numbered_from 0 counted_words numbers) i d
statistic_at text names numbers i name d all below =
    let word : text (get_or names i name) ≡ get_or counted_words i (text name) = sym (made_at text names i name) ∙ ap (λ (ws : List (List ℕ)). get_or ws i (text name)) all in
    let zeroth : 0 + i ≡ i = omega arith in
    ap (λ (w : List ℕ). (w, slice_index_or numbers i 0)) word
    ∙ ap (λ (n : ℕ). (get_or counted_words i (text name), slice_index_or numbers n 0)) (sym zeroth)
    ∙ numbered_at 0 counted_words numbers i (text name) d below
