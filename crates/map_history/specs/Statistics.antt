-- How often each word stands in the columns of an index.
use Rattle.std.specs.Prelude.{ℕ, suc, Bool, ◌||◌, List, [], ◌∷◌, map, count_by}
use Rattle.std.specs.List.{slice_index_or}
use Rattle.std.specs.Str.{bytes_eq}
use Rattle.map_history.specs.declared.counts.Counts.{Counts}
use Rattle.map_history.specs.Report.{Columns}
use Rattle.map_history.specs.Words.{how_text, note_text, counted_words}

-- the word stands in one of the two columns
abbrev pub has_word : List ℕ → Columns → Bool
has_word word c = bytes_eq (how_text c.how) word || bytes_eq (note_text c.note) word

-- in how many columns it stands
abbrev pub times : List ℕ → List Columns → ℕ
times word columns = count_by (has_word word) columns

-- the statistics of some columns
abbrev pub counts_of : List Columns → Counts
counts_of columns = record { numbers = map (λ (word : List ℕ). times word columns) counted_words }

-- words, each with the number that stands at its place in a list
abbrev pub numbered_from : ℕ → List (List ℕ) → List ℕ → List (List ℕ × ℕ)
numbered_from i [] numbers = []
numbered_from i (word ∷ words) numbers =
    (word, slice_index_or numbers i 0) ∷ numbered_from (suc i) words numbers

-- each word of the statistics with its number
abbrev pub statistics : Counts → List (List ℕ × ℕ)
statistics n = numbered_from 0 counted_words n.numbers
