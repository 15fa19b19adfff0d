-- Which words are split, and what they are split into.
use Rattle.std.specs.Prelude.{ℕ, ◌≡◌, ◌⊎◌, ◌==◌, Bool, true, false, not, List, [], ◌∷◌, map, codes}
use Rattle.std.specs.List.{list_all}
use Rattle.word_split.specs.declared.splitting.SplitWords.{SplitWords}

-- a word that isn't empty and doesn't begin with `-`
abbrev pub is_plain_word : List ℕ → Bool
is_plain_word [] = false
is_plain_word (b ∷ bytes) = not (b == 45)

-- a word that names a command of the program
abbrev pub IsCommandWord : List ℕ → Type 0
IsCommandWord word = (word ≡ codes "run") ⊎ (word ≡ codes "page") ⊎ (word ≡ codes "gen")

-- a word that names a command, and plain words behind it
abbrev pub IsCall : List (List ℕ) → Type 0
IsCall [] = ⊥
IsCall (command ∷ arguments) = IsCommandWord command × (list_all is_plain_word arguments ≡ true)

-- the command of words that were split, and behind it the arguments
abbrev pub words_of : SplitWords → List (List ℕ)
words_of split = split.command.now ∷ map (λ word. word.now) split.arguments.items
