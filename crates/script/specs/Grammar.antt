-- Lines, words, names, fields, keys and values, as lists of bytes.
use Rattle.std.specs.Prelude.{ℕ, ◌+◌, ◌-◌, ◌*◌, Bool, true, false, ◌&&◌, ◌||◌, ◌==◌, nat_le, nat_lt, if◌then◌else◌, Option, Some, None, option_and_then, option_map, List, [], ◌∷◌, ◌++◌, length, Result, Ok, Err, ◌^◌, not}
use Rattle.std.specs.List.{slice_split, onto_first, list_all}
use Rattle.key_tuple.specs.declared.TheConstants.{MAX_KEY_BYTES, MAX_VALUE_BYTES}
use Rattle.key_tuple.specs.Order.{FieldList, byte_count}
use Rattle.map_history.specs.Text.{is_plain}
use Rattle.script.specs.declared.TheConstants.{MAX_NAME_BYTES}
use Rattle.script.specs.declared.error.Flaw.{Flaw}
use Rattle.script.specs.declared.error.Flaw.TheVariants.{TooLong}

-- the lines of a file: each ends with the byte 10, and the last may lack it
abbrev pub lines_of : List ℕ → List (List ℕ)
lines_of [] = []
lines_of (b ∷ bytes) = if b == 10 then [] ∷ lines_of bytes else onto_first b (lines_of bytes)

-- an empty line and a line that begins with `#` say nothing
abbrev pub says_nothing : List ℕ → Bool
says_nothing [] = true
says_nothing (b ∷ bytes) = b == 35

-- the words of a line: what stands between its spaces
abbrev pub line_words : List ℕ → List (List ℕ)
line_words line = slice_split (λ (b : ℕ). b == 32) line

-- the word, if there is just one
abbrev pub only : List (List ℕ) → Option (List ℕ)
only [] = None
only (a ∷ []) = Some a
only (a ∷ b ∷ words) = None

-- the two words, if there are just two
abbrev pub both : List (List ℕ) → Option (List ℕ × List ℕ)
both [] = None
both (a ∷ []) = None
both (a ∷ b ∷ []) = Some (a, b)
both (a ∷ b ∷ c ∷ words) = None

-- a byte from `low` to `high`
abbrev pub is_from : ℕ → ℕ → ℕ → Bool
is_from low high b = nat_le low b && nat_le b high

-- a letter, `a` to `z`
abbrev pub is_letter : ℕ → Bool
is_letter b = is_from 97 122 b

-- a byte of a name: a letter, `0` to `9` or `_`
abbrev pub is_name_byte : ℕ → Bool
is_name_byte b = is_letter b || is_from 48 57 b || (b == 95)

-- a name has 1 to 32 such bytes and begins with a letter
abbrev pub is_name : List ℕ → Bool
is_name [] = false
is_name (b ∷ bytes) =
    is_letter b && nat_lt (length bytes) MAX_NAME_BYTES && list_all is_name_byte bytes

-- a decimal digit
abbrev pub is_digit : ℕ → Bool
is_digit b = is_from 48 57 b

-- decimal digits, without a leading zero unless the number is 0
abbrev pub is_numeral : List ℕ → Bool
is_numeral [] = false
is_numeral (b ∷ []) = is_digit b
is_numeral (b ∷ c ∷ word) = is_digit b && not (b == 48) && list_all is_digit (c ∷ word)

-- what digits make of the number before them
abbrev pub decimal_from : ℕ → List ℕ → ℕ
decimal_from n [] = n
decimal_from n (b ∷ word) = decimal_from (n * 10 + (b - 48)) word

-- the number that a word writes, below 2^32
abbrev pub number_spelled : List ℕ → Option ℕ
number_spelled word =
    if is_numeral word && nat_lt (decimal_from 0 word) (2 ^ 32) then Some (decimal_from 0 word)
    else None

-- the value of a hexadecimal digit of either case
abbrev pub digit_of : ℕ → Option ℕ
digit_of b =
    if is_from 48 57 b then Some (b - 48)
    else (if is_from 97 102 b then Some (b - 87)
    else (if is_from 65 70 b then Some (b - 55) else None))

-- the byte that two digits spell
abbrev pub byte_of : ℕ → ℕ → Option ℕ
byte_of high low =
    option_and_then (λ (h : ℕ). option_map (λ (l : ℕ). h * 16 + l) (digit_of low)) (digit_of high)

-- the byte that a byte alone stands for: itself, if it needs no escape
abbrev pub plain : ℕ → Option ℕ
plain b = if is_plain b then Some b else None

-- one more in front of a list, where both are there
abbrev pub in_front : {A : Type 0} → Option A → Option (List A) → Option (List A)
in_front None rest = None
in_front (Some x) None = None
in_front (Some x) (Some xs) = Some (x ∷ xs)

-- what was read before, and what is still read, if it is there
abbrev pub behind : {A : Type 0} → List A → Option (List A) → Option (List A)
behind front None = None
behind front (Some xs) = Some (front ++ xs)

-- the bytes that a text stands for: each byte alone, or `%` and two digits
abbrev pub bytes_of : List ℕ → Option (List ℕ)
bytes_of [] = Some []
bytes_of (a ∷ []) = in_front (plain a) (Some [])
bytes_of (a ∷ b ∷ []) = in_front (plain a) (bytes_of (b ∷ []))
bytes_of (a ∷ b ∷ c ∷ text) =
    if a == 37 then in_front (byte_of b c) (bytes_of text)
    else in_front (plain a) (bytes_of (b ∷ c ∷ text))

-- a field or a value: `~` for the empty one, else at least one byte
abbrev pub is_tilde : List ℕ → Bool
is_tilde [] = false
is_tilde (a ∷ []) = a == 126
is_tilde (a ∷ b ∷ text) = false

-- the bytes of a field or a value: none for `~`
abbrev pub field_of : List ℕ → Option (List ℕ)
field_of [] = None
field_of (a ∷ text) = if is_tilde (a ∷ text) then Some [] else bytes_of (a ∷ text)

-- each text as a field
abbrev pub fields_in : List (List ℕ) → Option FieldList
fields_in [] = Some []
fields_in (text ∷ texts) = in_front (field_of text) (fields_in texts)

-- the fields of a key or a tuple: what stands between the commas
abbrev pub tuple_of : List ℕ → Option FieldList
tuple_of word = fields_in (slice_split (λ (b : ℕ). b == 44) word)

-- a key has exactly the index's number of fields
abbrev pub exactly : ℕ → Option FieldList → Option FieldList
exactly n None = None
exactly n (Some fields) = if length fields == n then Some fields else None

-- the key that a word writes, of an index with so many fields
abbrev pub key_spelled : ℕ → List ℕ → Option FieldList
key_spelled n word = exactly n (tuple_of word)

-- a tuple has at most the index's number of fields
abbrev pub at_most : ℕ → Option FieldList → Option FieldList
at_most n None = None
at_most n (Some fields) = if nat_le (length fields) n then Some fields else None

-- the tuple that a word writes, of an index with so many fields
abbrev pub tuple_spelled : ℕ → List ℕ → Option FieldList
tuple_spelled n word = at_most n (tuple_of word)

-- a key or a tuple within its limit
abbrev pub short_key : FieldList → Result FieldList Flaw
short_key fields = if nat_lt MAX_KEY_BYTES (byte_count fields) then Err TooLong else Ok fields

-- a value within its limit
abbrev pub short_value : List ℕ → Result (List ℕ) Flaw
short_value bytes = if nat_lt MAX_VALUE_BYTES (length bytes) then Err TooLong else Ok bytes
