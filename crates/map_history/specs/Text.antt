-- How bytes, keys and numbers are written.
use Rattle.std.specs.Prelude.{ℕ, ◌+◌, ◌/◌, ◌%◌, Bool, ◌&&◌, not, ◌==◌, nat_lt, nat_le, if◌then◌else◌, List, [], ◌∷◌, ◌++◌, map}
use Rattle.std.specs.List.{flat_map, join_with_byte}
use Rattle.std.specs.Fmt.{decimal}
use Rattle.key_tuple.specs.Order.{FieldList}

-- the bytes from `!` to `}` stand for themselves, but for `%` and `,`
abbrev pub is_plain : ℕ → Bool
is_plain b = nat_le 33 b && nat_le b 125 && not (b == 37) && not (b == 44)

-- the digit of a number below 16
abbrev pub hex_digit : ℕ → ℕ
hex_digit n = if nat_lt n 10 then 48 + n else 87 + n

-- a byte as itself, or as `%` and its two digits
abbrev pub byte_text : ℕ → List ℕ
byte_text b = if is_plain b then b ∷ [] else 37 ∷ hex_digit (b / 16) ∷ hex_digit (b % 16) ∷ []

-- a field or a value: its bytes, or `~` where there is none
abbrev pub field_text : List ℕ → List ℕ
field_text [] = 126 ∷ []
field_text (b ∷ bs) = flat_map byte_text (b ∷ bs)

-- the fields of a key, joined by `,`
abbrev pub key_text : FieldList → List ℕ
key_text fields = join_with_byte 44 (map field_text fields)

-- a point: `@` and its number
abbrev pub point_text : ℕ → List ℕ
point_text p = 64 ∷ decimal p

-- some words, a space between each two, and the end of the line
abbrev pub line_of : List (List ℕ) → List ℕ
line_of words = join_with_byte 32 words ++ 10 ∷ []
