-- The keys at which a search by a tuple cuts a map.
use Rattle.std.specs.Prelude.{ℕ, ◌-◌, List, [], ◌∷◌, ◌++◌, length, replicate}
use Rattle.key_tuple.specs.declared.TheConstants.{MAX_FIELDS}
use Rattle.key_tuple.specs.Order.{FieldList}

-- the last field, or an empty one where there is none
abbrev pub last_field : FieldList → List ℕ
last_field [] = []
last_field (field ∷ []) = field
last_field (field ∷ next ∷ fields) = last_field (next ∷ fields)

-- the fields with this one in the place of the last
abbrev pub with_last : FieldList → List ℕ → FieldList
with_last [] last = []
with_last (field ∷ []) last = last ∷ []
with_last (field ∷ next ∷ fields) last = field ∷ with_last (next ∷ fields) last

-- the first key after all that begin with these fields: one more byte, 0, at the last field
abbrev pub lengthened : FieldList → FieldList
lengthened fields = with_last fields (last_field fields ++ 0 ∷ [])

-- as many fields as a key may have, those that are added empty
abbrev pub padded : FieldList → FieldList
padded fields = fields ++ replicate (MAX_FIELDS - length fields) []
