-- How far a tuple and a key agree, as it is told by rows around the key.
use Rattle.std.specs.Prelude.{◌≡◌, ◌≤◌, ◌/◌, ◌%◌, ◌⊎◌, [], nat_lt, if◌then◌else◌, slice_index_or}
use Rattle.std.specs.declared.cmp.Ordering.{Ordering}
use Rattle.key_tuple.specs.Order.{FieldList, tuple_cmp}
use Rattle.key_tuple.specs.Figures.{equal_fields, equal_bytes}
use Rattle.key_tuple.specs.declared.mode.Match.{Match}
use Rattle.page_search.specs.declared.agreement.Agreement.{Agreement}

-- the tuple and the key have so many equal first fields, and so many equal first bytes of the field
-- after them
pub record AgreesTo (tuple key : FieldList) (figures : Match) : Type 0 where
  pub fields : figures.fields ≤ equal_fields tuple key
  pub bytes : figures.bytes ≤ equal_bytes (slice_index_or tuple figures.fields [])
      (slice_index_or key figures.fields [])

-- they agree so far, or the tuple stands to the key like this
abbrev pub AgreesOr : Ordering → FieldList → Match → FieldList → Type 0
AgreesOr side tuple figures key = AgreesTo tuple key figures ⊎ (tuple_cmp tuple key ≡ side)

-- the lesser of two agreements: what a key between two others has at least
abbrev pub lesser_match : Match → Match → Match
lesser_match low up =
    if nat_lt low.fields up.fields then low
    else (if nat_lt up.fields low.fields then up
    else (if nat_lt low.bytes up.bytes then low else up))

-- the fields and bytes that one number holds
abbrev pub agreed : Agreement → Match
agreed a = record {
  fields = a.packed / 65536;
  bytes = a.packed % 65536;
}
