-- What an index has learnt, packed into one word.
use Rattle.std.specs.Prelude.{ℕ, ◌+◌, ◌*◌, ◌^◌, ◌<◌, Bool, if◌then◌else◌}
use Rattle.learning.specs.declared.TheConstants.{LAST_PLACE, LEFT_PLACE, POTENTIAL_PLACE, POTENTIAL_WIDTH, ANALYSIS_PLACE, ANALYSIS_WIDTH, FIELDS_PLACE, FIELDS_WIDTH, BYTES_PLACE, BYTES_WIDTH, EVENTS_PLACE}
use Rattle.learning.specs.declared.info.Info.{Info}

-- a test as a bit
abbrev pub bit_of : Bool → ℕ
bit_of b = if b then 1 else 0

-- each field at its place
abbrev pub word_of : Info → ℕ
word_of info =
    bit_of info.last * 2 ^ LAST_PLACE + bit_of info.params.left * 2 ^ LEFT_PLACE
    + info.potential * 2 ^ POTENTIAL_PLACE + info.analysis * 2 ^ ANALYSIS_PLACE
    + info.params.fields * 2 ^ FIELDS_PLACE + info.params.bytes * 2 ^ BYTES_PLACE
    + info.events * 2 ^ EVENTS_PLACE

-- each field is small enough for its place
pub record FitsWord (info : Info) : Type 0 where
  pub potential : info.potential < 2 ^ POTENTIAL_WIDTH
  pub analysis : info.analysis < 2 ^ ANALYSIS_WIDTH
  pub fields : info.params.fields < 2 ^ FIELDS_WIDTH
  pub bytes : info.params.bytes < 2 ^ BYTES_WIDTH
  pub events : info.events < 4294967296
