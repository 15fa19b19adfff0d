-- What holds of the fields of a buffer.
use Rattle.std.specs.Prelude.{◌≡◌, ◌<◌, ◌≤◌, length, take}
use Rattle.key_tuple.specs.declared.TheConstants.{FIELD_ROOM}
use Rattle.key_tuple.specs.declared.buffer.FieldBuffer.TheInside.{Inside}
use Rattle.key_tuple.specs.declared.lent.LentFields.TheInside as lent
use Rattle.key_tuple.specs.Parts.{RiseTo}

-- the offsets in use rise to the end of the bytes, which an offset can name
pub record IsBuffer (b : Inside) : Type 0 where
  pub offsets : length b.ends ≡ FIELD_ROOM
  pub few : b.count ≤ FIELD_ROOM
  pub short : length b.bytes.items < 65536
  pub rise : RiseTo 0 (take b.count b.ends) (length b.bytes.items)

-- the same of lent bytes and offsets
pub record IsLent (f : lent.Inside) : Type 0 where
  pub few : length f.ends.now ≤ FIELD_ROOM
  pub short : length f.bytes.now < 65536
  pub rise : RiseTo 0 f.ends.now (length f.bytes.now)
