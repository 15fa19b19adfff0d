-- What holds of the parts of a key.
use Rattle.std.specs.Prelude.{◌<◌, ◌≤◌, length}
use Rattle.key_tuple.specs.declared.TheConstants.{MAX_FIELDS, MAX_KEY_BYTES}
use Rattle.key_tuple.specs.declared.key.Key.TheInside.{Inside}

-- it has a field, and one that can be refilled has room for the largest key
pub record IsKey (k : Inside) : Type 0 where
  pub some : 0 < length k.tuple.fields
  pub few : k.room ≤ MAX_FIELDS
  pub roomy : 0 < k.room → MAX_KEY_BYTES ≤ k.tuple.room
