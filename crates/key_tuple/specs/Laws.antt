-- The laws of the order, of places and of tuples.
use Rattle.std.specs.Prelude.{◌≡◌, ◌≢◌, true, false, length}
use Rattle.std.specs.Cmp.{IsTotalOrder}
use Rattle.std.specs.declared.cmp.Ordering.TheVariants.{Less, Equal, Greater}
use Rattle.key_tuple.specs.Order.{FieldList, key_cmp, tuple_cmp}
use Rattle.key_tuple.specs.KeyPlace.{KeyPlace, before, IsCut, not_below, above}

-- the order of keys is total, and keys that compare as equal are equal
pub record KeysAreOrdered : Type 0 where
  pub total : IsTotalOrder key_cmp
  pub exact : (j k : FieldList) → key_cmp j k ≡ Equal → j ≡ k

-- places stand in one line
pub record PlacesAreOrdered : Type 0 where
  pub itself : (x : KeyPlace) → before x x ≡ false
  pub trans : (x y z : KeyPlace) → before x y ≡ true → before y z ≡ true → before x z ≡ true
  pub tied : (x y : KeyPlace) → before x y ≡ false → before y x ≡ false → x ≡ y

-- a tuple's place among rising keys: what is above it stays above, what is below it was below, and
-- the keys that begin with it stand together; against a key of as many fields it is compared as a
-- key
pub record TuplesFollowKeys : Type 0 where
  pub above : (t j k : FieldList) → key_cmp j k ≡ Less → tuple_cmp t j ≡ Less
      → tuple_cmp t k ≡ Less
  pub below : (t j k : FieldList) → key_cmp j k ≡ Less → tuple_cmp t k ≡ Greater
      → tuple_cmp t j ≡ Greater
  pub between : (t j k l : FieldList) → key_cmp j k ≢ Greater → key_cmp k l ≢ Greater
      → tuple_cmp t j ≡ Equal → tuple_cmp t l ≡ Equal → tuple_cmp t k ≡ Equal
  pub whole : (t k : FieldList) → length t ≡ length k → tuple_cmp t k ≡ key_cmp t k

-- each tuple cuts the places in two, with or without the keys that begin with it
pub record TuplesCut : Type 0 where
  pub before_meeting : (t : FieldList) → IsCut (not_below t)
  pub after_meeting : (t : FieldList) → IsCut (above t)
