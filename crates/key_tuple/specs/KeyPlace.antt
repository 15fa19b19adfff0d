-- Places in the order of keys, and the cuts between them.
use Rattle.std.specs.Prelude.{Bool, true, false, not, ◌&&◌, ◌≡◌}
use Rattle.std.specs.Ordering.{is_lt, is_gt}
use Rattle.key_tuple.specs.declared.mode.Mode.{Mode}
use Rattle.key_tuple.specs.declared.mode.Mode.TheVariants.{Ge, G, Le, L}
use Rattle.key_tuple.specs.Order.{FieldList, key_cmp, tuple_cmp}

-- a place in the order of keys: before all of them, just before a key, or after all of them
pub data KeyPlace : Type 0 where
  Start : KeyPlace
  At : FieldList → KeyPlace
  End : KeyPlace

-- the first place comes before the second
unfoldable pub before : KeyPlace → KeyPlace → Bool
before Start Start = false
before Start (At k) = true
before Start End = true
before (At j) Start = false
before (At j) (At k) = is_lt (key_cmp j k)
before (At j) End = true
before End y = false

-- the place is at `low` or after it, and before `high`
abbrev pub within : KeyPlace → KeyPlace → KeyPlace → Bool
within low high x = not (before x low) && before x high

-- a cut parts the places in two: those below it, where the test is false, and those above it
pub record IsCut (p : KeyPlace → Bool) : Type 0 where
  pub begins : p Start ≡ false
  pub ends : p End ≡ true
  pub rises : (x y : KeyPlace) → before x y ≡ true → p x ≡ true → p y ≡ true

-- the cut just before the first key that isn't below the tuple
unfoldable pub not_below : FieldList → KeyPlace → Bool
not_below tuple Start = false
not_below tuple (At k) = not (is_gt (tuple_cmp tuple k))
not_below tuple End = true

-- the cut just before the first key that is above the tuple
unfoldable pub above : FieldList → KeyPlace → Bool
above tuple Start = false
above tuple (At k) = is_lt (tuple_cmp tuple k)
above tuple End = true

-- where a search with this mode cuts the keys
abbrev pub cut_of : Mode → FieldList → KeyPlace → Bool
cut_of Ge tuple = not_below tuple
cut_of G tuple = above tuple
cut_of Le tuple = above tuple
cut_of L tuple = not_below tuple

-- the mode asks for the row after its cut, and else for the row before it
abbrev pub looks_ahead : Mode → Bool
looks_ahead Ge = true
looks_ahead G = true
looks_ahead Le = false
looks_ahead L = false
