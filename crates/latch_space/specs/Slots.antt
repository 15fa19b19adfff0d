-- What is in a place for a box, if there is a box.
use Rattle.std.specs.Prelude.{Option, Some, None}

module _ {O : Type 0} where
  -- what is in the box, if there is one with something in it
  abbrev pub in_box : Option (Option O) → Option O
  in_box (Some x) = x
  in_box None = None
