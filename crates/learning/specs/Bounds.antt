-- What an index of so many fields may ask for, and be told.
use Rattle.std.specs.Prelude.{◌≡◌, ℕ, ◌≤◌}
use Rattle.key_tuple.specs.Fold.{asked_fields}
use Rattle.key_tuple.specs.declared.TheConstants.{MAX_KEY_BYTES}
use Rattle.learning.specs.declared.info.Info.{Info}
use Rattle.learning.specs.declared.event.Descent.{Descent}
use Rattle.learning.specs.declared.event.Event.{Event}
use Rattle.learning.specs.declared.event.Event.TheVariants.{Hit, Miss, Descent as Down}
use Rattle.learning.specs.declared.event.Figures.{Figures}
use Rattle.learning.specs.Word.{FitsWord}

-- what an index of so many fields may know: its prefix asks for no more fields, and all fits the
-- word
pub record IsInfoOf (unique : ℕ) (info : Info) : Type 0 where
  pub asks : asked_fields info.params ≤ unique
  pub fits : FitsWord info

-- how far tuples of an index of so many fields may agree with its rows
pub record AreFiguresOf (unique : ℕ) (f : Figures) : Type 0 where
  pub low_fields : f.low.fields ≤ unique
  pub up_fields : f.up.fields ≤ unique
  pub low_bytes : f.low.bytes ≤ MAX_KEY_BYTES
  pub up_bytes : f.up.bytes ≤ MAX_KEY_BYTES

-- a descent in an index of so many fields
pub record IsDescentOf (unique : ℕ) (d : Descent) : Type 0 where
  pub fields : d.unique ≡ unique
  pub figures : AreFiguresOf unique d.figures
  pub advice : asked_fields d.block.advice ≤ unique

-- an event in an index of so many fields
abbrev pub IsEventOf : ℕ → Event → Type 0
IsEventOf unique Hit = Unit {0}
IsEventOf unique Miss = Unit {0}
IsEventOf unique (Down d) = IsDescentOf unique d
