-- Cursors of the first index.
use Rattle.std.specs.Prelude.{◌≡◌, length}
use Rattle.forest_law.specs.State.{fields_for}
use Rattle.call_law.specs.Spoken.{View}
use Rattle.tree_cursor.specs.declared.cursor.Cursor.{Cursor}
use Rattle.tree_cursor.specs.Cursors.{Referred}

-- the cursor's key has as many fields as those of the first index, and may be refilled with as many
pub record MayRefill (v : View) (c : Cursor) : Type 0 where
  pub fields : length c.key.tuple ≡ fields_for v.terms.shape 0
  pub room : c.key.room ≡ fields_for v.terms.shape 0

-- so it is, and one of the pass's references says the cursor
pub record IsMarked (v : View) (c : Cursor) : Type 0 where
  pub fits : MayRefill v c
  pub referred : Referred v c

-- each cursor that may be restored by what is known once may be restored by what is known then
abbrev pub KeepsMarks : View → View → Type 0
KeepsMarks v v' = (c : Cursor) → IsMarked v c → IsMarked v' c
