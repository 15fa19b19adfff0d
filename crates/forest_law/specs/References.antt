-- What is known of an object that was given back.
use Rattle.std.specs.Prelude.{◌≡◌}
use mathlib.Core.Option.{some}
use lib.ListN.{get_elem?}
use Rattle.latch_law.specs.declared.knows.Reference.{Reference}
use Rattle.forest_law.specs.declared.objects.Object.{Object}
use Rattle.forest_law.specs.State.{ForestState}
use Rattle.forest_law.specs.Clocked.{IsLaterObject}

-- the object is a later one of what it was at its release, and that a later one of what it was at
-- its take
pub record IsReference (w : ForestState) (q : Reference Object) : Type 0 where
  pub now : Object
  pub there : get_elem? w.objects q.object ≡ some now
  pub held : IsLaterObject q.taken q.released
  pub later : IsLaterObject q.released now
