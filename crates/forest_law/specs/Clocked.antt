-- Each object is a later one of what it was.
use Rattle.clock_law.specs.ModifyClock.{IsLater}
use Rattle.forest_law.specs.declared.objects.Object.{Object}
use Rattle.forest_law.specs.State.{object_mark}

-- the object is a later one: a frame with a later mark, and any other as it may be
abbrev pub IsLaterObject : Object → Object → Type 0
IsLaterObject x y = IsLater (object_mark x) (object_mark y)
