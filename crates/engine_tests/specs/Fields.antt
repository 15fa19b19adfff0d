-- How many fields the keys of an engine have.
use Rattle.std.specs.Prelude.{ℕ, ◌≡◌, ◌<◌}
use mathlib.Core.Option.{some}
use lib.ListN.{get_elem?}
use Rattle.index_engine.specs.declared.engine.Engine.{Engine}
use Rattle.index_engine.specs.Engines.{indexes_of}

-- there is an index, and the keys of the first one have so many fields
abbrev pub FirstHasFields : Engine → ℕ → Type 0
FirstHasFields engine n =
    (0 < indexes_of engine) × (get_elem? engine.space.terms.shape.fields 0 ≡ some n)
