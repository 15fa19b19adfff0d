-- Lines that an engine can be asked.
use Rattle.std.specs.Prelude.{◌<◌, List}
use Rattle.std.specs.List.{AllByRecursion}
use Rattle.map_history.specs.declared.op.Op.{Op}
use Rattle.map_history.specs.declared.op.Op.TheVariants as op
use Rattle.map_history.specs.declared.line.Line.{Line}
use Rattle.index_engine.specs.declared.engine.Engine.{Engine}
use Rattle.index_engine.specs.Engines.{indexes_of, FitsKey, FitsTuple}

-- an operation, other than a scan, of an index that there is, with as many fields in its key, or no
-- more in its tuple
abbrev pub IsWorkableOp : Engine → Op → Type 0
IsWorkableOp engine (op.Get index key) = (index < indexes_of engine)
    × FitsKey engine index key.tuple
IsWorkableOp engine (op.Put index key value) = (index < indexes_of engine)
    × FitsKey engine index key.tuple
IsWorkableOp engine (op.Set index key value) = (index < indexes_of engine)
    × FitsKey engine index key.tuple
IsWorkableOp engine (op.Del index key) = (index < indexes_of engine)
    × FitsKey engine index key.tuple
IsWorkableOp engine (op.Seek index mode tuple) = (index < indexes_of engine)
    × FitsTuple engine index tuple.fields
IsWorkableOp engine (op.Scan index from to limit) = ⊥

-- a line whose operation is that
abbrev pub IsWorkable : Engine → Line → Type 0
IsWorkable engine line = IsWorkableOp engine line.op

-- lines that all are
abbrev pub AreWorkable : Engine → List Line → Type 0
AreWorkable engine lines = AllByRecursion (IsWorkable engine) lines
