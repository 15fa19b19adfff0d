-- What the search of a call met.
use Rattle.std.specs.Prelude.{ℕ, ◌≡◌, Option, List}
use Rattle.key_tuple.specs.Order.{FieldList}
use Rattle.key_tuple.specs.declared.mode.Mode.{Mode}
use Rattle.map_history.specs.declared.reply.Piece.{Piece}
use Rattle.map_history.specs.Map.{Map}
use Rattle.map_history.specs.Report.{Columns}
use Rattle.forest_world.specs.Held.{TreePass}
use Rattle.leaf_search.specs.declared.searched.Searched.{Searched}
use Rattle.leaf_search.specs.Searches.{columns_found}
use Rattle.leaf_search.specs.Traces.{SearchTrace}
use Rattle.index_seeks.specs.SeekSearches.{SeekTrace}
use Rattle.index_scans.specs.Scans.{RunsScan}
use Rattle.index_engine.specs.declared.engine.EnginePass.{EnginePass}
use Rattle.index_engine.specs.Engines.{lessons_of}

-- the leaf of the key was searched for once, with this mode: one guess was made, and where that led
-- nowhere a way down was gone, which was learnt from; and these columns tell so
pub record SearchedFor (p : EnginePass) (i : ℕ) (mode : Mode) (key : FieldList) (columns : Columns)
    (q : EnginePass) : Type 0 where
  pub searched : Searched
  pub between : TreePass
  pub trace : SearchTrace p.world (lessons_of p) i mode key searched between (lessons_of q)
  pub told : columns ≡ columns_found searched

-- the row of a seek was sought once: one guess was made, and where that led nowhere a way down was
-- gone, which was learnt from; and these columns tell so
abbrev pub SoughtFor : EnginePass → ℕ → Mode → FieldList → Columns → EnginePass → Type 0
SoughtFor p i mode tuple columns q =
    SeekTrace p.world (lessons_of p) i mode tuple columns (lessons_of q)

-- a scan found its first leaf so, and ran on from there
abbrev pub RunsFor : EnginePass → ℕ → FieldList → Option FieldList → ℕ → List Piece → Map → EnginePass
    → Type 0
RunsFor p i from to limit pieces rows q =
    RunsScan p.world (lessons_of p) i from to limit pieces rows q.world (lessons_of q)
