-- The engine that lanes work with, its pass and its error, and what a pass of it knows and learnt.
pub use Rattle.index_engine.specs.declared.engine.Engine.{Engine}
pub use Rattle.index_engine.specs.declared.engine.EnginePass.{EnginePass}
pub use Rattle.index_engine.specs.declared.error.EngineError.{EngineError}
pub use Rattle.index_engine.specs.Engines.{known, lessons_of, IsOf, IsSame, indexes_of}
pub use Rattle.index_engine.specs.Learners.{nothing_learnt}
