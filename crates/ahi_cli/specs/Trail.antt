-- The pass that a call leaves.
use Rattle.std.specs.Prelude.{ℕ, ◌≡◌, ◌≢◌, List, Option, None}
use Rattle.std.specs.Option.{IsSomeAnd}
use Rattle.lane_threads.specs.Engine.{EnginePass}
use Rattle.ahi_cli.specs.declared.status.Status.{Status}
use Rattle.ahi_cli.specs.declared.status.Status.TheVariants.{Done}
use Rattle.ahi_cli.specs.Ends.{Output, IsWritten}

-- where the call is done, it leaves a pass that did what was written, and else none
pub record LeavesTrail (DidBy : EnginePass → List ℕ → Type 0) (out : Output)
    (trail : Option EnginePass) (status : Status) : Type 0 where
  pub done : status ≡ Done → IsSomeAnd trail (λ pass. IsWritten (DidBy pass) out)
  pub other : status ≢ Done → trail ≡ None
