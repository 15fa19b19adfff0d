-- Lanes before and after they work.
use Rattle.std.specs.Prelude.{ℕ, ◌≡◌, ◌<◌, Some, IfSome, Vec, vec_len, vec_capacity, List, [], ◌∷◌, ◌++◌, map}
use Rattle.std.specs.List.{AllZip, zip}
use Rattle.std.specs.declared.alloc.Global.{Global}
use Rattle.change_log.specs.Log.{Log}
use Rattle.map_history.specs.declared.counts.Counts.{Counts}
use Rattle.map_history.specs.declared.line.Line.{Line}
use Rattle.map_history.specs.Lines.{line_texts}
use Rattle.lane_threads.specs.Engine.{Engine, EnginePass, IsOf, IsSame}
use Rattle.lane_threads.specs.Works.{Works}
use Rattle.lane_threads.specs.declared.apart.Parts.{Parts}
use Rattle.lane_threads.specs.declared.doer.DoneLane.{DoneLane}
use Rattle.lane_threads.specs.declared.doer.LaneDoer.{LaneDoer}
use Rattle.lane_threads.specs.declared.doer.ReadyLane.{ReadyLane}

-- the lane worked all its lines, by the same pass
pub record DoesLane (lane : ReadyLane) (done : DoneLane) : Type 0 where
  pub same : IsSame lane.pass done.pass
  pub own : IsOf lane.engine.now done.pass
  pub works : Works lane.pass done.pass (line_texts lane.lines.now) done.work.answers done.work.log
      done.work.counts.items

-- a lane that could work is done, unless memory lacked
abbrev pub WorkedOnce : LaneDoer → LaneDoer → Type 0
WorkedOnce old new = IfSome old.ready (λ lane. IfSome new.done (DoesLane lane))

-- the doer is ready to work these lines by this pass
pub record IsReadyFor (engine : Engine) (pass : EnginePass) (lines : List Line)
    (doer : LaneDoer) : Type 0 where
  pub lane : ReadyLane
  pub ready : doer.ready ≡ Some lane
  pub engine_is : lane.engine.now ≡ engine
  pub pass_is : lane.pass ≡ pass
  pub lines_are : lane.lines.now ≡ lines

-- each doer is ready to work the lines at its place by the pass at its place
abbrev pub AreReadyFor : Engine → List EnginePass → List (Vec Line Global) → List LaneDoer → Type 0
AreReadyFor engine passes lanes doers = AllZip
    (λ (given : EnginePass × Vec Line Global) (doer : LaneDoer).
    IsReadyFor engine given.0 given.1.items doer)
    (zip passes lanes) doers

-- these passes, answers, logs and counts are those of the doers, all of which are done
pub record AreParts (doers : List LaneDoer) (passes : List EnginePass)
    (texts : List (List (List ℕ))) (logs : List Log)
    (counts : List (Vec Counts Global)) : Type 0 where
  pub done : List DoneLane
  pub all_done : map (λ (d : LaneDoer). d.done) doers ≡ map Some done
  pub passes_are : passes ≡ map (λ (d : DoneLane). d.pass) done
  pub texts_are : texts ≡ map (λ (d : DoneLane). d.work.answers) done
  pub logs_are : logs ≡ map (λ (d : DoneLane). d.work.log) done
  pub counts_are : counts ≡ map (λ (d : DoneLane). d.work.counts) done

-- the parts are those of the doers
abbrev pub ArePartsOf : List LaneDoer → Parts → Type 0
ArePartsOf doers parts = AreParts doers parts.passes.items parts.answers.items parts.logs.items
    parts.counts.items

-- the parts of the doer were put behind those of the others
abbrev pub AddsPartsOf : LaneDoer → Parts → Parts → Type 0
AddsPartsOf doer old new = (doers : List LaneDoer) → ArePartsOf doers old
    → ArePartsOf (doers ++ doer ∷ []) new

-- the list has what it had, and room for one more
abbrev pub HasRoomBehind : {X : Type 0} → Vec X Global → Vec X Global → Type 0
HasRoomBehind old new = (new.items ≡ old.items) × (vec_len new < vec_capacity new)

-- each list of parts has
pub record GetsRoom (old new : Parts) : Type 0 where
  pub passes : HasRoomBehind old.passes new.passes
  pub answers : HasRoomBehind old.answers new.answers
  pub logs : HasRoomBehind old.logs new.logs
  pub counts : HasRoomBehind old.counts new.counts
