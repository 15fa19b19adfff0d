use Rattle.std.proofs.Common.{◌≡◌, Option, Some, None, Result, Ok, Err, IfSome, inl, length, ap, sym, subst, ◌∙◌}
use Rattle.std.proofs.lemmas.Result.{err_from_is_err_and}
use Rattle.latch_law.specs.Rule.{first_view}
use Rattle.map_history.specs.declared.sizes.Sizes.{Sizes}
use Rattle.forest_world.specs.Opening.{forest_terms}
use Rattle.lane_threads.specs.Together.{lane_texts, RanTogether}
use Rattle.lane_threads.proofs.together.work_lanes.Goals as goal

-- what was opened broke no limit
unbroken : {A B E X : Type 0} (limit : Option X) (of : X → E) (opened : A) (result : Result B E) → IfSome limit (λ s. Ok opened ≡ Err (of s)) → IfSome limit (λ s. result ≡ Err (of s))
unbroken None of opened result refused = tt
unbroken (Some s) of opened result refused = absurd cc

-- what broke a limit where nothing was opened is what the whole is refused for
broken_as : {B E X : Type 0} (A : Type 0) (limit : Option X) (of : X → E) (e : E) (result : Result B E) → result ≡ Err e → IfSome limit (λ s. ◌≡◌ {A = Result A E} (Err e) (Err (of s))) → IfSome limit (λ s. result ≡ Err (of s))
broken_as A None of e result is refused = tt
broken_as A (Some s) of e result is refused = is ∙ (let same : e ≡ of s = cc in ap Err same)

pub open-requires-clause-indexes : goal.open-requires-clause-indexes
open-requires-clause-indexes g c = c.requires.indexes

pub open-requires-clause-keyed : goal.open-requires-clause-keyed
open-requires-clause-keyed g c = c.requires.keyed

pub open-requires-clause-lanes : goal.open-requires-clause-lanes
open-requires-clause-lanes g c = c.requires.lanes

pub work_opened-requires-clause-own : goal.work_opened-requires-clause-own
work_opened-requires-clause-own g c κs lives = c.in_ok-engine.ensures.ok.0

pub work_opened-requires-clause-fresh : goal.work_opened-requires-clause-fresh
work_opened-requires-clause-fresh g c κs lives = c.in_ok-engine.ensures.ok.2 ∙ ap (λ (s : Sizes). first_view (forest_terms s c.args.fields.now (length c.args.lanes.now))) (sym c.in_ok-engine.ensures.ok.1)

pub work_opened-requires-clause-untaught : goal.work_opened-requires-clause-untaught
work_opened-requires-clause-untaught g c κs lives = c.in_ok-engine.ensures.untaught

pub work_opened-requires-clause-lanes : goal.work_opened-requires-clause-lanes
work_opened-requires-clause-lanes g c κs lives = c.requires.lanes.0

pub work_opened-requires-clause-lines : goal.work_opened-requires-clause-lines
work_opened-requires-clause-lines g c κs lives = c.requires.lines

pub returns-clause-ok : goal.returns-clause-ok
returns-clause-ok g c =
    let work = c.in_ok-work_opened.field-0 in
    subst (λ (s : Sizes). RanTogether s c.args.fields.now (lane_texts c.args.lanes.now) work.answers.items work.logs.items work.counts.items work.pass) c.in_ok-engine.ensures.ok.1 c.in_ok-work_opened.ensures

pub returns-clause-refused : goal.returns-clause-refused
returns-clause-refused g c = unbroken _ _ _ _ c.in_ok-engine.ensures.refused

pub returns-in_err-work_opened-clause-refused : goal.returns-in_err-work_opened-clause-refused
returns-in_err-work_opened-clause-refused g c = unbroken _ _ _ _ c.in_ok-engine.ensures.refused

pub returns-in_err-engine-clause-ok : goal.returns-in_err-engine-clause-ok
returns-in_err-engine-clause-ok g c =
    let p = err_from_is_err_and c.from_residual.result c.from_residual.ensures.1 in
    rw p.1 tt

pub returns-in_err-engine-clause-refused : goal.returns-in_err-engine-clause-refused
returns-in_err-engine-clause-refused g c =
    let p = err_from_is_err_and c.from_residual.result c.from_residual.ensures.1 in
    broken_as _ _ _ _ c.from_residual.result (p.1 ∙ ap Err p.2) c.in_err-engine.ensures.refused

pub returns-in_err-engine-clause-cause : goal.returns-in_err-engine-clause-cause
returns-in_err-engine-clause-cause g c =
    let p = err_from_is_err_and c.from_residual.result c.from_residual.ensures.1 in
    rw (p.1, p.2) c.in_err-engine.ensures.cause

pub returns-in_err-work_opened-clause-cause : goal.returns-in_err-work_opened-clause-cause
returns-in_err-work_opened-clause-cause g c =
    let p = err_from_is_err_and c.from_residual-in_err-work_opened.result c.from_residual-in_err-work_opened.ensures.1 in
    rw p.1 (inl p.2)
