-- A run and an escaped byte more, or the last run.
use Rattle.std.proofs.Common.{sym, ◌∙◌, arith}
use Rattle.report_text.proofs.LineLemmas.{Extends-at_exit, Extends-at_last_exit}
use Rattle.report_text.proofs.RunLemmas.{at_within, rest_shorter, run_put, all_put}
use Rattle.report_text.proofs.field.put_bytes.Goals as goal

pub returns-in_err-put_run-clause-err : goal.returns-in_err-put_run-clause-err
returns-in_err-put_run-clause-err c = Extends-at_exit _ _ _ _ _ c.rest.invariant.grown c.in_err-put_run.ensures.err

pub rest-preserved : goal.rest-preserved
rest-preserved c = run_put _ _ _ _ _ _ (sym c.first_escape.ensures ∙ c.in-Some.is) c.in_ok-put_run.ensures.ok c.rest.invariant

pub returns-clause-ok : goal.returns-clause-ok
returns-clause-ok c = all_put _ _ _ _ _ (sym c.first_escape.ensures ∙ c.in_default.is) c.in_ok-extend_from_slice.ensures.items c.rest.invariant

pub returns-in_err-extend_from_slice-clause-err : goal.returns-in_err-extend_from_slice-clause-err
returns-in_err-extend_from_slice-clause-err c = Extends-at_last_exit _ _ _ _ _ c.rest.invariant.grown c.in_err-extend_from_slice.ensures.items

pub rest-smaller : goal.rest-smaller
rest-smaller c = rest_shorter c.rest.rest.now c.in-Some.at (sym c.first_escape.ensures ∙ c.in-Some.is)

pub slice_bounds-rest-count : goal.slice_bounds-rest-count
slice_bounds-rest-count c = let within = at_within c.rest.rest.now c.in-Some.at (sym c.first_escape.ensures ∙ c.in-Some.is) in omega (arith, within)

pub bounds-rest-at : goal.bounds-rest-at
bounds-rest-at c = at_within _ _ (sym c.first_escape.ensures ∙ c.in-Some.is)
