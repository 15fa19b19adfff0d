use Rattle.std.proofs.Common.{◌≡◌, List, [], length, replicate, refl, ap, sym, subst, ◌∙◌}
use Rattle.std.specs.List.{AllByRecursion}
use Rattle.std.specs.Prelude.{Vec}
use Rattle.std.specs.declared.alloc.Global.{Global}
use Rattle.column_counts.specs.Sums.{all_sums, count_lists}
use Rattle.index_law.specs.Shape.{Shape}
use Rattle.latch_law.specs.declared.knows.Terms.{Terms}
use Rattle.map_history.specs.declared.counts.Counts.{Counts}
use Rattle.map_history.specs.Statistics.{counts_of}
use Rattle.lane_threads.proofs.SayLemmas.{in_row}
use Rattle.lane_threads.proofs.ReadyLemmas.{all_workable}
use Rattle.lane_threads.proofs.TogetherLemmas.{terms_are, first_fresh, first_untaught, lanes_dealt, as_many_dealt, lanes_worked, not_empty, counts_long, together}
use Rattle.lane_threads.proofs.together.work_opened.Goals as goal

pub ready_lanes-requires-clause-long : goal.ready_lanes-requires-clause-long
ready_lanes-requires-clause-long g c = as_many_dealt c.args.engine.now c.args.pass.sizes c.args.fields.now c.args.lanes.now c.args.pass (c.requires.own, refl, c.requires.fresh) c.requires.untaught c.in_ok-passes.passes.items c.in_ok-passes.ensures.ok

pub ready_lanes-requires-clause-own : goal.ready_lanes-requires-clause-own
ready_lanes-requires-clause-own g c = lanes_dealt c.args.engine.now c.args.pass.sizes c.args.fields.now c.args.lanes.now c.args.pass (c.requires.own, refl, c.requires.fresh) c.requires.untaught c.in_ok-passes.passes.items c.in_ok-passes.ensures.ok

pub ready_lanes-requires-clause-indexes : goal.ready_lanes-requires-clause-indexes
ready_lanes-requires-clause-indexes g c =
    let terms = terms_are c.args.engine.now c.args.pass.sizes c.args.fields.now c.args.lanes.now c.args.pass (c.requires.own, refl, c.requires.fresh) c.requires.untaught in
    sym (ap (λ (t : Terms Shape). t.indexes) terms)

pub ready_lanes-requires-clause-lines : goal.ready_lanes-requires-clause-lines
ready_lanes-requires-clause-lines g c =
    let engine = c.args.engine.now in let sizes = c.args.pass.sizes in let fields = c.args.fields.now in let lanes = c.args.lanes.now in
    all_workable engine sizes fields _ (terms_are engine sizes fields lanes c.args.pass (c.requires.own, refl, c.requires.fresh) c.requires.untaught) lanes c.requires.lines

pub add_up-requires : goal.add_up-requires
add_up-requires g c =
    let engine = c.args.engine.now in let sizes = c.args.pass.sizes in let fields = c.args.fields.now in let lanes = c.args.lanes.now in
    let parts = c.in_ok-parts.parts in
    let long = counts_long engine sizes fields lanes c.args.pass (c.requires.own, refl, c.requires.fresh) c.requires.untaught c.in_ok-passes.passes.items c.in_ok-passes.ensures.ok
    (c.in_ok-passes.ensures.fresh (first_fresh engine sizes fields lanes c.args.pass (c.requires.own, refl, c.requires.fresh) c.requires.untaught) (first_untaught engine sizes fields lanes c.args.pass (c.requires.own, refl, c.requires.fresh) c.requires.untaught)) c.in_ok-doers.doers.items c.run_lanes-worked.result.items parts.passes.items parts.answers.items parts.logs.items parts.counts.items
    c.in_ok-doers.ensures c.run_lanes-worked.ensures c.in_ok-parts.ensures in
    subst (AllByRecursion (λ (list : Vec Counts Global). length list.items ≡ length fields)) (sym c.deref.ensures.value) long

pub gather-requires-clause-own : goal.gather-requires-clause-own
gather-requires-clause-own g c =
    let engine = c.args.engine.now in let sizes = c.args.pass.sizes in let fields = c.args.fields.now in let lanes = c.args.lanes.now in
    let parts = c.in_ok-parts.parts in
    (in_row engine 0 parts.passes.items (lanes_worked engine sizes fields lanes c.args.pass (c.requires.own, refl, c.requires.fresh) c.requires.untaught c.in_ok-passes.passes.items c.in_ok-passes.ensures.ok
    (c.in_ok-passes.ensures.fresh (first_fresh engine sizes fields lanes c.args.pass (c.requires.own, refl, c.requires.fresh) c.requires.untaught) (first_untaught engine sizes fields lanes c.args.pass (c.requires.own, refl, c.requires.fresh) c.requires.untaught)) c.in_ok-doers.doers.items c.run_lanes-worked.result.items parts.passes.items parts.answers.items parts.logs.items parts.counts.items
    c.in_ok-doers.ensures c.run_lanes-worked.ensures c.in_ok-parts.ensures)).0

pub gather-requires-clause-row : goal.gather-requires-clause-row
gather-requires-clause-row g c =
    let engine = c.args.engine.now in let sizes = c.args.pass.sizes in let fields = c.args.fields.now in let lanes = c.args.lanes.now in
    let parts = c.in_ok-parts.parts in
    (in_row engine 0 parts.passes.items (lanes_worked engine sizes fields lanes c.args.pass (c.requires.own, refl, c.requires.fresh) c.requires.untaught c.in_ok-passes.passes.items c.in_ok-passes.ensures.ok
    (c.in_ok-passes.ensures.fresh (first_fresh engine sizes fields lanes c.args.pass (c.requires.own, refl, c.requires.fresh) c.requires.untaught) (first_untaught engine sizes fields lanes c.args.pass (c.requires.own, refl, c.requires.fresh) c.requires.untaught)) c.in_ok-doers.doers.items c.run_lanes-worked.result.items parts.passes.items parts.answers.items parts.logs.items parts.counts.items
    c.in_ok-doers.ensures c.run_lanes-worked.ensures c.in_ok-parts.ensures)).1

pub unreachable-requires : goal.unreachable-requires
unreachable-requires g c =
    let engine = c.args.engine.now in let sizes = c.args.pass.sizes in let fields = c.args.fields.now in let lanes = c.args.lanes.now in
    let parts = c.in_ok-parts.parts in
    not_empty engine sizes fields lanes c.args.pass (c.requires.own, refl, c.requires.fresh) c.requires.untaught c.in_ok-passes.passes.items c.in_ok-passes.ensures.ok
    (c.in_ok-passes.ensures.fresh (first_fresh engine sizes fields lanes c.args.pass (c.requires.own, refl, c.requires.fresh) c.requires.untaught) (first_untaught engine sizes fields lanes c.args.pass (c.requires.own, refl, c.requires.fresh) c.requires.untaught)) c.in_ok-doers.doers.items c.run_lanes-worked.result.items parts.passes.items parts.answers.items parts.logs.items parts.counts.items
    c.in_ok-doers.ensures c.run_lanes-worked.ensures c.in_ok-parts.ensures c.requires.lanes c.in_default.ensures

pub returns : goal.returns
returns g c =
    let engine = c.args.engine.now in let sizes = c.args.pass.sizes in let fields = c.args.fields.now in let lanes = c.args.lanes.now in
    let parts = c.in_ok-parts.parts in
    together engine sizes fields lanes c.args.pass (c.requires.own, refl, c.requires.fresh) c.requires.untaught c.in_ok-passes.passes.items c.in_ok-passes.ensures.ok
    (c.in_ok-passes.ensures.fresh (first_fresh engine sizes fields lanes c.args.pass (c.requires.own, refl, c.requires.fresh) c.requires.untaught) (first_untaught engine sizes fields lanes c.args.pass (c.requires.own, refl, c.requires.fresh) c.requires.untaught)) c.in_ok-doers.doers.items c.run_lanes-worked.result.items parts.passes.items parts.answers.items parts.logs.items parts.counts.items
    c.in_ok-doers.ensures c.run_lanes-worked.ensures c.in_ok-parts.ensures c.in-Some.pass c.in_ok-counts.counts.items c.requires.lanes (c.in_ok-counts.ensures ∙ ap (λ (ls : List (Vec Counts Global)). all_sums (replicate (length fields) (counts_of [])) (count_lists ls)) c.deref.ensures.value) c.in-Some.ensures c.fits.ensures
