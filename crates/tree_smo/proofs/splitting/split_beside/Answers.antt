use Rattle.std.proofs.Common.{◌<◌, ◌^◌, ◌∷◌, refl, sym, ap, subst, arith, Err}
use Rattle.latch_space.specs.Passes.{view}
use Rattle.index_law.specs.Shape.{Shape}
use Rattle.buffer_pool.proofs.SpaceLemmas.{objects_of}
use Rattle.buffer_pool.proofs.AgainLemmas.{passes_both}
use Rattle.tree_smo.specs.Plans.{next_blocks}
use Rattle.tree_smo.proofs.InsideLemmas.{none_outside_but, plan_inside}
use Rattle.tree_smo.proofs.BesideLemmas.{index_below, fields_are, plan_still, holds_outside, no_table, still_no_table, splits_beside, gets_nothing, memory_not_full, page_not_refused}
use Rattle.tree_smo.proofs.SilentLemmas.{does_shape}
use Rattle.tree_smo.proofs.splitting.split_beside.Goals as goal

pub new_page-requires-clause-index : goal.new_page-requires-clause-index
new_page-requires-clause-index g c = let f = c.fits.ensures in
    index_below c.args.pass.now f.whole f.is_lawful f.fits c.args.plan c.requires.held

pub new_page-requires-clause-fields : goal.new_page-requires-clause-fields
new_page-requires-clause-fields g c = let f = c.fits.ensures in
    fields_are c.args.pass.now f.whole f.is_lawful f.fits c.args.plan c.requires.held

pub new_page-requires-clause-inside : goal.new_page-requires-clause-inside
new_page-requires-clause-inside g c = let p = c.args.pass.now in let plan = c.args.plan in
    let own = c.requires.own in
    none_outside_but p (plan.parent ∷ plan.child ∷ next_blocks plan.next)
    (objects_of c.args.space.now p own.0 own.1) c.requires.frames
    (plan_inside (view p) plan c.requires.held)

pub returns-in_err-right-clause-full : goal.returns-in_err-right-clause-full
returns-in_err-right-clause-full g c = λ e. let r = rw e at c.from_residual.ensures in
    c.in_err-right.ensures.full (ap Err (sym r.1))

pub returns-in_err-right-clause-memory : goal.returns-in_err-right-clause-memory
returns-in_err-right-clause-memory g c = λ e. let r = rw e at c.from_residual.ensures in
    c.in_err-right.ensures.memory (ap Err (sym r.1))

pub split_hashed-requires-clause-parts : goal.split_hashed-requires-clause-parts
split_hashed-requires-clause-parts g c =
    (no_table c.args.pass.now c.new_page.new.pass c.args.plan.head c.in_ok-right.right
    c.in_ok-right.ensures.ok c.requires.tables).parts

pub split_hashed-requires-clause-known : goal.split_hashed-requires-clause-known
split_hashed-requires-clause-known g c = c.in_ok-right.ensures.ok.silently.does.known

pub split_hashed-requires-clause-few : goal.split_hashed-requires-clause-few
split_hashed-requires-clause-few g c = subst (λ (s : Shape). s.pages < 2 ^ 32)
    (sym (does_shape c.args.pass.now c.new_page.new.pass _ _
    c.in_ok-right.ensures.ok.silently.does)) c.requires.few

pub split_hashed-requires-clause-room : goal.split_hashed-requires-clause-room
split_hashed-requires-clause-room g c = let counted = c.in_ok-right.ensures.ok.count in
    let room = c.requires.room in omega (arith, counted, room)

pub free_page-requires-clause-known : goal.free_page-requires-clause-known
free_page-requires-clause-known g c = c.in-Err.ensures.err.silently.does.known

pub free_page-requires-clause-room : goal.free_page-requires-clause-room
free_page-requires-clause-room g c = let counted = c.in_ok-right.ensures.ok.count in
    let same = c.in-Err.ensures.err.count in let room = c.requires.room in
    omega (arith, counted, same, room)

pub split_hashed-requires-clause-held : goal.split_hashed-requires-clause-held
split_hashed-requires-clause-held g c =
    plan_still c.args.pass.now c.new_page.new.pass c.args.plan.head c.in_ok-right.right
    c.in_ok-right.ensures.ok c.args.plan c.requires.held

pub split_hashed-requires-clause-blank : goal.split_hashed-requires-clause-blank
split_hashed-requires-clause-blank g c = let got = c.in_ok-right.ensures.ok in
    (got.frame, got.knows, got.number, got.has)

pub free_page-requires-clause-held : goal.free_page-requires-clause-held
free_page-requires-clause-held g c =
    holds_outside c.args.pass.now c.new_page.new.pass c.args.plan.head c.in_ok-right.right
    c.in_ok-right.ensures.ok c.split_hashed.new.pass c.in-Err.ensures.err

pub free_page-requires-clause-tables : goal.free_page-requires-clause-tables
free_page-requires-clause-tables g c =
    still_no_table c.args.pass.now c.new_page.new.pass c.args.plan.head c.in_ok-right.right
    c.in_ok-right.ensures.ok c.split_hashed.new.pass c.in-Err.ensures.err c.requires.tables

pub returns-in-Ok-clause-ok : goal.returns-in-Ok-clause-ok
returns-in-Ok-clause-ok g c =
    splits_beside c.args.pass.now c.new_page.new.pass c.args.plan.head c.in_ok-right.right
    c.in_ok-right.ensures.ok c.split_hashed.new.pass c.args.plan refl c.requires.held
    c.in-Ok.ensures.ok

pub returns-in-Err-clause-full : goal.returns-in-Err-clause-full
returns-in-Err-clause-full g c = λ e. absurd (memory_not_full _ refl e)

pub returns-in-Err-clause-memory : goal.returns-in-Err-clause-memory
returns-in-Err-clause-memory g c = λ e.
    gets_nothing c.args.pass.now c.new_page.new.pass c.args.plan.head c.in_ok-right.right
    c.in_ok-right.ensures.ok c.split_hashed.new.pass c.free_page.new.pass c.in-Err.ensures.err
    c.free_page.ensures.freed

pub returns-in-Ok-clause-own : goal.returns-in-Ok-clause-own
returns-in-Ok-clause-own g c = (
  passes_both c.args.pass.now c.new_page.new.pass c.split_hashed.new.pass c.new_page.ensures.own.0
      c.split_hashed.ensures.own.0,
  c.split_hashed.ensures.own.1,
)

pub returns-in-Err-clause-own : goal.returns-in-Err-clause-own
returns-in-Err-clause-own g c = (
  passes_both c.args.pass.now c.new_page.new.pass c.free_page.new.pass c.new_page.ensures.own.0
      (passes_both c.new_page.new.pass c.split_hashed.new.pass c.free_page.new.pass
      c.split_hashed.ensures.own.0 c.free_page.ensures.own.0),
  c.free_page.ensures.own.1,
)

pub returns-in-Ok-clause-full : goal.returns-in-Ok-clause-full
returns-in-Ok-clause-full g c = λ e. absurd (page_not_refused _ _ e)

pub returns-in-Ok-clause-memory : goal.returns-in-Ok-clause-memory
returns-in-Ok-clause-memory g c = λ e. absurd (page_not_refused _ _ e)
