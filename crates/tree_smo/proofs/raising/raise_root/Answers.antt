use Rattle.std.proofs.Common.{◌<◌, ◌≤◌, [], ◌∷◌, refl, sym, ap, subst, arith, Err}
use Rattle.latch_space.specs.Passes.{view}
use Rattle.index_law.specs.Shape.{Shape}
use Rattle.buffer_pool.proofs.SpaceLemmas.{objects_of}
use Rattle.buffer_pool.proofs.AgainLemmas.{passes_both}
use Rattle.buffer_pool.proofs.CallLemmas.{frame_has}
use Rattle.tree_smo.proofs.InsideLemmas.{none_outside_but, knows_inside}
use Rattle.buffer_pool.specs.NewPages.{FindsNoneFree}
use Rattle.tree_smo.proofs.BesideLemmas.{holds_outside, no_table, still_no_table, gets_nothing, memory_not_full, page_not_refused}
use Rattle.tree_smo.proofs.RootLemmas.{root_page, index_is, index_there, root_fields, root_got, storeys_held, raises_root}
use Rattle.tree_smo.proofs.SilentLemmas.{does_shape}
use Rattle.tree_smo.proofs.raising.raise_root.Goals as goal

pub head_of-head-requires : goal.head_of-head-requires
head_of-head-requires g c =
    root_page c.args.pass.now c.requires.known c.args.index c.args.root c.requires.held
    c.frame.result.now c.frame.ensures

pub new_page-requires-clause-index : goal.new_page-requires-clause-index
new_page-requires-clause-index g c =
    index_there c.args.pass.now c.requires.known c.args.index c.args.root c.requires.held
    c.frame.result.now c.frame.ensures c.head_of-head.result c.head_of-head.ensures.head
    c.requires.index

pub new_page-requires-clause-fields : goal.new_page-requires-clause-fields
new_page-requires-clause-fields g c = let f = c.fits.ensures in
    root_fields c.args.pass.now c.requires.known c.args.index c.args.root c.requires.held
    c.frame.result.now c.frame.ensures c.head_of-head.result c.head_of-head.ensures.head
    f.whole f.is_lawful f.fits

pub new_page-requires-clause-inside : goal.new_page-requires-clause-inside
new_page-requires-clause-inside g c = let p = c.args.pass.now in let own = c.requires.own in
    let can = c.requires.held in
    none_outside_but p (c.args.root ∷ []) (objects_of c.args.space.now p own.0 own.1)
    c.requires.frames (
      knows_inside (view p) c.args.root c.args.index can.level can.root
          can.knows_root can.page,
      tt,
    )

pub returns-in_err-under-clause-full : goal.returns-in_err-under-clause-full
returns-in_err-under-clause-full g c = λ e. let r = rw e at c.from_residual.ensures in
    subst (λ i. FindsNoneFree c.args.pass.now i c.new_page.new.pass)
    (index_is c.args.pass.now c.requires.known c.args.index c.args.root c.requires.held
    c.frame.result.now c.frame.ensures c.head_of-head.result c.head_of-head.ensures.head)
    (c.in_err-under.ensures.full (ap Err (sym r.1)))

pub returns-in_err-under-clause-memory : goal.returns-in_err-under-clause-memory
returns-in_err-under-clause-memory g c = λ e. let r = rw e at c.from_residual.ensures in
    c.in_err-under.ensures.memory (ap Err (sym r.1))

pub raise_hashed-requires-clause-parts : goal.raise_hashed-requires-clause-parts
raise_hashed-requires-clause-parts g c =
    (no_table c.args.pass.now c.new_page.new.pass c.head_of-head.result c.in_ok-under.under
    c.in_ok-under.ensures.ok c.requires.tables).parts

pub raise_hashed-requires-clause-index : goal.raise_hashed-requires-clause-index
raise_hashed-requires-clause-index g c = subst (λ (s : Shape). c.args.index < s.indexes)
    (sym (does_shape c.args.pass.now c.new_page.new.pass _ _
    c.in_ok-under.ensures.ok.silently.does)) c.requires.index

pub raise_hashed-requires-clause-few : goal.raise_hashed-requires-clause-few
raise_hashed-requires-clause-few g c = subst (λ (s : Shape). s.pages ≤ 65536)
    (sym (does_shape c.args.pass.now c.new_page.new.pass _ _
    c.in_ok-under.ensures.ok.silently.does)) c.requires.few

pub raise_hashed-requires-clause-known : goal.raise_hashed-requires-clause-known
raise_hashed-requires-clause-known g c = c.in_ok-under.ensures.ok.silently.does.known

pub raise_hashed-requires-clause-room : goal.raise_hashed-requires-clause-room
raise_hashed-requires-clause-room g c = let counted = c.in_ok-under.ensures.ok.count in
    let room = c.requires.room in omega (arith, counted, room)

pub free_page-requires-clause-known : goal.free_page-requires-clause-known
free_page-requires-clause-known g c = c.in-Err.ensures.err.silently.does.known

pub free_page-requires-clause-room : goal.free_page-requires-clause-room
free_page-requires-clause-room g c = let counted = c.in_ok-under.ensures.ok.count in
    let same = c.in-Err.ensures.err.count in let room = c.requires.room in
    omega (arith, counted, same, room)

pub raise_hashed-requires-clause-held : goal.raise_hashed-requires-clause-held
raise_hashed-requires-clause-held g c = let p = c.args.pass.now in
    storeys_held p c.new_page.new.pass c.args.index c.args.root c.in_ok-under.under c.requires.held
    (root_got p c.requires.known c.args.index c.args.root c.requires.held
    c.frame.result.now c.frame.ensures c.head_of-head.result c.head_of-head.ensures.head
    c.in_ok-under.under c.new_page.new.pass
    c.in_ok-under.ensures.ok) c.requires.index

pub free_page-requires-clause-held : goal.free_page-requires-clause-held
free_page-requires-clause-held g c =
    holds_outside c.args.pass.now c.new_page.new.pass c.head_of-head.result c.in_ok-under.under
    c.in_ok-under.ensures.ok c.raise_hashed.new.pass c.in-Err.ensures.err

pub free_page-requires-clause-tables : goal.free_page-requires-clause-tables
free_page-requires-clause-tables g c =
    still_no_table c.args.pass.now c.new_page.new.pass c.head_of-head.result c.in_ok-under.under
    c.in_ok-under.ensures.ok c.raise_hashed.new.pass c.in-Err.ensures.err c.requires.tables

pub returns-in-Ok-clause-ok : goal.returns-in-Ok-clause-ok
returns-in-Ok-clause-ok g c = let p = c.args.pass.now in
    raises_root p c.new_page.new.pass c.args.index c.args.root c.in_ok-under.under c.requires.held
    (root_got p c.requires.known c.args.index c.args.root c.requires.held
    c.frame.result.now c.frame.ensures c.head_of-head.result c.head_of-head.ensures.head
    c.in_ok-under.under c.new_page.new.pass
    c.in_ok-under.ensures.ok) c.requires.index c.raise_hashed.new.pass c.in-Ok.ensures.ok

pub returns-in-Err-clause-full : goal.returns-in-Err-clause-full
returns-in-Err-clause-full g c = λ e. absurd (memory_not_full _ refl e)

pub returns-in-Err-clause-memory : goal.returns-in-Err-clause-memory
returns-in-Err-clause-memory g c = λ e.
    gets_nothing c.args.pass.now c.new_page.new.pass c.head_of-head.result c.in_ok-under.under
    c.in_ok-under.ensures.ok c.raise_hashed.new.pass c.free_page.new.pass c.in-Err.ensures.err
    c.free_page.ensures.freed

pub frame-requires-clause-held : goal.frame-requires-clause-held
frame-requires-clause-held g c = let can = c.requires.held in
    (can.root, can.root, frame_has c.args.pass.now c.requires.known c.args.root can.root can.knows_root)

pub returns-in-Ok-clause-own : goal.returns-in-Ok-clause-own
returns-in-Ok-clause-own g c = (
  passes_both c.args.pass.now c.new_page.new.pass c.raise_hashed.new.pass c.new_page.ensures.own.0
      c.raise_hashed.ensures.own.0,
  c.raise_hashed.ensures.own.1,
)

pub returns-in-Err-clause-own : goal.returns-in-Err-clause-own
returns-in-Err-clause-own g c = (
  passes_both c.args.pass.now c.new_page.new.pass c.free_page.new.pass c.new_page.ensures.own.0
      (passes_both c.new_page.new.pass c.raise_hashed.new.pass c.free_page.new.pass
      c.raise_hashed.ensures.own.0 c.free_page.ensures.own.0),
  c.free_page.ensures.own.1,
)

pub returns-in-Ok-clause-full : goal.returns-in-Ok-clause-full
returns-in-Ok-clause-full g c = λ e. absurd (page_not_refused _ _ e)

pub returns-in-Ok-clause-memory : goal.returns-in-Ok-clause-memory
returns-in-Ok-clause-memory g c = λ e. absurd (page_not_refused _ _ e)
