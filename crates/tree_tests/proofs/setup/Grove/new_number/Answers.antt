use Rattle.std.proofs.Common.{◌≡◌, sym, ap, ◌∙◌, Some, None}
use Rattle.latch_space.specs.Passes.{view}
use Rattle.index_page.specs.Page.{PageRows}
use Rattle.forest_law.specs.declared.objects.Frame.{Frame}
use Rattle.forest_world.specs.Held.{shape_of_pass}
use Rattle.call_law.proofs.TableLemmas.{table_no_frame, tables_lacked}
use Rattle.buffer_pool.proofs.CallLemmas.{frame_has}
use Rattle.tree_tests.proofs.EmptyLemmas.{none_has_outside, none_has_table}
use Rattle.tree_tests.proofs.setup.Grove.new_number.Goals as goal

pub new_page-requires-clause-inside : goal.new_page-requires-clause-inside
new_page-requires-clause-inside g c = let grove = c.args.self.now in
    none_has_outside grove.pass grove.nothing

pub new_page-requires-clause-tables : goal.new_page-requires-clause-tables
new_page-requires-clause-tables g c = let grove = c.args.self.now in
    none_has_table grove.space grove.pass grove.forest grove.own grove.nothing

no_page : (page : PageRows) → None ≡ Some page → ⊥
no_page page e = absurd cc

pub unreachable-requires : goal.unreachable-requires
unreachable-requires g c = let got = c.in_ok-block.ensures.ok in
    no_page _
    (sym c.in-None.is
    ∙ (ap (λ (f : Frame). f.page)
    (c.frame.ensures got.frame got.frame
    (frame_has c.new_page.new.pass got.silently.does.known c.in_ok-block.block got.frame
    got.knows)) ∙ got.has.page))

pub free_page-requires-clause-tables : goal.free_page-requires-clause-tables
free_page-requires-clause-tables g c = let grove = c.args.self.now in
    let does = c.in_ok-block.ensures.ok.silently.does in
    tables_lacked (view grove.pass) (view c.new_page.new.pass)
    (ap (λ t. t.shape) does.adds.numbers.terms) (λ k table lacked. does.rest k
    (table_no_frame (shape_of_pass grove.pass) k c.in_ok-block.block table, tt) ∙ lacked)
    (none_has_table grove.space grove.pass grove.forest grove.own grove.nothing)
