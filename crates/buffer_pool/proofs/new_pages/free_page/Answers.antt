use Rattle.std.proofs.Common.{inr}
use Rattle.forest_law.specs.declared.objects.Object.TheVariants as object
use Rattle.hash_maintain.specs.Leaves.{unhashed}
use Rattle.buffer_pool.proofs.AgainLemmas.{passes_both}
use Rattle.buffer_pool.proofs.FreePageLemmas.{outside_page_is, freed_both, may_free, pool_freed, frame_freed, frees_page}
use Rattle.buffer_pool.proofs.GivingLemmas.{unhashed_table}
use Rattle.buffer_pool.proofs.new_pages.free_page.Goals as goal

pub unhash_block-requires-clause-held : goal.unhash_block-requires-clause-held
unhash_block-requires-clause-held g c = let h = c.requires.held in (h.frame, h.knows)

pub unhash_block-requires-clause-may : goal.unhash_block-requires-clause-may
unhash_block-requires-clause-may g c = λ f knows.
    inr (outside_page_is c.args.pass.now c.args.block c.requires.held f knows)

pub unhash_block-requires-clause-parts : goal.unhash_block-requires-clause-parts
unhash_block-requires-clause-parts g c = c.requires.tables.parts

pub take_pool-requires-clause-lacks : goal.take_pool-requires-clause-lacks
take_pool-requires-clause-lacks g c = (unhashed_table c.args.pass.now c.unhash_block.new.pass
    c.args.block c.unhash_block.ensures.did c.requires.tables).pool

pub drop_page-requires-clause-may : goal.drop_page-requires-clause-may
drop_page-requires-clause-may g c = (
  c.requires.held.page,
  may_free c.args.pass.now c.unhash_block.new.pass c.take_pool.new.pass c.args.block
      c.unhash_block.ensures.did c.requires.tables c.take_pool.ensures.took c.requires.held,
)

pub give_pool_back-requires-clause-held : goal.give_pool_back-requires-clause-held
give_pool_back-requires-clause-held g c = let h = c.requires.held in
    let took = c.take_pool.ensures.took in let p = c.args.pass.now in
    let u = c.unhash_block.new.pass in let p1 = c.take_pool.new.pass in
    let did = c.unhash_block.ensures.did in
    pool_freed p u p1 c.args.block did c.requires.tables took h c.drop_page.new.pass
    (c.drop_page.ensures.freed h.page (object.Pool took.pool) took.pool (unhashed h.frame)
    (freed_both p u p1 c.args.block did c.requires.tables took h) h.paged)

pub give_back-requires-clause-held : goal.give_back-requires-clause-held
give_back-requires-clause-held g c = let h = c.requires.held in
    let took = c.take_pool.ensures.took in let p = c.args.pass.now in
    let u = c.unhash_block.new.pass in let p1 = c.take_pool.new.pass in
    let did = c.unhash_block.ensures.did in
    frame_freed p u p1 c.args.block did c.requires.tables took h c.drop_page.new.pass
    (c.drop_page.ensures.freed h.page (object.Pool took.pool) took.pool (unhashed h.frame)
    (freed_both p u p1 c.args.block did c.requires.tables took h) h.paged)
    c.give_pool_back.new.pass c.give_pool_back.ensures.gave

pub returns-clause-freed : goal.returns-clause-freed
returns-clause-freed g c = let h = c.requires.held in
    let took = c.take_pool.ensures.took in let p = c.args.pass.now in
    let u = c.unhash_block.new.pass in let p1 = c.take_pool.new.pass in
    let did = c.unhash_block.ensures.did in
    frees_page p u p1 c.args.block did c.requires.tables took h c.drop_page.new.pass
    (c.drop_page.ensures.freed h.page (object.Pool took.pool) took.pool (unhashed h.frame)
    (freed_both p u p1 c.args.block did c.requires.tables took h) h.paged)
    c.give_pool_back.new.pass c.give_pool_back.ensures.gave
    c.give_back.new.pass c.give_back.ensures.gave

pub returns-clause-own : goal.returns-clause-own
returns-clause-own g c = (
  passes_both c.args.pass.now c.unhash_block.new.pass c.give_back.new.pass
      c.unhash_block.ensures.own.0 (passes_both c.unhash_block.new.pass c.take_pool.new.pass
      c.give_back.new.pass c.take_pool.ensures.own.0 (passes_both c.take_pool.new.pass
      c.drop_page.new.pass c.give_back.new.pass c.drop_page.ensures.own.0 (passes_both
      c.drop_page.new.pass c.give_pool_back.new.pass c.give_back.new.pass
      c.give_pool_back.ensures.own.0 c.give_back.ensures.own.0))),
  c.give_back.ensures.own.1,
)

pub returns-clause-fits : goal.returns-clause-fits
returns-clause-fits g c = c.give_back.ensures.fits
