use Rattle.std.proofs.Common.{◌<◌, sym, ap, subst}
use Rattle.forest_law.specs.declared.objects.Object.TheVariants as object
use Rattle.buffer_pool.proofs.AgainLemmas.{passes_both}
use Rattle.buffer_pool.proofs.CallLemmas.{pool_has}
use Rattle.buffer_pool.proofs.GiveLemmas.{first, pool_taken, parts_then, others_then, looks_for}
use Rattle.buffer_pool.proofs.LookLemmas.{pool_after}
use Rattle.buffer_pool.proofs.looking.look_for.Goals as goal

pub find_page-found-requires-clause-there : goal.find_page-found-requires-clause-there
find_page-found-requires-clause-there g c = subst (λ s. c.args.page < s.pages)
    (sym (ap (λ t. t.shape) c.take_pool.ensures.took.hand.terms)) c.requires.there

pub find_page-found-requires-clause-known : goal.find_page-found-requires-clause-known
find_page-found-requires-clause-known g c =
    (first c.args.pass.now c.take_pool.new.pass c.requires.known c.requires.tables
    c.take_pool.ensures.took).known

pub find_page-found-requires-clause-others : goal.find_page-found-requires-clause-others
find_page-found-requires-clause-others g c =
    others_then c.args.pass.now c.take_pool.new.pass c.requires.known c.requires.tables
    c.take_pool.ensures.took c.args.page c.requires.others

pub find_page-found-requires-clause-pool : goal.find_page-found-requires-clause-pool
find_page-found-requires-clause-pool g c = let took = c.take_pool.ensures.took in (
  object.Pool took.pool,
  took.pool,
  pool_taken c.args.pass.now c.take_pool.new.pass c.requires.known c.requires.tables took,
)

pub find_page-found-requires-clause-parts : goal.find_page-found-requires-clause-parts
find_page-found-requires-clause-parts g c = parts_then c.args.pass.now c.take_pool.new.pass
    c.requires.known c.requires.tables c.take_pool.ensures.took

pub give_pool_back-requires-clause-held : goal.give_pool_back-requires-clause-held
give_pool_back-requires-clause-held g c = let took = c.take_pool.ensures.took in
    let p1 = c.take_pool.new.pass in let q1 = c.find_page-found.new.pass in
    let taken = pool_taken c.args.pass.now p1 c.requires.known c.requires.tables took in
    let after = pool_after p1 q1 (object.Pool took.pool) took.pool c.args.page
    c.find_page-found.result taken
    (c.find_page-found.ensures.did (object.Pool took.pool) took.pool taken) in
    (after.1.0, pool_has q1 after.0 (object.Pool took.pool) after.1.0 after.1.1)

pub returns-clause-did : goal.returns-clause-did
returns-clause-did g c = let took = c.take_pool.ensures.took in
    let p1 = c.take_pool.new.pass in let q1 = c.find_page-found.new.pass in
    looks_for c.args.pass.now p1 c.requires.known c.requires.tables took q1
    c.give_pool_back.new.pass c.give_pool_back.ensures.gave c.args.page c.find_page-found.result
    (c.find_page-found.ensures.did (object.Pool took.pool) took.pool
    (pool_taken c.args.pass.now p1 c.requires.known c.requires.tables took))

pub returns-clause-own : goal.returns-clause-own
returns-clause-own g c = (
  passes_both c.args.pass.now c.take_pool.new.pass c.give_pool_back.new.pass
      c.take_pool.ensures.own.0 (passes_both c.take_pool.new.pass c.find_page-found.new.pass
      c.give_pool_back.new.pass c.find_page-found.ensures.own.0 c.give_pool_back.ensures.own.0),
  c.give_pool_back.ensures.own.1,
)

pub returns-clause-fits : goal.returns-clause-fits
returns-clause-fits g c = c.give_pool_back.ensures.fits
