use Rattle.std.proofs.Common.{ap, subst, Some}
use Rattle.forest_law.specs.declared.objects.Where.TheVariants.{Image}
use Rattle.buffer_pool.specs.Turning.{PutsPage}
use Rattle.buffer_pool.proofs.PutLemmas.{same_place, same_image}
use Rattle.buffer_pool.proofs.victims.set_aside.Goals as goal

pub returns : goal.returns
returns c = record {
  stored = c.unload-stored.result;
  unloads = c.unload-stored.ensures;
  puts = subst (λ n. PutsPage c.args.pool.now n Image (Some c.unload-stored.result) c.set_page.new.pool)
      (ap (λ z. z.number) c.head.ensures) c.set_page.ensures;
}

pub set_page-requires-clause-place : goal.set_page-requires-clause-place
set_page-requires-clause-place c =
    same_place c.requires c.unload-stored.result.page c.unload-stored.ensures.page
    c.head.result.now.number (ap (λ z. z.number) c.head.ensures)

pub set_page-requires-clause-image : goal.set_page-requires-clause-image
set_page-requires-clause-image c =
    same_image c.requires c.unload-stored.result.page c.unload-stored.ensures.page
    c.head.result.now.number (ap (λ z. z.number) c.head.ensures)
