use Rattle.std.proofs.Common.{ap, subst, sym, length, ◌<◌, None}
use Rattle.forest_law.specs.declared.objects.Where.TheVariants.{Free}
use Rattle.buffer_pool.specs.Turning.{PutsPage}
use Rattle.buffer_pool.proofs.PutLemmas.{same_place, same_image}
use Rattle.buffer_pool.proofs.placing.clear.Goals as goal

pub returns : goal.returns
returns c = record {
  stored = c.unload-stored.result;
  unloads = c.unload-stored.ensures;
  between = c.set_page.new.pool;
  puts = subst (λ n. PutsPage c.args.pool.now n Free None c.set_page.new.pool)
      (ap (λ z. z.number) c.head.ensures) c.set_page.ensures;
  ageless = c.forget_age.ensures;
}

pub forget_age-requires : goal.forget_age-requires
forget_age-requires c = let same = c.set_page.ensures.ages in
    subst (λ xs. c.args.block < length xs) (sym same) c.requires.age

pub set_page-requires-clause-image : goal.set_page-requires-clause-image
set_page-requires-clause-image c = let p = c.requires.places in
    same_image p c.unload-stored.result.page c.unload-stored.ensures.page c.head.result.now.number
    (ap (λ z. z.number) c.head.ensures)

pub set_page-requires-clause-place : goal.set_page-requires-clause-place
set_page-requires-clause-place c = let p = c.requires.places in
    same_place p c.unload-stored.result.page c.unload-stored.ensures.page c.head.result.now.number
    (ap (λ z. z.number) c.head.ensures)
