use Rattle.std.proofs.Common.{ap, ◌∙◌, replicate, refl}
use Rattle.index_law.specs.Shape.{Shape}
use Rattle.forest_law.proofs.FirstLemmas.{first_pool_is}
use Rattle.forest_law.proofs.opening.first_pool.Goals as goal

pub returns : goal.returns
returns c =
    first_pool_is c.args.layout.now (record {
      place = c.in_ok-first_places.field-0;
      images = c.in_ok-first_images.field-0;
      ages = c.in_ok-new.field-0;
      tick = 0;
    }) c.requires.room c.in_ok-first_places.ensures c.in_ok-first_images.ensures
    (c.in_ok-new.ensures
    ∙ ap (λ (z : Shape). replicate z.blocks 0) c.layout.view_is) refl
