-- What is said where no page number is free.
use Rattle.std.specs.Prelude.{map}
use Rattle.index_law.specs.Answers.{Saying, Full}
use Rattle.index_law.specs.Answers as told
use Rattle.forest_law.specs.declared.objects.Where as place
use Rattle.buffer_pool.specs.declared.full.FullPool.{FullPool}

-- a page's place, as it is said
abbrev pub told_place : place.Where → told.Where
told_place place.TheVariants.Free = told.Free
told_place (place.TheVariants.InFrame block) = told.InFrame block
told_place place.TheVariants.Image = told.Image

-- what a full pool says: where each page is
abbrev pub full_by : FullPool → Saying
full_by f = Full (map told_place f.pool.now.place.items)
