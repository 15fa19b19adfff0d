-- How many there are of each.
use Rattle.std.specs.Prelude.{ℕ, ◌≡◌, ◌<◌, ◌≤◌, List, length}
use Rattle.index_law.specs.Shape.{Shape}
use Rattle.index_law.specs.State.{Entries}
use Rattle.forest_law.specs.declared.objects.Pool.{Pool}
use Rattle.forest_law.specs.declared.objects.Object.{Object}
use Rattle.forest_law.specs.Numbers.{frame_id, frames_of}
use Rattle.forest_law.specs.State.{places, images, ages, fields_for}

-- what the hash needs of the sizes: there is a partition, a fold has 1 to 64 bits, and the keys of each
-- index have a field
pub record SuitsHash (shape : Shape) : Type 0 where
  pub parts : 0 < shape.parts
  pub some : 1 ≤ shape.fold_bits
  pub fit : shape.fold_bits ≤ 64
  pub keyed : (i : ℕ) → i < shape.indexes → 1 ≤ fields_for shape i

-- there are as many objects, places and images of pages, ages of blocks, numbers of fields and
-- lists as the shape says, and it suits the hash
pub record AreCounted (shape : Shape) (xs : List Object) (entries : List Entries) : Type 0 where
  pub objects : length xs ≡ frame_id shape (frames_of shape)
  pub places : length (places xs) ≡ shape.pages
  pub images : length (images xs) ≡ shape.pages
  pub ages : length (ages xs) ≡ shape.blocks
  pub fields : length shape.fields ≡ shape.indexes
  pub lists : length entries ≡ shape.indexes
  pub hash : SuitsHash shape

-- the pool has as many places, images and ages as it had
pub record CountsStay (old new : Pool) : Type 0 where
  pub places : length new.place.items ≡ length old.place.items
  pub images : length new.images.items ≡ length old.images.items
  pub ages : length new.ages ≡ length old.ages
