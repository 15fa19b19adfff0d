-- A leaf that is hashed otherwise is the same leaf.
use Rattle.std.proofs.Common.{◌≡◌, ◌==◌, ℕ, List, length, sym, ap, subst, ◌∙◌, refl, arith, IsSome}
use Rattle.key_tuple.specs.Order.{FieldList}
use Rattle.index_law.specs.Shape.{Shape}
use Rattle.map_history.specs.Map.{MapChange}
use Rattle.hash_upkeep.specs.declared.upkeep.Upkeep.{Upkeep}
use Rattle.hash_upkeep.specs.declared.upkeep.Upkeep.TheVariants.{Kept, Dropped}
use Rattle.forest_law.specs.declared.objects.Frame.{Frame}
use Rattle.forest_law.specs.Steps.{FrameRests}
use Rattle.hash_maintain.specs.Leaves.{kept_frame, unhashed, HasRowInFrame}
use Rattle.buffer_pool.specs.Pages.{HasNumber}
use Rattle.leaf_rows.specs.Changing.{PutsRow, HasRowOf, frame_without, hashed_as}
use Rattle.leaf_rows.specs.declared.setting.GrownRow.{GrownRow}
use Rattle.leaf_rows.specs.Setting.{frame_with, IsLongerValue, SetsValue, MovesRowTo, PageBefore, frame_before}
use Rattle.leaf_changes.specs.Changes.{HasOldRow}
use Rattle.leaf_changes.specs.Lengthening.{HasGrown}
use Rattle.leaf_changes.specs.Commits.{MakesChange}
use Rattle.call_law.specs.Spoken.{View}
use Rattle.leaf_changes.specs.Holds.{IsLeafOf, KeepsNumber}

-- what upkeep leaves of a frame is that frame, hashed otherwise
pub kept_as : (answer : Upkeep) (f : Frame) → hashed_as (kept_frame answer f) f ≡ kept_frame answer f
kept_as Kept f = refl
kept_as (Dropped need spare) f = refl

-- a leaf is that of its key however it is hashed
pub leaf_rehashed : (shape : Shape) (i : ℕ) (key : FieldList) (m f : Frame)
    → IsLeafOf shape i key f → IsLeafOf shape i key (hashed_as m f)
leaf_rehashed shape i key m f leaf = let is = leaf.page.is in record {
  page = record {
    is = record {
      page = is.page;
      paged = is.paged;
      tree = is.tree;
      index = is.index;
      at_level = is.at_level;
    };
    order = leaf.page.order;
    within = record { low = leaf.page.within.low; high = leaf.page.within.high };
  };
  inside = leaf.inside;
}

pub number_rehashed : (m f : Frame) (n : ℕ) → HasNumber f n → HasNumber (hashed_as m f) n
number_rehashed m f n has = record { page = has.page; paged = has.paged; number = has.number }

-- it is at rest
pub rests_rehashed : (m f : Frame) → FrameRests f (hashed_as m f)
rests_rehashed m f = record { page = refl; low = refl; high = refl; clock = omega arith }

-- a row that was put in was so, however the leaf is hashed before and after
pub puts_rehashed : (m f g : Frame) (place : ℕ) (key : FieldList) (value : List ℕ)
    → PutsRow f g place key value → PutsRow (hashed_as m f) g place key value
puts_rehashed m f g place key value puts = record {
  page = puts.page;
  new = puts.new;
  had = puts.had;
  kept = puts.kept;
  head = puts.head;
  absent = puts.absent;
  there = puts.there;
  inserts = puts.inserts;
  order = puts.order;
}

pub puts_kept : (answer : Upkeep) (f g : Frame) (place : ℕ) (key : FieldList) (value : List ℕ)
    → PutsRow f g place key value → PutsRow f (kept_frame answer g) place key value
puts_kept Kept f g place key value puts = puts
puts_kept (Dropped need spare) f g place key value puts = record {
  page = puts.page;
  new = puts.new;
  had = puts.had;
  kept = ap unhashed puts.kept;
  head = puts.head;
  absent = puts.absent;
  there = puts.there;
  inserts = puts.inserts;
  order = puts.order;
}

-- and so does a row stand where it stood
pub row_rehashed : (m f : Frame) (place : ℕ) (key : FieldList) → HasRowOf f place key
    → HasRowOf (hashed_as m f) place key
row_rehashed m f place key row = record {
  page = row.page;
  paged = row.paged;
  level = row.level;
  has = row.has;
}

pub stands_kept : (answer : Upkeep) (f : Frame) (place : ℕ) (key : FieldList) → HasRowOf f place key
    → HasRowOf (kept_frame answer f) place key
stands_kept answer f place key row =
    subst (λ z. HasRowOf z place key) (kept_as answer f)
    (row_rehashed (kept_frame answer f) f place key row)

pub old_rehashed : (m f : Frame) (key : FieldList) (place : ℕ) → HasOldRow f key place
    → HasOldRow (hashed_as m f) key place
unfolding row_rehashed
old_rehashed m f key place old = record {
  has = row_rehashed m f place key old.has;
  goes = record {
    page = old.goes.page;
    had = old.goes.had;
    value = old.goes.value;
    has = old.goes.has;
    deletes = old.goes.deletes;
  };
  sets = λ value less. (let sets = old.sets value less in record {
    page = sets.page;
    new = sets.new;
    before = sets.before;
    had = sets.had;
    kept = ap (λ (z : Frame). record (frame_with place value
        (length value == length old.has.has.value) (hashed_as m f)) { page = z.page }) sets.kept;
    head = sets.head;
    level = sets.level;
    has = sets.has;
    sets = sets.sets;
    places = sets.places;
  });
  lacks = λ value e refused. (let lacks = old.lacks value e refused in
      record { page = lacks.page; paged = lacks.paged; more = lacks.more });
}

-- the page of a leaf has a row at its place
pub has_row : (f : Frame) (place : ℕ) (key : FieldList) → HasRowOf f place key → HasRowInFrame f place
has_row f place key row = record {
  page = row.page;
  page_is = row.paged;
  row = subst (λ o. IsSome o) (sym row.has.there) refl;
}

-- a del makes its change of a leaf however that is hashed then
pub del_kept : (answer : Upkeep) (shape : Shape) (change : MapChange) (place : ℕ) (f : Frame)
    → MakesChange shape change f (frame_without place f)
    → MakesChange shape change f (frame_without place (kept_frame answer f))
del_kept Kept shape change place f makes = makes
del_kept (Dropped need spare) shape change place f makes = record {
  page = makes.page;
  new = makes.new;
  had = makes.had;
  has = makes.has;
  head = makes.head;
  low = makes.low;
  high = makes.high;
  allowed = makes.allowed;
  changes = makes.changes;
  order = makes.order;
}

-- a page keeps its number however it is hashed
pub keeps_rehashed : (v : View) (b : ℕ) (m f : Frame) → KeepsNumber v b f
    → KeepsNumber v b (hashed_as m f)
keeps_rehashed v b m f keeps g n knows has = number_rehashed m f n (keeps g n knows has)

-- upkeep leaves the page
pub kept_paged : (a : Upkeep) (f : Frame) → (kept_frame a f).page ≡ f.page
kept_paged Kept f = refl
kept_paged (Dropped need spare) f = refl

-- and a frame that is what it was known to be, but for how it is hashed
pub kept_again : (a : Upkeep) (f g : Frame) → hashed_as g f ≡ g
    → hashed_as (kept_frame a g) f ≡ kept_frame a g
kept_again Kept f g same = same
kept_again (Dropped need spare) f g same = ap unhashed same

-- a value that was set was so, however the leaf is hashed before and after
pub sets_rehashed : (m n f g : Frame) (key : FieldList) (value : List ℕ)
    → SetsValue (hashed_as m f) g key value → SetsValue (hashed_as n f) g key value
sets_rehashed m n f g key value sets = record {
  page = sets.page;
  new = sets.new;
  before = sets.before;
  had = sets.had;
  kept = sets.kept;
  head = sets.head;
  level = sets.level;
  has = sets.has;
  sets = sets.sets;
  places = sets.places;
}

pub sets_kept : (a : Upkeep) (f g : Frame) (key : FieldList) (value : List ℕ)
    → SetsValue f g key value → SetsValue f (kept_frame a g) key value
sets_kept Kept f g key value sets = sets
sets_kept (Dropped need spare) f g key value sets = record {
  page = sets.page;
  new = sets.new;
  before = sets.before;
  had = sets.had;
  kept = ap unhashed sets.kept;
  head = sets.head;
  level = sets.level;
  has = sets.has;
  sets = sets.sets;
  places = sets.places;
}

-- a row moves from page to page, whatever else the frames are
pub moves_paged : (f g x y : Frame) (place other : ℕ) → x.page ≡ f.page → y.page ≡ g.page
    → MovesRowTo f g place other → MovesRowTo x y place other
moves_paged f g x y place other before after moves = record {
  page = moves.page;
  new = moves.new;
  had = before ∙ moves.had;
  has = after ∙ moves.has;
  stood = moves.stood;
  stands = moves.stands;
  rest = moves.rest;
}

-- a value that is longer is so however the leaf is hashed
pub longer_kept : (a : Upkeep) (f : Frame) (place : ℕ) (value : List ℕ)
    → IsLongerValue f place value → IsLongerValue (kept_frame a f) place value
longer_kept Kept f place value longer = longer
longer_kept (Dropped need spare) f place value longer = λ key has. longer key
    (record { page = has.page; paged = has.paged; level = has.level; has = has.has })

-- what a leaf was is kept, however it is hashed then
before_as : (a : Upkeep) (before : PageBefore) (g : Frame)
    → frame_before before (kept_frame a g)
    ≡ hashed_as (kept_frame a g) (frame_before before g)
before_as Kept before g = refl
before_as (Dropped need spare) before g = refl

pub before_kept : (a : Upkeep) (before : PageBefore) (m f g : Frame)
    → frame_before before g ≡ hashed_as m f
    → frame_before before (kept_frame a g) ≡ hashed_as (kept_frame a g) f
before_kept a before m f g was = before_as a before g ∙ ap (hashed_as (kept_frame a g)) was

-- so a row that grew on a leaf that was kept up with, and was kept up with, grew on the leaf
pub has_grown : (a c : Upkeep) (f g : Frame) (place : ℕ) (grown : GrownRow)
    → MovesRowTo (kept_frame a f) g place grown.place → IsSome grown.before.page
    → frame_before grown.before g ≡ kept_frame a f → HasGrown f (kept_frame c g) place grown
has_grown a c f g place grown moves paged was = record {
  moves = moves_paged (kept_frame a f) g f (kept_frame c g) place grown.place
      (sym (kept_paged a f)) (kept_paged c g) moves;
  paged = paged;
  was = before_kept c grown.before (kept_frame a f) f g (was ∙ sym (kept_as a f));
}
