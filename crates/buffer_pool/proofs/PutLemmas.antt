-- A page's place and image in the pool, and what changes of them leave.
use Rattle.std.proofs.Common.{◌≡◌, ℕ, ◌<◌, List, length, get_or, set, length-set, sym, ap, subst, ◌∙◌, refl, Option, Some}
use mathlib.Core.Option.{some}
use mathlib.Core.Option as maybe
use lib.ListN.{get_elem?}
use Rattle.atomic_table.proofs.Lists.{set_here, set_else}
use Rattle.list_facts.proofs.Places.{inside, there, reads, same_some}
use Rattle.clock_law.specs.ModifyClock.{raised}
use Rattle.index_page.specs.Page.{PageRows}
use Rattle.forest_law.specs.declared.objects.Frame.{Frame}
use Rattle.forest_law.specs.declared.objects.Pool.{Pool}
use Rattle.forest_law.specs.declared.objects.Stored.{Stored}
use Rattle.forest_law.specs.declared.objects.Where.{Where}
use Rattle.forest_law.specs.declared.objects.Where.TheVariants.{Free, InFrame}
use Rattle.forest_law.specs.State.{where_of, where_at, image_of, image_at}
use Rattle.forest_law.specs.Placed.{PoolRests}
use Rattle.buffer_pool.specs.Ages.{IsAged, IsAgeless}
use Rattle.buffer_pool.specs.Causes.{HasAged}
use Rattle.buffer_pool.specs.Turning.{PutsPage, HasPlaces, KeepsOthers}

-- a place that is read is the number's, and so is an image
pub read_place : (xs : List Where) (n : ℕ) (d : Where) → n < length xs
    → get_or xs n d ≡ where_at xs n
read_place xs n d below = let a = there xs n below in reads xs n a.0 d a.1 ∙ sym (ap where_of a.1)

pub read_image : (xs : List (Option Stored)) (n : ℕ) (d : Option Stored) → n < length xs
    → get_or xs n d ≡ image_at xs n
read_image xs n d below = let a = there xs n below in reads xs n a.0 d a.1 ∙ sym (ap image_of a.1)

free_is_not : (b : ℕ) → Free ≡ InFrame b → ⊥
free_is_not b e = absurd cc

-- a number that isn't free is one of those of pages
pub used_below : (xs : List Where) (n b : ℕ) → where_at xs n ≡ InFrame b → n < length xs
used_below xs n b e = pick (get_elem? xs n) refl
  where
    pick : (o : maybe.Option Where) → get_elem? xs n ≡ o → n < length xs
    pick maybe.none at = absurd (free_is_not b (sym (ap where_of at) ∙ e))
    pick (some x) at = inside xs n x at

module _ (x : Pool) (n : ℕ) (to : Where) (image : Option Stored) (y : Pool)
    (puts : PutsPage x n to image y) where
  -- the page has that place and that image
  pub put_place : n < length x.place.items → where_at y.place.items n ≡ to
  put_place below = ap (λ xs. where_at xs n) puts.place
      ∙ ap where_of (set_here x.place.items n to below)

  pub put_image : n < length x.images.items → image_at y.images.items n ≡ image
  put_image below = ap (λ xs. image_at xs n) puts.images
      ∙ ap image_of (set_here x.images.items n image below)

  -- and all others keep theirs
  pub puts_keeps : KeepsOthers x n y
  puts_keeps = record {
    counted = record {
      places = ap length puts.place ∙ length-set x.place.items n to;
      images = ap length puts.images ∙ length-set x.images.items n image;
      ages = ap length puts.ages;
    };
    elsewhere = λ m differs. record {
      place = ap (λ xs. where_at xs m) puts.place
          ∙ ap where_of (set_else x.place.items n m to differs);
      image = ap (λ xs. image_at xs m) puts.images
          ∙ ap image_of (set_else x.images.items n m image differs);
    };
  }

-- a pool rests where a block gets an age, or loses it
pub aged_rests : (x : Pool) (b : ℕ) (y : Pool) → IsAged x b y → PoolRests x y
aged_rests x b y aged = assumption (ap length aged.ages ∙ length-set x.ages b y.tick)

pub ageless_rests : (x : Pool) (b : ℕ) (y : Pool) → IsAgeless x b y → PoolRests x y
ageless_rests x b y ageless = assumption (ap length ageless.ages ∙ length-set x.ages b 0)

-- and one that rests keeps all that it kept
pub keeps_then : (x : Pool) (n : ℕ) (y z : Pool) → KeepsOthers x n y → PoolRests y z
    → KeepsOthers x n z
keeps_then x n y z keeps rests = record {
  counted = record {
    places = ap length rests.places ∙ keeps.counted.places;
    images = ap length rests.images ∙ keeps.counted.images;
    ages = rests.ages ∙ keeps.counted.ages;
  };
  elsewhere = λ m differs. record {
    place = ap (λ xs. where_at xs m) rests.places ∙ (keeps.elsewhere m differs).place;
    image = ap (λ xs. image_at xs m) rests.images ∙ (keeps.elsewhere m differs).image;
  };
}

-- a pool in which a page was put, and then a block got its age
pub put_aged : (x : Pool) (b : ℕ) (y z : Pool) → y.ages ≡ x.ages → y.tick ≡ x.tick
    → IsAged y b z → HasAged x b z
put_aged x b y z ages tick aged = record {
  tick = aged.tick ∙ ap raised tick;
  ages = aged.ages ∙ ap (λ xs. set xs b z.tick) ages;
}

-- the number of the page that a frame has, in other words
module _ {f : Frame} {x : Pool} (has : HasPlaces f x) (page : PageRows) (paged : f.page ≡ Some page)
    (n : ℕ) (number : n ≡ page.head.number) where
  number_same : has.page.head.number ≡ n
  number_same =
      ap (λ (r : PageRows). r.head.number) (same_some has.page page (sym has.paged ∙ paged))
      ∙ sym number

  pub same_place : n < length x.place.items
  same_place = subst (λ m. m < length x.place.items) number_same has.place

  pub same_image : n < length x.images.items
  same_image = subst (λ m. m < length x.images.items) number_same has.image
