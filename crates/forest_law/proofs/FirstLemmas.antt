-- What the opening makes are the first objects.
use Rattle.std.proofs.Common.{◌≡◌, ◌⊎◌, inl, inr, ℕ, ◌+◌, ◌<◌, ◌≤◌, nat_lt, true, false, cond, [], ◌∷◌, List, Option, Some, None, length, replicate, get_or, sym, ap, subst, ◌∙◌, arith, refl}
use Rattle.std.proofs.lemmas.Bool.{cases_lt}
use Rattle.std.proofs.lemmas.Bool.Decides.{nat_tests}
use mathlib.Core.Option.{some}
use mathlib.Core.Option as maybe
use lib.ListN.{get_elem?}
use Rattle.list_facts.proofs.Places.{inside, there, reads}
use Rattle.index_page.specs.Page.{PageRows}
use Rattle.hash_partition.specs.Part.{empty_part}
use Rattle.index_law.specs.Shape.{Shape}
use Rattle.forest_law.specs.declared.objects.Stored.{Stored}
use Rattle.forest_law.specs.declared.objects.Pool.{Pool}
use Rattle.forest_law.specs.declared.objects.Where.{Where}
use Rattle.forest_law.specs.declared.objects.Where.TheVariants.{Free, Image}
use Rattle.forest_law.specs.declared.objects.Object.{Object}
use Rattle.forest_law.specs.declared.objects.Object.TheVariants as object
use Rattle.forest_law.specs.Numbers.{frames_of}
use Rattle.forest_law.specs.State.{where_of, where_at, image_of, image_at, or_zero, fields_for}
use Rattle.forest_law.specs.Opening.{empty_page, empty_image, first_image, first_frame, first_tree, first_where, IsFirstPool, AreFirstObjects, AddsEach}

-- a number behind all places is free
pub where_beyond : (items : List Where) (n : ℕ) → length items ≤ n → where_at items n ≡ Free
where_beyond items n most = pick (get_elem? items n) refl
  where
    pick : (o : maybe.Option Where) → get_elem? items n ≡ o → where_at items n ≡ Free
    pick maybe.none e = ap where_of e
    pick (maybe.some x) e = let room = inside items n x e in absurd (omega (arith, room, most))

-- and has no image
pub image_beyond : (items : List (Option Stored)) (n : ℕ) → length items ≤ n
    → image_at items n ≡ None
image_beyond items n most = pick (get_elem? items n) refl
  where
    pick : (o : maybe.Option (Option Stored)) → get_elem? items n ≡ o → image_at items n ≡ None
    pick maybe.none e = ap image_of e
    pick (maybe.some x) e = let room = inside items n x e in absurd (omega (arith, room, most))

-- a number that is no index's is free at the opening
pub first_free : (indexes n : ℕ) → indexes ≤ n → first_where indexes n ≡ Free
first_free indexes n most = let e : nat_lt n indexes ≡ false = grind (arith, nat_tests) in
    ap (λ b. cond b Image Free) e

-- and has no image then
pub first_none : (sh : Shape) (n : ℕ) → sh.indexes ≤ n → first_image sh n ≡ None
first_none sh n most = let e : nat_lt n sh.indexes ≡ false = grind (arith, nat_tests) in
    ap (λ b. cond b (Some (empty_image n (fields_for sh n))) None) e

module _ {X : Type 0} (items : List X) (count : ℕ) (made : ℕ → X)
    (adds : AddsEach [] items count made) where
  -- items that were added one for each number, behind none
  pub all_counted : length items ≡ count
  all_counted = let c = adds.counted in omega (arith, c)

  pub all_at : (n : ℕ) → n < count → get_elem? items n ≡ some (made n)
  all_at n less = subst (λ k. get_elem? items k ≡ some (made n)) (omega arith) (adds.each n less)

-- places and images that were made one for each page are those of the first pool
pub first_pool_is : (sh : Shape) (pool : Pool) → sh.indexes ≤ sh.pages
    → AddsEach [] pool.place.items sh.pages (first_where sh.indexes)
    → AddsEach [] pool.images.items sh.pages (first_image sh)
    → pool.ages ≡ replicate sh.blocks 0 → pool.tick ≡ 0 → IsFirstPool sh pool
first_pool_is sh pool room places images ages tick = record {
  counted = all_counted pool.place.items sh.pages (first_where sh.indexes) places;
  places = λ n. place n (cases_lt n sh.pages);
  stored = all_counted pool.images.items sh.pages (first_image sh) images;
  images = λ n. image n (cases_lt n sh.pages);
  ages = ages;
  tick = tick;
}
  where
    place : (n : ℕ) → (n < sh.pages) ⊎ (sh.pages ≤ n)
        → where_at pool.place.items n ≡ first_where sh.indexes n
    place n (inl less) =
        ap where_of (all_at pool.place.items sh.pages (first_where sh.indexes) places n less)
    place n (inr most) =
        let count = all_counted pool.place.items sh.pages (first_where sh.indexes) places in
        where_beyond pool.place.items n (omega (arith, count, most))
        ∙ sym (first_free sh.indexes n (omega (arith, room, most)))

    image : (n : ℕ) → (n < sh.pages) ⊎ (sh.pages ≤ n)
        → image_at pool.images.items n ≡ first_image sh n
    image n (inl less) =
        ap image_of (all_at pool.images.items sh.pages (first_image sh) images n less)
    image n (inr most) =
        let count = all_counted pool.images.items sh.pages (first_image sh) images in
        image_beyond pool.images.items n (omega (arith, count, most))
        ∙ sym (first_none sh n (omega (arith, room, most)))

-- the pool, the trees behind it, the partitions behind these and the frames behind those are the
-- first objects
pub first_objects_are : (sh : Shape) (clock : ℕ) (pool : Pool) (a b c d : List Object)
    → a ≡ object.Pool pool ∷ [] → IsFirstPool sh pool
    → AddsEach a b sh.indexes (λ i. object.Tree (first_tree i))
    → AddsEach b c sh.parts (λ k. object.Part (empty_part sh.nodes sh.blocks))
    → AddsEach c d (frames_of sh) (λ k. object.Frame (first_frame clock))
    → AreFirstObjects sh clock d
first_objects_are sh clock pool a b c d is first trees parts frames = record {
  counted = (let t = trees.counted in let p = parts.counted in let f = frames.counted in
      omega (arith, t, p, f, one));
  pool = pool;
  pool_at = frames.kept 0 (object.Pool pool) (parts.kept 0 (object.Pool pool)
      (trees.kept 0 (object.Pool pool) (ap (λ z. get_elem? z 0) is)));
  pool_is = first;
  trees = λ i low. frames.kept (1 + i) (object.Tree (first_tree i))
      (parts.kept (1 + i) (object.Tree (first_tree i))
      (subst (λ n. get_elem? b (n + i) ≡ some (object.Tree (first_tree i))) one
      (trees.each i low)));
  parts = λ k low. frames.kept (1 + sh.indexes + k) (object.Part (empty_part sh.nodes sh.blocks))
      (subst (λ n. get_elem? c (n + k) ≡ some (object.Part (empty_part sh.nodes sh.blocks)))
      (let t = trees.counted in omega (arith, t, one)) (parts.each k low));
  frames = λ k low. subst (λ n. get_elem? d (n + k) ≡ some (object.Frame (first_frame clock)))
      (let t = trees.counted in let p = parts.counted in omega (arith, t, p, one))
      (frames.each k low);
}
  where
    one : length a ≡ 1
    one = ap length is

-- the image of the empty root of an index, with as many fields as the shape gives it
pub root_is : (sh : Shape) (b fields : ℕ) (page : PageRows) → b < sh.indexes
    → length sh.fields ≡ sh.indexes → fields ≡ get_or sh.fields b fields
    → page ≡ empty_page b fields
    → Some (record { page = page; low = None; high = None }) ≡ first_image sh b
root_is sh b fields page low count read is =
    let e : nat_lt b sh.indexes ≡ true = grind (arith, nat_tests) in
    let at = there sh.fields b (omega (arith, low, count)) in
    let same : at.0 ≡ fields = sym (read ∙ reads sh.fields b at.0 fields at.1) in
    ap (λ (z : PageRows). Some (record { page = z; low = None; high = None })) is
    ∙ (ap (λ z. Some (empty_image b z)) (sym same)
    ∙ (ap (λ z. Some (empty_image b (or_zero z))) (sym at.1)
    ∙ sym (ap (λ t. cond t (Some (empty_image b (fields_for sh b))) None) e)))
