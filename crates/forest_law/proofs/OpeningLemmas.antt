-- A space of trees begins lawfully.
use Rattle.std.proofs.Common.{◌≡◌, ◌⊎◌, inl, inr, ℕ, ◌-◌, ◌+◌, ◌<◌, ◌≤◌, nat_lt, true, false, cond, List, [], length, replicate, sym, ap, subst, ◌∙◌, arith, refl, Some, None}
use Rattle.std.proofs.lemmas.Bool.{cases_lt}
use Rattle.std.proofs.lemmas.Bool.Decides.{nat_tests}
use mathlib.Core.Option.{some, some-injective}
use mathlib.Core.Option as maybe
use mathlib.Core.Path.{fun_ext}
use lib.ListN.{get_elem?, length-replicate}
use Rattle.list_facts.proofs.Places.{inside, same_some, replicate_is}
use Rattle.map_history.specs.Map.{AreLawful, map_after}
use Rattle.map_history.proofs.HistoryLemmas.{lawful-none}
use Rattle.index_page.specs.Page.{PageRows}
use Rattle.hash_partition.specs.Part.{empty_part}
use Rattle.latch_law.specs.Opening.{opened}
use Rattle.tree_law.specs.Pages.{Page, AreLawfulPages, first_page, first_pages, is_own}
use Rattle.tree_law.proofs.OpeningLemmas.{opening_lawful}
use Rattle.index_law.specs.Shape.{Shape}
use Rattle.index_law.specs.State.{Entries, changes}
use Rattle.forest_law.specs.declared.objects.Frame.{Frame}
use Rattle.forest_law.specs.declared.objects.Stored.{Stored}
use Rattle.forest_law.specs.declared.objects.Where.TheVariants.{Free, InFrame, Image}
use Rattle.forest_law.specs.declared.objects.Object.{Object}
use Rattle.forest_law.specs.Numbers.{tree_id, part_id, frame_id}
use Rattle.forest_law.specs.State.{page_stored, places_of, images_of, ages_of, image_at, images, height_of, where_at, places, page_where, pages_of, heights_of, list_of, maps_of, fields_for}
use Rattle.forest_law.specs.Objects.{IsFrameOf}
use Rattle.forest_law.specs.Placed.{IsImaged}
use Rattle.forest_law.specs.Budget.{ArePaid}
use Rattle.forest_law.specs.Counted.{SuitsHash}
use Rattle.forest_law.specs.Law.{AreLawfulObjects}
use Rattle.forest_law.specs.Opening.{empty_image, first_image, first_frame, first_tree, AreFirstObjects, ForestsOpenLawfully}
use Rattle.forest_law.proofs.FirstHashLemmas.{first_frame_is, first_hashed}
use Rattle.forest_law.proofs.BudgetKeptLemmas.{budget_opens}
use Rattle.forest_law.proofs.HolderLemmas.{none_outside}

module _ (sh : Shape) (clock : ℕ) (objects : List Object)
    (first : AreFirstObjects sh clock objects) where
  -- a test that is true, and one that is false
  is_below : (n : ℕ) → n < sh.indexes → nat_lt n sh.indexes ≡ true
  is_below n low = grind (arith, nat_tests)

  is_beyond : (n : ℕ) → sh.indexes ≤ n → nat_lt n sh.indexes ≡ false
  is_beyond n most = grind (arith, nat_tests)

  where_is : (n : ℕ) → where_at (places objects) n ≡ cond (nat_lt n sh.indexes) Image Free
  where_is n = ap (λ z. where_at (places_of z) n) first.pool_at ∙ first.pool_is.places n

  where_low : (n : ℕ) → n < sh.indexes → where_at (places objects) n ≡ Image
  where_low n low = where_is n ∙ ap (λ b. cond b Image Free) (is_below n low)

  where_high : (n : ℕ) → sh.indexes ≤ n → where_at (places objects) n ≡ Free
  where_high n most = where_is n ∙ ap (λ b. cond b Image Free) (is_beyond n most)

  image_is : (n : ℕ) → image_at (images objects) n ≡ first_image sh n
  image_is n = ap (λ z. image_at (images_of z) n) first.pool_at ∙ first.pool_is.images n

  image_low : (n : ℕ) → n < sh.indexes
      → image_at (images objects) n ≡ Some (empty_image n (fields_for sh n))
  image_low n low = image_is n
      ∙ ap (λ b. cond b (Some (empty_image n (fields_for sh n))) None) (is_below n low)

  image_high : (n : ℕ) → sh.indexes ≤ n → image_at (images objects) n ≡ None
  image_high n most = image_is n
      ∙ ap (λ b. cond b (Some (empty_image n (fields_for sh n))) None) (is_beyond n most)

  pages_are : (n : ℕ) → pages_of sh objects n ≡ first_pages (fields_for sh) sh.indexes n
  pages_are n = pick (cases_lt n sh.indexes)
    where
      pick : (n < sh.indexes) ⊎ (sh.indexes ≤ n)
          → pages_of sh objects n ≡ first_pages (fields_for sh) sh.indexes n
      pick (inl low) = ap (page_where sh objects n) (where_low n low)
          ∙ (ap page_stored (image_low n low)
          ∙ sym (ap (λ b. cond b (Some (first_page (fields_for sh) n)) None) (is_below n low)))
      pick (inr most) = ap (page_where sh objects n) (where_high n most)
          ∙ sym (ap (λ b. cond b (Some (first_page (fields_for sh) n)) None) (is_beyond n most))

  heights_are : (i : ℕ) → heights_of objects i ≡ 0
  heights_are i = pick (cases_lt i sh.indexes)
    where
      high : sh.indexes ≤ i → (o : maybe.Option Object) → get_elem? objects (tree_id i) ≡ o
          → heights_of objects i ≡ 0
      high most maybe.none e = ap height_of e
      high most (maybe.some x) e = let within = inside objects (tree_id i) x e in
          let all = first.counted in elim (cases_lt i (sh.indexes + sh.parts)) [
            | inl low ↦
                (let same : tree_id i ≡ part_id sh (i - sh.indexes) = omega (arith, most) in
                ap (λ k. height_of (get_elem? objects k)) same
                ∙ ap height_of (first.parts (i - sh.indexes) (omega (arith, most, low))))
            | inr beyond ↦
                (let same : tree_id i ≡ frame_id sh (i - sh.indexes - sh.parts) =
                omega (arith, beyond) in
                ap (λ k. height_of (get_elem? objects k)) same
                ∙ ap height_of (first.frames (i - sh.indexes - sh.parts)
                (omega (arith, beyond, within, all))))
          ]

      pick : (i < sh.indexes) ⊎ (sh.indexes ≤ i) → heights_of objects i ≡ 0
      pick (inl low) = ap height_of (first.trees i low)
      pick (inr most) = high most (get_elem? objects (tree_id i)) refl

  -- no page is in a frame
  not_framed : (n b : ℕ) → where_at (places objects) n ≡ InFrame b → ⊥
  not_framed n b e = pick (cases_lt n sh.indexes)
    where
      not_here : Image ≡ InFrame b → ⊥
      not_here q = absurd cc

      not_free : Free ≡ InFrame b → ⊥
      not_free q = absurd cc

      pick : (n < sh.indexes) ⊎ (sh.indexes ≤ n) → ⊥
      pick (inl low) = not_here (sym (where_low n low) ∙ e)
      pick (inr most) = not_free (sym (where_high n most) ∙ e)

  -- and each page whose place says so has an image
  stored : (n : ℕ) → where_at (places objects) n ≡ Image
      → (s : Stored) × (image_at (images objects) n ≡ Some s)
  stored n e = pick (cases_lt n sh.indexes)
    where
      not_free : Free ≡ Image → ⊥
      not_free q = absurd cc

      pick : (n < sh.indexes) ⊎ (sh.indexes ≤ n)
          → (s : Stored) × (image_at (images objects) n ≡ Some s)
      pick (inl low) = (empty_image n (fields_for sh n), image_low n low)
      pick (inr most) = absurd (not_free (sym (where_high n most) ∙ e))

  imaged : (n : ℕ) (s : Stored) → image_at (images objects) n ≡ Some s → IsImaged objects n s
  imaged n s e = pick (cases_lt n sh.indexes)
    where
      none_is : None ≡ Some s → ⊥
      none_is q = absurd cc

      pick : (n < sh.indexes) ⊎ (sh.indexes ≤ n) → IsImaged objects n s
      pick (inl low) = record {
        number = ap (λ (z : Stored). z.page.head.number)
            (sym (same_some (empty_image n (fields_for sh n)) s (sym (image_low n low) ∙ e)));
        place = where_low n low;
      }
      pick (inr most) = absurd (none_is (sym (image_high n most) ∙ e))

  none_is : (p : PageRows) → None ≡ Some p → ⊥
  none_is p e = absurd cc

  -- no frame has a page
  no_page : (b : ℕ) (f : Frame) (p : PageRows) → IsFrameOf sh objects b f → f.page ≡ Some p → ⊥
  no_page b f p at paged = none_is p
      (ap (λ (z : Frame). z.page) (first_frame_is sh clock objects first b f at) ∙ paged)

  lists_are : (i : ℕ) → maps_of (replicate sh.indexes []) i ≡ []
  lists_are i = pick (get_elem? (replicate sh.indexes []) i) refl
    where
      pick : (o : maybe.Option Entries) → get_elem? (replicate sh.indexes []) i ≡ o
          → maps_of (replicate sh.indexes []) i ≡ []
      pick maybe.none e = ap (λ z. map_after (changes (list_of z))) e
      pick (maybe.some xs) e = ap (λ z. map_after (changes (list_of z))) e
          ∙ ap (λ z. map_after (changes z)) (sym (replicate_is sh.indexes i [] xs e))

  pub first_lawful : length sh.fields ≡ sh.indexes → SuitsHash sh
      → AreLawfulObjects sh objects (replicate sh.indexes [])
  first_lawful fields suits = record {
    counted = record {
      objects = first.counted;
      places = ap (λ z. length (places_of z)) first.pool_at ∙ first.pool_is.counted;
      images = ap (λ z. length (images_of z)) first.pool_at ∙ first.pool_is.stored;
      ages = ap (λ z. length (ages_of z)) first.pool_at
          ∙ (ap length first.pool_is.ages ∙ length-replicate sh.blocks 0);
      fields = fields;
      lists = length-replicate sh.indexes [];
      hash = suits;
    };
    kinds = record {
      pool = (first.pool, first.pool_at);
      trees = λ i low. record {
        tree = first_tree i;
        at = first.trees i low;
        index = refl;
        root = refl;
      };
      parts = λ k low. (empty_part sh.nodes sh.blocks, first.parts k low);
      frames = λ b low. (first_frame clock, first.frames b low);
    };
    placed = record {
      named = λ b f p at paged. absurd (no_page b f p at paged);
      there = λ n b e. absurd (not_framed n b e);
      imaged = imaged;
      stored = stored;
    };
    hashed = first_hashed sh clock objects first;
    lists = λ i xs e. subst (λ z. AreLawful (changes z))
        (replicate_is sh.indexes i [] xs e) lawful-none;
    pages = subst
        (λ h. AreLawfulPages sh.indexes (fields_for sh) h (maps_of (replicate sh.indexes []))
        (pages_of sh objects)) (sym (fun_ext heights_are))
        (subst (λ m. AreLawfulPages sh.indexes (fields_for sh) (λ i. 0) m (pages_of sh objects))
        (sym (fun_ext lists_are))
        (subst (AreLawfulPages sh.indexes (fields_for sh) (λ i. 0) (λ i. []))
        (sym (fun_ext pages_are)) (opening_lawful (fields_for sh) sh.indexes)));
  }

  -- and the pages are within the budget
  pub first_paid : ArePaid sh objects (replicate sh.indexes [])
  first_paid = budget_opens sh objects pages_are

  -- no page is outside the trees
  no_outside : (n : ℕ) (page : Page) → pages_of sh objects n ≡ Some page
      → is_own n page.prev ≡ false
  no_outside n page is = pick (cases_lt n sh.indexes)
    where
      none_is_some : None ≡ Some page → ⊥
      none_is_some e = absurd cc

      pick : (n < sh.indexes) ⊎ (sh.indexes ≤ n) → is_own n page.prev ≡ false
      pick (inl low) = ap (λ (p : Page). is_own n p.prev)
          (sym (same_some (first_page (fields_for sh) n) page
          (sym (ap (λ b. cond b (Some (first_page (fields_for sh) n)) None) (is_below n low))
          ∙ (sym (pages_are n) ∙ is))))
      pick (inr most) = absurd (none_is_some
          (sym (ap (λ b. cond b (Some (first_page (fields_for sh) n)) None) (is_beyond n most))
          ∙ (sym (pages_are n) ∙ is)))

pub opens_lawfully : ForestsOpenLawfully
opens_lawfully sh clock objects most passes fields room suits first = record {
  objects = first_lawful sh clock objects first fields suits;
  budget = first_paid sh clock objects first;
  outside = none_outside (opened sh objects sh.indexes most passes)
      (no_outside sh clock objects first);
}
