-- The root of a space that was just opened is restored, and a put on it leads to a lawful state.
use Rattle.std.specs.declared.alloc.Global.{Global}
use Rattle.std.specs.declared.vec.Vec.{Vec}
use Rattle.std.proofs.Common.{◌≡◌, ◌≢◌, ◌⊎◌, inl, inr, ℕ, zero, suc, ◌+◌, ◌<◌, ◌≤◌, [], ◌∷◌, List, length, set, true, false, refl, sym, ap, subst, ◌∙◌, arith, Option, Some, None}
use mathlib.Core.Option.{some, some-injective, some-ne-none}
use lib.ListN.{get_elem?}
use Rattle.key_tuple.specs.Order.{FieldList}
use Rattle.key_tuple.specs.KeyPlace.{Start, At, End, within}
use Rattle.key_tuple.proofs.PlaceLemmas.{before-Start, before-End}
use Rattle.list_facts.proofs.Places.{none_is_not, same_some}
use Rattle.map_history.specs.Map.{AreLawful}
use Rattle.map_history.specs.Report.{Columns}
use Rattle.map_history.proofs.HistoryLemmas.{lawful-none, lawful-push}
use Rattle.index_page.specs.Rows.{Bytes, Row, placed_row}
use Rattle.hash_partition.specs.Part.{empty_part}
use Rattle.tree_law.specs.Pages.{Page, first_page, is_own}
use Rattle.index_law.specs.Answers.{MadeChange}
use Rattle.forest_law.specs.Lists.{AreLawfulLists}
use Rattle.forest_law.specs.OnePut.{list_with}
use Rattle.index_law.specs.Shape.{Shape}
use Rattle.index_law.specs.State.{Entries, changes}
use Rattle.std.proofs.lemmas.List.{length-set}
use Rattle.atomic_table.proofs.Lists.{set_here, set_else}
use Rattle.forest_law.specs.declared.objects.Frame.{Frame}
use Rattle.forest_law.specs.declared.objects.Pool.{Pool}
use Rattle.forest_law.specs.declared.objects.Where.TheVariants.{InFrame}
use Rattle.forest_law.specs.declared.objects.Object.{Object}
use Rattle.forest_law.specs.declared.objects.Object.TheVariants as object
use Rattle.forest_law.specs.State.{where_of, image_of, page_where, pages_of, fields_for, maps_of}
use Rattle.forest_law.specs.Objects.{Becomes, IsFrameOf, IsPartOf}
use Rattle.forest_law.specs.Counted.{SuitsHash}
use Rattle.forest_law.specs.Budget.{ArePaid}
use Rattle.forest_law.specs.Law.{AreLawfulObjects, Follows}
use Rattle.forest_law.specs.Opening.{empty_image, first_frame, first_tree, IsFirstPool, AreFirstObjects}
use Rattle.forest_law.specs.Steps.{InHand, frame_step, Rests, MakeSteps}
use Rattle.forest_law.specs.RowSteps.{ChangesLeaf}
use Rattle.forest_law.specs.PoolSteps.{RestoresPage}
use Rattle.forest_law.specs.OnePut.{one_index, put_of, root_before, root_after, pool_in_hand, frame_in_hand, objects_with, state_after, OnePutIsLawful}
use Rattle.forest_law.proofs.ObjectLemmas.{Stays, Changes, Leads}
use Rattle.forest_law.proofs.KeepingLemmas.{objects_stay}
use Rattle.forest_law.proofs.BudgetKeptLemmas.{budget_lasts}
use Rattle.forest_law.proofs.OpeningLemmas.{first_lawful, first_paid}
use Rattle.forest_law.proofs.FirstLemmas.{first_free}
use Rattle.forest_law.proofs.HolderLemmas.{none_outside}
use Rattle.forest_law.proofs.RowStepLemmas.{row_follows}
use Rattle.forest_law.proofs.OnePutHashLemmas.{restore_keeps, put_keeps}
use Rattle.forest_law.proofs.PoolStepLemmas.{restores_follows}

-- the same items but for one, which is another
abbrev with_item : {X : Type 0} → Vec X Global → ℕ → X → Vec X Global
with_item xs n x = record xs {
  items = set xs.items n x;
  ok = (xs.ok.0 ∙ sym (length-set xs.items n x), xs.ok.1);
}

-- the pool after the root was restored to the frame of block 0
abbrev pool_after : Pool → Pool
pool_after pool = record pool {
  place = with_item pool.place 0 (InFrame 0);
  images = with_item pool.images 0 None;
}

module _ (clock : ℕ) (key : FieldList) (keyed : 1 ≤ length key) (pool : Pool)
    (first : IsFirstPool (one_index (length key)) pool) where
  abbrev shape : Shape
  shape = one_index (length key)

  abbrev root_page : Page
  root_page = first_page (fields_for shape) 0

  abbrev known : List (Option Object)
  known = pool_in_hand pool (first_frame clock)

  abbrev restored : List (Option Object)
  restored = pool_in_hand (pool_after pool) (root_before clock key)

  -- there is one place, and one image
  one_place : 0 < length pool.place.items
  one_place = let count = first.counted in omega (arith, count)

  one_image : 0 < length pool.images.items
  one_image = let count = first.stored in omega (arith, count)

  -- nothing else is in hand
  no_other : (k : ℕ) (x y : Object) → Becomes known restored k x y → k ≢ 0 → k ≢ 3 → Rests x y
  no_other zero x y b isnt away = absurd (isnt refl)
  no_other (suc zero) x y b isnt away = absurd (none_is_not x b.0)
  no_other (suc (suc zero)) x y b isnt away = absurd (none_is_not x b.0)
  no_other (suc (suc (suc zero))) x y b isnt away = absurd (away refl)
  no_other (suc (suc (suc (suc k)))) x y b isnt away = absurd (some-ne-none (Some x) (sym b.0))

  restores : RestoresPage shape known restored
  restores = record {
    number = 0;
    hand = record { block = 0; old = first_frame clock; new = root_before clock key };
    old = pool;
    new = pool_after pool;
    step = record {
      pool = (refl, refl);
      frame = (refl, refl);
      counted = record {
        places = length-set pool.place.items 0 (InFrame 0);
        images = length-set pool.images.items 0 None;
        ages = refl;
      };
      elsewhere = λ n isnt. record {
        place = ap where_of (set_else pool.place.items 0 n (InFrame 0) isnt);
        image = ap image_of (set_else pool.images.items 0 n None isnt);
      };
      others = no_other;
    };
    page = root_page;
    image = empty_image 0 (length key);
    was = first.places 0;
    is = ap where_of (set_here pool.place.items 0 (InFrame 0) one_place);
    stored = first.images 0;
    unstored = ap image_of (set_here pool.images.items 0 None one_image);
    had = record { number = refl; is = refl };
    tree = refl;
    empty = refl;
    has = record { rows = _; paged = refl; number = refl; is = refl };
    order = record { fields = refl; keys = tt; low = tt; high = tt; bodies = tt; places = tt };
    clock = omega arith;
  }

  pub restore_follows : Follows shape known restored None
  restore_follows = restores_follows shape known restored restores
      (restore_keeps clock key keyed pool (pool_after pool))

  -- the objects of the opening, and those after the root is restored
  abbrev opening : List Object
  opening = objects_with pool (first_frame clock)

  abbrev after : List Object
  after = objects_with (pool_after pool) (root_before clock key)

  fate_then : (k : ℕ)
      → Stays opening after known restored k ⊎ Changes opening after known restored k
  fate_then zero = inr (record {
    old = object.Pool pool;
    new = object.Pool (pool_after pool);
    becomes = (refl, refl);
    was = refl;
    is = refl;
  })
  fate_then (suc zero) = inl (record { same = refl; free = λ x e. none_is_not x e })
  fate_then (suc (suc zero)) = inl (record { same = refl; free = λ x e. none_is_not x e })
  fate_then (suc (suc (suc zero))) = inr (record {
    old = object.Frame (first_frame clock);
    new = object.Frame (root_before clock key);
    becomes = (refl, refl);
    was = refl;
    is = refl;
  })
  fate_then (suc (suc (suc (suc k)))) =
      inl (record { same = refl; free = λ x e. some-ne-none (Some x) (sym e) })

  -- what is in hand is so among the objects
  in_objects : (p : Pool) (f : Frame) (k : ℕ) (x : Object)
      → get_elem? (pool_in_hand p f) k ≡ some (Some x) → get_elem? (objects_with p f) k ≡ some x
  in_objects p f zero x e = ap some (same_some (object.Pool p) x
      (some-injective (Some (object.Pool p)) (Some x) e))
  in_objects p f (suc zero) x e = absurd (none_is_not x e)
  in_objects p f (suc (suc zero)) x e = absurd (none_is_not x e)
  in_objects p f (suc (suc (suc zero))) x e = ap some (same_some (object.Frame f) x
      (some-injective (Some (object.Frame f)) (Some x) e))
  in_objects p f (suc (suc (suc (suc k)))) x e = absurd (some-ne-none (Some x) (sym e))

  leads_then : Leads opening after known restored
  leads_then = record {
    fate = fate_then;
    was = in_objects pool (first_frame clock);
    is = in_objects (pool_after pool) (root_before clock key);
  }

  tree_at : (i : ℕ) → i < 1 → get_elem? opening (1 + i) ≡ some (object.Tree (first_tree i))
  tree_at zero low = refl
  tree_at (suc i) low = absurd (omega (arith, low))

  part_at : (k : ℕ) → k < 1 → IsPartOf shape opening k (empty_part 0 1)
  part_at zero low = refl
  part_at (suc k) low = absurd (omega (arith, low))

  frame_at : (b : ℕ) → b < 1 → IsFrameOf shape opening b (first_frame clock)
  frame_at zero low = refl
  frame_at (suc b) low = absurd (omega (arith, low))

  firsts : AreFirstObjects shape clock opening
  firsts = record {
    counted = refl;
    pool = pool;
    pool_at = refl;
    pool_is = first;
    trees = tree_at;
    parts = part_at;
    frames = frame_at;
  }

  suits : SuitsHash shape
  suits = record {
    parts = omega arith;
    some = omega arith;
    fit = omega arith;
    keyed = keyed_at;
  }
    where
      keyed_at : (i : ℕ) → i < 1 → 1 ≤ fields_for shape i
      keyed_at zero low = keyed
      keyed_at (suc i) low = absurd (omega (arith, low))

  opening_lawful : AreLawfulObjects shape opening ([] ∷ [])
  opening_lawful = first_lawful shape clock opening firsts refl suits

  -- the state in which the root is restored is lawful
  pub restored_lawful : AreLawfulObjects shape after ([] ∷ [])
  restored_lawful = objects_stay shape opening after known restored leads_then ([] ∷ [])
      opening_lawful ([] ∷ []) None restore_follows refl refl refl opening_lawful.lists

  -- and its pages are within the budget
  pub restored_paid : ArePaid shape after ([] ∷ [])
  restored_paid = budget_lasts shape opening after known restored leads_then ([] ∷ [])
      opening_lawful ([] ∷ []) None restore_follows refl refl
      (first_paid shape clock opening firsts)

module _ (clock : ℕ) (key : FieldList) (value : List ℕ) where
  abbrev sh : Shape
  sh = one_index (length key)

  abbrev row : Row
  row = placed_row 0 key (Bytes value)

  abbrev root : Page
  root = first_page (fields_for sh) 0

  abbrev hand : InHand
  hand = record { block = 0; old = root_before clock key; new = root_after clock key value }

  abbrev before : List (Option Object)
  before = frame_in_hand (root_before clock key)

  abbrev news : List (Option Object)
  news = frame_in_hand (root_after clock key value)

  -- nothing else is in hand
  alone : (k : ℕ) (x y : Object) → Becomes before news k x y → k ≢ 3 → Rests x y
  alone zero x y b isnt = absurd (none_is_not x b.0)
  alone (suc zero) x y b isnt = absurd (none_is_not x b.0)
  alone (suc (suc zero)) x y b isnt = absurd (none_is_not x b.0)
  alone (suc (suc (suc zero))) x y b isnt = absurd (isnt refl)
  alone (suc (suc (suc (suc k)))) x y b isnt = absurd (some-ne-none (Some x) (sym b.0))

  makes : MakeSteps sh before news
      (frame_step hand 0 root (record root { rows = row ∷ [] }) ∷ []) []
  makes = record {
    each = (
      record {
        becomes = (refl, refl);
        had = record { rows = _; paged = refl; number = refl; is = refl };
        has = record { rows = _; paged = refl; number = refl; is = refl };
        order = assumption;
      },
      tt,
    );
    tops = tt;
    others = λ k x y b apart aside. alone k x y b apart.0;
  }

  module _ (columns : Columns) where
    abbrev change : ℕ × MadeChange
    change = (0, put_of key value columns)

    in_all : within Start End (At key) ≡ true
    in_all = rw (before-Start (At key)) (before-End key)

    put_on_leaf : ChangesLeaf sh before news change
    put_on_leaf = record {
      number = 0;
      hand = hand;
      page = root;
      rows = row ∷ [];
      allows = record { tree = refl; index = refl; leaf = refl; inside = in_all; allowed = refl };
      changes = inl (record {
        below = [];
        row = row;
        above = [];
        value = value;
        is_put = refl;
        body = refl;
        was = refl;
        is = refl;
        ascend = (tt, tt);
        clock_stays = refl;
      });
      make = makes;
    }

    put_follows : Follows sh before news (Some change)
    put_follows = row_follows sh before news change put_on_leaf (put_keeps clock key value)

    module _ (keyed : 1 ≤ length key) (pool : Pool) (first : IsFirstPool sh pool) where
      abbrev xs : List Object
      xs = objects_with (pool_after pool) (root_before clock key)

      abbrev ys : List Object
      ys = objects_with (pool_after pool) (root_after clock key value)

      fate : (k : ℕ) → Stays xs ys before news k ⊎ Changes xs ys before news k
      fate zero = inl (record { same = refl; free = λ x e. none_is_not x e })
      fate (suc zero) = inl (record { same = refl; free = λ x e. none_is_not x e })
      fate (suc (suc zero)) = inl (record { same = refl; free = λ x e. none_is_not x e })
      fate (suc (suc (suc zero))) = inr (record {
        old = object.Frame (root_before clock key);
        new = object.Frame (root_after clock key value);
        becomes = (refl, refl);
        was = refl;
        is = refl;
      })
      fate (suc (suc (suc (suc k)))) =
          inl (record { same = refl; free = λ x e. some-ne-none (Some x) (sym e) })

      was : (k : ℕ) (x : Object) → get_elem? before k ≡ some (Some x) → get_elem? xs k ≡ some x
      was zero x e = absurd (none_is_not x e)
      was (suc zero) x e = absurd (none_is_not x e)
      was (suc (suc zero)) x e = absurd (none_is_not x e)
      was (suc (suc (suc zero))) x e = ap some (same_some (object.Frame (root_before clock key)) x
          (some-injective (Some (object.Frame (root_before clock key))) (Some x) e))
      was (suc (suc (suc (suc k)))) x e = absurd (some-ne-none (Some x) (sym e))

      is : (k : ℕ) (y : Object) → get_elem? news k ≡ some (Some y) → get_elem? ys k ≡ some y
      is zero y e = absurd (none_is_not y e)
      is (suc zero) y e = absurd (none_is_not y e)
      is (suc (suc zero)) y e = absurd (none_is_not y e)
      is (suc (suc (suc zero))) y e = ap some
          (same_some (object.Frame (root_after clock key value)) y
          (some-injective (Some (object.Frame (root_after clock key value))) (Some y) e))
      is (suc (suc (suc (suc k)))) y e = absurd (some-ne-none (Some y) (sym e))

      leads : Leads xs ys before news
      leads = record { fate = fate; was = was; is = is }

      abbrev old_lists : List Entries
      old_lists = [] ∷ []

      abbrev new_lists : List Entries
      new_lists = list_with key value columns ∷ []

      maps_else : (i : ℕ) → i ≢ 0 → maps_of new_lists i ≡ maps_of old_lists i
      maps_else zero isnt = absurd (isnt refl)
      maps_else (suc i) isnt = refl

      lists_lawful : AreLawfulLists new_lists
      lists_lawful zero es e = subst (λ (z : Entries). AreLawful (changes z))
          (some-injective (list_with key value columns) es e)
          (lawful-push [] (put_of key value columns).change lawful-none refl)
      lists_lawful (suc i) es e = absurd (some-ne-none es (sym e))

      objects_lawful : AreLawfulObjects sh ys new_lists
      objects_lawful = objects_stay sh xs ys before news leads old_lists
          (restored_lawful clock key keyed pool first) new_lists (Some change) put_follows
          (refl, maps_else) refl refl lists_lawful

      objects_paid : ArePaid sh ys new_lists
      objects_paid = budget_lasts sh xs ys before news leads old_lists
          (restored_lawful clock key keyed pool first) new_lists (Some change) put_follows
          (refl, maps_else) refl (restored_paid clock key keyed pool first)

      -- the root is the one page, and it is of the trees
      no_outside : (n : ℕ) (page : Page) → pages_of sh ys n ≡ Some page
          → is_own n page.prev ≡ false
      no_outside zero page is = ap (λ (p : Page). is_own zero p.prev)
          (sym (same_some (record root { rows = row ∷ [] }) page
          (sym (ap (λ o. page_where sh ys 0 (where_of o))
          (set_here pool.place.items 0 (InFrame 0) (one_place clock key keyed pool first))) ∙ is)))
      no_outside (suc n) page is = absurd (none_is_some (sym (ap (page_where sh ys (suc n))
          (ap where_of (set_else pool.place.items 0 (suc n) (InFrame 0) (λ e. omega (arith, e)))
          ∙ (first.places (suc n) ∙ first_free 1 (suc n) (omega arith)))) ∙ is))
        where
          none_is_some : None ≡ Some page → ⊥
          none_is_some e = absurd cc

pub one_put_is_lawful : OnePutIsLawful
one_put_is_lawful = record {
  restores = λ clock pool key keyed first. record {
    now = pool_after pool;
    place = refl;
    images = refl;
    ages = refl;
    follows = restore_follows clock key keyed pool first;
    lawful = λ value columns latches most passes. record {
      objects = objects_lawful clock key value columns keyed pool first;
      budget = objects_paid clock key value columns keyed pool first;
      outside = none_outside
          (state_after clock (pool_after pool) key value columns latches most passes)
          (no_outside clock key value columns keyed pool first);
    };
  };
  follows = λ clock key value columns. put_follows clock key value columns;
}
