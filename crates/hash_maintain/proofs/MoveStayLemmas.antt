-- Two blocks between which rows moved stay hashed, or there is no room for both.
use Rattle.std.proofs.Common.{◌≡◌, ◌<◌, ◌+◌, ◌==◌, ◌⊎◌, inl, inr, ℕ, Bool, true, false, if◌then◌else◌, length, Option, Some, None, List, [], sym, ap, subst, ◌∙◌, refl, arith}
use Rattle.std.proofs.lemmas.Bool.{eq-eqb}
use Rattle.latch_space.specs.Passes.{values, known_values}
use Rattle.key_tuple.specs.declared.mode.Params.{Params}
use Rattle.index_page.specs.Page.{PageRows}
use Rattle.hash_partition.specs.Part.{Part}
use Rattle.hash_law.specs.Blocks.{part_for}
use Rattle.hash_law.specs.Entries.{representatives}
use Rattle.hash_upkeep.specs.declared.hashing.Hashing.{Hashing}
use Rattle.hash_upkeep.specs.declared.moves.Move.{Move}
use Rattle.hash_upkeep.specs.declared.upkeep.Upkeep.{Upkeep}
use Rattle.hash_upkeep.specs.declared.upkeep.Upkeep.TheVariants.{Kept, Dropped}
use Rattle.hash_upkeep.specs.Hashing.{hashing_if, entries_if}
use Rattle.hash_upkeep.specs.Moves.{from_then, to_then, from_was, built_or}
use Rattle.hash_upkeep.specs.Upkeep.{LacksIfDropped}
use Rattle.index_law.specs.Shape.{Shape}
use Rattle.forest_law.specs.declared.objects.Frame.{Frame}
use Rattle.forest_law.specs.declared.objects.Object.{Object}
use Rattle.forest_law.specs.declared.objects.Object.TheVariants as object
use Rattle.forest_law.specs.Numbers.{part_id, frame_id}
use Rattle.forest_law.specs.Objects.{Becomes}
use Rattle.forest_law.specs.HashStays.{IsHashedWith, HasNoRows, page_needs, params_or, LacksRoom, LacksRoomForBoth, IsHashedAnew, StaysHashed}
use Rattle.forest_world.specs.Held.{TreePass, shape_of_pass}
use Rattle.forest_world.proofs.HandLemmas.{becomes_of}
use Rattle.hash_maintain.specs.Moves.{how_then, frame_hashed, IsHashedIf, gave_how, entries_of_page, AreHashedThen, LackRoom}
use Rattle.hash_maintain.specs.MoveLaws.{OneIsEmpty, HasMoved}

-- a frame that is hashed otherwise has the page that it had
pub same_page : (h : Option Hashing) (f : Frame) → (frame_hashed h f).page ≡ f.page
same_page None f = refl
same_page (Some how) f = refl

-- it is hashed so then, or not at all
hashed_if : (h : Option Hashing) (f : Frame) → IsHashedIf h (frame_hashed h f)
hashed_if None f = refl
hashed_if (Some how) f = record { index = refl; params = refl }

-- both blocks are hashed then as the move says, or neither is
pub both_stay : (m : Move) (f g f' g' : Frame) (a b : PageRows) → f.page ≡ Some a
    → g.page ≡ Some b → (new : Part) (answer : Upkeep)
    → f' ≡ frame_hashed (how_then answer (from_then m a.head.level)) f
    → g' ≡ frame_hashed (how_then answer (to_then m)) g
    → LacksIfDropped answer new.spare (length (entries_if (from_then m a.head.level) a.rows)
    + length (entries_if (to_then m) b.rows))
    → AreHashedThen m f' g' ⊎ LackRoom m f' g' new.spare
both_stay m f g f' g' a b paged other new Kept from to room =
    let page : f'.page ≡ Some a = ap (λ (z : Frame). z.page) from
    ∙ (same_page (from_then m a.head.level) f ∙ paged) in
    inl (record {
      gave = subst (λ o. IsHashedIf (gave_how m o) f') (sym page)
          (subst (IsHashedIf (from_then m a.head.level)) (sym from)
          (hashed_if (from_then m a.head.level) f));
      took = subst (IsHashedIf (to_then m)) (sym to) (hashed_if (to_then m) g);
    })
both_stay m f g f' g' a b paged other new (Dropped need spare) from to room =
    let page : f'.page ≡ Some a = ap (λ (z : Frame). z.page) from ∙ paged in
    let page' : g'.page ≡ Some b = ap (λ (z : Frame). z.page) to ∙ other in
    inr (record {
      gave = ap (λ (z : Frame). z.hashed) from;
      took = ap (λ (z : Frame). z.hashed) to;
      lacks = subst (λ o. new.spare < entries_of_page (gave_how m o) o
          + entries_of_page (to_then m) g'.page) (sym page)
          (subst (λ o. new.spare < entries_of_page (from_then m a.head.level) (Some a)
          + entries_of_page (to_then m) o) (sym page') room);
    })

-- a block of a leaf that gave rows is hashed then as it was
gave_leaf : (m : Move) (page : PageRows) (params : Params) → page.head.level ≡ 0
    → m.from_built ≡ Some params
    → from_then m page.head.level ≡ hashing_if m.index m.from m.bits (Some params)
gave_leaf m page params leaf built =
    ap (λ t. if t then from_was m else None) (eq-eqb page.head.level 0 leaf)
    ∙ ap (hashing_if m.index m.from m.bits) built

-- a block that takes rows from a hashed one is hashed as it was, or as that one
took_params : (o : Option Params) (params : Params) → built_or o (Some params)
    ≡ Some (params_or o params)
took_params None params = refl
took_params (Some other) params = refl

-- a page needs as many entries as the block is to have, hashed so
needed : (shape : Shape) (m : Move) (b : ℕ) (params : Params) (o : Option PageRows)
    → m.bits ≡ shape.fold_bits
    → entries_of_page (hashing_if m.index b m.bits (Some params)) o
    ≡ page_needs shape b m.index params o
needed shape m b params None bits = refl
needed shape m b params (Some page) bits =
    ap (λ n. length (entries_if (hashing_if m.index b n (Some params)) page.rows)) bits

-- a page without rows needs no entries
none_needed : (h : Option Hashing) (o : Option PageRows) → HasNoRows o → entries_of_page h o ≡ 0
none_needed h None empty = refl
none_needed None (Some page) empty = refl
none_needed (Some how) (Some page) empty =
    ap (λ rows. length (entries_if (Some how) rows)) empty ∙ no_rows how.params.left
  where
    no_rows : (left : Bool) → length (representatives left []) ≡ 0
    no_rows true = refl
    no_rows false = refl

-- how the block that gave rows was hashed, if it counts
gave_some : (m : Move) (t : Bool) (built : Option Params) (page : PageRows)
    → (length (entries_if (if t then hashing_if m.index m.from m.bits built else None) page.rows) ≡ 0)
    ⊎ ((params : Params) × (built ≡ Some params)
    × ((if t then hashing_if m.index m.from m.bits built else None)
    ≡ hashing_if m.index m.from m.bits (Some params)))
gave_some m false built page = inl refl
gave_some m true None page = inl refl
gave_some m true (Some params) page = inr (params, refl, refl)

module _ (p : TreePass) (m : Move) (moved : HasMoved p m) where
  abbrev sh : Shape
  sh = shape_of_pass p

  abbrev before : List (Option Object)
  before = known_values p

  abbrev news : List (Option Object)
  news = values p

  part_becomes : (index : ℕ) → index ≡ m.index
      → Becomes before news (part_id sh (part_for sh.parts index)) (object.Part moved.known)
      (object.Part moved.now)
  part_becomes index same = subst
      (λ i. Becomes before news (part_id sh (part_for sh.parts i)) (object.Part moved.known)
      (object.Part moved.now)) (sym same)
      (becomes_of p (part_id sh (part_for sh.parts m.index)) (object.Part moved.known)
      (object.Part moved.now) moved.part)

  gave_becomes : Becomes before news (frame_id sh m.from) (object.Frame moved.gave_old)
      (object.Frame moved.gave_new)
  gave_becomes = becomes_of p (frame_id sh m.from) (object.Frame moved.gave_old)
      (object.Frame moved.gave_new) moved.gave.frame

  took_becomes : Becomes before news (frame_id sh m.to) (object.Frame moved.took_old)
      (object.Frame moved.took_new)
  took_becomes = becomes_of p (frame_id sh m.to) (object.Frame moved.took_old)
      (object.Frame moved.took_new) moved.took.frame

  -- the block that gave rows
  pub gave_stays : StaysHashed sh before news m.from moved.gave_old moved.gave_new
  gave_stays index params was leaf = elim moved.keeps.stay [
    | inl kept ↦ inl (subst (λ h. IsHashedIf h moved.gave_new → IsHashedWith index params
        moved.gave_new) (sym how) (λ is. record {
          hashed = is.index ∙ ap Some (sym same);
          built = is.params;
        }) kept.gave)
    | inr lack ↦ inr (inl (record {
      old = moved.known;
      new = moved.now;
      becomes = part_becomes index same;
      cause = inr (inl (record {
        other = m.to;
        apart = λ e. moved.apart (sym e);
        old = moved.took_old;
        new = moved.took_new;
        becomes = took_becomes;
        bare = lack.took;
        empty = empty moved.empty;
        lacks = subst (λ i. moved.now.spare < page_needs sh m.from i params moved.gave_new.page
            + page_needs sh m.to i (params_or moved.took_old.figures.built params)
            moved.took_new.page) (sym same)
            (let one = gave_needs in let two = took_needs in let less = lack.lacks in
            omega (arith, one, two, less));
      }));
    }))
  ]
    where
      same : index ≡ m.index
      same = moved.gave.stays.was_for index was.hashed

      built : m.from_built ≡ Some params
      built = sym moved.gave.stays.was_built ∙ was.built

      how : gave_how m moved.gave_new.page ≡ hashing_if m.index m.from m.bits (Some params)
      how = ap (gave_how m) leaf.page_is ∙ gave_leaf m leaf.page params leaf.leaf built

      gave_needs : entries_of_page (gave_how m moved.gave_new.page) moved.gave_new.page
          ≡ page_needs sh m.from m.index params moved.gave_new.page
      gave_needs = ap (λ h. entries_of_page h moved.gave_new.page) how
          ∙ needed sh m m.from params moved.gave_new.page moved.bits

      took_how : to_then m ≡ hashing_if m.index m.to m.bits
          (Some (params_or moved.took_old.figures.built params))
      took_how = ap (hashing_if m.index m.to m.bits)
          (ap (λ o. built_or o m.from_built) (sym moved.took.stays.was_built)
          ∙ (ap (built_or moved.took_old.figures.built) built
          ∙ took_params moved.took_old.figures.built params))

      took_needs : entries_of_page (to_then m) moved.took_new.page
          ≡ page_needs sh m.to m.index (params_or moved.took_old.figures.built params)
          moved.took_new.page
      took_needs = ap (λ h. entries_of_page h moved.took_new.page) took_how
          ∙ needed sh m m.to (params_or moved.took_old.figures.built params) moved.took_new.page
          moved.bits

      empty : OneIsEmpty moved.gave_new moved.took_old
          → HasNoRows moved.took_old.page
          ⊎ (HasNoRows moved.gave_old.page ⊎ HasNoRows moved.gave_new.page)
      empty (inl e) = inl e
      empty (inr e) = inr (inr e)

  -- why the block that took rows may not be hashed then, for the index with these parameters
  abbrev TookCause : Params → ℕ → Type 0
  TookCause params i = LacksRoom sh moved.now.spare m.to i params moved.took_old moved.took_new
      ⊎ (LacksRoomForBoth sh before news moved.now.spare m.to i params moved.took_old moved.took_new
      ⊎ IsHashedAnew sh moved.now.spare m.to i moved.took_old moved.took_new)

  took_cause : (params : Params) → m.to_built ≡ Some params
      → LackRoom m moved.gave_new moved.took_new moved.now.spare → TookCause params m.index
  took_cause params built lack = elim moved.empty [
    | inr none ↦ alone (none_needed (gave_how m moved.gave_new.page) moved.gave_new.page none)
    | inl none ↦ go moved.gave_new.page refl none
  ]
    where
      took_needs : entries_of_page (to_then m) moved.took_new.page
          ≡ page_needs sh m.to m.index params moved.took_new.page
      took_needs = ap (λ o. entries_of_page (hashing_if m.index m.to m.bits (built_or o m.from_built))
          moved.took_new.page) built ∙ needed sh m m.to params moved.took_new.page moved.bits

      alone : entries_of_page (gave_how m moved.gave_new.page) moved.gave_new.page ≡ 0
          → TookCause params m.index
      alone none = let two = took_needs in let less = lack.lacks in
          inl (inl (omega (arith, none, two, less)))

      both : HasNoRows moved.took_old.page → (other : Params) → m.from_built ≡ Some other
          → gave_how m moved.gave_new.page ≡ hashing_if m.index m.from m.bits (Some other)
          → TookCause params m.index
      both none other is how = inr (inl (record {
        other = m.from;
        apart = moved.apart;
        old = moved.gave_old;
        new = moved.gave_new;
        becomes = gave_becomes;
        bare = lack.gave;
        empty = inr (inl none);
        lacks = subst (λ o. moved.now.spare < page_needs sh m.to m.index params moved.took_new.page
            + page_needs sh m.from m.index (params_or o params) moved.gave_new.page)
            (sym (moved.gave.stays.was_built ∙ is))
            (let one = ap (λ h. entries_of_page h moved.gave_new.page) how
            ∙ needed sh m m.from other moved.gave_new.page moved.bits in
            let two = took_needs in let less = lack.lacks in omega (arith, one, two, less));
      }))

      go : (o : Option PageRows) → moved.gave_new.page ≡ o → HasNoRows moved.took_old.page
          → TookCause params m.index
      go None paged none = alone (ap (λ o. entries_of_page (gave_how m o) o) paged)
      go (Some page) paged none = elim (gave_some m (page.head.level == 0) m.from_built page) [
        | inl zero ↦ alone (ap (λ o. entries_of_page (gave_how m o) o) paged ∙ zero)
        | inr some ↦ both none some.0 some.1 (ap (gave_how m) paged ∙ some.2)
      ]

  -- and the one that took them
  pub took_stays : StaysHashed sh before news m.to moved.took_old moved.took_new
  took_stays index params was leaf = elim moved.keeps.stay [
    | inl kept ↦ inl (subst (λ h. IsHashedIf h moved.took_new → IsHashedWith index params
        moved.took_new) (sym how) (λ is. record {
          hashed = is.index ∙ ap Some (sym same);
          built = is.params;
        }) kept.took)
    | inr lack ↦ inr (inl (record {
      old = moved.known;
      new = moved.now;
      becomes = part_becomes index same;
      cause = subst (TookCause params) (sym same) (took_cause params built lack);
    }))
  ]
    where
      same : index ≡ m.index
      same = moved.took.stays.was_for index was.hashed

      built : m.to_built ≡ Some params
      built = sym moved.took.stays.was_built ∙ was.built

      how : to_then m ≡ hashing_if m.index m.to m.bits (Some params)
      how = ap (λ o. hashing_if m.index m.to m.bits (built_or o m.from_built)) built
