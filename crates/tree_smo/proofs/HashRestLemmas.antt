-- Frames at rest for the hash, and what isn't known to be otherwise.
use Rattle.std.proofs.Common.{◌≡◌, ◌≢◌, ℕ, ◌≤◌, suc, List, [], ◌∷◌, inl, inr, sym, ap, subst, ◌∙◌, refl, arith, Option, Some, None}
use Rattle.std.specs.Prelude.{is_some}
use Rattle.std.specs.List.{AllByRecursion}
use Rattle.std.proofs.lemmas.Bool.{cases_eq}
use lib.ListN.{get_elem?}
use mathlib.Core.Option.{some-injective}
use Rattle.list_facts.proofs.Places.{same_some}
use Rattle.key_tuple.specs.declared.mode.Params.{Params}
use Rattle.key_tuple.specs.Fold.{asked_fields}
use Rattle.learning.specs.declared.event.BlockFigures.{BlockFigures}
use Rattle.latch_law.specs.Views.{holding}
use Rattle.latch_space.specs.Has.{Has}
use Rattle.latch_space.specs.Passes.{values, known_values, Shows}
use Rattle.index_page.specs.Page.{PageRows}
use Rattle.hash_partition.specs.Part.{Part}
use Rattle.hash_law.specs.Blocks.{AskFew, IsTidy}
use Rattle.index_law.specs.Shape.{Shape}
use Rattle.forest_law.specs.declared.objects.Frame.{Frame}
use Rattle.forest_law.specs.declared.objects.Object.{Object}
use Rattle.forest_law.specs.declared.objects.Object.TheVariants as object
use Rattle.forest_law.specs.Hashed.{hash_block}
use Rattle.forest_law.specs.HashLaws.{BlocksAskTheSame}
use Rattle.forest_law.specs.HashSteps.{KeepsHashing}
use Rattle.forest_law.specs.HashStays.{IsHashedAlike, IsHashedWith}
use Rattle.forest_law.specs.Numbers.{part_id, frame_id}
use Rattle.forest_law.specs.Objects.{Becomes}
use Rattle.forest_law.specs.Steps.{Rests}
use Rattle.forest_world.proofs.HandLemmas.{becomes_of}
use Rattle.forest_law.proofs.ObjectLemmas.{same_frame, same_part}
use Rattle.forest_world.specs.Held.{TreePass, shape_of_pass, HasFrame, HasPart, IsKnownBeyond}
use Rattle.forest_world.specs.HashHands.{FrameRestsHash}

none_some : {A : Type 0} (x : A) → None ≡ Some x → ⊥
none_some x e = absurd cc

-- a frame that is hashed as before stays so
kept_alike : (x y : Frame) → KeepsHashing x y → IsHashedAlike x y
kept_alike x y hash index params was = record {
  hashed = hash.hashed ∙ was.hashed;
  built = ap (λ (z : BlockFigures). z.built) hash.figures ∙ was.built;
}

-- a frame with an inner page isn't hashed
pub inner_unhashed : (f : Frame) (page : PageRows) (level : ℕ) → f.page ≡ Some page
    → page.head.level ≡ suc level → IsTidy (hash_block f) → f.hashed ≡ None
inner_unhashed f page level paged high tidy = go f.hashed refl
  where
    go : (h : Option ℕ) → f.hashed ≡ h → f.hashed ≡ None
    go None e = e
    go (Some i) e = let leaf = tidy.leaf i e in
        let same : leaf.page ≡ page = same_some leaf.page page (sym leaf.page_is ∙ paged) in
        let low = leaf.leaf in
        let levels : leaf.page.head.level ≡ page.head.level =
        ap (λ (p : PageRows). p.head.level) same in
        absurd (omega (arith, low, levels, high))

-- what is asked of a page's fields is asked of another page with as many
few_fields : (o other : Option PageRows) (page new : PageRows) (params : Params) → o ≡ Some page
    → other ≡ Some new → new.head.fields ≡ page.head.fields → AskFew o params → AskFew other params
few_fields o other page new params e f same few = subst (λ z. AskFew z params) (sym f)
    (subst (λ n. asked_fields params ≤ n) (sym same) (subst (λ z. AskFew z params) e few))

-- a frame that gets another page of its index, level and fields stays tidy
module _ (x y : Frame) (page new : PageRows) (hash : KeepsHashing x y) (paged : x.page ≡ Some page)
    (got : y.page ≡ Some new) (fields : new.head.fields ≡ page.head.fields) where
  pub stays_tidy : ((i : ℕ) → x.hashed ≡ Some i
      → (new.head.level ≡ page.head.level) × (new.head.index ≡ page.head.index))
      → IsTidy (hash_block x) → IsTidy (hash_block y)
  stays_tidy alike tidy = record {
    both = ap is_some hash.hashed ∙ (tidy.both
        ∙ ap (λ (z : BlockFigures). is_some z.built) (sym hash.figures));
    leaf = λ i e. (let was = sym hash.hashed ∙ e in
        let leaf = tidy.leaf i was in
        let same : leaf.page ≡ page = same_some leaf.page page (sym leaf.page_is ∙ paged) in
        record {
          page = new;
          page_is = got;
          leaf = (alike i was).0 ∙ (ap (λ (p : PageRows). p.head.level) (sym same) ∙ leaf.leaf);
          index_is = (alike i was).1
              ∙ (ap (λ (p : PageRows). p.head.index) (sym same) ∙ leaf.index_is);
        });
    built = λ params e. few_fields x.page y.page page new params paged got fields
        (tidy.built params (sym (ap (λ (z : BlockFigures). z.built) hash.figures) ∙ e));
    advice = subst (λ (z : BlockFigures). AskFew y.page z.advice) (sym hash.figures)
        (few_fields x.page y.page page new x.figures.advice paged got fields tidy.advice);
  }

  module _ (ask : BlocksAskTheSame) (shape : Shape) (b : ℕ) where
    -- where it isn't hashed, it rests
    pub unhashed_rests : x.hashed ≡ None → FrameRestsHash shape b x y
    unhashed_rests none = record {
      tidy = stays_tidy (λ i e. absurd (none_some i (sym none ∙ e)));
      asks = λ k. ask.unhashed shape k b x y none (hash.hashed ∙ none);
      alike = kept_alike x y hash;
    }

    -- and so it does with the same rows
    pub same_rows_rest : new.head.level ≡ page.head.level → new.head.index ≡ page.head.index
        → new.rows ≡ page.rows → FrameRestsHash shape b x y
    same_rows_rest level index rows = record {
      tidy = stays_tidy (λ i e. (level, index));
      asks = λ k. ask.same_rows shape k b x y page new paged got rows hash.hashed
          (ap (λ (z : BlockFigures). z.built) hash.figures);
      alike = kept_alike x y hash;
    }

module _ (m : TreePass) where
  -- at a number one object is in hand
  pub one_in_hand : (k : ℕ) (x y s t : Object) → Has m k x y → Has m k s t → (x ≡ s) × (y ≡ t)
  one_in_hand k x y s t one other = (
    ap (λ h. h.known)
        (same_some (holding one.held.0 x) (holding other.held.0 s)
        (some-injective (Some (holding one.held.0 x)) (Some (holding other.held.0 s))
        (sym one.held.1 ∙ other.held.1))),
    same_some y t (some-injective (Some y) (Some t) (sym one.value ∙ other.value)),
  )

  -- so a partition in hand has another number than a frame in hand
  pub part_not_frame : (k b : ℕ) (r s : Part) (x y : Frame) → HasPart m k r s → HasFrame m b x y
      → part_id (shape_of_pass m) k ≢ frame_id (shape_of_pass m) b
  part_not_frame k b r s x y part frame e = no
      (one_in_hand (frame_id (shape_of_pass m) b) (object.Frame x) (object.Frame y) (object.Part r)
      (object.Part s) frame (subst (λ n. Has m n (object.Part r) (object.Part s)) e part)).0
    where
      no : object.Frame x ≡ object.Part r → ⊥
      no e = absurd cc

  module _ (ids : List ℕ) (known : IsKnownBeyond m ids) where
    same_now : (k : ℕ) (x y : Object) → AllByRecursion (λ (j : ℕ). k ≢ j) ids → Has m k x y → y ≡ x
    same_now k x y apart has = same_some y x (some-injective (Some y) (Some x)
        (sym has.value ∙ known k (holding has.held.0 x) apart has.held.1))

    -- a partition and a frame that are none of these objects rest
    pub part_rests : (k : ℕ) (r s : Part)
        → AllByRecursion (λ (j : ℕ). part_id (shape_of_pass m) k ≢ j) ids → HasPart m k r s → s ≡ r
    part_rests k r s apart has = same_part s r
        (same_now (part_id (shape_of_pass m) k) (object.Part r) (object.Part s) apart has)

    pub frame_rests : (ask : BlocksAskTheSame) (b : ℕ) (x y : Frame)
        → AllByRecursion (λ (j : ℕ). frame_id (shape_of_pass m) b ≢ j) ids → HasFrame m b x y
        → FrameRestsHash (shape_of_pass m) b x y
    frame_rests ask b x y apart has = let same : y ≡ x = same_frame y x
        (same_now (frame_id (shape_of_pass m) b) (object.Frame x) (object.Frame y) apart has) in
        record {
          tidy = λ t. subst (λ (z : Frame). IsTidy (hash_block z)) (sym same) t;
          asks = λ k. ask.alike (shape_of_pass m) k b x y (ap (λ (z : Frame). z.page) same)
              (ap (λ (z : Frame). z.hashed) same) (ap (λ (z : Frame). z.figures.built) same);
          alike = λ index params was. subst (IsHashedWith index params) (sym same) was;
        }

  -- a partition in hand at the number
  abbrev pub HasSomePart : ℕ → Type 0
  HasSomePart n = (x : Part) × (y : Part) × Has m n (object.Part x) (object.Part y)

  -- it shows
  pub parts_shown : (js : List ℕ) → AllByRecursion HasSomePart js
      → AllByRecursion (λ (k : ℕ). (x : Object) × Shows m k x) js
  parts_shown [] a = tt
  parts_shown (j ∷ js) a = ((object.Part a.0.1, a.0.2.value), parts_shown js a.1)

  -- and plays no part in the pages
  pub parts_or_rest : (js : List ℕ) → AllByRecursion HasSomePart js → (k : ℕ) (x y : Object)
      → Becomes (known_values m) (values m) k x y
      → (AllByRecursion (λ (j : ℕ). k ≢ j) js → Rests x y) → Rests x y
  parts_or_rest [] a k x y becomes f = f tt
  parts_or_rest (j ∷ js) a k x y becomes f = elim (cases_eq k j) [
    | inl e ↦ (let has = a.0 in
        let there = becomes_of m j (object.Part has.0) (object.Part has.1) has.2 in
        let old : object.Part has.0 ≡ x = same_some (object.Part has.0) x
        (some-injective (Some (object.Part has.0)) (Some x)
        (sym there.0 ∙ (ap (get_elem? (known_values m)) (sym e) ∙ becomes.0))) in
        let new : object.Part has.1 ≡ y = same_some (object.Part has.1) y
        (some-injective (Some (object.Part has.1)) (Some y)
        (sym there.1 ∙ (ap (get_elem? (values m)) (sym e) ∙ becomes.1))) in
        subst (λ z. Rests z y) old (subst (λ z. Rests (object.Part has.0) z) new tt))
    | inr ne ↦ parts_or_rest js a.1 k x y becomes (λ apart. f (ne, apart))
  ]
