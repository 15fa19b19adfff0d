-- References of pages that were given back, as more are added.
use Rattle.std.proofs.Common.{◌≡◌, ◌≢◌, ℕ, ◌+◌, ◌<◌, Bool, length, None, is_none, cond, List, [], ◌∷◌, ◌++◌, inl, inr, sym, ap, subst, ◌∙◌, refl, arith}
use Rattle.std.specs.List.{AllByRecursion}
use Rattle.std.proofs.lemmas.List.Sums.{sum_by-cons, sum_by-append}
use Rattle.key_tuple.specs.Order.{FieldList}
use Rattle.latch_law.specs.declared.knows.Reference.{Reference}
use Rattle.latch_law.specs.Whole.{reference}
use Rattle.tree_law.specs.TreeShape.{In}
use Rattle.index_law.specs.Shape.{Shape}
use Rattle.forest_law.specs.declared.objects.Frame.{Frame}
use Rattle.forest_law.specs.declared.objects.Object.{Object}
use Rattle.forest_law.specs.declared.objects.Object.TheVariants as object
use Rattle.forest_law.specs.Numbers.{frame_id}
use Rattle.forest_world.specs.Held.{TreePass, shape_of_pass}
use Rattle.buffer_pool.specs.Frames.{GivesFrame}
use Rattle.tree_growth.specs.Ways.{IsGoingDown}
use Rattle.tree_law.proofs.ListLemmas.{In-append_left, In-append_right}
use Rattle.tree_growth.proofs.AddLemmas.{goes_both}
use Rattle.tree_growth.proofs.HandLemmas.{goes_gave}
use Rattle.tree_shrinking.specs.declared.families.Family.{Family}
use Rattle.tree_shrinking.specs.Pairs.{GoesTo}
use Rattle.tree_shrinking.specs.Shrinking.{WasGiven, StayApart, StaysAlone, RestsAt, empty_frames, pages_freed}
use Rattle.tree_shrinking.proofs.WayLemmas.{to_both, way_gave}

-- all of the one list is among the other
abbrev pub AreAmong : List (Reference Object) → List (Reference Object) → Type 0
AreAmong rs rs' = (x : Reference Object) → In x rs → In x rs'

module _ {rs rs' : List (Reference Object)} {s t : Shape} (more : AreAmong rs rs') (same : s ≡ t) where
  pub given_more : {b : ℕ} {f : Frame} → WasGiven s b f rs → WasGiven t b f rs'
  given_more {b} {f} g = subst (λ z. WasGiven z b f rs') same
      (record { taken = g.taken; among = more _ g.among })

  pub apart_more : {i left right : ℕ} {asks : Bool} → StayApart s i left right asks rs
      → StayApart t i left right asks rs'
  apart_more a = record {
    level = a.level;
    lower_block = a.lower_block;
    upper_block = a.upper_block;
    lower = a.lower;
    upper = a.upper;
    gave_left = given_more a.gave_left;
    gave_right = given_more a.gave_right;
    is_left = a.is_left;
    is_right = a.is_right;
    left_number = a.left_number;
    right_number = a.right_number;
    apart = a.apart;
  }

  pub alone_more : {i : ℕ} {family : Family} → StaysAlone s i family rs → StaysAlone t i family rs'
  alone_more a = record {
    before = λ n e. apart_more (a.before n e);
    after = λ n e. apart_more (a.after n e);
  }

pub rests_more : (rs rs' : List (Reference Object)) → AreAmong rs rs' → (s t : Shape) → s ≡ t
    → (i level : ℕ) (key : FieldList) → RestsAt s i level key rs → RestsAt t i level key rs'
rests_more rs rs' more s t same i level key r = subst (λ z. RestsAt z i level key rs') same
    (elim r [
      | inl u ↦ inl (record {
        parent = u.parent;
        up = u.up;
        gave = given_more more refl u.gave;
        page = u.page;
        family = u.family;
        tells = u.tells;
        picks = u.picks;
        alone = alone_more more refl u.alone;
      })
      | inr e ↦ inr (record {
        top = e.top;
        block = e.block;
        root = e.root;
        gave = given_more more refl e.gave;
        page = e.page;
        number = e.number;
        low = e.low;
      })
    ])

-- pages that were freed add up
pub freed_append : (xs ys : List (Reference Object))
    → pages_freed (xs ++ ys) ≡ pages_freed xs + pages_freed ys
freed_append xs ys = sum_by-append (λ (q : Reference Object). empty_frames q.released) xs ys

-- a frame without a page counts
pub one_freed : (rs : List (Reference Object)) (k : ℕ) (taken : Object) (f : Frame)
    → In (reference k taken (object.Frame f)) rs → f.page ≡ None → 0 < pages_freed rs
one_freed [] k taken f among none = absurd among
one_freed (q ∷ rs) k taken f among none = elim among [
  | inl e ↦ (let counts : empty_frames q.released ≡ 1 =
      ap (λ (z : Reference Object). empty_frames z.released) (sym e)
      ∙ ap (λ o. cond (is_none o) 1 0) none in
      let sum = sum_by-cons (λ (z : Reference Object). empty_frames z.released) q rs in
      omega (arith, counts, sum))
  | inr later ↦ (let rest = one_freed rs k taken f later none in
      let sum = sum_by-cons (λ (z : Reference Object). empty_frames z.released) q rs in
      omega (arith, rest, sum))
]

module _ {p q r : TreePass} {i : ℕ} {key : FieldList} {bs cs : List ℕ} (first : GoesTo p i key bs q)
    (second : GoesTo q i key cs r) where
  -- what the first way added, and what the second one did, is among all
  pub among_first : AreAmong first.goes.added.references
      (to_both first second).goes.added.references
  unfolding to_both goes_both
  among_first x among = In-append_left x first.goes.added.references second.goes.added.references among

  pub among_second : AreAmong second.goes.added.references
      (to_both first second).goes.added.references
  unfolding to_both goes_both
  among_second x among =
      In-append_right x first.goes.added.references second.goes.added.references among

  pub freed_both : pages_freed (to_both first second).goes.added.references
      ≡ pages_freed first.goes.added.references + pages_freed second.goes.added.references
  unfolding to_both goes_both
  freed_both = freed_append first.goes.added.references second.goes.added.references

-- the frame that was given back is among what was added
pub gave_among : {p q : TreePass} {i : ℕ} {key : FieldList} {bs : List ℕ} {b : ℕ} (cs : List ℕ)
    (way : IsGoingDown p i key bs) (gave : GivesFrame p b q)
    (cover : (k : ℕ) → k ≢ frame_id (shape_of_pass p) b
    → AllByRecursion (λ (c : ℕ). k ≢ frame_id (shape_of_pass p) c) cs
    → AllByRecursion (λ (c : ℕ). k ≢ frame_id (shape_of_pass p) c) bs)
    (long : length bs ≡ length cs + 1)
    → WasGiven (shape_of_pass p) b gave.frame
    (way_gave {cs = cs} way gave cover long).goes.added.references
unfolding way_gave goes_gave
gave_among cs way gave cover long = record { taken = gave.taken; among = inl refl }
