-- Two frames in hand between which rows moved, out of their places, kept up with and put back.
use Rattle.std.proofs.Common.{◌≡◌, ◌≢◌, ℕ, ◌<◌, List, [], ◌∷◌, inl, inr, sym, ap, subst, ◌∙◌, refl, arith, Option, Some, None}
use Rattle.std.specs.List.{AllByRecursion}
use mathlib.Core.Option.{some-injective}
use lib.ListN.{get_elem?}
use Rattle.list_facts.proofs.Places.{none_is_not, same_some}
use Rattle.latch_law.specs.Views.{holding}
use Rattle.latch_space.specs.Has.{Has}
use Rattle.latch_space.specs.Passes.{view, values, Lacks}
use Rattle.hash_partition.specs.Part.{Part}
use Rattle.hash_law.specs.Blocks.{part_for}
use Rattle.hash_upkeep.specs.declared.upkeep.Upkeep.{Upkeep}
use Rattle.hash_upkeep.specs.declared.upkeep.Upkeep.TheVariants.{Kept}
use Rattle.index_law.specs.Shape.{Shape}
use Rattle.forest_law.specs.declared.objects.Frame.{Frame}
use Rattle.forest_law.specs.declared.objects.Object.TheVariants as object
use Rattle.forest_law.specs.Counted.{SuitsHash}
use Rattle.forest_law.specs.Hashed.{IsExactFor}
use Rattle.forest_law.specs.Numbers.{part_id, frame_id}
use Rattle.forest_law.proofs.ObjectLemmas.{same_part}
use Rattle.forest_world.specs.Held.{TreePass, shape_of_pass, HasPart}
use Rattle.hash_maintain.specs.Moves.{KeepsUpBoth, first_hashed, move_in, MovedSinceExact, MovesInHand, frame_hashed}
use Rattle.hash_maintain.specs.MoveLaws.{MovesKeepTheHash}
use Rattle.hash_maintain.specs.Parting.{IsFoundOrTaken, StaysInHand}
use Rattle.hash_maintain.specs.Upkeep.{IsExactIn, AreInPlace}
use Rattle.hash_upkeep.specs.declared.hashing.Hashing.{Hashing}
use Rattle.call_law.specs.Spoken.{View}
use Rattle.buffer_pool.specs.Frames.{TakesOut, PutsBack}
use Rattle.buffer_pool.specs.Hands.{HoldsFrame, HasOut}
use Rattle.buffer_pool.specs.Parts.{part_of_index, part_ids}
use Rattle.tree_smo.specs.Keeping.{HasExactPart, HasMovedRows, RehashesFrame, move_of, KeepsPart, moved_ids, KeepsMovedRows}
use Rattle.tree_smo.specs.Remakes.{Remakes}
use Rattle.tree_smo.proofs.RemakeLemmas.{remakes_out, remakes_back, remakes_among, remakes_both, remakes_weaker, same_shape, has_remade}

-- no partition's number is a frame's
pub frame_no_part : (s : Shape) (b k : ℕ) → k < s.parts → frame_id s b ≢ part_id s k
frame_no_part s b k below e = omega (arith, below, e)

-- nor is that of an index's partition, if there is one
pub frame_apart : (s : Shape) (b : ℕ) (o : Option ℕ) → 0 < s.parts
    → AllByRecursion (λ (j : ℕ). frame_id s b ≢ j) (part_ids s (part_of_index s o))
frame_apart s b None parts = tt
frame_apart s b (Some i) parts = (frame_no_part s b (part_for s.parts i) (omega (arith, parts)), tt)

module _ (p q : TreePass) (ks : List ℕ) (r : Remakes p q ks) where
  -- what is lacked is what was
  lacks_back : (k : ℕ) → Lacks q k → Lacks p k
  lacks_back k lacks = ap (λ (v : View). get_elem? v.held k) (sym r.same_view) ∙ lacks

  -- no partition that is held is taken out, where none was and none was remade
  pub place_remade : ((k : ℕ) → k < (shape_of_pass p).parts
      → AllByRecursion (λ (j : ℕ). part_id (shape_of_pass p) k ≢ j) ks) → AreInPlace p
      → AreInPlace q
  place_remade apart place = subst
      (λ (s : Shape). (k : ℕ) → k < s.parts → (Lacks q (part_id s k) → ⊥)
      → (x : Part) × (y : Part) × Has q (part_id s k) (object.Part x) (object.Part y))
      (same_shape p q ks r)
      (λ k below held. (let was = place k below (λ lacks. held
      (ap (λ (v : View). get_elem? v.held (part_id (shape_of_pass p) k)) r.same_view
      ∙ lacks)) in (
        was.0,
        was.1,
        has_remade p q ks r (part_id (shape_of_pass p) k) (apart k below) (object.Part was.0)
            (object.Part was.1) was.2,
      )))

  -- a partition that is in hand and exact of two blocks is so still
  pub exact_remade : (i a b : ℕ) (f g : Frame)
      → AllByRecursion (λ (j : ℕ).
      part_id (shape_of_pass p) (part_for (shape_of_pass p).parts i) ≢ j) ks
      → HasExactPart p (part_for (shape_of_pass p).parts i) a b f g
      → HasExactPart q (part_for (shape_of_pass q).parts i) a b f g
  exact_remade i a b f g apart e = let s = shape_of_pass p in let same = same_shape p q ks r in
      record {
        part = e.part;
        has = subst
            (λ (z : Shape). Has q (part_id z (part_for z.parts i)) (object.Part e.part)
            (object.Part e.part)) same
            (has_remade p q ks r (part_id s (part_for s.parts i)) apart (object.Part e.part)
            (object.Part e.part) e.has);
        gave = subst (λ (z : Shape). IsExactFor z (part_for z.parts i) a e.part f) same e.gave;
        took = subst (λ (z : Shape). IsExactFor z (part_for z.parts i) b e.part g) same e.took;
      }

  -- a frame that is out stays out
  pub out_remade : (b : ℕ) (f : Frame)
      → AllByRecursion (λ (j : ℕ). frame_id (shape_of_pass p) b ≢ j) ks → HasOut p b f
      → HasOut q b f
  out_remade b f apart out = let n = ap (λ (s : Shape). frame_id s b) (sym (same_shape p q ks r)) in
      record {
        held = (
          out.held.0,
          ap (get_elem? (view q).held) n
              ∙ (ap (λ (v : View). get_elem? v.held (frame_id (shape_of_pass p) b)) r.same_view
              ∙ out.held.1),
        );
        out = ap (get_elem? (values q)) n ∙ (r.others (frame_id (shape_of_pass p) b) apart ∙ out.out);
      }

-- one partition is in hand at a number
one_part : (p : TreePass) (n : ℕ) (x y s t : Part) → Has p n (object.Part x) (object.Part y)
    → Has p n (object.Part s) (object.Part t) → (x ≡ s) × (y ≡ t)
one_part p n x y s t one other = (
  same_part x s (ap (λ h. h.known)
      (same_some (holding one.held.0 (object.Part x)) (holding other.held.0 (object.Part s))
      (some-injective (Some (holding one.held.0 (object.Part x)))
      (Some (holding other.held.0 (object.Part s))) (sym one.held.1 ∙ other.held.1)))),
  same_part y t (same_some (object.Part y) (object.Part t)
      (some-injective (Some (object.Part y)) (Some (object.Part t))
      (sym one.value ∙ other.value))),
)

-- a frame that is hashed somehow is as before but for that
rehashes : (h : Option Hashing) (f g : Frame) → g ≡ frame_hashed h f → RehashesFrame f g
rehashes None f g e = e ∙ (λ i. record f {
  figures = (sym (ap (λ (z : Frame). z.figures) e)) i;
  hashed = (sym (ap (λ (z : Frame). z.hashed) e)) i;
})
rehashes (Some how) f g e = e ∙ (λ i. record f {
  figures = (sym (ap (λ (z : Frame). z.figures) e)) i;
  hashed = (sym (ap (λ (z : Frame). z.hashed) e)) i;
})

module _ (law : MovesKeepTheHash) (p : TreePass) (a b : ℕ) (h : HasMovedRows p a b)
    (suits : SuitsHash (shape_of_pass p)) (q r : TreePass) (gave took : Frame)
    (first : TakesOut p a gave q) where
  -- the second frame is in hand when it is taken out
  pub took_held : HoldsFrame q b
  took_held = (
    h.took_old,
    h.took_new,
    first.hand.frames b h.took_old h.took_new (λ e. h.apart (sym e)) h.took,
  )

  module _ (second : TakesOut q b took r) where
    -- both are out, as they were
    pub gave_out : HasOut r a h.gave_old × (gave ≡ h.gave_new)
    gave_out = let o = first.out h.gave_old h.gave_new h.gave in
        (second.hand.outs a h.gave_old h.apart o.0, o.1)

    pub took_out : HasOut r b h.took_old × (took ≡ h.took_new)
    took_out = second.out h.took_old h.took_new
        (first.hand.frames b h.took_old h.took_new (λ e. h.apart (sym e)) h.took)

    abbrev ids : Shape → List ℕ
    ids shape = frame_id shape a ∷ frame_id shape b ∷ []

    outs : Remakes p r (ids (shape_of_pass p))
    outs = remakes_both p q r ids
        (remakes_among p q (frame_id (shape_of_pass p) a) (ids (shape_of_pass p)) (λ z. z.0 refl)
        (remakes_out p q a gave first))
        (remakes_among q r (frame_id (shape_of_pass q) b) (ids (shape_of_pass q)) (λ z. z.1.0 refl)
        (remakes_out q r b took second))

    shapes : shape_of_pass p ≡ shape_of_pass r
    shapes = same_shape p r (ids (shape_of_pass p)) outs

    some_parts : 0 < (shape_of_pass r).parts
    some_parts = subst (λ (s : Shape). 0 < s.parts) shapes suits.parts

    parts_apart : (s : Shape) (k : ℕ) → k < s.parts
        → AllByRecursion (λ (j : ℕ). part_id s k ≢ j) (ids s)
    parts_apart s k below =
        ((λ e. omega (arith, below, e)), ((λ e. omega (arith, below, e)), tt))

    pub in_place : AreInPlace p → AreInPlace r
    in_place = place_remade p r (ids (shape_of_pass p)) outs (parts_apart (shape_of_pass p))

    -- the partition is still in hand
    part_there : (i : ℕ) → first_hashed h.gave_new h.took_new ≡ Some i
        → HasExactPart r (part_for (shape_of_pass r).parts i) a b h.gave_old h.took_old
    part_there i found = exact_remade p r (ids (shape_of_pass p)) outs i a b h.gave_old h.took_old
        (parts_apart (shape_of_pass p) (part_for (shape_of_pass p).parts i)
        (let parts = suits.parts in omega (arith, parts))) (h.part i found)

    exact_in : (k c : ℕ) (f : Frame) (part : Part) → HasPart r k part part
        → IsExactFor (shape_of_pass r) k c part f → IsExactIn r k c f
    exact_in k c f part has exact = record {
      held = λ x y other. subst (λ z. IsExactFor (shape_of_pass r) k c z f)
          (one_part r (part_id (shape_of_pass r) k) part part x y has other).1 exact;
      free = λ lacks. absurd (none_is_not (holding has.held.0 (object.Part part))
          (sym lacks ∙ has.held.1));
    }

    -- what the upkeep asks
    pub moved_since : (i : ℕ) → first_hashed gave took ≡ Some i
        → MovedSinceExact r (part_for (shape_of_pass r).parts i) (move_in r i a b gave took) gave took
    moved_since = subst
        (λ x. (i : ℕ) → first_hashed x took ≡ Some i
        → MovedSinceExact r (part_for (shape_of_pass r).parts i) (move_in r i a b x took) x took)
        (sym gave_out.1)
        (subst
        (λ y. (i : ℕ) → first_hashed h.gave_new y ≡ Some i
        → MovedSinceExact r (part_for (shape_of_pass r).parts i) (move_in r i a b h.gave_new y)
        h.gave_new y) (sym took_out.1) ready)
      where
        ready : (i : ℕ) → first_hashed h.gave_new h.took_new ≡ Some i
            → MovedSinceExact r (part_for (shape_of_pass r).parts i)
            (move_in r i a b h.gave_new h.took_new) h.gave_new h.took_new
        ready i found = let e = part_there i found in
            let k = part_for (shape_of_pass r).parts i in
            law.ready r h.index h.fields a b h.gave_old h.gave_new h.took_old h.took_new
            (subst SuitsHash shapes suits) h.moves h.tidy h.took_tidy h.apart i found
            (exact_in k a h.gave_old e.part e.has e.gave)
            (exact_in k b h.took_old e.part e.has e.took)

    module _ (s : TreePass) (g' t' : Frame) (answer : Upkeep)
        (rests : first_hashed gave took ≡ None
        → (answer ≡ Kept) × (s ≡ r) × (g' ≡ gave) × (t' ≡ took))
        (moves : (i : ℕ) → first_hashed gave took ≡ Some i
        → MovesInHand r (part_for (shape_of_pass r).parts i) (move_in r i a b gave took) gave took g'
        t' answer s) where
      rested : first_hashed h.gave_new h.took_new ≡ None
          → (answer ≡ Kept) × (s ≡ r) × (g' ≡ h.gave_new) × (t' ≡ h.took_new)
      rested = subst
          (λ x. first_hashed x h.took_new ≡ None
          → (answer ≡ Kept) × (s ≡ r) × (g' ≡ x) × (t' ≡ h.took_new)) gave_out.1
          (subst
          (λ y. first_hashed gave y ≡ None
          → (answer ≡ Kept) × (s ≡ r) × (g' ≡ gave) × (t' ≡ y)) took_out.1 rests)

      moved : (i : ℕ) → first_hashed h.gave_new h.took_new ≡ Some i
          → MovesInHand r (part_for (shape_of_pass r).parts i)
          (move_in r i a b h.gave_new h.took_new) h.gave_new h.took_new g' t' answer s
      moved = subst
          (λ x. (i : ℕ) → first_hashed x h.took_new ≡ Some i
          → MovesInHand r (part_for (shape_of_pass r).parts i) (move_in r i a b x h.took_new) x
          h.took_new g' t' answer s) gave_out.1
          (subst
          (λ y. (i : ℕ) → first_hashed gave y ≡ Some i
          → MovesInHand r (part_for (shape_of_pass r).parts i) (move_in r i a b gave y) gave y g' t'
          answer s) took_out.1 moves)

      -- the partition was found in hand
      found_there : (i : ℕ) (found : first_hashed h.gave_new h.took_new ≡ Some i)
          (known was : Part) → IsFoundOrTaken r (part_for (shape_of_pass r).parts i) known was s
          → StaysInHand r (part_for (shape_of_pass r).parts i) known was s
      found_there i found known was (inl there) = there
      found_there i found known was (inr taken) = let has = (part_there i found).has in
          absurd (none_is_not
          (holding has.held.0 (object.Part (part_there i found).part))
          (sym taken.0.lacked ∙ has.held.1))

      part_remakes : (o : Option ℕ) → first_hashed h.gave_new h.took_new ≡ o
          → Remakes r s (part_ids (shape_of_pass r) (part_of_index (shape_of_pass r) o))
      part_remakes None e = subst (λ (z : TreePass). Remakes r z []) (sym (rested e).1)
          (record { same_view = refl; others = λ k apart. refl; same_count = refl })
      part_remakes (Some i) e = let m = moved i e in
          let there = found_there i e m.known m.was m.before in record {
            same_view = there.view;
            others = λ k apart. (m.beside k apart.0).1;
            same_count = there.count;
          }

      abbrev o : Option ℕ
      o = first_hashed h.gave_new h.took_new

      abbrev part_numbers : Shape → List ℕ
      part_numbers z = part_ids z (part_of_index z o)

      kept_part : Remakes r s (part_numbers (shape_of_pass r))
      kept_part = part_remakes o refl

      -- both frames are still out
      pub gave_still : HasOut s a h.gave_old
      gave_still = out_remade r s (part_numbers (shape_of_pass r)) kept_part a h.gave_old
          (frame_apart (shape_of_pass r) a o some_parts) gave_out.0

      took_still : HasOut s b h.took_old
      took_still = out_remade r s (part_numbers (shape_of_pass r)) kept_part b h.took_old
          (frame_apart (shape_of_pass r) b o some_parts) took_out.0

      module _ (u : TreePass) (third : PutsBack s a g' u) where
        pub took_later : HasOut u b h.took_old
        took_later = third.hand.outs b h.took_old (λ e. h.apart (sym e)) took_still

        module _ (v : TreePass) (fourth : PutsBack u b t' v) where
          backs : Remakes s v (ids (shape_of_pass s))
          backs = remakes_both s u v ids
              (remakes_among s u (frame_id (shape_of_pass s) a) (ids (shape_of_pass s))
              (λ z. z.0 refl) (remakes_back s u a g' third))
              (remakes_among u v (frame_id (shape_of_pass u) b) (ids (shape_of_pass u))
              (λ z. z.1.0 refl) (remakes_back u v b t' fourth))

          abbrev all_ids : Shape → List ℕ
          all_ids z = moved_ids z a b o

          all : Remakes p v (all_ids (shape_of_pass p))
          all = remakes_both p s v all_ids
              (remakes_both p r s all_ids
              (remakes_weaker p r (ids (shape_of_pass p)) (all_ids (shape_of_pass p))
              (λ k z. (z.0, (z.1.0, tt))) outs)
              (remakes_weaker r s (part_numbers (shape_of_pass r)) (all_ids (shape_of_pass r))
              (λ k z. z.1.1) kept_part))
              (remakes_weaker s v (ids (shape_of_pass s)) (all_ids (shape_of_pass s))
              (λ k z. (z.0, (z.1.0, tt))) backs)

          there_again : shape_of_pass r ≡ shape_of_pass s
          there_again = same_shape r s (part_numbers (shape_of_pass r)) kept_part

          keeps_part : (i : ℕ) → first_hashed h.gave_new h.took_new ≡ Some i
              → KeepsPart (shape_of_pass p) v i a b h.gave_old h.gave_new g' h.took_old h.took_new t'
          keeps_part i found = let m = moved i found in
              let there = found_there i found m.known m.was m.before in
              let part = part_there i found in
              let k = part_for (shape_of_pass r).parts i in
              let same = one_part r (part_id (shape_of_pass r) k) m.known m.was part.part part.part
              there.has part.has in
              let stay = law.stay r s h.index h.fields a b h.gave_old h.gave_new h.took_old h.took_new
              g' t' answer h.moves h.tidy h.took_tidy i found m in
              let has : Has s (part_id (shape_of_pass r) k) (object.Part m.known) (object.Part m.now) =
              subst
              (λ (z : Shape). Has s (part_id z k) (object.Part m.known) (object.Part m.now))
              (sym there_again) m.has in
              subst
              (λ (z : Shape). KeepsPart z v i a b h.gave_old h.gave_new g' h.took_old h.took_new t')
              (sym shapes) (record {
                known = m.known;
                now = m.now;
                has = has_remade s v (ids (shape_of_pass s)) backs (part_id (shape_of_pass r) k)
                    (subst
                    (λ (z : Shape). AllByRecursion (λ (j : ℕ). part_id (shape_of_pass r) k ≢ j)
                    (ids z)) there_again
                    (parts_apart (shape_of_pass r) k (omega (arith, some_parts))))
                    (object.Part m.known) (object.Part m.now) has;
                keeps = subst
                    (λ z. KeepsUpBoth (move_of (shape_of_pass r) i a b h.gave_new h.took_new) g' t' z
                    m.now) (same.1 ∙ sym same.0) m.keeps;
                apart = h.apart;
                gave = stay.0;
                took = stay.1;
                empty = stay.2;
              })

          gave_rest : (w : Option ℕ) → first_hashed h.gave_new h.took_new ≡ w
              → RehashesFrame h.gave_new g'
          gave_rest None e = (rested e).2 ∙ (λ i. record h.gave_new {
            figures = (sym (ap (λ (z : Frame). z.figures) (rested e).2)) i;
            hashed = (sym (ap (λ (z : Frame). z.hashed) (rested e).2)) i;
          })
          gave_rest (Some i) e = rehashes _ h.gave_new g'
              ((moved i e).from_is h.moves.left h.moves.left_is.page_is)

          took_rest : (w : Option ℕ) → first_hashed h.gave_new h.took_new ≡ w
              → RehashesFrame h.took_new t'
          took_rest None e = (rested e).3 ∙ (λ i. record h.took_new {
            figures = (sym (ap (λ (z : Frame). z.figures) (rested e).3)) i;
            hashed = (sym (ap (λ (z : Frame). z.hashed) (rested e).3)) i;
          })
          took_rest (Some i) e = rehashes _ h.took_new t' (moved i e).to_is

          pub keeps_moved : KeepsMovedRows p a b h v
          keeps_moved = record {
            gave_now = g';
            took_now = t';
            gave = fourth.hand.frames a h.gave_old g' h.apart (third.has h.gave_old gave_still);
            took = fourth.has h.took_old took_later;
            gave_rest = gave_rest o refl;
            took_rest = took_rest o refl;
            remakes = all;
            unhashed = λ e. ((rested e).2, (rested e).3);
            hashed = keeps_part;
          }
