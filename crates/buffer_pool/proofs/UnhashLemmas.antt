-- A block's frame is out of its place, the partition of its index in hand, and its nodes leave it.
use Rattle.std.proofs.Common.{◌≡◌, ◌≢◌, inl, inr, ℕ, ◌<◌, sym, ap, subst, ◌∙◌, refl, arith, Option, Some, None}
use Rattle.std.specs.List.{AllByRecursion}
use Rattle.std.specs.Prelude.{is_some}
use Rattle.std.proofs.lemmas.Nat.{mod_below}
use mathlib.Core.Option.{some, some-injective}
use lib.ListN.{get_elem?}
use Rattle.list_facts.proofs.Places.{there, same_some, none_is_not}
use Rattle.key_tuple.specs.declared.mode.Params.{Params}
use Rattle.latch_law.specs.declared.knows.Holding.{Holding}
use Rattle.latch_law.specs.declared.knows.Terms.{Terms}
use Rattle.latch_law.specs.Views.{holding}
use Rattle.latch_space.specs.Has.{IsKnown}
use Rattle.latch_space.specs.Passes.{view, values, count}
use Rattle.chain_arena.specs.Bag.{SameOutsideBlock}
use Rattle.hash_partition.specs.Part.{Part, KeepsShape}
use Rattle.hash_law.specs.Blocks.{part_for, IsTidy}
use Rattle.hash_upkeep.specs.declared.hashing.Hashing.{Hashing}
use Rattle.index_law.specs.Shape.{Shape}
use Rattle.forest_law.specs.declared.objects.Frame.{Frame}
use Rattle.forest_law.specs.declared.objects.Object.{Object}
use Rattle.forest_law.specs.declared.objects.Object.TheVariants as object
use Rattle.forest_law.specs.Hashed.{hash_block, IsExactFor}
use Rattle.forest_law.specs.Numbers.{part_id, frame_id}
use Rattle.forest_law.proofs.ObjectLemmas.{same_part}
use Rattle.forest_world.specs.Held.{TreePass, shape_of_pass, HasFrame, HasPart}
use Rattle.forest_world.specs.HashHands.{IsHashedIn}
use Rattle.hash_maintain.specs.Leaves.{unhashed, hashing_by}
use Rattle.hash_maintain.specs.Parting.{LacksPart}
use Rattle.hash_maintain.specs.Upkeep.{AreInPlace, IsExactIn, IsExactWhereHashed, HasRoomWhereHashed, KeepsUpInHand, hashing_in}
use Rattle.hash_maintain.proofs.PassLemmas.{knows_forest}
use Rattle.call_law.specs.Hands.{KnowsFrame, KnowsPart}
use Rattle.buffer_pool.specs.Forests.{IsFittedTree}
use Rattle.buffer_pool.specs.Frames.{TakesOut}
use Rattle.buffer_pool.specs.Hands.{HasOut}
use Rattle.buffer_pool.specs.Parts.{part_of_index, part_ids, HoldsPartToo, HoldsPartIf}
use Rattle.buffer_pool.specs.Tries.{Tries}
use Rattle.buffer_pool.proofs.AddedLemmas.{frame_still}
use Rattle.buffer_pool.proofs.CallLemmas.{frame_has}
use Rattle.buffer_pool.proofs.FrameLemmas.{one_held, one_shown}
use Rattle.buffer_pool.proofs.HashRestLemmas.{known_tidy}
use Rattle.buffer_pool.proofs.KeepLemmas.{out_kept}
use Rattle.buffer_pool.proofs.PartLemmas.{part_has, part_kept, hold_tries}
use Rattle.buffer_pool.proofs.VictimLemmas.{tries_shape}

none_is : {A : Type 0} (x : A) → None ≡ Some x → ⊥
none_is x e = absurd cc

-- a partition that is known is held
part_there : (p : TreePass) (k : ℕ) → k < (shape_of_pass p).parts → IsFittedTree (view p)
    → (LacksPart p k → ⊥) → (r : Part) × KnowsPart (view p) k r
part_there p k below fitted held = let n = part_id (shape_of_pass p) k in
    let w = fitted.whole in
    let objects = (knows_forest p fitted).objects in let all = p.all in
    let kind = fitted.is_lawful.objects.kinds.parts k
    (subst (λ (s : Shape). k < s.parts) (sym fitted.fits.shape) below) in
    let a = there (view p).held n (omega (arith, below, all.0, objects)) in
    pick kind.0 (ap (λ (s : Shape). get_elem? w.objects (part_id s k)) (sym fitted.fits.shape)
    ∙ kind.1) a.0 a.1
  where
    pick : (r : Part) → get_elem? fitted.whole.objects (part_id (shape_of_pass p) k)
        ≡ some (object.Part r) → (h : Option (Holding Object))
        → get_elem? (view p).held (part_id (shape_of_pass p) k) ≡ some h
        → (r : Part) × KnowsPart (view p) k r
    pick r at None e = absurd (held e)
    pick r at (Some h) e = let is : h.known ≡ object.Part r =
        some-injective h.known (object.Part r)
        (sym (fitted.fits.known (part_id (shape_of_pass p) k) h e) ∙ at) in
        (r, (h.taken, e ∙ ap (λ z. some (Some (holding h.taken z))) is))

-- the partition of the index that a known frame is hashed for is held, if it is
pub record HeldFor (p q : TreePass) (b : ℕ) (f : Frame) (o : Option ℕ) : Type 0 where
  pub known : IsKnown q
  pub knows : KnowsFrame (view q) b f
  pub is : o ≡ part_of_index (shape_of_pass p) f.hashed
  pub below : (k : ℕ) → o ≡ Some k → k < (shape_of_pass p).parts
  pub shape : shape_of_pass q ≡ shape_of_pass p
  pub holds : HoldsPartIf p o q
  pub fitted : IsFittedTree (view q)
  pub tidy : IsTidy (hash_block f)

pub held_for : {p q : TreePass} {b : ℕ} {f : Frame} → IsKnown p → IsFittedTree (view p)
    → KnowsFrame (view p) b f → {frame : Frame}
    → ((x y : Frame) → HasFrame p b x y → frame ≡ y) → {o : Option ℕ}
    → o ≡ part_of_index (shape_of_pass p) frame.hashed → HoldsPartIf p o q
    → IsFittedTree (view q) → HeldFor p q b f o
held_for {p} {q} {b} {f} known fitted knows read {o} named holds after = record {
  known = tries.does.known;
  knows = still;
  is = is;
  below = below;
  shape = tries_shape p q (part_ids (shape_of_pass p) o) tries;
  holds = holds;
  fitted = after;
  tidy = known_tidy (view q) after b f still;
}
  where
    tries : Tries p q (part_ids (shape_of_pass p) o)
    tries = hold_tries p q o known holds

    is : o ≡ part_of_index (shape_of_pass p) f.hashed
    is = named ∙ ap (λ (z : Frame). part_of_index (shape_of_pass p) z.hashed)
        (read f f (frame_has p known b f knows))

    less : (h : Option ℕ) (k : ℕ) → part_of_index (shape_of_pass p) h ≡ Some k
        → k < (shape_of_pass p).parts
    less None k e = absurd (none_is k e)
    less (Some index) k e = subst (λ m. m < (shape_of_pass p).parts)
        (same_some (part_for (shape_of_pass p).parts index) k e)
        (mod_below index (shape_of_pass p).parts (knows_forest p fitted).hash.parts)

    below : (k : ℕ) → o ≡ Some k → k < (shape_of_pass p).parts
    below k e = less f.hashed k (sym is ∙ e)

    apart : (h : Option ℕ) → ((k : ℕ) → h ≡ Some k → k < (shape_of_pass p).parts)
        → AllByRecursion (λ (j : ℕ). frame_id (shape_of_pass p) b ≢ j)
        (part_ids (shape_of_pass p) h)
    apart None low = tt
    apart (Some k) low = ((λ e. (let less = low k refl in omega (arith, e, less))), tt)

    still : KnowsFrame (view q) b f
    still = frame_still (view p) (view q) (part_ids (shape_of_pass p) o)
        tries.does.adds.numbers tries.does.rest b (apart o below) f knows

-- the frame is out of its place
module _ (p q : TreePass) (b : ℕ) (frame f : Frame) (known : IsKnown p)
    (knows : KnowsFrame (view p) b f) (out : TakesOut p b frame q) where
  taken_was : HasOut q b f × (frame ≡ f)
  taken_was = out.out f f (frame_has p known b f knows)

  pub taken_out : HasOut q b f
  taken_out = taken_was.0

  pub taken_is : frame ≡ f
  taken_is = taken_was.1

  taken_shape : shape_of_pass q ≡ shape_of_pass p
  taken_shape = ap (λ (t : Terms Shape). t.shape) out.hand.terms

  -- a partition is in hand still
  pub taken_part : (k : ℕ) → k < (shape_of_pass p).parts → (r : Part) → KnowsPart (view p) k r
      → HasPart q k r r
  taken_part k below r knows = part_kept p q (frame_id (shape_of_pass p) b) k out.hand.terms
      out.hand.others (λ e. omega (arith, e, below)) r r (part_has p k r known knows)

  -- so no partition that is held is out of its place
  pub in_place : IsFittedTree (view p) → AreInPlace q
  in_place fitted k below held =
      let below' : k < (shape_of_pass p).parts =
      subst (λ (s : Shape). k < s.parts) taken_shape below in
      let r = part_there p k below' fitted (λ lacks. held
      (ap (λ (s : Shape). get_elem? (view q).held (part_id s k)) taken_shape
      ∙ ((out.hand.others (part_id (shape_of_pass p) k) (λ e. omega (arith, e, below'))).0
      ∙ lacks))) in
      (r.0, r.0, taken_part k below' r.0 r.1)

-- the partition of the index that the frame is hashed for is held
module _ {p0 p q : TreePass} {b : ℕ} {frame f : Frame} {o : Option ℕ}
    (held : HeldFor p0 p b f o) (out : TakesOut p b frame q) where
  pub frame_is : frame ≡ f
  frame_is = taken_is p q b frame f held.known held.knows out

  shape : shape_of_pass q ≡ shape_of_pass p
  shape = taken_shape p q b frame f held.known held.knows out

  held_so : (index : ℕ) → f.hashed ≡ Some index
      → HoldsPartToo p0 (part_for (shape_of_pass p0).parts index) p
  held_so index e = subst (λ z. HoldsPartIf p0 z p)
      (held.is ∙ ap (part_of_index (shape_of_pass p0)) e) held.holds

  abbrev k : ℕ → ℕ
  k index = part_for (shape_of_pass p0).parts index

  k_below : (index : ℕ) → k index < (shape_of_pass p).parts
  k_below index = subst (λ (s : Shape). k index < s.parts) (sym held.shape)
      (mod_below index (shape_of_pass p0).parts
      (subst (λ (s : Shape). 0 < s.parts) held.shape (knows_forest p held.fitted).hash.parts))

  found : (index : ℕ) → (e : f.hashed ≡ Some index)
      → HasPart q (k index) (held_so index e).part (held_so index e).part
  found index e = taken_part p q b frame f held.known held.knows out (k index)
      (k_below index) (held_so index e).part (held_so index e).knows

  not_lacked : (index : ℕ) → f.hashed ≡ Some index → LacksPart q (k index) → ⊥
  not_lacked index e lacks = let has = found index e in
      none_is_not (holding has.held.0 (object.Part (held_so index e).part))
      (sym lacks ∙ has.held.1)

  shapes : shape_of_pass p0 ≡ shape_of_pass q
  shapes = sym (shape ∙ held.shape)

  -- and exact of the frame
  pub exact_here : IsExactWhereHashed q b frame
  exact_here index e' = let e = ap (λ (z : Frame). z.hashed) (sym frame_is) ∙ e' in
      let so = held_so index e in
      subst (λ (s : Shape). IsExactIn q (part_for s.parts index) b frame) shapes
      (subst (IsExactIn q (k index) b) (sym frame_is) (record {
        held = λ x y has. subst (λ z. IsExactFor (shape_of_pass q) (k index) b z f)
            (same_part so.part y
            (one_shown q (part_id (shape_of_pass q) (k index)) (object.Part so.part)
            (object.Part y) (found index e).value has.value))
            (subst (λ (s : Shape). IsExactFor s (k index) b so.part f) (sym shape)
            (so.exact b f held.knows));
        free = λ lacks. absurd (not_lacked index e lacks);
      }))

  pub room_here : HasRoomWhereHashed q frame
  room_here index e' lacks = absurd (not_lacked index
      (ap (λ (z : Frame). z.hashed) (sym frame_is) ∙ e')
      (subst (λ (s : Shape). LacksPart q (part_for s.parts index)) (sym shapes) lacks))

-- partition k is in hand without the nodes of the block, which was hashed there
pub record HasKept (q : TreePass) (k b : ℕ) (f : Frame) : Type 0 where
  pub below : k < (shape_of_pass q).parts
  pub hashed : IsHashedIn (shape_of_pass q) k f
  pub known : Part
  pub now : Part
  pub has : HasPart q k known now
  pub exact : IsExactFor (shape_of_pass q) k b now (unhashed f)
  pub others : SameOutsideBlock now.nodes known.nodes b
  pub shape : KeepsShape known now

-- so it is, or the block isn't hashed
abbrev pub PartAfter : TreePass → ℕ → Frame → Option ℕ → Type 0
PartAfter q b f None = f.hashed ≡ None
PartAfter q b f (Some k) = HasKept q k b f

-- the frame is out of its place still, and all else but the partition is as it was
pub record DroppedOut (p q : TreePass) (b : ℕ) (f : Frame) (o : Option ℕ) : Type 0 where
  pub view : view q ≡ view p
  pub count : count q ≡ count p
  pub out : HasOut q b f
  pub others : (j : ℕ) → j ≢ frame_id (shape_of_pass p) b
      → AllByRecursion (λ (k : ℕ). j ≢ k) (part_ids (shape_of_pass p) o)
      → get_elem? (values q) j ≡ get_elem? (values p) j
  pub part : PartAfter q b f o

-- a tidy frame that is hashed is built
built_of : (f : Frame) → IsTidy (hash_block f) → (index : ℕ) → f.hashed ≡ Some index
    → (params : Params) × (f.figures.built ≡ Some params)
built_of f tidy index e = pick f.figures.built (sym tidy.both ∙ ap is_some e)
  where
    pick : (o : Option Params) → is_some o ≡ is_some (Some index) → (params : Params)
        × (o ≡ Some params)
    pick None e = absurd cc
    pick (Some params) e = (params, refl)

-- after the nodes left their partition, or where there were none
module _ {p0 p q2 q : TreePass} {b : ℕ} {frame f : Frame} {o : Option ℕ}
    (held : HeldFor p0 p b f o) (out : TakesOut p b frame q2)
    (rests : frame.hashed ≡ None → q ≡ q2)
    (drops : (how : Hashing) → hashing_in q2 b frame ≡ Some how
    → KeepsUpInHand q2 (part_for (shape_of_pass q2).parts how.index) b (unhashed frame) q) where
  is : frame ≡ f
  is = frame_is held out

  stayed : f.hashed ≡ None → DroppedOut p q b f None
  stayed e = subst (λ (z : TreePass). DroppedOut p z b f None)
      (sym (rests (ap (λ (z : Frame). z.hashed) is ∙ e))) (record {
        view = out.view;
        count = out.count;
        out = taken_out p q2 b frame f held.known held.knows out;
        others = λ j differs apart. (out.hand.others j differs).1;
        part = e;
      })

  shape2 : shape_of_pass q2 ≡ shape_of_pass p
  shape2 = ap (λ (t : Terms Shape). t.shape) out.hand.terms

  module _ (index : ℕ) (e : f.hashed ≡ Some index) (k : ℕ)
      (k_is : k ≡ part_for (shape_of_pass p0).parts index) (holds : HoldsPartToo p0 k p) where
    abbrev r : Part
    r = holds.part

    below : k < (shape_of_pass p).parts
    below = subst (λ (s : Shape). k < s.parts) (sym held.shape)
        (subst (λ m. m < (shape_of_pass p0).parts) (sym k_is)
        (mod_below index (shape_of_pass p0).parts
        (subst (λ (s : Shape). 0 < s.parts) held.shape
        (knows_forest p held.fitted).hash.parts)))

    has2 : HasPart q2 k r r
    has2 = taken_part p q2 b frame f held.known held.knows out k below r holds.knows

    part2 : part_for (shape_of_pass q2).parts index ≡ k
    part2 = ap (λ (s : Shape). part_for s.parts index) (shape2 ∙ held.shape) ∙ sym k_is

    kept : KeepsUpInHand q2 k b (unhashed f) q
    kept = let built = built_of f held.tidy index e in
        subst (λ z. KeepsUpInHand q2 k b (unhashed z) q) is
        (subst (λ m. KeepsUpInHand q2 m b (unhashed frame) q) part2
        (drops (record {
          index = index;
          block = b;
          params = built.0;
          bits = (shape_of_pass q2).fold_bits;
        })
        (ap (hashing_in q2 b) is
        ∙ (λ i. hashing_by b (shape_of_pass q2).fold_bits (e i) (built.1 i)))))

    -- the partition was found as it is known
    found_so : (view q ≡ view q2) × (count q ≡ count q2)
        × (kept.was ≡ r) × (kept.known ≡ r)
    found_so = elim kept.before [
      | inl found ↦ (
        found.view,
        found.count,
        same_part kept.was r (one_shown q2 (part_id (shape_of_pass q2) k)
            (object.Part kept.was) (object.Part r) found.has.value has2.value),
        same_part kept.known r (ap (λ (h : Holding Object). h.known)
            (one_held q2 (part_id (shape_of_pass q2) k)
            (holding found.has.held.0 (object.Part kept.known))
            (holding has2.held.0 (object.Part r)) found.has.held.1 has2.held.1)),
      )
      | inr taken ↦ absurd (none_is_not (holding has2.held.0 (object.Part r))
          (sym taken.0.lacked ∙ has2.held.1))
    ]

    shape3 : shape_of_pass q ≡ shape_of_pass q2
    shape3 = ap (λ (t : Terms Shape). t.shape) kept.terms

    apart2 : frame_id (shape_of_pass q2) b ≢ part_id (shape_of_pass q2) k
    apart2 a = let s = ap (λ (s : Shape). s.parts) shape2 in omega (arith, a, below, s)

    left : DroppedOut p q b f (Some k)
    left = record {
      view = found_so.0 ∙ out.view;
      count = found_so.1 ∙ out.count;
      out = out_kept q2 q (part_id (shape_of_pass q2) k) kept.terms kept.beside b f apart2
          (taken_out p q2 b frame f held.known held.knows out);
      others = λ j differs apart.
          (kept.beside j (λ a. apart.0
          (a ∙ ap (λ (s : Shape). part_id s k) shape2))).1
          ∙ (out.hand.others j differs).1;
      part = record {
        below = subst (λ (s : Shape). k < s.parts) (sym (shape3 ∙ shape2)) below;
        hashed = λ i a. ap (λ (s : Shape). part_for s.parts i) shape3
            ∙ (ap (part_for (shape_of_pass q2).parts) (same_some i index (sym a ∙ e)) ∙ part2);
        known = kept.known;
        now = kept.now;
        has = kept.has;
        exact = subst (λ (s : Shape). IsExactFor s k b kept.now (unhashed f)) (sym shape3)
            kept.exact;
        others = subst (λ (z : Part). SameOutsideBlock kept.now.nodes z.nodes b)
            (found_so.2 ∙ sym found_so.3) kept.others;
        shape = subst (λ (z : Part). KeepsShape z kept.now) (found_so.2 ∙ sym found_so.3)
            kept.shape;
      };
    }

  by : (h o : Option ℕ) → f.hashed ≡ h → o ≡ part_of_index (shape_of_pass p0) h
      → HoldsPartIf p0 o p → DroppedOut p q b f o
  by None None e same holds = stayed e
  by None (Some k) e same holds = absurd (none_is k (sym same))
  by (Some index) None e same holds =
      absurd (none_is (part_for (shape_of_pass p0).parts index) same)
  by (Some index) (Some k) e same holds = left index e k
      (same_some k (part_for (shape_of_pass p0).parts index) same) holds

  pub dropped_out : DroppedOut p q b f o
  dropped_out = by f.hashed o refl held.is held.holds
