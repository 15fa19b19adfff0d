-- A block's frame comes back unhashed: the step follows, and what is known once the partition is
-- given back.
use Rattle.std.proofs.Common.{◌≡◌, ◌≢◌, inl, inr, true, false, ℕ, ◌<◌, List, [], ◌∷◌, ◌++◌, sym, ap, subst, ◌∙◌, refl, arith, Option, Some, None}
use Rattle.std.specs.List.{AllByRecursion}
use Rattle.std.proofs.lemmas.Bool.{cases_eq}
use lib.ListN.{get_elem?}
use Rattle.list_facts.proofs.Each.{each_left, each_right}
use Rattle.latch_law.specs.declared.knows.Holding.{Holding}
use Rattle.latch_law.specs.declared.knows.Terms.{Terms}
use Rattle.latch_law.specs.Rule.{Holds}
use Rattle.latch_law.specs.Views.{holding, learnt, settling}
use Rattle.latch_law.proofs.Lists.{learnt_some}
use Rattle.latch_space.specs.Has.{IsKnown, DidSettle}
use Rattle.latch_space.specs.Passes.{view, values, known_values, count, Shows}
use Rattle.latch_space.proofs.Pointwise.{learnt_known}
use Rattle.hash_law.specs.Blocks.{IsTidy}
use Rattle.hash_upkeep.specs.declared.upkeep.Upkeep.TheVariants.{Dropped}
use Rattle.index_law.specs.Shape.{Shape}
use Rattle.forest_law.specs.declared.objects.Frame.{Frame}
use Rattle.forest_law.specs.declared.objects.Object.{Object}
use Rattle.forest_law.specs.declared.objects.Object.TheVariants as object
use Rattle.forest_law.specs.Hashed.{hash_block, IsExactFor}
use Rattle.forest_law.specs.HashStays.{StaysHashed}
use Rattle.forest_law.specs.Law.{Follows}
use Rattle.forest_law.specs.Numbers.{pool_id, part_id, frame_id, frames_of}
use Rattle.forest_law.specs.Steps.{Rests}
use Rattle.forest_law.proofs.HashLawLemmas.{unhashed_asks}
use Rattle.forest_law.proofs.RowStepLemmas.{row_changes_follow}
use Rattle.forest_world.specs.Held.{TreePass, shape_of_pass, HasFrame, HasPart, RestsBeyond}
use Rattle.forest_world.specs.HandLaws.{StepsInHand}
use Rattle.forest_world.specs.HashHands.{IsHashedIn, HandKeepsHash, HandsKeepTheHash}
use Rattle.forest_world.proofs.HandLemmas.{becomes_of, hands_make_steps, rests_itself}
use Rattle.hash_maintain.specs.Leaves.{unhashed}
use Rattle.hash_maintain.specs.Hands.{UpkeepKeepsTheHash}
use Rattle.hash_maintain.proofs.PassLemmas.{knows_forest}
use Rattle.buffer_pool.specs.Calls.{Does}
use Rattle.buffer_pool.specs.Forests.{TreeView}
use Rattle.buffer_pool.specs.Frames.{PutsBack}
use Rattle.buffer_pool.specs.Parts.{part_ids, KnowsPartIf, MayUnhash}
use Rattle.buffer_pool.proofs.AddedLemmas.{none_added, held_adds, none_spares}
use Rattle.buffer_pool.proofs.FrameLemmas.{one_held}
use Rattle.buffer_pool.proofs.HashRestLemmas.{bare_alike, frame_rests}
use Rattle.buffer_pool.proofs.KeepLemmas.{learnt_same}
use Rattle.buffer_pool.proofs.PartLemmas.{hold_tries, part_kept}
use Rattle.buffer_pool.proofs.SpaceLemmas.{known_below}
use Rattle.buffer_pool.proofs.UnhashLemmas.{HeldFor, DroppedOut}

none_is : {A : Type 0} (x : A) → None ≡ Some x → ⊥
none_is x e = absurd cc

-- a partition has one number in passes of one shape
not_part : (p q : TreePass) (j k : ℕ) → shape_of_pass q ≡ shape_of_pass p
    → j ≢ part_id (shape_of_pass q) k → j ≢ part_id (shape_of_pass p) k
not_part p q j k same differs e = differs (e ∙ ap (λ (s : Shape). part_id s k) (sym same))

-- the frame comes back, and that is made known
module _ {p q : TreePass} {b : ℕ} {f : Frame} (known : IsKnown p) {p1 : TreePass}
    (back : PutsBack p1 b (unhashed f) q) where
  module _ {o : Option ℕ} (d : DroppedOut p p1 b f o) where
    same_view : view q ≡ view p
    same_view = back.view ∙ d.view

    shape1 : shape_of_pass p1 ≡ shape_of_pass p
    shape1 = ap (λ (v : TreeView). v.terms.shape) d.view

    same_shape : shape_of_pass q ≡ shape_of_pass p
    same_shape = ap (λ (v : TreeView). v.terms.shape) same_view

    has_frame : HasFrame q b f (unhashed f)
    has_frame = back.has f d.out

    -- all else is what it is known to be
    known_else : (j : ℕ) (h : Holding Object) → j ≢ frame_id (shape_of_pass p) b
        → AllByRecursion (λ (k : ℕ). j ≢ k) (part_ids (shape_of_pass p) o) → Holds (view q) j h
        → Shows q j h.known
    known_else j h differs apart holds =
        (back.hand.others j (λ e. differs (e ∙ ap (λ (s : Shape). frame_id s b) shape1))).1
        ∙ (d.others j differs apart
        ∙ known j h (sym (ap (λ (v : TreeView). get_elem? v.held j) same_view) ∙ holds))

    not_frame : (j : ℕ) → j ≢ frame_id (shape_of_pass q) b → j ≢ frame_id (shape_of_pass p) b
    not_frame j differs e = differs (e ∙ ap (λ (s : Shape). frame_id s b) (sym same_shape))

  kept_part : (k : ℕ) → (d : DroppedOut p p1 b f (Some k)) → HasPart q k d.part.known d.part.now
  kept_part k d = part_kept p1 q (frame_id (shape_of_pass p1) b) k back.hand.terms
      back.hand.others (λ e. (let below = d.part.below in omega (arith, e, below))) d.part.known
      d.part.now d.part.has

  -- a leaf whose page may go may be unhashed
  may_be : MayUnhash (view p) f → (o : Option ℕ) → DroppedOut p p1 b f o
      → StaysHashed (shape_of_pass q) (known_values q) (values q) b f (unhashed f)
  may_be (inr outside) o d index params was leaf = absurd (not_both
      (sym (outside leaf.page leaf.page_is) ∙ leaf.inside))
    where
      not_both : true ≡ false → ⊥
      not_both e = absurd cc
  may_be (inl pool) o d index params was leaf = inr (inr (record {
    stays = refl;
    old = pool.1;
    new = pool.1;
    pool = becomes_of q pool_id (object.Pool pool.1) (object.Pool pool.1) (record {
      held = (pool.0, held);
      value = known_else d pool_id (holding pool.0 (object.Pool pool.1)) (λ e. omega (arith, e))
          (apart o) held;
    });
  }))
    where
      held : Holds (view q) pool_id (holding pool.0 (object.Pool pool.1))
      held = ap (λ (v : TreeView). get_elem? v.held pool_id) (same_view d) ∙ pool.2

      apart : (z : Option ℕ) → AllByRecursion (λ (k : ℕ). pool_id ≢ k)
          (part_ids (shape_of_pass p) z)
      apart None = tt
      apart (Some k) = ((λ e. omega (arith, e)), tt)

  -- the hash is kept
  keeps : HandsKeepTheHash → UpkeepKeepsTheHash → MayUnhash (view p) f → IsTidy (hash_block f)
      → b < frames_of (shape_of_pass p) → (o : Option ℕ) → DroppedOut p p1 b f o
      → HandKeepsHash q
  keeps law upkeep may tidy below None d = law.rests q (frame_rests q b f (unhashed f)
      (has_frame d)
      (record {
        tidy = upkeep.tidy (Dropped 0 0) f;
        asks = λ k. unhashed_asks (shape_of_pass q) k b f (unhashed f) d.part refl;
        alike = bare_alike f (unhashed f) d.part;
      })
      (λ j h apart holds. known_else d j h (not_frame d j apart.1.0) tt holds))
  keeps law upkeep may tidy below (Some k) d = let shape = ap (λ (t : Terms Shape). t.shape)
      back.hand.terms in
      upkeep.keeps q k b (record {
        known = d.part.known;
        now = d.part.now;
        old = f;
        new = unhashed f;
        part = kept_part k d;
        frame = has_frame d;
        below = subst (λ (s : Shape). b < frames_of s) (sym (same_shape d)) below;
        was_in = subst (λ (s : Shape). IsHashedIn s k f) (sym shape) d.part.hashed;
        is_in = λ index e. absurd (none_is index e);
        tidy = upkeep.tidy (Dropped 0 0) f;
        exact = subst (λ (s : Shape). IsExactFor s k b d.part.now (unhashed f)) (sym shape)
            d.part.exact;
        others = d.part.others;
        shape = d.part.shape;
        stays = may_be may (Some k) d;
        beyond = λ j h apart holds. known_else d j h
            (not_frame d j apart.1.0)
            (not_part p q j k (same_shape d) apart.0, tt) holds;
      })

  -- and all is at rest
  frame_at_rest : (o : Option ℕ) (d : DroppedOut p p1 b f o) (j : ℕ) (h : Holding Object)
      → j ≡ frame_id (shape_of_pass q) b → Holds (view q) j h
      → (x : Object) × Shows q j x × Rests h.known x
  frame_at_rest o d j h e holds = let has = has_frame d in (
    object.Frame (unhashed f),
    ap (get_elem? (values q)) e ∙ has.value,
    subst (λ (g : Holding Object). Rests g.known (object.Frame (unhashed f)))
        (one_held q (frame_id (shape_of_pass q) b) (holding has.held.0 (object.Frame f)) h
        has.held.1 (ap (get_elem? (view q).held) (sym e) ∙ holds))
        (record { page = refl; low = refl; high = refl; clock = omega arith }),
  )

  part_at_rest : (k : ℕ) (d : DroppedOut p p1 b f (Some k)) (j : ℕ) (h : Holding Object)
      → j ≡ part_id (shape_of_pass q) k → Holds (view q) j h
      → (x : Object) × Shows q j x × Rests h.known x
  part_at_rest k d j h e holds = let has = kept_part k d in (
    object.Part d.part.now,
    ap (get_elem? (values q)) e ∙ has.value,
    subst (λ (g : Holding Object). Rests g.known (object.Part d.part.now))
        (one_held q (part_id (shape_of_pass q) k) (holding has.held.0 (object.Part d.part.known)) h
        has.held.1 (ap (get_elem? (view q).held) (sym e) ∙ holds)) tt,
  )

  all_rest : (o : Option ℕ) → DroppedOut p p1 b f o → RestsBeyond q []
  all_rest None d j h apart holds = elim (cases_eq j (frame_id (shape_of_pass q) b)) [
    | inl e ↦ frame_at_rest None d j h e holds
    | inr ne ↦
        (h.known, known_else d j h (not_frame d j ne) tt holds, rests_itself h.known)
  ]
  all_rest (Some k) d j h apart holds = elim (cases_eq j (frame_id (shape_of_pass q) b)) [
    | inl e ↦ frame_at_rest (Some k) d j h e holds
    | inr ne ↦ elim (cases_eq j (part_id (shape_of_pass q) k)) [
      | inl e ↦ part_at_rest k d j h e holds
      | inr not ↦ (
        h.known,
        known_else d j h (not_frame d j ne)
            (not_part p q j k (same_shape d) not, tt) holds,
        rests_itself h.known,
      )
    ]
  ]

  part_settled : (o : Option ℕ) → DroppedOut p p1 b f o → (r : TreePass) → DidSettle q r
      → KnowsPartIf (view r) o
  part_settled None d r told = tt
  part_settled (Some k) d r told =
      let now : shape_of_pass q ≡ shape_of_pass r =
      ap (λ (v : TreeView). v.terms.shape) (sym told.view) in
      let before : shape_of_pass p1 ≡ shape_of_pass q =
      ap (λ (t : Terms Shape). t.shape) (sym back.hand.terms) in
      let was : (t : Object) × Holds (view r) (part_id (shape_of_pass q) k)
      (holding t (object.Part d.part.now)) =
      (told.learnt.has (part_id (shape_of_pass q) k) (object.Part d.part.known)
      (object.Part d.part.now) (kept_part k d)).held in (
        subst (λ (z : Shape). k < z.parts) (before ∙ now) d.part.below,
        d.part.now,
        (
          was.0,
          subst (λ (z : Shape). Holds (view r) (part_id z k) (holding was.0
              (object.Part d.part.now))) now was.1,
        ),
      )

-- the frame is back in its place, unhashed, and the partition is in hand without its nodes
pub record UnhashedInHand (p0 p q : TreePass) (b : ℕ) (f : Frame) (o : Option ℕ) : Type 0 where
  pub held : HeldFor p0 p b f o
  pub between : TreePass
  pub dropped : DroppedOut p between b f o
  pub back : PutsBack between b (unhashed f) q

module _ {p0 p q : TreePass} {b : ℕ} {f : Frame} {o : Option ℕ} (before : IsKnown p0)
    (done : UnhashedInHand p0 p q b f o) where
  abbrev known : IsKnown p
  known = done.held.known

  abbrev d : DroppedOut p done.between b f o
  d = done.dropped

  steps : StepsInHand q [] []
  steps = hands_make_steps q [] []
      (record { each = tt; tops = tt; others = all_rest known done.back o d })

  pub unhash_whole : (k : ℕ) (h : Holding Object) → Holds (view q) k h
      → (x : Object) × Shows q k x
  unhash_whole = steps.whole

  -- the pool is held still
  may_still : MayUnhash (view p0) f → MayUnhash (view p) f
  may_still (inr outside) = inr outside
  may_still (inl pool) = inl (
    pool.0,
    pool.1,
    (hold_tries p0 p o before done.held.holds).does.rest pool_id (apart o) ∙ pool.2,
  )
    where
      apart : (z : Option ℕ) → AllByRecursion (λ (k : ℕ). pool_id ≢ k)
          (part_ids (shape_of_pass p0) z)
      apart None = tt
      apart (Some k) = ((λ e. omega (arith, e)), tt)

  pub unhash_follows : HandsKeepTheHash → UpkeepKeepsTheHash → MayUnhash (view p0) f
      → Follows (shape_of_pass q) (known_values q) (values q) None
  unhash_follows law upkeep may = let held = done.held in
      let below = known_below p b held.knows.0 (object.Frame f) held.knows.1
      (knows_forest p held.fitted).objects in
      row_changes_follow.rest (shape_of_pass q) (known_values q) (values q) steps.make
      (keeps known done.back law upkeep (may_still may) held.tidy below o d)

  module _ {r : TreePass} (told : DidSettle q r) where
    held_now : (view r).held ≡ learnt (values q) (view q).held
    held_now = ap (λ (v : TreeView). v.held) told.view

    pub settled_known : IsKnown r
    settled_known = learnt_known q r unhash_whole held_now told.learnt.values

    settled_view : view r ≡ settling (view p) (values q)
    settled_view = told.view
        ∙ ap (λ (v : TreeView). settling v (values q)) (same_view known done.back d)

    abbrev ks : List ℕ
    ks = part_ids (shape_of_pass p) o ++ frame_id (shape_of_pass p) b ∷ []

    pub settled_does : Does p r ks none_added
    settled_does = record {
      adds = held_adds (view p) (view r) (learnt (values q) (view p).held) settled_view;
      spares = none_spares (shape_of_pass p);
      rest = λ j apart. ap (λ hs. get_elem? hs j) held_now
          ∙ (learnt_same (values q) (view q).held j
          (λ h holds. known_else known done.back d j h
          (each_right (λ (k : ℕ). j ≢ k) (part_ids (shape_of_pass p) o)
          (frame_id (shape_of_pass p) b ∷ []) apart).0
          (each_left (λ (k : ℕ). j ≢ k) (part_ids (shape_of_pass p) o)
          (frame_id (shape_of_pass p) b ∷ []) apart) holds)
          (λ lacked. sym (ap (λ hs. get_elem? hs j) held_now) ∙ told.learnt.lacks j lacked)
          ∙ ap (λ (v : TreeView). get_elem? v.held j) (same_view known done.back d));
      known = settled_known;
    }

    -- the frame is known so
    pub settled_frame : (t : Object)
        → Holds (view p) (frame_id (shape_of_pass p) b) (holding t (object.Frame f))
        → Holds (view r) (frame_id (shape_of_pass p) b) (holding t (object.Frame (unhashed f)))
    settled_frame t held = ap (λ hs. get_elem? hs (frame_id (shape_of_pass p) b)) held_now
        ∙ learnt_some (values q) (view q).held (frame_id (shape_of_pass p) b)
        (holding t (object.Frame f)) (object.Frame (unhashed f))
        (ap (λ (v : TreeView). get_elem? v.held (frame_id (shape_of_pass p) b))
        (same_view known done.back d) ∙ held)
        (subst (λ (s : Shape). Shows q (frame_id s b) (object.Frame (unhashed f)))
        (same_shape known done.back d) (has_frame known done.back d).value)

    pub settled_count : count r ≡ count p
    settled_count = told.learnt.count ∙ (done.back.count ∙ d.count)

    -- and the partition is held, if there is one
    pub settled_part : KnowsPartIf (view r) o
    settled_part = part_settled known done.back o d r told
