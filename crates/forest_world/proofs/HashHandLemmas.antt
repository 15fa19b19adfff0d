-- What is in hand keeps the hash exact.
use Rattle.std.proofs.Common.{◌≡◌, ◌≢◌, ◌⊎◌, inl, inr, ℕ, ◌<◌, ◌≤◌, Bool, true, false, [], ◌∷◌, ◌++◌, List, map, sym, ap, subst, ◌∙◌, arith, refl, Some}
use Rattle.std.specs.List.{AllByRecursion}
use Rattle.std.proofs.lemmas.Bool.{cases_eq}
use mathlib.Core.Option.{some, some-injective}
use Rattle.list_facts.proofs.Places.{same_some}
use Rattle.latch_law.specs.Views.{holding}
use Rattle.latch_law.proofs.Lists.{known_back}
use Rattle.latch_space.specs.Has.{Has}
use Rattle.latch_space.specs.Passes.{view, values, known_values}
use Rattle.chain_arena.specs.declared.node.Node.{Node}
use Rattle.chain_arena.specs.Bag.{count_of}
use Rattle.hash_partition.specs.Part.{Part}
use Rattle.hash_law.specs.Blocks.{IsTidy}
use Rattle.index_law.specs.Shape.{Shape}
use Rattle.forest_law.specs.declared.objects.Frame.{Frame}
use Rattle.forest_law.specs.declared.objects.Object.{Object}
use Rattle.forest_law.specs.declared.objects.Object.TheVariants as object
use Rattle.forest_law.specs.Numbers.{part_id, frame_id}
use Rattle.forest_law.specs.Objects.{Becomes}
use Rattle.forest_law.specs.Hashed.{hash_block, due_for, IsPartFor}
use Rattle.forest_law.specs.HashLaws.{BlocksAskTheSame}
use Rattle.forest_law.specs.HashStays.{IsHashedWith, StaysHashed}
use Rattle.forest_law.specs.HashSteps.{AsksSame, StaysExact, KeepsUp}
use Rattle.forest_law.proofs.ObjectLemmas.{same_frame, same_part}
use Rattle.forest_law.proofs.HashLemmas.{rests_keep, keeps_up}
use Rattle.forest_world.specs.Held.{TreePass, shape_of_pass, HasFrame, HasPart, HoldsFrame, HoldsPart, IsKnownBeyond}
use Rattle.forest_world.specs.HashHands.{FrameRestsHash, HashRestsBeyond, KeepsUpBlock, HandsKeepUp, HandKeepsHash, hash_ids, AreInHand, HandsKeepTheHash}
use Rattle.forest_world.proofs.HandLemmas.{becomes_of}

true_not_false : true ≡ false → ⊥
true_not_false e = absurd cc

-- the first of two cases, or else the rest
first_case : {A B : Type 0} → A ⊎ B → Bool → Bool
first_case (inl a) rest = true
first_case (inr b) rest = rest

-- whether a number is among others
among : List ℕ → ℕ → Bool
unfolding first_case
among [] c = false
among (b ∷ bs) c = first_case (cases_eq c b) (among bs c)

-- what is so of each of them is so of one among them
found : (P : ℕ → Type 0) (bs : List ℕ) (c : ℕ) → among bs c ≡ true → AllByRecursion P bs → P c
unfolding first_case among
found P [] c e all = absurd (true_not_false (sym e))
found P (b ∷ bs) c e all = here (cases_eq c b) e (λ more. found P bs c more all.1)
  where
    here : (d : (c ≡ b) ⊎ (c ≢ b)) → first_case d (among bs c) ≡ true
        → (among bs c ≡ true → P c) → P c
    here (inl same) e rest = subst P (sym same) all.0
    here (inr ne) e rest = rest e

-- one that is not among them is none of them
none_of : (bs : List ℕ) (c : ℕ) → among bs c ≡ false → AllByRecursion (λ (b : ℕ). c ≢ b) bs
unfolding first_case among
none_of [] c e = tt
none_of (b ∷ bs) c e = here (cases_eq c b) e (λ more. none_of bs c more)
  where
    here : (d : (c ≡ b) ⊎ (c ≢ b)) → first_case d (among bs c) ≡ false
        → (among bs c ≡ false → AllByRecursion (λ (b : ℕ). c ≢ b) bs)
        → AllByRecursion (λ (b : ℕ). c ≢ b) (b ∷ bs)
    here (inl same) e rest = absurd (true_not_false e)
    here (inr ne) e rest = (ne, rest e)

-- what is so of each of two lists is so of both together
all_join : (P : ℕ → Type 0) (xs ys : List ℕ) → AllByRecursion P xs → AllByRecursion P ys
    → AllByRecursion P (xs ++ ys)
all_join P [] ys a b = b
all_join P (x ∷ xs) ys a b = (a.0, all_join P xs ys a.1 b)

-- a frame that is what it was rests
rests_itself : (shape : Shape) (b : ℕ) (x y : Frame) → y ≡ x → FrameRestsHash shape b x y
rests_itself shape b x y same = record {
  tidy = λ t. subst (λ z. IsTidy (hash_block z)) (sym same) t;
  asks = λ k p q. ap (due_for shape k b q) same;
  alike = λ index params was. subst (IsHashedWith index params) (sym same) was;
}

module _ (p : TreePass) where
  abbrev sh : Shape
  sh = shape_of_pass p

  -- an object that was known and is in hand is held so
  has_of : (k : ℕ) (m x : Object) → Becomes (known_values p) (values p) k m x → Has p k m x
  has_of k m x b = let h = known_back (view p).held k m b.0 in record {
    held = (h.0.taken, h.1 ∙ ap (λ z. some (Some (holding h.0.taken z))) h.2);
    value = b.1;
  }

  frame_becomes : (b : ℕ) (x y : Frame) → HasFrame p b x y
      → Becomes (known_values p) (values p) (frame_id sh b) (object.Frame x) (object.Frame y)
  frame_becomes b x y = becomes_of p (frame_id sh b) (object.Frame x) (object.Frame y)

  has_frame : (b : ℕ) (x y : Frame)
      → Becomes (known_values p) (values p) (frame_id sh b) (object.Frame x) (object.Frame y)
      → HasFrame p b x y
  has_frame b x y = has_of (frame_id sh b) (object.Frame x) (object.Frame y)

  has_part : (k : ℕ) (r s : Part)
      → Becomes (known_values p) (values p) (part_id sh k) (object.Part r) (object.Part s)
      → HasPart p k r s
  has_part k r s = has_of (part_id sh k) (object.Part r) (object.Part s)

  -- at one number one object is held
  one_object : (k : ℕ) (m x n y : Object) → Has p k m x → Has p k n y → (m ≡ n) × (x ≡ y)
  one_object k m x n y a b = let c = becomes_of p k m x a in let d = becomes_of p k n y b in (
    same_some m n (some-injective (Some m) (Some n) (sym c.0 ∙ d.0)),
    same_some x y (some-injective (Some x) (Some y) (sym c.1 ∙ d.1)),
  )

  -- so one frame of a block
  pub one_frame : (b : ℕ) (x y f g : Frame) → HasFrame p b x y → HasFrame p b f g
      → (x ≡ f) × (y ≡ g)
  one_frame b x y f g one other = let same = one_object (frame_id sh b) (object.Frame x)
      (object.Frame y) (object.Frame f) (object.Frame g) one other in
      (same_frame x f same.0, same_frame y g same.1)

  -- where the hash rests in hand, it is kept
  rests : HashRestsBeyond p [] [] → HandKeepsHash p
  rests rest = rests_keep sh (known_values p) (values p) (record {
    tidy = λ b x y becomes. (rest.frames b x y tt (has_frame b x y becomes)).tidy;
    parts = λ k r s becomes. rest.parts k r s tt (has_part k r s becomes);
    asks = λ k b x y becomes. (rest.frames b x y tt (has_frame b x y becomes)).asks k;
    stays = λ b x y becomes. (rest.frames b x y tt (has_frame b x y becomes)).alike;
  })

  -- a partition that keeps up with some blocks in hand keeps the hash
  module _ (ask : BlocksAskTheSame) (k : ℕ) (blocks : List ℕ) (hand : HandsKeepUp p k blocks) where
    -- the block with which it keeps up
    kept : (b : ℕ) → among blocks b ≡ true → KeepsUpBlock p k hand.was hand.now b
    kept b e = found (KeepsUpBlock p k hand.was hand.now) blocks b e hand.each

    stays : (b : ℕ) → among blocks b ≡ true
        → StaysExact sh (known_values p) (values p) k b hand.was hand.now
    stays b e = let u = kept b e in record {
      old = u.old;
      new = u.new;
      becomes = frame_becomes b u.old u.new u.frame;
      exact = u.exact;
    }

    tidy : (b : ℕ) (x y : Frame) → HasFrame p b x y → (t : Bool) → among blocks b ≡ t
        → IsTidy (hash_block x) → IsTidy (hash_block y)
    tidy b x y has true e was = let u = kept b e in
        let same = one_frame b x y u.old u.new has u.frame in
        subst (λ z. IsTidy (hash_block z)) (sym same.1)
        (u.tidy (subst (λ z. IsTidy (hash_block z)) same.0 was))
    tidy b x y has false e was = (hand.beyond.frames b x y (none_of blocks b e) has).tidy was

    -- a block that is hashed in partition k asks another for nothing
    asks : (j b : ℕ) (x y : Frame) → HasFrame p b x y → (t : Bool) → among blocks b ≡ t
        → (among blocks b ≡ true → j ≢ k) → AsksSame sh j b x y
    asks j b x y has true e apart = let u = kept b e in
        let same = one_frame b x y u.old u.new has u.frame in
        ask.elsewhere sh j b x y
        (λ index is here. apart e (sym here
        ∙ u.was_in index (ap (λ (z : Frame). z.hashed) (sym same.0) ∙ is)))
        (λ index is here. apart e (sym here
        ∙ u.is_in index (ap (λ (z : Frame). z.hashed) (sym same.1) ∙ is)))
    asks j b x y has false e apart = (hand.beyond.frames b x y (none_of blocks b e) has).asks j

    stays_hashed : (b : ℕ) (x y : Frame) → HasFrame p b x y → (t : Bool) → among blocks b ≡ t
        → StaysHashed sh (known_values p) (values p) b x y
    stays_hashed b x y has true e = let u = kept b e in
        let same = one_frame b x y u.old u.new has u.frame in
        subst (StaysHashed sh (known_values p) (values p) b x) (sym same.1)
        (subst (λ z. StaysHashed sh (known_values p) (values p) b z u.new) (sym same.0) u.stays)
    stays_hashed b x y has false e = λ index params was leaf.
        inl ((hand.beyond.frames b x y (none_of blocks b e) has).alike index params was)

    known : IsPartFor sh hand.was → (n : Node) → (t : Bool) → among blocks n.block ≡ t
        → 1 ≤ count_of n hand.now.nodes → n.block < sh.blocks
    known sound n true e has = (kept n.block e).below
    known sound n false e has = let same = hand.others n (none_of blocks n.block e) in
        sound.known n (omega (arith, has, same))

    up : KeepsUp sh (known_values p) (values p) k hand.was hand.now (among blocks)
    up = record {
      becomes = becomes_of p (part_id sh k) (object.Part hand.was) (object.Part hand.now) hand.has;
      sound = λ sound. record {
        room = hand.room ∙ sound.room;
        known = λ n has. known sound n (among blocks n.block) refl has;
      };
      parts = λ j r s ne becomes. hand.beyond.parts j r s (ne, tt) (has_part j r s becomes);
      tidy = λ b x y becomes. tidy b x y (has_frame b x y becomes) (among blocks b) refl;
      held = stays;
      others = λ b e n here. hand.others n
          (subst (λ c. AllByRecursion (λ (d : ℕ). c ≢ d) blocks) (sym here) (none_of blocks b e));
      asks = λ j b x y becomes. asks j b x y (has_frame b x y becomes) (among blocks b) refl;
      stays = λ b x y becomes. stays_hashed b x y (has_frame b x y becomes) (among blocks b) refl;
    }

    keep_up : HandKeepsHash p
    keep_up = keeps_up sh (known_values p) (values p) k hand.was hand.now (among blocks) up

  -- what is known to be as it is rests
  module _ (ks blocks : List ℕ) (in_hand : AreInHand p ks blocks)
      (rest : IsKnownBeyond p (hash_ids sh ks blocks)) where
    same_now : (j : ℕ) (m x : Object) → AllByRecursion (λ (k : ℕ). j ≢ k) (hash_ids sh ks blocks)
        → Has p j m x → x ≡ m
    same_now j m x apart has = let shows = rest j (holding has.held.0 m) apart has.held.1 in
        same_some x m (some-injective (Some x) (Some m) (sym has.value ∙ shows))

    -- no number is that of a partition and of a frame in hand
    not_both : (k b : ℕ) (r s : Part) (x y : Frame) → HasPart p k r s → HasFrame p b x y
        → part_id sh k ≢ frame_id sh b
    not_both k b r s x y part frame e = not_part
        (one_object (frame_id sh b) (object.Frame x) (object.Frame y) (object.Part r) (object.Part s)
        frame (subst (λ n. Has p n (object.Part r) (object.Part s)) e part)).0
      where
        not_part : object.Frame x ≡ object.Part r → ⊥
        not_part e = absurd cc

    parts_apart : (j : ℕ) (js : List ℕ) → AllByRecursion (λ (k : ℕ). j ≢ k) js
        → AllByRecursion (λ (n : ℕ). part_id sh j ≢ n) (map (part_id sh) js)
    parts_apart j [] a = tt
    parts_apart j (k ∷ js) a = ((λ e. a.0 (omega (arith, e))), parts_apart j js a.1)

    frames_apart : (c : ℕ) (bs : List ℕ) → AllByRecursion (λ (b : ℕ). c ≢ b) bs
        → AllByRecursion (λ (n : ℕ). frame_id sh c ≢ n) (map (frame_id sh) bs)
    frames_apart c [] a = tt
    frames_apart c (b ∷ bs) a = ((λ e. a.0 (omega (arith, e))), frames_apart c bs a.1)

    part_no_frame : (j : ℕ) (r s : Part) → HasPart p j r s → (bs : List ℕ)
        → AllByRecursion (HoldsFrame p) bs
        → AllByRecursion (λ (n : ℕ). part_id sh j ≢ n) (map (frame_id sh) bs)
    part_no_frame j r s has [] a = tt
    part_no_frame j r s has (b ∷ bs) a =
        (not_both j b r s a.0.0 a.0.1 has a.0.2, part_no_frame j r s has bs a.1)

    frame_no_part : (c : ℕ) (x y : Frame) → HasFrame p c x y → (js : List ℕ)
        → AllByRecursion (HoldsPart p) js
        → AllByRecursion (λ (n : ℕ). frame_id sh c ≢ n) (map (part_id sh) js)
    frame_no_part c x y has [] a = tt
    frame_no_part c x y has (j ∷ js) a =
        ((λ e. not_both j c a.0.0 a.0.1 x y a.0.2 has (sym e)), frame_no_part c x y has js a.1)

    known_rests : HashRestsBeyond p ks blocks
    known_rests = record {
      parts = λ j r s apart has. same_part s r
          (same_now (part_id sh j) (object.Part r) (object.Part s)
          (all_join (λ (n : ℕ). part_id sh j ≢ n) (map (part_id sh) ks) (map (frame_id sh) blocks)
          (parts_apart j ks apart) (part_no_frame j r s has blocks in_hand.frames)) has);
      frames = λ c x y apart has. rests_itself sh c x y (same_frame y x
          (same_now (frame_id sh c) (object.Frame x) (object.Frame y)
          (all_join (λ (n : ℕ). frame_id sh c ≢ n) (map (part_id sh) ks) (map (frame_id sh) blocks)
          (frame_no_part c x y has ks in_hand.parts) (frames_apart c blocks apart)) has));
    }

  -- one more frame that rests
  one_more : (ks blocks : List ℕ) (b : ℕ) (x y : Frame) → HasFrame p b x y
      → FrameRestsHash sh b x y → HashRestsBeyond p ks (b ∷ blocks) → HashRestsBeyond p ks blocks
  one_more ks blocks b x y has rests rest = record {
    parts = rest.parts;
    frames = λ c f g apart other. (here c f g apart other (cases_eq c b));
  }
    where
      here : (c : ℕ) (f g : Frame) → AllByRecursion (λ (d : ℕ). c ≢ d) blocks → HasFrame p c f g
          → (c ≡ b) ⊎ (c ≢ b) → FrameRestsHash sh c f g
      here c f g apart other (inl e) =
          let same = one_frame b x y f g has (subst (λ z. HasFrame p z f g) e other) in
          subst (λ z. FrameRestsHash sh z f g) (sym e)
          (subst (λ z. FrameRestsHash sh b z g) same.0
          (subst (FrameRestsHash sh b x) same.1 rests))
      here c f g apart other (inr ne) = rest.frames c f g (ne, apart) other

pub hands_keep : BlocksAskTheSame → HandsKeepTheHash
hands_keep ask = record {
  rests = rests;
  keep_up = λ p k blocks. keep_up p ask k blocks;
  known = known_rests;
  one_more = one_more;
}
