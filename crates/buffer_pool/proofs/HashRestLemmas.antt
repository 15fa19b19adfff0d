-- What is in hand rests for the hash, but for a frame and the pool.
use Rattle.std.proofs.Common.{◌≡◌, ◌≢◌, ◌⊎◌, inl, inr, ℕ, ◌≤◌, List, [], ◌∷◌, sym, ap, subst, ◌∙◌, arith, refl, Option, Some, None}
use Rattle.std.specs.List.{AllByRecursion}
use Rattle.std.specs.Prelude.{is_some}
use Rattle.std.proofs.lemmas.Bool.{cases_eq}
use lib.ListN.{get_elem?}
use Rattle.latch_law.specs.Views.{holding}
use Rattle.latch_space.specs.Has.{Has}
use Rattle.latch_space.specs.Passes.{Shows}
use Rattle.hash_partition.specs.Part.{Part}
use Rattle.hash_law.specs.Blocks.{AskFew, IsTidy}
use Rattle.index_law.specs.Shape.{Shape}
use Rattle.forest_law.specs.declared.objects.Frame.{Frame}
use Rattle.forest_law.specs.declared.objects.Stored.{Stored}
use Rattle.forest_law.specs.declared.objects.Object.{Object}
use Rattle.forest_law.specs.declared.objects.Object.TheVariants as object
use Rattle.forest_law.specs.Hashed.{hash_block, due_for}
use Rattle.forest_law.specs.HashStays.{IsHashedAlike, IsHashedWith}
use Rattle.forest_law.specs.Numbers.{pool_id, part_id, frame_id}
use Rattle.forest_law.proofs.HashLawLemmas.{unhashed_asks, hashes_are_exact}
use Rattle.forest_law.proofs.ObjectLemmas.{same_frame, same_part}
use Rattle.forest_world.specs.Held.{TreePass, shape_of_pass, HasFrame, HasPart, IsKnownBeyond}
use Rattle.forest_world.specs.HashHands.{FrameRestsHash, HashRestsBeyond}
use Rattle.forest_world.proofs.HashHandLemmas.{one_frame}
use Rattle.call_law.specs.Hands.{KnowsFrame}
use Rattle.buffer_pool.specs.Forests.{TreeView, IsFittedTree}
use Rattle.buffer_pool.specs.Turning.{UnloadsFrame, loaded_with}
use Rattle.buffer_pool.proofs.FrameLemmas.{one_shown}

part_is_not : (x : Part) (f : Frame) → object.Part x ≡ object.Frame f → ⊥
part_is_not x f e = absurd cc

none_is : {A : Type 0} (x : A) → None ≡ Some x → ⊥
none_is x e = absurd cc

-- a frame that is what it was rests
same_rests : (shape : Shape) (b : ℕ) (x y : Frame) → y ≡ x → FrameRestsHash shape b x y
same_rests shape b x y same = record {
  tidy = λ t. subst (λ (z : Frame). IsTidy (hash_block z)) (sym same) t;
  asks = λ k p q. ap (due_for shape k b q) same;
  alike = λ index params was. subst (IsHashedWith index params) (sym same) was;
}

module _ (p : TreePass) (ks : List ℕ) (known : IsKnownBeyond p ks) where
  -- an object that is known is what it is known to be
  is_known : (j : ℕ) (m x : Object) → AllByRecursion (λ (k : ℕ). j ≢ k) ks → Has p j m x → x ≡ m
  is_known j m x apart has = one_shown p j x m has.value
      (known j (holding has.held.0 m) apart has.held.1)

-- all but the pool is known, so the hash rests
pub pool_rests : (p : TreePass) → IsKnownBeyond p (pool_id ∷ []) → HashRestsBeyond p [] []
pool_rests p known = record {
  parts = λ j r s apart has. same_part s r
      (is_known p (pool_id ∷ []) known (part_id (shape_of_pass p) j) (object.Part r)
      (object.Part s) ((λ e. omega (arith, e)), tt) has);
  frames = λ c x y apart has. same_rests (shape_of_pass p) c x y (same_frame y x
      (is_known p (pool_id ∷ []) known (frame_id (shape_of_pass p) c) (object.Frame x)
      (object.Frame y) ((λ e. omega (arith, e)), tt) has));
}

-- and so it does where a frame rests besides
module _ (p : TreePass) (b : ℕ) (f g : Frame) (has : HasFrame p b f g)
    (rests : FrameRestsHash (shape_of_pass p) b f g)
    (known : IsKnownBeyond p (pool_id ∷ frame_id (shape_of_pass p) b ∷ [])) where
  abbrev ks : List ℕ
  ks = pool_id ∷ frame_id (shape_of_pass p) b ∷ []

  a_part : (j : ℕ) (r s : Part) → HasPart p j r s
      → (part_id (shape_of_pass p) j ≡ frame_id (shape_of_pass p) b)
      ⊎ (part_id (shape_of_pass p) j ≢ frame_id (shape_of_pass p) b) → s ≡ r
  a_part j r s held (inl e) = absurd (part_is_not s g
      (one_shown p (frame_id (shape_of_pass p) b) (object.Part s) (object.Frame g)
      (subst (λ k. Shows p k (object.Part s)) e held.value) has.value))
  a_part j r s held (inr ne) = same_part s r
      (is_known p ks known (part_id (shape_of_pass p) j) (object.Part r) (object.Part s)
      ((λ e. omega (arith, e)), (ne, tt)) held)

  a_frame : (c : ℕ) (x y : Frame) → HasFrame p c x y → (c ≡ b) ⊎ (c ≢ b)
      → FrameRestsHash (shape_of_pass p) c x y
  a_frame c x y held (inl e) =
      let same = one_frame p b f g x y has (subst (λ z. HasFrame p z x y) e held) in
      subst (λ z. FrameRestsHash (shape_of_pass p) z x y) (sym e)
      (subst (λ z. FrameRestsHash (shape_of_pass p) b z y) same.0
      (subst (FrameRestsHash (shape_of_pass p) b f) same.1 rests))
  a_frame c x y held (inr ne) = same_rests (shape_of_pass p) c x y (same_frame y x
      (is_known p ks known (frame_id (shape_of_pass p) c) (object.Frame x) (object.Frame y)
      ((λ e. omega (arith, e)), ((λ e. ne (omega (arith, e))), tt)) held))

  pub frame_rests : HashRestsBeyond p [] []
  frame_rests = record {
    parts = λ j r s apart held. a_part j r s held
        (cases_eq (part_id (shape_of_pass p) j) (frame_id (shape_of_pass p) b));
    frames = λ c x y apart held. a_frame c x y held (cases_eq c b);
  }

-- a frame that is known is tidy
pub known_tidy : (v : TreeView) → IsFittedTree v → (b : ℕ) (f : Frame) → KnowsFrame v b f
    → IsTidy (hash_block f)
known_tidy v fitted b f knows = hashes_are_exact.tidy fitted.whole fitted.is_lawful b f
    (ap (λ (s : Shape). get_elem? fitted.whole.objects (frame_id s b)) fitted.fits.shape
    ∙ fitted.fits.known (frame_id v.terms.shape b) (holding knows.0 (object.Frame f)) knows.1)

-- a tidy frame without a page isn't hashed
pub empty_bare : (f : Frame) → IsTidy (hash_block f) → f.page ≡ None → f.hashed ≡ None
empty_bare f tidy empty = pick f.hashed refl
  where
    pick : (o : Option ℕ) → f.hashed ≡ o → f.hashed ≡ None
    pick None e = e
    pick (Some index) e = let leaf = tidy.leaf index e in
        absurd (none_is leaf.page (sym empty ∙ leaf.page_is))

-- a frame that isn't hashed has nothing to stay
pub bare_alike : (f g : Frame) → f.hashed ≡ None → IsHashedAlike f g
bare_alike f g bare index params was = absurd (none_is index (sym bare ∙ was.hashed))

-- a frame that isn't hashed rests where its page goes
pub unload_rests : (shape : Shape) (b : ℕ) (f : Frame) (s : Stored) (g : Frame)
    → UnloadsFrame f s g → f.hashed ≡ None → FrameRestsHash shape b f g
unload_rests shape b f s g unloads bare = record {
  tidy = λ tidy. record {
    both = ap (λ (z : Frame). is_some z.hashed) unloads.empty
        ∙ (tidy.both ∙ ap (λ (z : Frame). is_some z.figures.built) (sym unloads.empty));
    leaf = λ index e. absurd (none_is index
        (sym (ap (λ (z : Frame). z.hashed) unloads.empty ∙ bare) ∙ e));
    built = λ params e. subst (λ (z : Frame). AskFew z.page params) (sym unloads.empty) tt;
    advice = subst (λ (z : Frame). AskFew z.page z.figures.advice) (sym unloads.empty) tt;
  };
  asks = λ k. unhashed_asks shape k b f g bare
      (ap (λ (z : Frame). z.hashed) unloads.empty ∙ bare);
  alike = bare_alike f g bare;
}

-- and where a page comes whose keys have a field
pub load_rests : (shape : Shape) (b : ℕ) (f : Frame) (s : Stored) (g : Frame)
    → g ≡ loaded_with f s → f.hashed ≡ None → 1 ≤ s.page.head.fields → FrameRestsHash shape b f g
load_rests shape b f s g made bare keyed = record {
  tidy = λ tidy. subst (λ (z : Frame). IsTidy (hash_block z)) (sym made) (record {
    both = ap is_some bare;
    leaf = λ index e. absurd (none_is index (sym bare ∙ e));
    built = λ params e. absurd (none_is params e);
    advice = keyed;
  });
  asks = λ k. unhashed_asks shape k b f g bare (ap (λ (z : Frame). z.hashed) made ∙ bare);
  alike = bare_alike f g bare;
}
