-- The hash stays exact where nothing is hashed, and where a partition keeps up.
use Rattle.std.proofs.Common.{◌≡◌, ◌≢◌, ◌⊎◌, inl, inr, ℕ, Bool, true, false, Option, Some, List, [], sym, ap, subst, ◌∙◌, refl}
use Rattle.std.proofs.lemmas.Bool.{cases_eq}
use mathlib.Core.Option.{some, some-injective}
use lib.ListN.{get_elem?}
use Rattle.list_facts.proofs.Places.{same_some}
use Rattle.chain_arena.specs.declared.node.Node.{Node}
use Rattle.chain_arena.specs.Bag.{count_of}
use Rattle.hash_partition.specs.Part.{Part}
use Rattle.hash_law.specs.Entries.{NodesAt}
use Rattle.index_law.specs.Shape.{Shape}
use Rattle.forest_law.specs.declared.objects.Frame.{Frame}
use Rattle.forest_law.specs.declared.objects.Object.{Object}
use Rattle.forest_law.specs.declared.objects.Object.TheVariants as object
use Rattle.forest_law.specs.Numbers.{part_id, frame_id}
use Rattle.forest_law.specs.Objects.{Becomes}
use Rattle.forest_law.specs.Hashed.{due_for, IsExactFor, IsPartFor}
use Rattle.forest_law.specs.HashKept.{PartLeads, FrameLeads, KeepsHash}
use Rattle.forest_law.specs.HashSteps.{RestsHash, KeepsUp}
use Rattle.forest_law.proofs.ObjectLemmas.{same_frame, same_part}

-- at one number one partition is in hand
one_part : (held : List (Option Object)) (k : ℕ) (p q : Part)
    → get_elem? held k ≡ some (Some (object.Part p))
    → get_elem? held k ≡ some (Some (object.Part q)) → p ≡ q
one_part held k p q e f = same_part p q
    (same_some (object.Part p) (object.Part q)
    (some-injective (Some (object.Part p)) (Some (object.Part q)) (sym e ∙ f)))

-- and one frame
one_frame : (held : List (Option Object)) (k : ℕ) (x y : Frame)
    → get_elem? held k ≡ some (Some (object.Frame x))
    → get_elem? held k ≡ some (Some (object.Frame y)) → x ≡ y
one_frame held k x y e f = same_frame x y
    (same_some (object.Frame x) (object.Frame y)
    (some-injective (Some (object.Frame x)) (Some (object.Frame y)) (sym e ∙ f)))

module _ (sh : Shape) (before news : List (Option Object)) where
  -- exactness of a block for which neither the nodes nor what is asked for change
  still_exact : (k b : ℕ) (p q : Part) (x y : Frame)
      → ((n : Node) → n.block ≡ b → count_of n q.nodes ≡ count_of n p.nodes)
      → due_for sh k b q y ≡ due_for sh k b p x → IsExactFor sh k b p x → IsExactFor sh k b q y
  still_exact k b p q x y nodes asked exact = record {
    nodes = λ n here. nodes n here ∙ (exact.nodes n here ∙ ap (count_of n) (sym asked));
  }

  -- a step that hashes nothing keeps the hash
  pub rests_keep : RestsHash sh before news → KeepsHash sh before news
  rests_keep rest = record {
    tidy = rest.tidy;
    sound = λ k p q becomes sound. subst (IsPartFor sh) (sym (rest.parts k p q becomes)) sound;
    exact = λ k b p q x y part frame exact. still_exact k b p q x y
        (λ n here. ap (λ (r : Part). count_of n r.nodes) (stays k p q part))
        (asked k b p q x y frame) exact;
    stays = λ b x y becomes index params was leaf. inl (rest.stays b x y becomes index params was);
  }
    where
      stays : (k : ℕ) (p q : Part) → PartLeads sh before news k p q → q ≡ p
      stays k p q (inl becomes) = rest.parts k p q becomes
      stays k p q (inr free) = free.1

      asked : (k b : ℕ) (p q : Part) (x y : Frame) → FrameLeads sh before news b x y
          → due_for sh k b q y ≡ due_for sh k b p x
      asked k b p q x y (inl becomes) = rest.asks k b x y becomes p q
      asked k b p q x y (inr free) = ap (due_for sh k b q) free.1

  -- a step with which a held partition keeps up keeps the hash
  module _ (k : ℕ) (p q : Part) (blocks : ℕ → Bool) (up : KeepsUp sh before news k p q blocks) where
    asked : (j b : ℕ) (r s : Part) (x y : Frame) → FrameLeads sh before news b x y
        → (blocks b ≡ true → j ≢ k) → due_for sh j b s y ≡ due_for sh j b r x
    asked j b r s x y (inl becomes) apart = up.asks j b x y becomes apart r s
    asked j b r s x y (inr free) apart = ap (due_for sh j b s) free.1

    -- a partition that leads at this number is the held one
    held_part : (r s : Part) → PartLeads sh before news k r s → (r ≡ p) × (s ≡ q)
    held_part r s (inl becomes) = (
      one_part before (part_id sh k) r p becomes.0 up.becomes.0,
      one_part news (part_id sh k) s q becomes.1 up.becomes.1,
    )
    held_part r s (inr free) = absurd (free.0 p up.becomes.0)

    other_part : (j : ℕ) (r s : Part) → j ≢ k → PartLeads sh before news j r s → s ≡ r
    other_part j r s ne (inl becomes) = up.parts j r s ne becomes
    other_part j r s ne (inr free) = free.1

    -- a frame that leads is the held one
    held_frame : (b : ℕ) (x y x' y' : Frame) → FrameLeads sh before news b x y
        → Becomes before news (frame_id sh b) (object.Frame x') (object.Frame y')
        → (x ≡ x') × (y ≡ y')
    held_frame b x y x' y' (inl becomes) held = (
      one_frame before (frame_id sh b) x x' becomes.0 held.0,
      one_frame news (frame_id sh b) y y' becomes.1 held.1,
    )
    held_frame b x y x' y' (inr free) held = absurd (free.0 x' held.0)

    exact_here : (b : ℕ) (x y : Frame) → FrameLeads sh before news b x y → (c : Bool)
        → blocks b ≡ c → IsExactFor sh k b p x → IsExactFor sh k b q y
    exact_here b x y frame true e exact = let held = up.held b e in
        let same = held_frame b x y held.old held.new frame held.becomes in
        subst (IsExactFor sh k b q) (sym same.1)
        (held.exact (subst (IsExactFor sh k b p) same.0 exact))
    exact_here b x y frame false e exact = still_exact k b p q x y (up.others b e)
        (asked k b p q x y frame (λ t. absurd (not_both (sym e ∙ t)))) exact
      where
        not_both : false ≡ true → ⊥
        not_both e = absurd cc

    exact_at : (j b : ℕ) (r s : Part) (x y : Frame) → PartLeads sh before news j r s
        → FrameLeads sh before news b x y → (j ≡ k) ⊎ (j ≢ k) → IsExactFor sh j b r x
        → IsExactFor sh j b s y
    exact_at j b r s x y part frame (inl e) exact =
        let same = held_part r s (subst (λ i. PartLeads sh before news i r s) e part) in
        subst (λ i. IsExactFor sh i b s y) (sym e)
        (subst (λ z. IsExactFor sh k b z y) (sym same.1)
        (exact_here b x y frame (blocks b) refl
        (subst (λ z. IsExactFor sh k b z x) same.0
        (subst (λ i. IsExactFor sh i b r x) e exact))))
    exact_at j b r s x y part frame (inr ne) exact = still_exact j b r s x y
        (λ n here. ap (λ (z : Part). count_of n z.nodes) (other_part j r s ne part))
        (asked j b r s x y frame (λ t. ne)) exact

    sound_at : (j : ℕ) (r s : Part)
        → Becomes before news (part_id sh j) (object.Part r) (object.Part s)
        → (j ≡ k) ⊎ (j ≢ k) → IsPartFor sh r → IsPartFor sh s
    sound_at j r s becomes (inl e) sound = let same =
        held_part r s (subst (λ i. PartLeads sh before news i r s) e (inl becomes)) in
        subst (IsPartFor sh) (sym same.1) (up.sound (subst (IsPartFor sh) same.0 sound))
    sound_at j r s becomes (inr ne) sound =
        subst (IsPartFor sh) (sym (up.parts j r s ne becomes)) sound

    pub keeps_up : KeepsHash sh before news
    keeps_up = record {
      tidy = up.tidy;
      sound = λ j r s becomes. sound_at j r s becomes (cases_eq j k);
      exact = λ j b r s x y part frame exact. exact_at j b r s x y part frame (cases_eq j k) exact;
      stays = up.stays;
    }

-- where a partition isn't held, a held frame asks it for the same nodes after as before: no row of a
-- hashed leaf changes, and no hashed page goes, without its partition
pub unheld_asks : (sh : Shape) (before news : List (Option Object)) (k b : ℕ) (x y : Frame)
    → KeepsHash sh before news
    → ((r : Part) → get_elem? before (part_id sh k) ≡ some (Some (object.Part r)) → ⊥)
    → Becomes before news (frame_id sh b) (object.Frame x) (object.Frame y)
    → (p : Part) → NodesAt b (due_for sh k b p x) (due_for sh k b p y)
unheld_asks sh before news k b x y keep free becomes p n here =
    (keep.exact k b exactly exactly x y (inr (free, refl)) (inl becomes)
    (record { nodes = λ m at. refl })).nodes n here
  where
    exactly : Part
    exactly = record { nodes = due_for sh k b p x; spare = 0; stamps = [] }
