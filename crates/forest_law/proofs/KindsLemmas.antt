-- Objects stay of their kinds.
use Rattle.std.proofs.Common.{◌≡◌, ◌⊎◌, inl, inr, ℕ, List, Option, Some, sym, ap, subst, ◌∙◌}
use mathlib.Core.Option.{some, some-injective}
use lib.ListN.{get_elem?}
use Rattle.hash_partition.specs.Part.{Part}
use Rattle.index_law.specs.Shape.{Shape}
use Rattle.forest_law.specs.declared.objects.Frame.{Frame}
use Rattle.forest_law.specs.declared.objects.Pool.{Pool}
use Rattle.forest_law.specs.declared.objects.Object.{Object}
use Rattle.forest_law.specs.declared.objects.Object.TheVariants as object
use Rattle.forest_law.specs.Numbers.{pool_id, tree_id, part_id, frame_id}
use Rattle.forest_law.specs.Objects.{IsFrameOf, IsPartOf, IsTreeAt, Becomes}
use Rattle.forest_law.specs.Kinds.{AreKinds, KeepsKind}
use Rattle.forest_law.proofs.ObjectLemmas.{Stays, Changes, Leads, kept_frame, kept_part, kept_pool, kept_tree}

module _ (sh : Shape) (xs ys : List Object) (before news : List (Option Object))
    (leads : Leads xs ys before news) (kinds : AreKinds sh xs)
    (keeps : (k : ℕ) (x y : Object) → Becomes before news k x y → KeepsKind x y) where
  -- a held frame becomes a frame
  pub record FrameBecomes (b : ℕ) (f g : Frame) : Type 0 where
    pub becomes : Becomes before news (frame_id sh b) (object.Frame f) (object.Frame g)
    pub is : IsFrameOf sh ys b g

  -- a frame that doesn't stay is in hand
  pub frame_fate : (b : ℕ) (f : Frame) → IsFrameOf sh xs b f
      → Stays xs ys before news (frame_id sh b) ⊎ ((g : Frame) × FrameBecomes b f g)
  frame_fate b f at = elim (leads.fate (frame_id sh b)) [
    | inl stays ↦ inl stays
    | inr c ↦ inr (turned c)
  ]
    where
      turned : (c : Changes xs ys before news (frame_id sh b)) → (g : Frame) × FrameBecomes b f g
      turned c = let old : c.old ≡ object.Frame f =
          some-injective c.old (object.Frame f) (sym c.was ∙ at) in
          let g = kept_frame f c.new
          (subst (λ x. KeepsKind x c.new) old (keeps (frame_id sh b) c.old c.new c.becomes)) in (
            g.0,
            record {
              becomes = (
                c.becomes.0 ∙ ap (λ x. some (Some x)) old,
                c.becomes.1 ∙ ap (λ x. some (Some x)) g.1,
              );
              is = c.is ∙ ap some g.1;
            },
          )

  -- what becomes of the pool
  pub record PoolBecomes : Type 0 where
    pub new : Pool
    pub becomes : Becomes before news pool_id (object.Pool kinds.pool.0) (object.Pool new)
    pub is : get_elem? ys pool_id ≡ some (object.Pool new)

  pub pool_becomes : Changes xs ys before news pool_id → PoolBecomes
  pool_becomes c = let old : c.old ≡ object.Pool kinds.pool.0 =
      some-injective c.old (object.Pool kinds.pool.0) (sym c.was ∙ kinds.pool.1) in
      let q = kept_pool kinds.pool.0 c.new
      (subst (λ x. KeepsKind x c.new) old (keeps pool_id c.old c.new c.becomes)) in
      record {
        new = q.0;
        becomes = (
          c.becomes.0 ∙ ap (λ x. some (Some x)) old,
          c.becomes.1 ∙ ap (λ x. some (Some x)) q.1,
        );
        is = c.is ∙ ap some q.1;
      }

  tree : (i : ℕ) (t : IsTreeAt xs i) (c : Changes xs ys before news (tree_id i)) → IsTreeAt ys i
  tree i t c = let old : c.old ≡ object.Tree t.tree =
      some-injective c.old (object.Tree t.tree) (sym c.was ∙ t.at) in
      let u = kept_tree t.tree c.new
      (subst (λ x. KeepsKind x c.new) old (keeps (tree_id i) c.old c.new c.becomes)) in
      record { tree = u.0; at = c.is ∙ ap some u.1; index = u.2 ∙ t.index; root = u.3 ∙ t.root }

  part : (k : ℕ) (p : Part) → IsPartOf sh xs k p → Changes xs ys before news (part_id sh k)
      → (q : Part) × IsPartOf sh ys k q
  part k p at c = let old : c.old ≡ object.Part p =
      some-injective c.old (object.Part p) (sym c.was ∙ at) in
      let q = kept_part p c.new
      (subst (λ x. KeepsKind x c.new) old (keeps (part_id sh k) c.old c.new c.becomes)) in
      (q.0, c.is ∙ ap some q.1)

  pub kinds_stay : AreKinds sh ys
  kinds_stay = record {
    pool = elim (leads.fate pool_id) [
      | inl stays ↦ (kinds.pool.0, stays.same ∙ kinds.pool.1)
      | inr c ↦ (let q = pool_becomes c in (q.new, q.is))
    ];
    trees = λ i below. (let t = kinds.trees i below in elim (leads.fate (tree_id i)) [
      | inl stays ↦ record { tree = t.tree; at = stays.same ∙ t.at; index = t.index; root = t.root }
      | inr c ↦ tree i t c
    ]);
    parts = λ k below. (let p = kinds.parts k below in elim (leads.fate (part_id sh k)) [
      | inl stays ↦ (p.0, stays.same ∙ p.1)
      | inr c ↦ part k p.0 p.1 c
    ]);
    frames = λ b below. (let f = kinds.frames b below in elim (frame_fate b f.0 f.1) [
      | inl stays ↦ (f.0, stays.same ∙ f.1)
      | inr g ↦ (g.0, g.1.is)
    ]);
  }
