-- Two blocks in hand between whose pages rows moved, and the partition of their index.
use Rattle.std.proofs.Common.{◌≡◌, ℕ, ◌<◌, List, [], ◌∷◌, sym, ap, subst, ◌∙◌, refl, arith, Option, Some, None}
use Rattle.std.specs.List.{AllByRecursion}
use lib.ListN.{get_elem?}
use Rattle.latch_space.specs.Has.{DidSettle}
use Rattle.latch_space.specs.Passes.{view, values, known_values, Shows}
use Rattle.hash_law.specs.Blocks.{part_for}
use Rattle.index_law.specs.Shape.{Shape}
use Rattle.forest_law.specs.declared.objects.Frame.{Frame}
use Rattle.forest_law.specs.declared.objects.Object.{Object}
use Rattle.forest_law.specs.declared.objects.Object.TheVariants as object
use Rattle.forest_law.specs.Numbers.{part_id, frame_id, frames_of}
use Rattle.forest_law.specs.Objects.{Becomes}
use Rattle.forest_law.specs.Steps.{Rests}
use Rattle.forest_world.specs.Held.{TreePass, shape_of_pass, HasFrame}
use Rattle.forest_world.specs.HashHands.{FrameRestsHash, HashRestsBeyond, HandKeepsHash}
use Rattle.call_law.specs.Spoken.{View}
use Rattle.buffer_pool.specs.Parts.{part_of_index, part_ids, KnowsPartIf}
use Rattle.tree_smo.specs.Keeping.{move_of, KeepsPart}
use Rattle.tree_smo.specs.PartHeld.{LawsOfMoves}
use Rattle.tree_smo.specs.Remakes.{Remakes}
use Rattle.tree_smo.proofs.HashRestLemmas.{HasSomePart, parts_shown, parts_or_rest}
use Rattle.tree_smo.proofs.RemakeLemmas.{same_shape, has_remade, frame_remade}
use Rattle.tree_shrinking.proofs.NumberLemmas.{IsNoneOf}

-- two blocks that gave and took rows, known as f and g and in hand as x and y: where this index is
-- none, neither asks for other nodes; else its partition keeps up with both
abbrev pub KeepsBoth : TreePass → Option ℕ → (a b : ℕ) → (f x g y : Frame) → Type 0
KeepsBoth p None a b f x g y =
    FrameRestsHash (shape_of_pass p) a f x × FrameRestsHash (shape_of_pass p) b g y
KeepsBoth p (Some i) a b f x g y = (u : Frame) × (v : Frame)
    × KeepsPart (shape_of_pass p) p i a b f u x g v y

-- the frames of both blocks are in hand so
pub record MovedPair (m : TreePass) (o : Option ℕ) (a b : ℕ) (f x g y : Frame) : Type 0 where
  pub gave : HasFrame m a f x
  pub took : HasFrame m b g y
  pub gave_below : a < frames_of (shape_of_pass m)
  pub took_below : b < frames_of (shape_of_pass m)
  pub parts : 0 < (shape_of_pass m).parts
  pub keeps : KeepsBoth m o a b f x g y

module _ {m : TreePass} {o : Option ℕ} {a b : ℕ} {f x g y : Frame}
    (pair : MovedPair m o a b f x g y) where
  abbrev sh : Shape
  sh = shape_of_pass m

  abbrev ids : Option ℕ → List ℕ
  ids z = part_ids sh (part_of_index sh z)

  parts_held : AllByRecursion (HasSomePart m) (ids o)
  parts_held = go o pair.keeps
    where
      go : (z : Option ℕ) → KeepsBoth m z a b f x g y → AllByRecursion (HasSomePart m) (ids z)
      go None both = tt
      go (Some i) both = ((both.2.known, both.2.now, both.2.has), tt)

  -- the partition shows, and plays no part in the pages
  pub part_shows : AllByRecursion (λ (k : ℕ). (z : Object) × Shows m k z) (ids o)
  part_shows = parts_shown m (ids o) parts_held

  pub part_or_rests : (k : ℕ) (u v : Object) → Becomes (known_values m) (values m) k u v
      → (IsNoneOf k (ids o) → Rests u v) → Rests u v
  part_or_rests = parts_or_rest m (ids o) parts_held

  -- it is known once all is settled
  pub part_settled : (q : TreePass) → DidSettle m q → KnowsPartIf (view q) (part_of_index sh o)
  part_settled q did = go o pair.keeps
    where
      same : shape_of_pass q ≡ sh
      same = ap (λ (v : View). v.terms.shape) did.view

      go : (z : Option ℕ) → KeepsBoth m z a b f x g y → KnowsPartIf (view q) (part_of_index sh z)
      go None both = tt
      go (Some i) both =
          let k = part_for sh.parts i in let parts = pair.parts in
          let held = (did.learnt.has (part_id sh k) (object.Part both.2.known)
          (object.Part both.2.now) both.2.has).held in (
            subst (λ (z : Shape). k < z.parts) (sym same) (omega (arith, parts)),
            both.2.now,
            (
              held.0,
              ap (λ (z : Shape). get_elem? (view q).held (part_id z k)) same ∙ held.1,
            ),
          )

  -- all is so still, where other objects were remade
  pub pair_remade : (q : TreePass) (ks : List ℕ) → Remakes m q ks → IsNoneOf (frame_id sh a) ks
      → IsNoneOf (frame_id sh b) ks → ((k : ℕ) → k < sh.parts → IsNoneOf (part_id sh k) ks)
      → MovedPair q o a b f x g y
  pair_remade q ks r no_gave no_took no_part = record {
    gave = frame_remade m q ks r a f x no_gave pair.gave;
    took = frame_remade m q ks r b g y no_took pair.took;
    gave_below = subst (λ (z : Shape). a < frames_of z) same pair.gave_below;
    took_below = subst (λ (z : Shape). b < frames_of z) same pair.took_below;
    parts = subst (λ (z : Shape). 0 < z.parts) same pair.parts;
    keeps = go o pair.keeps;
  }
    where
      same : sh ≡ shape_of_pass q
      same = same_shape m q ks r

      go : (z : Option ℕ) → KeepsBoth m z a b f x g y → KeepsBoth q z a b f x g y
      go None both = (
        subst (λ (z : Shape). FrameRestsHash z a f x) same both.0,
        subst (λ (z : Shape). FrameRestsHash z b g y) same both.1,
      )
      go (Some i) both =
          let u = both.2 in let k = part_for sh.parts i in let parts = pair.parts in (
            both.0,
            both.1,
            subst (λ (z : Shape). KeepsPart z q i a b f both.0 x g both.1 y) same (record {
              known = u.known;
              now = u.now;
              has = has_remade m q ks r (part_id sh k) (no_part k (omega (arith, parts)))
                  (object.Part u.known) (object.Part u.now) u.has;
              keeps = u.keeps;
              apart = u.apart;
              gave = u.gave;
              took = u.took;
              empty = u.empty;
            }),
          )

  -- and where the hash rests beyond, what is in hand keeps it
  pub pair_keeps : LawsOfMoves
      → ((ks : List ℕ) → ((k : ℕ) → IsNoneOf k ks → IsNoneOf (part_id sh k) (ids o))
      → HashRestsBeyond m ks (a ∷ b ∷ [])) → HandKeepsHash m
  pair_keeps laws beyond = go o pair.keeps beyond
    where
      go : (z : Option ℕ) → KeepsBoth m z a b f x g y
          → ((ks : List ℕ) → ((k : ℕ) → IsNoneOf k ks → IsNoneOf (part_id sh k) (ids z))
          → HashRestsBeyond m ks (a ∷ b ∷ [])) → HandKeepsHash m
      go None both rest = laws.hands.rests m
          (laws.hands.one_more m [] [] b g y pair.took both.1
          (laws.hands.one_more m [] (b ∷ []) a f x pair.gave both.0 (rest [] (λ k ne. tt))))
      go (Some j) both rest =
          let k = both.2 in
          laws.moves.keeps m (move_of sh j a b both.0 both.1) (record {
            known = k.known;
            now = k.now;
            gave_old = f;
            gave_new = x;
            took_old = g;
            took_new = y;
            part = k.has;
            apart = k.apart;
            empty = k.empty;
            gave = record { below = pair.gave_below; frame = pair.gave; stays = k.gave };
            took = record { below = pair.took_below; frame = pair.took; stays = k.took };
            bits = refl;
            keeps = k.keeps;
            beyond = rest (part_for sh.parts j ∷ [])
                (λ n ne. ((λ e. ne.0 (omega (arith, e))), tt));
          })
