-- Refused tries, and partitions that are given back: what they add, and what they leave as it was.
use Rattle.std.proofs.Common.{◌≡◌, ℕ, List, [], ◌∷◌, ◌++◌, inl, cond, ap, subst, ◌∙◌, refl, arith, None}
use Rattle.std.specs.List.{AllByRecursion}
use lib.ListN.{get_elem?}
use Rattle.list_facts.proofs.Each.{each_append, each_weaker}
use Rattle.latch_law.specs.declared.knows.Holding.{Holding}
use Rattle.latch_law.specs.declared.knows.Reference.{Reference}
use Rattle.latch_law.specs.declared.knows.Terms.{Terms}
use Rattle.latch_law.specs.Rule.{Holds}
use Rattle.latch_law.specs.Views.{holding}
use Rattle.latch_space.specs.Passes.{view}
use Rattle.index_law.specs.Shape.{Shape}
use Rattle.forest_law.specs.declared.objects.Frame.{Frame}
use Rattle.forest_law.specs.declared.objects.Pool.{Pool}
use Rattle.forest_law.specs.declared.objects.Object.{Object}
use Rattle.forest_law.specs.declared.objects.Object.TheVariants as object
use Rattle.forest_law.specs.Numbers.{pool_id, frame_id}
use Rattle.forest_world.specs.Held.{TreePass, shape_of_pass}
use Rattle.hash_maintain.specs.Leaves.{unhashed}
use Rattle.call_law.specs.Hands.{KnowsFrame, HoldsNoTable}
use Rattle.call_law.specs.Trace.{Added, is_frame, frame_references}
use Rattle.call_law.specs.Spoken.{OwnAnswer}
use Rattle.buffer_pool.specs.AsTaken.{StaysTaken}
use Rattle.buffer_pool.specs.Calls.{Does}
use Rattle.buffer_pool.specs.Causes.{AreUnchanged, LeavesPool, ChangesPoolSo, ChangesPoolOnce}
use Rattle.buffer_pool.specs.Parts.{UnhashesBlock}
use Rattle.buffer_pool.specs.Tries.{IsOfPart, tries_alone, tries_and_given, Tries, TriesGivingParts, HoldsPoolAndFrame, TurnsBoth}
use Rattle.buffer_pool.specs.Turning.{ClearsBlock, EmptiesFrame}
use Rattle.buffer_pool.proofs.AddedLemmas.{parts_still}
use Rattle.buffer_pool.proofs.CallLemmas.{does_both, does_among}
use Rattle.buffer_pool.proofs.FrameLemmas.{one_held}
use Rattle.buffer_pool.proofs.TurnLemmas.{pool_not_frame}

-- no frame is among partitions
pub parts_no_frames : (qs : List (Reference Object)) → AllByRecursion IsOfPart qs
    → frame_references qs ≡ []
parts_no_frames [] parts = refl
parts_no_frames (q ∷ qs) parts =
    ap (λ z. cond (is_frame z) (q ∷ frame_references qs) (frame_references qs)) parts.0.1
    ∙ parts_no_frames qs parts.1

-- and the pool isn't
pub parts_leave : (qs : List (Reference Object)) → AllByRecursion IsOfPart qs → LeavesPool qs
parts_leave qs parts = each_weaker IsOfPart
    (λ (q : Reference Object). q.object ≡ pool_id → q.taken ≡ q.released)
    (λ q is e. absurd (is.2 e)) qs parts

pub unchanged_leaves : (qs : List (Reference Object)) → AreUnchanged qs → LeavesPool qs
unchanged_leaves qs same = each_weaker (λ (q : Reference Object). q.taken ≡ q.released)
    (λ (q : Reference Object). q.object ≡ pool_id → q.taken ≡ q.released)
    (λ q is e. is) qs same

pub leaves_both : (qs rs : List (Reference Object)) → LeavesPool qs → LeavesPool rs
    → LeavesPool (qs ++ rs)
leaves_both qs rs first second = each_append
    (λ (q : Reference Object). q.object ≡ pool_id → q.taken ≡ q.released) qs rs first second

-- a pool that was left as it was is no change of the pool
pub leaves_once : (x y : Pool) (qs : List (Reference Object)) → LeavesPool qs
    → ChangesPoolOnce x y qs
leaves_once x y qs leaves = each_weaker
    (λ (q : Reference Object). q.object ≡ pool_id → q.taken ≡ q.released) (ChangesPoolSo x y)
    (λ q is e. inl (is e)) qs leaves

-- tries that give nothing back
abbrev pub giving_none : (p q : TreePass) (ks : List ℕ) → Tries p q ks → TriesGivingParts p q ks
giving_none p q ks tries =
    record { refused = tries.refused; references = []; parts = tt; does = tries.does }

-- tries one behind the other
abbrev pub giving_both : (p q r : TreePass) (ks : List ℕ) → TriesGivingParts p q ks
    → TriesGivingParts q r ks → TriesGivingParts p r ks
giving_both p q r ks first second = record {
  refused = first.refused ++ second.refused;
  references = first.references ++ second.references;
  parts = each_append IsOfPart first.references second.references first.parts second.parts;
  does = does_both p q r ks (tries_and_given first.refused first.references)
      (tries_and_given second.refused second.references) first.does second.does;
}

pub giving_shape : (p q : TreePass) (ks : List ℕ) → TriesGivingParts p q ks
    → shape_of_pass q ≡ shape_of_pass p
giving_shape p q ks tries = ap (λ (t : Terms Shape). t.shape) tries.does.adds.numbers.terms

-- a block that isn't hashed any more
module _ (p u : TreePass) (b : ℕ) (did : UnhashesBlock p b u) where
  unhashed_shape : shape_of_pass u ≡ shape_of_pass p
  unhashed_shape = ap (λ (t : Terms Shape). t.shape) did.silently.does.adds.numbers.terms

  -- its frame is known so
  pub unhashed_knows : (f : Frame) → KnowsFrame (view p) b f → KnowsFrame (view u) b (unhashed f)
  unhashed_knows f knows = (
    knows.0,
    ap (λ (s : Shape). get_elem? (view u).held (frame_id s b)) unhashed_shape
        ∙ did.frame knows.0 f knows.1,
  )

  -- and the pool as before
  pub unhashed_both : (t : Object) (x : Pool) (f : Frame) → HoldsPoolAndFrame p b t x f
      → HoldsPoolAndFrame u b t x (unhashed f)
  unhashed_both t x f both = record {
    known = did.silently.does.known;
    pool = did.silently.does.rest pool_id (pool_not_frame (shape_of_pass p) b, tt) ∙ both.pool;
    frame = unhashed_knows f both.frame;
  }

  -- neither the pool nor a partition is held, as before
  pub unhashed_table : HoldsNoTable (view p) → HoldsNoTable (view u)
  unhashed_table lacks = record {
    pool = did.silently.does.rest pool_id (pool_not_frame (shape_of_pass p) b, tt) ∙ lacks.pool;
    parts = parts_still (view p) (view u) (frame_id (shape_of_pass p) b ∷ [])
        did.silently.does.adds.numbers did.silently.does.rest
        (λ k below. ((λ e. omega (arith, e, below)), tt)) lacks.parts;
  }

  abbrev a : Added
  a = did.silently.added

  -- tries were added, and partitions
  unhashed_giving : TriesGivingParts p u (pool_id ∷ frame_id (shape_of_pass p) b ∷ [])
  unhashed_giving = record {
    refused = a.refused;
    references = a.references;
    parts = did.parts;
    does = does_among p u (tries_and_given a.refused a.references)
        (frame_id (shape_of_pass p) b ∷ []) (pool_id ∷ frame_id (shape_of_pass p) b ∷ [])
        (λ j apart. apart.1)
        (subst (λ (said : List OwnAnswer). Does p u (frame_id (shape_of_pass p) b ∷ [])
        (record { said = said; refused = a.refused; references = a.references }))
        did.silently.silent did.silently.does);
  }

  -- it is held as it was taken
  unhashed_taken : (f : Frame) → KnowsFrame (view p) b f → (q : TreePass) (g : Frame)
      → StaysTaken u q b g → StaysTaken p q b g
  unfolding unhashed_knows
  unhashed_taken f knows q g stays h held =
      let is : holding knows.0 (object.Frame f) ≡ h =
      one_held p (frame_id (shape_of_pass p) b) (holding knows.0 (object.Frame f)) h knows.1
      held in
      subst
      (λ (s : Shape). Holds (view q) (frame_id s b) (holding h.taken (object.Frame g)))
      unhashed_shape
      (stays (holding h.taken (object.Frame (unhashed f)))
      (subst
      (λ (z : Holding Object). Holds (view u) (frame_id (shape_of_pass u) b)
      (holding z.taken (object.Frame (unhashed f)))) is (unhashed_knows f knows).1))

  -- then its frame may be emptied
  pub unhashed_empties : (t : Object) (x : Pool) (f : Frame) → KnowsFrame (view p) b f
      → (q : TreePass) (y : Pool) (g : Frame) → TurnsBoth u b t q y g → g.page ≡ None
      → ClearsBlock x b y → EmptiesFrame p b t x q
  unhashed_empties t x f knows q y g turns empty clears = record {
    pool = y;
    frame = g;
    tries = giving_both p u q (pool_id ∷ frame_id (shape_of_pass p) b ∷ []) unhashed_giving
        (giving_none u q (pool_id ∷ frame_id (shape_of_pass p) b ∷ []) (record {
          refused = turns.tries.refused;
          does = subst
              (λ (s : Shape). Does u q (pool_id ∷ frame_id s b ∷ [])
              (tries_alone turns.tries.refused)) unhashed_shape turns.tries.does;
        }));
    both = turns.both;
    taken = unhashed_taken f knows q g turns.taken;
    count = turns.count ∙ did.count;
    empty = empty;
    clears = clears;
  }
