-- The pool and a frame that were taken out come back as others: the step follows, and what is known
-- then.
use Rattle.std.proofs.Common.{◌≡◌, ◌≢◌, ℕ, List, [], ◌∷◌, sym, ap, subst, ◌∙◌, arith, Option, None}
use mathlib.Core.Option.{some}
use lib.ListN.{get_elem?}
use Rattle.latch_law.specs.declared.knows.Holding.{Holding}
use Rattle.latch_law.specs.Rule.{Holds}
use Rattle.latch_law.specs.Views.{holding, knowns, learnt, settling}
use Rattle.latch_law.proofs.Lists.{learnt_some}
use Rattle.latch_space.specs.Has.{DidSettle}
use Rattle.latch_space.specs.Passes.{view, values, known_values, Shows}
use Rattle.latch_space.proofs.Pointwise.{learnt_known}
use Rattle.index_law.specs.Shape.{Shape}
use Rattle.forest_law.specs.declared.objects.Frame.{Frame}
use Rattle.forest_law.specs.declared.objects.Pool.{Pool}
use Rattle.forest_law.specs.declared.objects.Object.{Object}
use Rattle.forest_law.specs.declared.objects.Object.TheVariants as object
use Rattle.forest_law.specs.HashKept.{KeepsHash}
use Rattle.forest_law.specs.Law.{Follows}
use Rattle.forest_law.specs.Numbers.{pool_id, frame_id}
use Rattle.forest_law.specs.PoolSteps.{PoolStep}
use Rattle.forest_law.specs.Steps.{InHand}
use Rattle.forest_world.specs.Held.{TreePass, shape_of_pass, HasFrame, HasPool, IsKnownBeyond}
use Rattle.forest_world.specs.HandLaws.{PoolInHand}
use Rattle.forest_world.specs.HashHands.{FrameRestsHash, HandsKeepTheHash}
use Rattle.forest_world.proofs.HandLemmas.{hands_change_the_pool, known_is_at_rest}
use Rattle.buffer_pool.specs.Forests.{TreeView}
use Rattle.buffer_pool.specs.Frames.{TakesOut, PutsBack}
use Rattle.buffer_pool.specs.Hands.{HasOut}
use Rattle.buffer_pool.specs.Pools.{HasPoolOut, TakesPoolOut, PutsPoolBack}
use Rattle.buffer_pool.specs.Tries.{HoldsPoolAndFrame, TurnsBoth}
use Rattle.buffer_pool.specs.Turning.{KeepsOthers, MayTurn, TurnsBack}
use Rattle.buffer_pool.proofs.AddedLemmas.{held_adds, none_spares}
use Rattle.buffer_pool.proofs.CallLemmas.{frame_has, pool_has}
use Rattle.buffer_pool.proofs.FrameLemmas.{one_held}
use Rattle.buffer_pool.proofs.HashRestLemmas.{frame_rests}
use Rattle.buffer_pool.proofs.KeepLemmas.{learnt_same}

-- no frame is the pool
pub frame_not_pool : (shape : Shape) (b : ℕ) → frame_id shape b ≢ pool_id
frame_not_pool shape b e = omega (arith, e)

pub pool_not_frame : (shape : Shape) (b : ℕ) → pool_id ≢ frame_id shape b
pool_not_frame shape b e = omega (arith, e)

-- they come back, and are settled
module _ (p p1 : TreePass) (b : ℕ) (g : Frame) (y : Pool) (may : MayTurn p b g y)
    (back : PutsBack p b g p1) where
  -- the pool's place is empty still
  pub pool_waits : HasPoolOut p1 may.pool
  pool_waits = let same = back.hand.others pool_id (pool_not_frame (shape_of_pass p) b) in record {
    held = (
      may.pool_out.held.0,
      ap (λ (v : TreeView). get_elem? v.held pool_id) back.view ∙ may.pool_out.held.1,
    );
    out = same.1 ∙ may.pool_out.out;
  }

  module _ (p2 : TreePass) (again : PutsPoolBack p1 y p2) where
    same_view : view p2 ≡ view p
    same_view = again.view ∙ back.view

    same_shape : shape_of_pass p2 ≡ shape_of_pass p
    same_shape = ap (λ (v : TreeView). v.terms.shape) same_view

    has_frame : HasFrame p2 b may.old g
    has_frame = again.hand.frames b may.old g (back.has may.old may.out)

    has_pool : HasPool p2 may.pool y
    has_pool = again.has may.pool pool_waits

    -- all else is what it is known to be
    known_beyond : IsKnownBeyond p2 (pool_id ∷ frame_id (shape_of_pass p2) b ∷ [])
    known_beyond j h apart held =
        let differs : j ≢ frame_id (shape_of_pass p) b =
        λ e. apart.1.0 (e ∙ ap (λ (s : Shape). frame_id s b) (sym same_shape)) in
        let one = back.hand.others j differs in let two = again.hand.others j apart.0 in
        two.1 ∙ (one.1
        ∙ may.others j h (apart.0, (differs, tt))
        (sym (ap (λ (v : TreeView). get_elem? v.held j) same_view) ∙ held))

    abbrev hand : InHand
    hand = record { block = b; old = may.old; new = g }

    pool_steps : PoolInHand p2 may.number may.pool y hand
    pool_steps = hands_change_the_pool p2 may.number may.pool y hand
        (record {
          pool = has_pool;
          frame = has_frame;
          counted = may.keeps.counted;
          elsewhere = may.keeps.elsewhere;
          others = known_is_at_rest.beyond p2 (pool_id ∷ frame_id (shape_of_pass p2) b ∷ [])
              known_beyond;
        })

    -- the step follows
    pub turn_follows : HandsKeepTheHash
        → Follows (shape_of_pass p2) (known_values p2) (values p2) None
    turn_follows law = subst
        (λ (v : TreeView). Follows v.terms.shape (knowns v.held) (values p2) None) (sym same_view)
        (may.follows (values p2)
        (subst
        (λ (v : TreeView). PoolStep v.terms.shape (knowns v.held) (values p2) may.number hand
        may.pool y) same_view pool_steps.step)
        (subst (λ (v : TreeView). KeepsHash v.terms.shape (knowns v.held) (values p2)) same_view
        (law.rests p2
        (frame_rests p2 b may.old g has_frame
        (subst (λ (s : Shape). FrameRestsHash s b may.old g) (sym same_shape) may.rests)
        known_beyond))))

    pub turn_whole : (k : ℕ) (h : Holding Object) → Holds (view p2) k h
        → (x : Object) × Shows p2 k x
    turn_whole = pool_steps.whole

    module _ (q : TreePass) (told : DidSettle p2 q) where
      held_now : (view q).held ≡ learnt (values p2) (view p2).held
      held_now = ap (λ (v : TreeView). v.held) told.view

      -- what is known of an object in hand once it has this value
      learns : (k : ℕ) (t x z : Object) → Holds (view p) k (holding t x) → Shows p2 k z
          → Holds (view q) k (holding t z)
      learns k t x z held shows = ap (λ hs. get_elem? hs k) held_now
          ∙ learnt_some (values p2) (view p2).held k (holding t x) z
          (ap (λ (v : TreeView). get_elem? v.held k) same_view ∙ held) shows

      pub turns_back : TurnsBack p b g y q
      turns_back = record {
        frame = λ t f held. learns (frame_id (shape_of_pass p) b) t (object.Frame f)
            (object.Frame g) held
            (subst (λ (s : Shape). Shows p2 (frame_id s b) (object.Frame g)) same_shape
            has_frame.value);
        pool = λ t x held. learns pool_id t (object.Pool x) (object.Pool y) held has_pool.value;
        rest = λ k apart. ap (λ hs. get_elem? hs k) held_now
            ∙ (learnt_same (values p2) (view p2).held k
            (λ h held. known_beyond k h (
              apart.0,
              (
                λ e. apart.1.0
                    (e ∙ ap (λ (s : Shape). frame_id s b) same_shape),
                tt,
              ),
            ) held)
            (λ lacked. sym (ap (λ hs. get_elem? hs k) held_now) ∙ told.learnt.lacks k lacked)
            ∙ ap (λ (v : TreeView). get_elem? v.held k) same_view);
        known = learnt_known p2 q turn_whole held_now told.learnt.values;
        count = told.learnt.count ∙ (again.count ∙ back.count);
        values = values p2;
        view = told.view ∙ ap (λ (v : TreeView). settling v (values p2)) same_view;
      }

-- they are taken out, where both are known
module _ (p p1 p2 : TreePass) (b : ℕ) (frame : Frame) (pool : Pool) (out : TakesOut p b frame p1)
    (outside : TakesPoolOut p1 pool p2) (t : Object) (x : Pool) (f : Frame)
    (both : HoldsPoolAndFrame p b t x f) where
  out_view : view p2 ≡ view p
  out_view = outside.view ∙ out.view

  pub out_shape : shape_of_pass p2 ≡ shape_of_pass p
  out_shape = ap (λ (v : TreeView). v.terms.shape) out_view

  frame_was : HasOut p1 b f × (frame ≡ f)
  frame_was = out.out f f (frame_has p both.known b f both.frame)

  pub frame_is : frame ≡ f
  frame_is = frame_was.1

  pool_was : HasPoolOut p2 x × (pool ≡ x)
  pool_was = outside.out x x (out.hand.pool x x (pool_has p both.known t x both.pool))

  pub pool_is : pool ≡ x
  pool_is = pool_was.1

  -- the frame's place is empty
  frame_waits : HasOut p2 b f
  frame_waits =
      let shape : shape_of_pass p1 ≡ shape_of_pass p2 =
      ap (λ (v : TreeView). v.terms.shape) (sym outside.view) in
      let same =
      outside.hand.others (frame_id (shape_of_pass p1) b) (frame_not_pool (shape_of_pass p1) b) in
      record {
        held = (
          frame_was.0.held.0,
          subst
              (λ (s : Shape). Holds (view p2) (frame_id s b)
              (holding frame_was.0.held.0 (object.Frame f))) shape
              (same.0 ∙ frame_was.0.held.1),
        );
        out = subst (λ (s : Shape). get_elem? (values p2) (frame_id s b) ≡ some None) shape
            (same.1 ∙ frame_was.0.out);
      }

  pub may_turn : (g : Frame) (y : Pool) (n : ℕ) → KeepsOthers x n y
      → FrameRestsHash (shape_of_pass p) b f g
      → ((news : List (Option Object))
      → PoolStep (shape_of_pass p) (known_values p) news n (record { block = b; old = f; new = g })
      x y → KeepsHash (shape_of_pass p) (known_values p) news
      → Follows (shape_of_pass p) (known_values p) news None)
      → MayTurn p2 b g y
  may_turn g y n keeps rests follows = record {
    old = f;
    out = frame_waits;
    pool = x;
    pool_out = pool_was.0;
    others = λ j h apart held.
        let differs : j ≢ frame_id (shape_of_pass p) b =
        λ e. apart.1.0 (e ∙ ap (λ (s : Shape). frame_id s b) (sym out_shape)) in
        (outside.hand.others j apart.0).1
        ∙ ((out.hand.others j differs).1
        ∙ both.known j h (sym (ap (λ (v : TreeView). get_elem? v.held j) out_view) ∙ held));
    number = n;
    keeps = keeps;
    rests = subst (λ (s : Shape). FrameRestsHash s b f g) (sym out_shape) rests;
    follows = subst
        (λ (v : TreeView). (news : List (Option Object))
        → PoolStep v.terms.shape (knowns v.held) news n (record { block = b; old = f; new = g }) x y
        → KeepsHash v.terms.shape (knowns v.held) news
        → Follows v.terms.shape (knowns v.held) news None) (sym out_view) follows;
  }

  -- and come back
  module _ (g : Frame) (y : Pool) (q : TreePass) (back : TurnsBack p2 b g y q) where
    -- the frame is held as it was taken
    frame_back : Holds (view q) (frame_id (shape_of_pass p) b)
        (holding both.frame.0 (object.Frame g))
    frame_back = subst
        (λ (s : Shape). Holds (view q) (frame_id s b) (holding both.frame.0 (object.Frame g)))
        out_shape (back.frame both.frame.0 f
        (ap (λ (s : Shape). get_elem? (view p2).held (frame_id s b)) out_shape
        ∙ (ap (λ (v : TreeView). get_elem? v.held (frame_id (shape_of_pass p) b)) out_view
        ∙ both.frame.1)))

    pub turned : TurnsBoth p b t q y g
    turned = record {
      tries = record {
        refused = [];
        does = record {
          adds = held_adds (view p) (view q) (learnt back.values (view p).held)
              (back.view ∙ ap (λ (v : TreeView). settling v back.values) out_view);
          spares = none_spares (shape_of_pass p);
          rest = λ j apart. back.rest j
              (apart.0, ((λ e. apart.1.0 (e ∙ ap (λ (s : Shape). frame_id s b) out_shape)), tt))
              ∙ ap (λ (v : TreeView). get_elem? v.held j) out_view;
          known = back.known;
        };
      };
      both = record {
        known = back.known;
        pool = back.pool t x (ap (λ (v : TreeView). get_elem? v.held pool_id) out_view ∙ both.pool);
        frame = (
          both.frame.0,
          ap (λ (v : TreeView). get_elem? (view q).held (frame_id v.terms.shape b)) back.view
              ∙ back.frame both.frame.0 f
              (ap (λ (s : Shape). get_elem? (view p2).held (frame_id s b)) out_shape
              ∙ (ap (λ (v : TreeView). get_elem? v.held (frame_id (shape_of_pass p) b)) out_view
              ∙ both.frame.1)),
        );
      };
      taken = λ h held. subst
          (λ (z : Holding Object). Holds (view q) (frame_id (shape_of_pass p) b)
          (holding z.taken (object.Frame g)))
          (one_held p (frame_id (shape_of_pass p) b)
          (holding both.frame.0 (object.Frame f)) h both.frame.1 held) frame_back;
      count = back.count ∙ (outside.count ∙ out.count);
    }
