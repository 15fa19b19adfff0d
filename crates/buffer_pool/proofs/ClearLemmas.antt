-- A block that made room for a page, and by which pool it did.
use Rattle.std.proofs.Common.{◌≡◌, ◌≢◌, ℕ, List, [], ◌∷◌, set, inl, inr, sym, ap, subst, ◌∙◌}
use Rattle.latch_law.specs.declared.knows.Reference.{Reference}
use Rattle.latch_law.specs.declared.knows.Refusal.{Refusal}
use Rattle.clock_law.specs.ModifyClock.{raised}
use Rattle.index_law.specs.Shape.{Shape}
use Rattle.forest_law.specs.declared.objects.Pool.{Pool}
use Rattle.forest_law.specs.declared.objects.Where.TheVariants.{InFrame}
use Rattle.forest_law.specs.declared.objects.Object.{Object}
use Rattle.forest_law.specs.Numbers.{frame_id}
use Rattle.forest_law.specs.State.{where_at}
use Rattle.forest_world.specs.Held.{TreePass, shape_of_pass}
use Rattle.buffer_pool.specs.Causes.{AreUnchanged, ChangesPoolOnce, HasAged, TookVictim, MadeRoom, ComesBy}
use Rattle.buffer_pool.specs.Hands.{LacksFrame}
use Rattle.buffer_pool.specs.Tries.{IsTried}
use Rattle.buffer_pool.specs.Turning.{KeepsOthers, ClearsBlock}

-- what was given back as it was taken is no change of the pool
pub unchanged_once : (x y : Pool) (qs : List (Reference Object)) → AreUnchanged qs
    → ChangesPoolOnce x y qs
unchanged_once x y [] same = tt
unchanged_once x y (q ∷ qs) same = ((λ is. inl same.0), unchanged_once x y qs same.1)

-- a block that was cleared has the age that it got then
pub cleared_aged : (x : Pool) (b : ℕ) (y z : Pool) → ClearsBlock x b y → HasAged y b z
    → HasAged x b z
cleared_aged x b y z clears aged = record {
  tick = aged.tick ∙ ap raised clears.tick;
  ages = aged.ages ∙ ap (λ xs. set xs b z.tick) clears.ages;
}

-- and made room where only the page of the number was put then
pub made_room : (p : TreePass) (x : Pool) (n b : ℕ) (fs : List (Refusal Object)) (y z : Pool)
    → TookVictim p x b fs → ClearsBlock x b y → where_at x.place.items n ≢ InFrame b
    → KeepsOthers y n z → MadeRoom p x n b fs z
made_room p x n b fs y z took clears not keeps = record {
  took = took;
  gone = λ m was. (keeps.elsewhere m
      (λ e. not (ap (where_at x.place.items) (sym e) ∙ was))).place ∙ clears.gone m was;
  places = λ m differs other. (keeps.elsewhere m differs).place ∙ clears.keeps m other;
}

-- what a pass tried in vain, one before it did with it, that lacked no less and tried no less
module _ (p q : TreePass) (same : shape_of_pass q ≡ shape_of_pass p)
    (lacks : (c : ℕ) → LacksFrame p c → LacksFrame q c) (fs gs : List (Refusal Object))
    (more : (k : ℕ) → IsTried k fs → IsTried k gs) (x : Pool) where
  pub victim_before : (b : ℕ) → TookVictim q x b fs → TookVictim p x b gs
  victim_before b took c below before lacked =
      subst (λ (s : Shape). IsTried (frame_id s c) gs) same
      (more (frame_id (shape_of_pass q) c) (took c below before (lacks c lacked)))

  pub room_before : (n b : ℕ) (y : Pool) → MadeRoom q x n b fs y → MadeRoom p x n b gs y
  room_before n b y room = assumption (victim_before b room.took)

  pub comes_before_too : (n b : ℕ) (y : Pool) → ComesBy q x n b fs y → ComesBy p x n b gs y
  comes_before_too n b y (inl stayed) = inl stayed
  comes_before_too n b y (inr came) = inr (record {
    stored = came.stored;
    named = came.named;
    room = room_before n b y came.room;
  })
