-- A page that is looked for in the pool in hand.
use Rattle.std.proofs.Common.{◌≡◌, ℕ, ◌<◌, [], ◌∷◌, ◌++◌, inl, inr, sym, ap, subst, ◌∙◌, arith, Some}
use mathlib.Core.Option.{some, some-injective}
use lib.ListN.{get_elem?}
use Rattle.list_facts.proofs.Places.{same_some}
use Rattle.latch_law.specs.declared.knows.Holding.{Holding}
use Rattle.latch_law.specs.Rule.{Holds}
use Rattle.latch_law.specs.Views.{holding, with_refused}
use Rattle.latch_space.specs.Has.{IsKnown}
use Rattle.latch_space.specs.Passes.{view}
use Rattle.index_page.specs.Page.{PageRows}
use Rattle.index_law.specs.Shape.{Shape}
use Rattle.forest_law.specs.declared.objects.Frame.{Frame}
use Rattle.forest_law.specs.declared.objects.Pool.{Pool}
use Rattle.forest_law.specs.declared.objects.Where.TheVariants.{InFrame, Image}
use Rattle.forest_law.specs.declared.objects.Object.{Object}
use Rattle.forest_law.specs.declared.objects.Object.TheVariants as object
use Rattle.forest_law.specs.Numbers.{pool_id, frame_id, frames_of}
use Rattle.forest_law.specs.State.{where_at}
use Rattle.forest_law.proofs.ObjectLemmas.{same_frame}
use Rattle.forest_world.specs.Held.{TreePass, shape_of_pass}
use Rattle.buffer_pool.specs.declared.looking.Looked.{Looked}
use Rattle.buffer_pool.specs.declared.looking.Looked.TheVariants as looked
use Rattle.buffer_pool.specs.AsTaken.{IsAsTaken}
use Rattle.buffer_pool.specs.Calls.{Does}
use Rattle.buffer_pool.specs.Forests.{IsFittedTree}
use Rattle.buffer_pool.specs.Frames.{TakesFrame}
use Rattle.buffer_pool.specs.Hands.{LacksFrame}
use Rattle.buffer_pool.specs.Looking.{HoldsPageToo, RefusesNamed, TellsLook}
use Rattle.buffer_pool.specs.Pages.{HasNumber, HoldsOtherPages}
use Rattle.buffer_pool.specs.Tries.{tries_alone, KnowsPool}
use Rattle.buffer_pool.specs.Turning.{SetsAge, MayRestore, RestoresTo}
use Rattle.buffer_pool.specs.Victims.{MissesFrame, HoldsRoom}
use Rattle.buffer_pool.proofs.AddedLemmas.{frame_still}
use Rattle.buffer_pool.proofs.AsTakenLemmas.{held_as_taken, rest_as_taken, took_as_taken}
use Rattle.buffer_pool.proofs.CallLemmas.{took_frame}
use Rattle.buffer_pool.proofs.ClearLemmas.{cleared_aged, made_room}
use Rattle.buffer_pool.proofs.FrameLemmas.{one_held}
use Rattle.buffer_pool.proofs.GivingLemmas.{giving_none, giving_both, giving_shape}
use Rattle.buffer_pool.proofs.InsideLemmas.{taken_inside}
use Rattle.buffer_pool.proofs.KnownLemmas.{page_there, block_below}
use Rattle.buffer_pool.proofs.PageLemmas.{fits_before, lacks_if}
use Rattle.buffer_pool.proofs.PoolLemmas.{same_pool}
use Rattle.buffer_pool.proofs.TurnLemmas.{frame_not_pool}
use Rattle.buffer_pool.proofs.VictimLemmas.{tried_left, tries_both, tries_among, tries_shape}

image_is_not : (b : ℕ) → Image ≡ InFrame b → ⊥
image_is_not b e = absurd cc

-- one pool is known
pub one_pool : (p : TreePass) (t u : Object) (x y : Pool) → KnowsPool (view p) t x
    → KnowsPool (view p) u y → x ≡ y
one_pool p t u x y held other = same_pool x y
    (ap (λ (h : Holding Object). h.known)
    (one_held p pool_id (holding t (object.Pool x)) (holding u (object.Pool y)) held other))

-- a frame that is named for the page
module _ (p : TreePass) (t : Object) (x : Pool) (held : KnowsPool (view p) t x) (n b : ℕ)
    (named : where_at x.place.items n ≡ InFrame b) where
  -- is one of the frames
  pub named_below : IsFittedTree (view p) → b < frames_of (shape_of_pass p)
  named_below fitted =
      block_below fitted.whole fitted.is_lawful (view p) fitted.fits t x held n b named

  -- isn't held, where each page in hand is another
  pub named_lacked : IsFittedTree (view p)
      → (view p).terms.objects ≡ frame_id (shape_of_pass p) (frames_of (shape_of_pass p))
      → HoldsOtherPages (view p) n → LacksFrame p b
  named_lacked fitted objects others = let below = named_below fitted in
      lacks_if p (frame_id (shape_of_pass p) b) (omega (arith, below, objects)) never
    where
      never : (h : Holding Object) → Holds (view p) (frame_id (shape_of_pass p) b) h → ⊥
      never h has =
          let at = page_there fitted.whole fitted.is_lawful (view p) fitted.fits t x held n b
          named in
          let is : h.known ≡ object.Frame at.frame =
          some-injective h.known (object.Frame at.frame)
          (sym (fitted.fits.known (frame_id (shape_of_pass p) b) h has)
          ∙ (ap (λ (s : Shape). get_elem? fitted.whole.objects (frame_id s b))
          (sym fitted.fits.shape) ∙ at.at)) in
          others b at.frame at.page
          (h.taken, has ∙ ap (λ z. some (Some (holding h.taken z))) is) at.paged at.number

  -- and has the page once it is taken
  pub named_has : (q : TreePass) → (took : TakesFrame p b q) → HasNumber took.frame n
  named_has q took = let w = took.was.whole in
      let at = page_there w took.was.is_lawful (view p)
      (fits_before w (view p) took.refused took.was.fits) t x held n b named in
      let is : at.frame ≡ took.frame =
      same_frame at.frame took.frame
      (some-injective (object.Frame at.frame) (object.Frame took.frame)
      (sym at.at ∙ took.was.at)) in
      record {
        page = at.page;
        paged = ap (λ (f : Frame). f.page) (sym is) ∙ at.paged;
        number = at.number;
      }

  module _ (known : IsKnown p) (q : TreePass) (took : TakesFrame p b q) where
    -- the pool is known still
    pub pool_beside : KnowsPool (view q) t x
    pool_beside = (took_frame p q known b took).rest pool_id ((λ e. omega (arith, e)), tt) ∙ held

    -- the page is held once its block has an age
    pub holds_named : LacksFrame p b → (r : TreePass) → SetsAge q b t x r
        → HoldsPageToo p n b t x r
    holds_named lacks r aged =
        let first = took_frame p q known b took in
        let k = frame_id (shape_of_pass p) b in
        let ks = pool_id ∷ k ∷ [] in
        record {
          tries = giving_none p r ks (tries_both p q r ks
              (tries_among p q (k ∷ []) ks (λ j apart. (apart.1.0, tt))
              (record { refused = took.refused; does = first }))
              (tries_among q r (pool_id ∷ []) ks (λ j apart. (apart.0, tt)) aged.tries));
          pool = aged.pool;
          knew = aged.knows;
          lacked = lacks;
          frame = took.frame;
          knows = frame_still (view q) (view r) (pool_id ∷ []) aged.tries.does.adds.numbers
              aged.tries.does.rest b (frame_not_pool (shape_of_pass q) b, tt) took.frame
              took.has.held;
          has = named_has q took;
          held_as_taken = rest_as_taken (view q) (view r) (pool_id ∷ []) aged.tries.does.adds.numbers
              aged.tries.does.rest b (frame_not_pool (shape_of_pass q) b, tt)
              (took_as_taken p q b lacks took);
          inside = taken_inside (with_refused (view p) took.refused) b took.frame took.was;
          aged = record { tick = aged.aged.tick; ages = aged.aged.ages };
          how = inl (record { named = named; places = aged.aged.place });
          count = (let a = took.count in let c = aged.count in omega (arith, a, c));
        }

  -- or the try of its frame was in vain
  pub refuses_named : LacksFrame p b → (q : TreePass) → MissesFrame p b q → RefusesNamed p x n q
  refuses_named lacks q misses = record {
    vain = record { tries = misses.tries; count = misses.count };
    block = b;
    named = named;
    tried = misses.tried lacks;
  }

-- room for an image
module _ (p q : TreePass) (t : Object) (x : Pool) (n b : ℕ) (room : HoldsRoom p b t x q) where
  -- is a frame to which it may come
  pub room_restores : where_at x.place.items n ≡ Image → MayRestore q b n
  room_restores stored = record {
    taken = t;
    pool = room.pool;
    frame = room.frame;
    both = assumption;
    empty = room.empty;
    stored = room.clears.keeps n (λ e. image_is_not b (sym stored ∙ e)) ∙ stored;
  }

  restored_shape : (r : TreePass) → RestoresTo q b n t room.pool r
      → shape_of_pass r ≡ shape_of_pass q
  restored_shape r restored =
      tries_shape q r (pool_id ∷ frame_id (shape_of_pass q) b ∷ []) restored.turns.tries

  -- the page that came is another than the one that was there
  another_came : where_at x.place.items n ≡ Image → (f : Frame) → HasNumber f n
      → IsAsTaken (object.Frame room.was) (object.Frame f)
  another_came stored f has g z was now kept =
      let first : room.was.page ≡ Some kept.was =
      ap (λ (w : Frame). w.page) (same_frame room.was g was) ∙ kept.had in
      let page : has.page ≡ kept.is =
      same_some has.page kept.is (sym has.paged
      ∙ (ap (λ (w : Frame). w.page) (same_frame f z now) ∙ kept.has)) in
      let number : kept.was.head.number ≡ n =
      sym kept.number ∙ (ap (λ (w : PageRows). w.head.number) (sym page) ∙ has.number) in
      absurd (image_is_not b (sym stored
      ∙ (ap (where_at x.place.items) (sym number) ∙ room.named kept.was first)))

  -- and is held with it then
  pub holds_restored : where_at x.place.items n ≡ Image → (r : TreePass)
      → RestoresTo q b n t room.pool r → HoldsPageToo p n b t x r
  holds_restored stored r restored = let ks = pool_id ∷ frame_id (shape_of_pass p) b ∷ [] in
      record {
        tries = giving_both p q r ks room.tries
            (giving_none q r ks (record {
              refused = restored.turns.tries.refused;
              does = subst
                  (λ (s : Shape). Does q r (pool_id ∷ frame_id s b ∷ [])
                  (tries_alone restored.turns.tries.refused)) (giving_shape p q ks room.tries)
                  restored.turns.tries.does;
            }));
        pool = restored.pool;
        knew = restored.turns.both.pool;
        lacked = room.lacked;
        frame = restored.frame;
        knows = restored.turns.both.frame;
        has = restored.has;
        held_as_taken = held_as_taken r b
            (holding (object.Frame room.was) (object.Frame restored.frame))
            (subst
            (λ (s : Shape). Holds (view r) (frame_id s b)
            (holding (object.Frame room.was) (object.Frame restored.frame)))
            (sym (restored_shape r restored))
            (restored.turns.taken (holding (object.Frame room.was) (object.Frame room.frame))
            (subst
            (λ (s : Shape). Holds (view q) (frame_id s b)
            (holding (object.Frame room.was) (object.Frame room.frame)))
            (sym (giving_shape p q ks room.tries)) room.taken)))
            (another_came stored restored.frame restored.has);
        inside = restored.inside;
        aged = cleared_aged x b room.pool restored.pool room.clears restored.aged;
        how = inr (record {
          stored = stored;
          named = restored.placed;
          room = made_room p x n b (room.tries.refused ++ restored.turns.tries.refused) room.pool
              restored.pool
              (λ c below before lacks. tried_left (frame_id (shape_of_pass p) c)
              room.tries.refused restored.turns.tries.refused (room.took c below before lacks))
              room.clears (λ e. image_is_not b (sym stored ∙ e)) restored.keeps;
        });
        count = (let a = restored.turns.count in let c = room.count in omega (arith, a, c));
      }

-- the pool is held still, whatever was found
pub pool_after : (p q : TreePass) (t : Object) (x : Pool) (n : ℕ) (r : Looked)
    → KnowsPool (view p) t x → TellsLook p t x n r q → IsKnown q × ((y : Pool) × KnowsPool (view q)
    t y)
pool_after p q t x n (looked.Held b) held told = (told.tries.does.known, (told.pool, told.knew))
pool_after p q t x n looked.Busy held told =
    (told.vain.tries.does.known, (x, told.vain.tries.does.rest pool_id tt ∙ held))
pool_after p q t x n looked.NoRoom held told =
    (told.tries.does.known, (x, told.tries.does.rest pool_id tt ∙ held))
pool_after p q t x n looked.Free held told =
    (told.vain.tries.does.known, (x, told.vain.tries.does.rest pool_id tt ∙ held))
