-- A new page is in a frame that is held, and the pool is given back.
use Rattle.std.proofs.Common.{◌≡◌, ℕ, ◌<◌, [], ◌∷◌, ◌++◌, inl, inr, sym, ap, subst, ◌∙◌, arith, Some}
use Rattle.list_facts.proofs.Each.{each_append}
use Rattle.latch_law.specs.declared.knows.Terms.{Terms}
use Rattle.latch_law.specs.Views.{holding}
use Rattle.latch_law.specs.Whole.{reference}
use Rattle.latch_space.specs.Passes.{view}
use Rattle.index_page.specs.declared.head.PageHead.{PageHead}
use Rattle.index_page.specs.Page.{PageRows}
use Rattle.index_law.specs.Shape.{Shape}
use Rattle.forest_law.specs.declared.objects.Where.TheVariants.{Free, InFrame}
use Rattle.forest_law.specs.declared.objects.Object.TheVariants as object
use Rattle.forest_law.specs.Numbers.{pool_id, frame_id}
use Rattle.forest_law.specs.State.{where_at, fields_for}
use Rattle.forest_world.specs.Held.{TreePass, shape_of_pass}
use Rattle.call_law.specs.Hands.{HoldsNoTable, HoldsNoOutside}
use Rattle.call_law.specs.Trace.{Added}
use Rattle.call_law.proofs.TraceLemmas.{both_added}
use Rattle.buffer_pool.specs.Calls.{Does}
use Rattle.buffer_pool.specs.Causes.{ChangesPoolSo}
use Rattle.buffer_pool.specs.Forests.{IsFittedTree}
use Rattle.buffer_pool.specs.FreeNumbers.{HoldsFree}
use Rattle.buffer_pool.specs.NewPages.{outside_page, GetsPage}
use Rattle.buffer_pool.specs.Pools.{GivesPool}
use Rattle.buffer_pool.specs.Tries.{tries_alone, HoldsPoolAndFrame}
use Rattle.buffer_pool.specs.Turning.{KeepsOthers, MayBring, BringsTo}
use Rattle.buffer_pool.proofs.AddedLemmas.{only_given, frame_still}
use Rattle.buffer_pool.proofs.AgainLemmas.{frames-append}
use Rattle.buffer_pool.proofs.CallLemmas.{does_both, does_among, does_again, gave_pool}
use Rattle.buffer_pool.proofs.ClearLemmas.{cleared_aged, made_room}
use Rattle.buffer_pool.proofs.FrameLemmas.{one_held}
use Rattle.buffer_pool.proofs.GivingLemmas.{leaves_once, leaves_both}
use Rattle.buffer_pool.proofs.InsideLemmas.{inside_still}
use Rattle.buffer_pool.proofs.KnownLemmas.{places_counted}
use Rattle.buffer_pool.proofs.TurnLemmas.{frame_not_pool}
use Rattle.buffer_pool.proofs.VictimLemmas.{in_right, tried_left}

free_is_not : (b : ℕ) → Free ≡ InFrame b → ⊥
free_is_not b e = absurd cc

-- a page with this head, and without rows, is the one that was asked for
page_is : (page : PageRows) (head : PageHead) (n : ℕ)
    → page.head ≡ (outside_page head n).head → page.rows ≡ [] → page ≡ outside_page head n
page_is page head n heads rows = λ k. record { head = heads k; rows = rows k }

module _ (p p1 : TreePass) (head : PageHead) (n b : ℕ) (free : HoldsFree p n b p1) where
  same_shape : shape_of_pass p1 ≡ shape_of_pass p
  same_shape = ap (λ (t : Terms Shape). t.shape) free.silently.does.adds.numbers.terms

  -- the pool and the frame are held
  pub free_both : HoldsPoolAndFrame p1 b (object.Pool free.pool) free.now free.frame
  free_both = record { known = free.silently.does.known; pool = free.held; frame = free.knows }

  module _ (page : PageRows) (heads : page.head ≡ (outside_page head n).head)
      (rows : page.rows ≡ []) where
    -- the page may come
    pub may_new : IsFittedTree (view p1) → head.index < (shape_of_pass p).indexes
        → head.fields ≡ fields_for (shape_of_pass p) head.index
        → HoldsNoOutside (view p) → MayBring p1 b page
    may_new fitted indexed fields inside =
        let counted = places_counted fitted.whole fitted.is_lawful (view p1) fitted.fits
        (object.Pool free.pool) free.now free.held in
        let number = ap (λ (h : PageHead). h.number) heads in
        let pages = ap (λ (s : Shape). s.pages) same_shape in let below = free.below in
        record {
          taken = object.Pool free.pool;
          pool = free.now;
          frame = free.frame;
          both = free_both;
          empty = free.empty;
          below = omega (arith, counted, number, pages, below);
          free = ap (where_at free.now.place.items) number ∙ free.free;
          index = subst (λ (s : Shape). page.head.index < s.indexes) (sym same_shape)
              (subst (λ (h : PageHead). h.index < (shape_of_pass p).indexes) (sym heads) indexed);
          own = ap (λ (h : PageHead). h.prev) heads ∙ ap Some (sym number);
          rows = rows;
          alone = inside_still p p1 b free.frame free.knows free.empty same_shape
              free.silently.does.rest inside;
          fields = ap (λ (h : PageHead). h.fields) heads
              ∙ (fields
              ∙ (ap (λ (s : Shape). fields_for s head.index) (sym same_shape)
              ∙ ap (λ (h : PageHead). fields_for (shape_of_pass p1) h.index) (sym heads)));
        }

    -- and is there once the pool was given back
    module _ (q1 q : TreePass) (brings : BringsTo p1 b page (object.Pool free.pool) free.now q1)
        (gave : GivesPool q1 q) (lacks : HoldsNoTable (view p)) where
      abbrev a : Added
      a = free.silently.added

      abbrev c : Added
      c = tries_alone brings.turns.tries.refused

      abbrev given : Added
      given = only_given pool_id gave.taken (object.Pool gave.pool)

      last : Does q1 q (pool_id ∷ []) given
      last = gave_pool q1 q brings.turns.tries.does.known gave

      gave_is : holding gave.taken (object.Pool gave.pool)
          ≡ holding (object.Pool free.pool) (object.Pool brings.pool)
      gave_is = one_held q1 pool_id (holding gave.taken (object.Pool gave.pool))
          (holding (object.Pool free.pool) (object.Pool brings.pool)) gave.held
          brings.turns.both.pool

      all_does : Does p q (frame_id (shape_of_pass p) b ∷ []) (both_added (both_added a c) given)
      all_does = let k = frame_id (shape_of_pass p) b in let ls = pool_id ∷ k ∷ [] in
          does_again p q (both_added (both_added a c) given) pool_id (k ∷ [])
          (does_both p q1 q ls (both_added a c) given
          (does_both p p1 q1 ls a c free.silently.does
          (subst (λ (s : Shape). Does p1 q1 (pool_id ∷ frame_id s b ∷ []) c) same_shape
          brings.turns.tries.does))
          (does_among q1 q given (pool_id ∷ []) ls (λ j apart. (apart.0, tt)) last))
          (gave.lacks ∙ sym lacks.pool)

      pub gets_page : GetsPage p head b q
      gets_page = record {
        silently = record {
          added = both_added (both_added a c) given;
          does = all_does;
          silent = λ i. (free.silently.silent i ++ []) ++ [];
        };
        none = frames-append (a.references ++ []) given.references
            ∙ (λ i. frames-append a.references [] i ++ [])
            ∙ (λ i. (free.none i ++ []) ++ []);
        pool = free.pool;
        held = record {
          now = brings.pool;
          among = in_right (reference pool_id (object.Pool free.pool) (object.Pool brings.pool))
              (a.references ++ []) given.references
              (inl (λ i. reference pool_id (sym gave_is i).taken (sym gave_is i).known));
        };
        once = each_append (ChangesPoolSo free.pool brings.pool) (a.references ++ [])
            given.references
            (leaves_once free.pool brings.pool (a.references ++ [])
            (leaves_both a.references [] free.unchanged tt))
            ((λ is. inr (λ i. reference pool_id (gave_is i).taken (gave_is i).known)), tt);
        number = n;
        lowest = free.lowest;
        placed = ap (where_at brings.pool.place.items)
            (ap (λ (h : PageHead). h.number) (sym heads)) ∙ brings.placed;
        room = made_room p free.pool n b ((a.refused ++ c.refused) ++ []) free.now brings.pool
            (λ k below before lacks. tried_left (frame_id (shape_of_pass p) k)
            (a.refused ++ c.refused) []
            (tried_left (frame_id (shape_of_pass p) k) a.refused c.refused
            (free.took k below before lacks)))
            free.clears (λ e. free_is_not b (sym free.lowest.free ∙ e))
            (subst (λ m. KeepsOthers free.now m brings.pool)
            (ap (λ (h : PageHead). h.number) heads) brings.keeps);
        aged = cleared_aged free.pool b free.now brings.pool free.clears brings.aged;
        lacked = free.lacked;
        frame = brings.frame;
        knows = frame_still (view q1) (view q) (pool_id ∷ []) last.adds.numbers last.rest b
            (frame_not_pool (shape_of_pass q1) b, tt) brings.frame brings.turns.both.frame;
        has = assumption (brings.paged ∙ ap Some (page_is page head n heads rows));
        count = (let x = free.count in let y = brings.turns.count in let z = gave.count in
            omega (arith, x, y, z));
      }
