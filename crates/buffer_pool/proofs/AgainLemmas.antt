-- Looks at the pool that found nothing, and what the one that ends them tells.
use Rattle.std.proofs.Common.{◌≡◌, ℕ, Bool, true, false, List, [], ◌∷◌, ◌++◌, cond, sym, ap, subst, ◌∙◌, refl, arith}
use lib.ListN.{get_elem?}
use Rattle.list_facts.proofs.Each.{each_append}
use Rattle.latch_law.specs.declared.knows.Reference.{Reference}
use Rattle.latch_law.specs.declared.knows.Terms.{Terms}
use Rattle.latch_law.specs.Whole.{reference}
use Rattle.latch_space.specs.Has.{IsKnown}
use Rattle.latch_space.specs.Passes.{view, IsSamePass}
use Rattle.index_law.specs.Shape.{Shape}
use Rattle.forest_law.specs.declared.objects.Object.{Object}
use Rattle.forest_law.specs.declared.objects.Object.TheVariants as object
use Rattle.forest_law.specs.Numbers.{pool_id, frame_id}
use Rattle.forest_world.specs.Held.{TreePass, shape_of_pass}
use Rattle.call_law.specs.Hands.{HoldsNoTable}
use Rattle.call_law.specs.Trace.{Added, is_frame, frame_references}
use Rattle.call_law.proofs.TraceLemmas.{both_added}
use Rattle.buffer_pool.specs.Calls.{Does}
use Rattle.buffer_pool.specs.Causes.{AreUnchanged, ChangesPoolSo}
use Rattle.buffer_pool.specs.Hands.{LacksFrame}
use Rattle.buffer_pool.specs.Looking.{GivesNothing, FindsNone}
use Rattle.buffer_pool.specs.Pages.{HoldsOtherPages, PagesIn, RefusesPage}
use Rattle.buffer_pool.proofs.AddedLemmas.{none_added, held_adds, none_spares, frame_before, parts_still}
use Rattle.buffer_pool.proofs.CallLemmas.{does_both, does_none}
use Rattle.buffer_pool.proofs.ClearLemmas.{unchanged_once, comes_before_too}
use Rattle.buffer_pool.proofs.FitsLemmas.{live_still}
use Rattle.buffer_pool.proofs.VictimLemmas.{in_right, tried_right}

-- a wait without end doesn't end
pub never_ends : false ≡ true → ⊥
never_ends e = absurd cc

-- it is the same pass over all of them
pub passes_both : (p q r : TreePass) → IsSamePass p q → IsSamePass q r → IsSamePass p r
passes_both p q r first second = (second.0 ∙ first.0, second.1 ∙ first.1)

-- the frames among the references of two calls
pub frames-append : (qs rs : List (Reference Object))
    → frame_references (qs ++ rs) ≡ frame_references qs ++ frame_references rs
frames-append [] rs = refl
frames-append (q ∷ qs) rs = pick (is_frame q.released) (frame_references (qs ++ rs))
    (frame_references qs) (frames-append qs rs)
  where
    pick : (o : Bool) (xs ys : List (Reference Object)) → xs ≡ ys ++ frame_references rs
        → cond o (q ∷ xs) xs ≡ cond o (q ∷ ys) ys ++ frame_references rs
    pick true xs ys e = ap (λ zs. q ∷ zs) e
    pick false xs ys e = e

-- what two calls gave back as it was taken
pub both_unchanged : (qs rs : List (Reference Object)) → AreUnchanged qs → AreUnchanged rs
    → AreUnchanged (qs ++ rs)
both_unchanged qs rs first second =
    each_append (λ (q : Reference Object). q.taken ≡ q.released) qs rs first second

-- no look
pub gives_none : (p : TreePass) → IsKnown p → GivesNothing p p
gives_none p known = record {
  got = record {
    silently = record {
      added = none_added;
      does = record {
        adds = held_adds (view p) (view p) (view p).held refl;
        spares = none_spares (shape_of_pass p);
        rest = λ k apart. refl;
        known = known;
      };
      silent = refl;
    };
    count = refl;
  };
  none = refl;
  unchanged = tt;
}

module _ (p q : TreePass) (gives : GivesNothing p q) where
  abbrev a : Added
  a = gives.got.silently.added

  pub gives_shape : shape_of_pass q ≡ shape_of_pass p
  gives_shape =
      ap (λ (t : Terms Shape). t.shape) gives.got.silently.does.adds.numbers.terms

  -- all that a look asks for is so still
  pub gives_others : (n : ℕ) → HoldsOtherPages (view p) n → HoldsOtherPages (view q) n
  gives_others n others b f page knows = others b f page
      (frame_before (view p) (view q) [] gives.got.silently.does.adds.numbers
      gives.got.silently.does.rest b tt f knows)

  pub gives_no_table : HoldsNoTable (view p) → HoldsNoTable (view q)
  gives_no_table lacks = record {
    pool = gives.got.silently.does.rest pool_id tt ∙ lacks.pool;
    parts = parts_still (view p) (view q) [] gives.got.silently.does.adds.numbers
        gives.got.silently.does.rest (λ k below. tt) lacks.parts;
  }

  gives_lacks : (b : ℕ) → LacksFrame q b → LacksFrame p b
  gives_lacks b lacked = sym (gives.got.silently.does.rest (frame_id (shape_of_pass p) b) tt)
      ∙ (ap (λ (s : Shape). get_elem? (view q).held (frame_id s b)) (sym gives_shape) ∙ lacked)

  pub gives_lacked : (b : ℕ) → LacksFrame p b → LacksFrame q b
  gives_lacked b lacks = ap (λ (s : Shape). get_elem? (view q).held (frame_id s b)) gives_shape
      ∙ (gives.got.silently.does.rest (frame_id (shape_of_pass p) b) tt ∙ lacks)

  module _ (r : TreePass) where
    -- one more, that found nothing
    pub gives_both : GivesNothing q r → GivesNothing p r
    gives_both more = let c = more.got.silently.added in record {
      got = record {
        silently = record {
          added = both_added a c;
          does = does_both p q r [] a c gives.got.silently.does more.got.silently.does;
          silent = λ k. gives.got.silently.silent k ++ more.got.silently.silent k;
        };
        count = more.got.count ∙ gives.got.count;
      };
      none = frames-append a.references c.references
          ∙ (λ k. gives.none k ++ more.none k);
      unchanged = both_unchanged a.references c.references gives.unchanged more.unchanged;
    }

    -- that held the page
    pub gives_pages : (n b : ℕ) → PagesIn q n b r → PagesIn p n b r
    gives_pages n b pages = let c = pages.silently.added in
        let ks = frame_id (shape_of_pass p) b ∷ [] in record {
          silently = record {
            added = both_added a c;
            does = does_both p q r ks a c (does_none p q a ks gives.got.silently.does)
                (subst (λ (s : Shape). Does q r (frame_id s b ∷ []) c) gives_shape
                pages.silently.does);
            silent = λ k. gives.got.silently.silent k ++ pages.silently.silent k;
          };
          none = frames-append a.references c.references
              ∙ (λ k. gives.none k ++ pages.none k);
          lacked = gives_lacks b pages.lacked;
          frame = pages.frame;
          knows = pages.knows;
          has = pages.has;
          held_as_taken = pages.held_as_taken;
          inside = pages.inside;
          cause = record {
            pool = pages.cause.pool;
            held = record {
              now = pages.cause.held.now;
              among = in_right
                  (reference pool_id (object.Pool pages.cause.pool)
                  (object.Pool pages.cause.held.now)) a.references c.references
                  pages.cause.held.among;
            };
            once = each_append (ChangesPoolSo pages.cause.pool pages.cause.held.now)
                a.references c.references
                (unchanged_once pages.cause.pool pages.cause.held.now a.references
                gives.unchanged) pages.cause.once;
            aged = pages.cause.aged;
            how = comes_before_too p q gives_shape gives_lacked c.refused (a.refused ++ c.refused)
                (λ k. tried_right k a.refused c.refused) pages.cause.pool n b
                pages.cause.held.now pages.cause.how;
          };
          count = (let x = gives.got.count in let y = pages.count in omega (arith, x, y));
        }

    -- that found its frame another's
    pub gives_refuses : (n : ℕ) → RefusesPage q n r → RefusesPage p n r
    gives_refuses n refuses = let c = refuses.got.silently.added in record {
      got = record {
        silently = record {
          added = both_added a c;
          does = does_both p q r [] a c gives.got.silently.does refuses.got.silently.does;
          silent = λ k. gives.got.silently.silent k ++ refuses.got.silently.silent k;
        };
        count = refuses.got.count ∙ gives.got.count;
      };
      none = frames-append a.references c.references
          ∙ (λ k. gives.none k ++ refuses.none k);
      unchanged = both_unchanged a.references c.references gives.unchanged refuses.unchanged;
      block = refuses.block;
      taken = refuses.taken;
      pool = refuses.pool;
      gave = in_right (reference pool_id refuses.taken (object.Pool refuses.pool)) a.references
          c.references refuses.gave;
      named = refuses.named;
      refused = refuses.refused;
      among = in_right refuses.refused a.refused c.refused refuses.among;
      object = refuses.object ∙ ap (λ (s : Shape). frame_id s refuses.block) gives_shape;
    }

    -- that found no page of the number
    pub gives_finds_none : (n : ℕ) → FindsNone q n r → FindsNone p n r
    gives_finds_none n finds = let c = finds.gives.got.silently.added in record {
      gives = record {
        got = record {
          silently = record {
            added = both_added a c;
            does = does_both p q r [] a c gives.got.silently.does
                finds.gives.got.silently.does;
            silent = λ k. gives.got.silently.silent k ++ finds.gives.got.silently.silent k;
          };
          count = finds.gives.got.count ∙ gives.got.count;
        };
        none = frames-append a.references c.references
            ∙ (λ k. gives.none k ++ finds.gives.none k);
        unchanged = both_unchanged a.references c.references gives.unchanged
            finds.gives.unchanged;
      };
      gave = record {
        taken = finds.gave.taken;
        pool = finds.gave.pool;
        among = in_right (reference pool_id finds.gave.taken (object.Pool finds.gave.pool))
            a.references c.references finds.gave.among;
        free = finds.gave.free;
        unchanged = both_unchanged a.references c.references gives.unchanged finds.gave.unchanged;
      };
      never = λ live. finds.never (live_still p q gives.got.silently n live);
    }

-- a look that found its frame another's found nothing
pub refused_gives : (p q : TreePass) (n : ℕ) → RefusesPage p n q → GivesNothing p q
refused_gives p q n refuses =
    record { got = refuses.got; none = refuses.none; unchanged = refuses.unchanged }
