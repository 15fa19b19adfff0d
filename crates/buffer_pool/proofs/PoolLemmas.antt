-- What the calls on the pool do.
use Rattle.std.proofs.Common.{◌≡◌, set, sym, ap, subst, ◌∙◌, arith, Option, Some, None}
use mathlib.Core.Option.{some, some-injective}
use lib.ListN.{get_elem?}
use Rattle.atomic_table.proofs.Lists.{set_here, set_else}
use Rattle.list_facts.proofs.Places.{inside, none_is_not}
use Rattle.latch_law.specs.Rule.{Holds}
use Rattle.latch_law.specs.Views.{holding, with_held, with_refused, releasing}
use Rattle.latch_space.specs.Has.{Has, SameBut, DidRelease}
use Rattle.latch_space.specs.Passes.{view, values, count, Shows}
use Rattle.latch_space.specs.Takes.{DidTakeAfter}
use Rattle.latch_space.proofs.Pointwise.{length-values}
use Rattle.forest_law.specs.declared.objects.Pool.{Pool}
use Rattle.forest_law.specs.declared.objects.Object.{Object}
use Rattle.forest_law.specs.declared.objects.Object.TheVariants as object
use Rattle.forest_law.specs.Law.{IsLawful}
use Rattle.forest_law.specs.Numbers.{pool_id}
use Rattle.index_law.specs.Rightness.{IsRight}
use Rattle.forest_law.specs.References.{IsReference}
use Rattle.forest_world.specs.Held.{TreePass, HasPool}
use Rattle.buffer_pool.specs.Forests.{TreeView, WasObject}
use Rattle.buffer_pool.specs.Pools.{TakesPool, TakesPoolOut, PutsPoolBack, GivesPool}
use Rattle.buffer_pool.proofs.FrameLemmas.{one_shown, one_held, taken_rests}
use Rattle.buffer_pool.proofs.KeepLemmas.{keeps_beside_pool, rest_kept, rest_but}

-- the pool that an object is
abbrev the_pool : Pool → Object → Pool
the_pool d (object.Pool x) = x
the_pool d (object.Frame f) = d
the_pool d (object.Part p) = d
the_pool d (object.Tree t) = d

-- objects that are one are one pool
pub same_pool : (x y : Pool) → object.Pool x ≡ object.Pool y → x ≡ y
same_pool x y e = ap (the_pool x) e

module _ (p q : TreePass)
    (told : DidTakeAfter IsLawful IsRight IsReference p pool_id q) where
  -- what was taken is the pool
  pub takes_pool : TakesPool p q
  takes_pool =
      let there = told.was_free.is_lawful.objects.kinds.pool in
      let is : told.value ≡ object.Pool there.0 =
      some-injective told.value (object.Pool there.0) (sym told.was_free.value ∙ there.1) in
      let terms : (view q).terms ≡ (view p).terms = ap (λ (v : TreeView). v.terms) told.view in
      let has : Has q pool_id (object.Pool there.0) (object.Pool there.0) =
      subst (λ x. Has q pool_id x x) is told.took.has in
      record {
        pool = there.0;
        refused = told.refused;
        tries = told.tries;
        was = subst (WasObject (with_refused (view p) told.refused) pool_id) is told.was_free;
        view = told.view
            ∙ ap (λ x. with_held (with_refused (view p) told.refused) pool_id
            (Some (holding x x))) is;
        has = has;
        hand = keeps_beside_pool p q terms told.took.others;
        rest = rest_kept p q pool_id terms told.took.others
            (taken_rests q pool_id (object.Pool there.0) has);
        count = told.took.count;
      }

-- what a pool that is given back leaves behind
pub gives_pool : (p q : TreePass) (x : Pool) → HasPool p x x → DidRelease p pool_id q
    → GivesPool p q
gives_pool p q x has told =
    let h = holding has.held.0 (object.Pool x) in
    let view' : view q ≡ releasing (view p) pool_id h =
    told.view
    ∙ ap (releasing (view p) pool_id) (one_held p pool_id told.holding h told.held has.held.1) in
    let terms : (view q).terms ≡ (view p).terms = ap (λ (v : TreeView). v.terms) view' in
    record {
      taken = has.held.0;
      pool = x;
      held = has.held.1;
      view = view';
      lacks = told.gave.lacks;
      hand = keeps_beside_pool p q terms told.gave.others;
      rest = rest_kept p q pool_id terms told.gave.others
          (λ g held. absurd (none_is_not g (sym told.gave.lacks ∙ held)));
      count = told.gave.count;
    }

-- the pool was taken out of its place, or put back there
module _ (p q : TreePass) (seat : (q.seat ≡ p.seat) × (count q ≡ count p)) (v : Option Object)
    (put : values q ≡ set (values p) pool_id v) where
  same_view : view q ≡ view p
  same_view = ap (λ s. s.me.0) seat.0

  same_terms : (view q).terms ≡ (view p).terms
  same_terms = ap (λ (w : TreeView). w.terms) same_view

  other_places : SameBut p q pool_id
  other_places j differs = (
    ap (λ (w : TreeView). get_elem? w.held j) same_view,
    ap (λ vs. get_elem? vs j) put ∙ set_else (values p) pool_id j v differs,
  )

  -- the place has what was put there
  put_here : (t x : Object) → Holds (view p) pool_id (holding t x)
      → get_elem? (values q) pool_id ≡ some v
  put_here t x held = ap (λ vs. get_elem? vs pool_id) put
      ∙ set_here (values p) pool_id v
      (let room = inside (view p).held pool_id (Some (holding t x)) held in
      let long = length-values p in omega (arith, room, long))

  known_still : (t x : Object) → Holds (view p) pool_id (holding t x)
      → Holds (view q) pool_id (holding t x)
  known_still t x held = ap (λ (w : TreeView). get_elem? w.held pool_id) same_view ∙ held

  pub takes_pool_out : (pool : Pool) → v ≡ None → Shows p pool_id (object.Pool pool)
      → TakesPoolOut p pool q
  takes_pool_out pool none shows = record {
    out = λ x y has. (
      record {
        held = (has.held.0, known_still has.held.0 (object.Pool x) has.held.1);
        out = put_here has.held.0 (object.Pool x) has.held.1 ∙ ap some none;
      },
      same_pool pool y
          (one_shown p pool_id (object.Pool pool) (object.Pool y) shows has.value),
    );
    hand = keeps_beside_pool p q same_terms other_places;
    rest = rest_but p q pool_id same_terms other_places;
    view = same_view;
    count = seat.1;
  }

  pub puts_pool_back : (pool : Pool) → v ≡ Some (object.Pool pool) → PutsPoolBack p pool q
  puts_pool_back pool is = record {
    has = λ x out. record {
      held = (out.held.0, known_still out.held.0 (object.Pool x) out.held.1);
      value = put_here out.held.0 (object.Pool x) out.held.1 ∙ ap some is;
    };
    hand = keeps_beside_pool p q same_terms other_places;
    rest = rest_but p q pool_id same_terms other_places;
    view = same_view;
    count = seat.1;
  }
