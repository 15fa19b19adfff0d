-- A pool without a free number is right to be told of, and what is known once it was.
use Rattle.std.proofs.Common.{◌≡◌, ◌≢◌, ℕ, suc, ◌<◌, List, [], ◌∷◌, length, map, true, inl, inr, sym, ap, subst, ◌∙◌, refl, arith, Some}
use Rattle.std.specs.List.{AllByRecursion}
use Rattle.std.proofs.lemmas.Bool.{cases_eq}
use Rattle.std.proofs.lemmas.List.{length-map}
use mathlib.Core.Option.{some}
use lib.ListN.{get_elem?}
use Rattle.latch_law.specs.declared.knows.Holding.{Holding}
use Rattle.latch_law.specs.Fitting.{MayAnswer, DidRead, Extends}
use Rattle.latch_law.specs.Rule.{Holds}
use Rattle.latch_law.specs.Views.{holding, answer_said, reading}
use Rattle.latch_space.specs.Has.{Has, SameBut, SameHands, IsKnown, IsKnownBut}
use Rattle.latch_space.specs.Passes.{view, values}
use Rattle.index_law.specs.Answers.{Saying, Full}
use Rattle.index_law.specs.Rightness.{is_used, IsRight}
use Rattle.index_law.specs.Answers as told
use Rattle.index_law.specs.Shape.{Shape}
use Rattle.forest_law.specs.declared.objects.Pool.{Pool}
use Rattle.forest_law.specs.declared.objects.Where.{Where}
use Rattle.forest_law.specs.declared.objects.Where.TheVariants.{Free, InFrame, Image}
use Rattle.forest_law.specs.declared.objects.Object.{Object}
use Rattle.forest_law.specs.declared.objects.Object.TheVariants as object
use Rattle.forest_law.specs.Law.{IsLawful}
use Rattle.forest_law.specs.Numbers.{pool_id}
use Rattle.forest_law.specs.OutsideLaws.{FullPoolsAreShort}
use Rattle.forest_law.specs.References.{IsReference}
use Rattle.forest_law.specs.State.{places_of, where_at}
use Rattle.forest_world.specs.Held.{TreePass, HasPool}
use Rattle.call_law.specs.Spoken.{View}
use Rattle.buffer_pool.specs.Calls.{FindsFull}
use Rattle.buffer_pool.specs.Full.{told_place}
use Rattle.buffer_pool.specs.NewPages.{HasNoneFree}
use Rattle.buffer_pool.specs.Pools.{TakesPoolOut, PutsPoolBack}
use Rattle.buffer_pool.proofs.AddedLemmas.{only_said, read_adds}
use Rattle.buffer_pool.proofs.FrameLemmas.{one_held}
use Rattle.buffer_pool.proofs.KnownLemmas.{places_are, places_counted}

-- where no number is free, each place that is told is used
told_used : (xs : List Where) → ((n : ℕ) → n < length xs → where_at xs n ≢ Free)
    → AllByRecursion (λ (w : told.Where). is_used w ≡ true) (map told_place xs)
told_used [] none = tt
told_used (Free ∷ xs) none = absurd (none 0 (omega arith) refl)
told_used (InFrame b ∷ xs) none =
    (refl, told_used xs (λ n below e. none (suc n) (omega (arith, below)) e))
told_used (Image ∷ xs) none =
    (refl, told_used xs (λ n below e. none (suc n) (omega (arith, below)) e))

-- so it may be told where the pool is held, of so few pages
pub may_tell : FullPoolsAreShort → (v : View) (i : ℕ) (t : Object) (x : Pool)
    → Holds v pool_id (holding t (object.Pool x)) → HasNoneFree x
    → MayAnswer IsLawful IsRight IsReference v i (Full (map told_place x.place.items))
may_tell short v i t x held none w law fits xs at = record {
  list = xs;
  there = at;
  point = omega arith;
  said = (
    length-map x.place.items told_place
        ∙ (sym (ap (λ o. length (places_of o))
        (fits.known pool_id (holding t (object.Pool x)) held))
        ∙ law.objects.counted.places),
    told_used x.place.items none,
    short w law (λ n below.
        subst (λ ps. where_at ps n ≢ Free)
        (sym (places_are w law v fits t x held))
        (none n (let counted = places_counted w law v fits t x held in
        let same = ap (λ (s : Shape). s.pages) fits.shape in omega (arith, below, counted, same)))),
  );
}

-- the same passes, one behind the other, hold all but one object as they did
pub same_both : (p q r : TreePass) (k : ℕ) → SameBut p q k → SameBut q r k → SameBut p r k
same_both p q r k first second j differs = let a = first j differs in let b = second j differs in
    (b.0 ∙ a.0, b.1 ∙ a.1)

pub same_hands_but : (p q : TreePass) (k : ℕ) → SameHands p q → SameBut p q k
same_hands_but p q k same j differs =
    (ap (λ hs. get_elem? hs j) same.held, ap (λ vs. get_elem? vs j) same.values)

-- what is known but for one object is known with it, where that is what it is known to be
pub known_with : (p : TreePass) (k : ℕ) (x : Object) → Has p k x x → IsKnownBut p k → IsKnown p
known_with p k x has others j h held = elim (cases_eq j k) [
  | inl e ↦ (let same : holding has.held.0 x ≡ h = one_held p k (holding has.held.0 x) h has.held.1
      (ap (get_elem? (view p).held) (sym e) ∙ held) in
      ap (get_elem? (values p)) e
      ∙ (has.value ∙ ap (λ (z : Holding Object). some (Some z.known)) same))
  | inr ne ↦ others j h ne held
]

-- and what stays but for one object is known but for it
pub known_but : (p q : TreePass) (k : ℕ) → SameBut p q k → IsKnown p → IsKnownBut q k
known_but p q k same known j h differs held = let s = same j differs in
    s.1 ∙ known j h (sym s.0 ∙ held)

module _ (p p1 p2 p3 : TreePass) (i point : ℕ) (pool x : Pool) (has : HasPool p x x)
    (known : IsKnown p) (out : TakesPoolOut p pool p1)
    (told : DidRead IsLawful IsRight IsReference (view p1) i
    (Full (map told_place pool.place.items)) point (view p2))
    (same : SameHands p1 p2) (back : PutsPoolBack p2 pool p3) where
  -- the pool is in hand as it was
  pool_again : HasPool p3 x x
  pool_again = let o = out.out x x has in
      subst (λ (z : Pool). HasPool p3 x z) o.1
      (back.has x (record {
        held = (
          o.0.held.0,
          ap (λ hs. get_elem? hs pool_id) same.held ∙ o.0.held.1,
        );
        out = ap (λ vs. get_elem? vs pool_id) same.values ∙ o.0.out;
      }))

  -- the full was said, and nothing else was done
  pub finds_full : FindsFull p i p3
  finds_full = let a : Saying = Full (map told_place pool.place.items) in record {
    added = only_said (answer_said (view p) i told.list a);
    does = record {
      adds = read_adds (view p) (view p3) i told.list a
          (subst (λ (v : View). Extends v i told.list) out.view told.extends)
          (back.view ∙ (told.view ∙ ap (λ (v : View). reading v i told.list a) out.view));
      spares = record { refused = tt; references = tt };
      rest = λ k apart. ap (λ (v : View). get_elem? v.held k) back.view
          ∙ (ap (λ hs. get_elem? hs k) same.held
          ∙ ap (λ (v : View). get_elem? v.held k) out.view);
      known = known_with p3 pool_id (object.Pool x) pool_again
          (known_but p p3 pool_id
          (same_both p p1 p3 pool_id out.hand.others
          (same_both p1 p2 p3 pool_id (same_hands_but p1 p2 pool_id same) back.hand.others)) known);
    };
    given = ((refl, refl), tt);
    silent = refl;
    places = map told_place pool.place.items;
    full = refl;
    count = back.count ∙ (same.count ∙ out.count);
  }
