-- A look at the end of a list, and whether it shows a full list.
use Rattle.std.proofs.Common.{◌≡◌, ⊎_elim, ℕ, ◌<◌, ◌≤◌, true, false, length, sym, ap, ◌∙◌, arith, refl}
use Rattle.std.proofs.lemmas.Bool.Decides.{leb_tells}
use mathlib.Core.Option.{some, some-injective}
use lib.Dec.{leb}
use lib.ListN.{get_elem?}
use Rattle.atomic_table.proofs.Lists.{set_here}
use Rattle.latch_law.specs.Fitting.{DidRead}
use Rattle.latch_law.specs.Views.{answer_said}
use Rattle.latch_space.specs.Passes.{view}
use Rattle.index_law.specs.Answers.{Look}
use Rattle.index_law.specs.Rightness.{IsRight}
use Rattle.forest_law.specs.Law.{IsLawful}
use Rattle.forest_law.specs.References.{IsReference}
use Rattle.forest_world.specs.Held.{TreePass}
use Rattle.call_law.specs.Spoken.{View, OwnAnswer}
use Rattle.buffer_pool.proofs.AddedLemmas.{only_said, read_adds}
use Rattle.engine_law.specs.Says.{SeesFull, OnlyLooks}

-- what a test of two numbers says
tested : (a b : ℕ) → leb a b ≡ true → a ≤ b
tested a b so = ⊎_elim (λ (h : (leb a b ≡ true) × (a ≤ b)). h.1)
    (λ (h : (leb a b ≡ false) × (b < a)). absurd (clash (sym so ∙ h.0))) (leb_tells a b)
  where
    clash : true ≡ false → ⊥
    clash h = cc

-- and how it turns out
tests : (a b : ℕ) → a ≤ b → leb a b ≡ true
tests a b so = ⊎_elim (λ (h : (leb a b ≡ true) × (a ≤ b)). h.0)
    (λ (h : (leb a b ≡ false) × (b < a)). let more = h.1 in absurd (omega (arith, so, more)))
    (leb_tells a b)

module _ (p q : TreePass) (i point : ℕ)
    (did : DidRead IsLawful IsRight IsReference (view p) i Look point (view q)) where
  -- a look
  abbrev looked : OwnAnswer
  looked = answer_said (view p) i did.list Look

  -- it answers nothing
  pub looks : OnlyLooks (view p) (view q) i
  looks = record {
    quiet = record {
      added = only_said looked;
      adds = read_adds (view p) (view q) i did.list Look did.extends did.view;
      given = ((refl, refl), tt);
      said = refl;
      fulls = refl;
    };
    only = record { refused = refl; references = refl };
  }

  module _ (room : i < length (view p).seen) where
    seen_here : get_elem? (view q).seen i ≡ some did.list
    seen_here = ap (λ (z : View). get_elem? z.seen i) did.view
        ∙ set_here (view p).seen i did.list room

    -- it shows a full list
    pub look_full : (most : ℕ) → most ≡ (view p).terms.max_changes → leb most point ≡ true
        → SeesFull (view q) i
    look_full most is so = record {
      list = did.list;
      seen = seen_here;
      full = (let long = tested most point so in let at = did.point in
          let within = did.stands.fits.bounded i did.list did.stands.list in
          let terms = did.stands.fits.max_changes in
          let same = ap (λ (z : View). z.terms.max_changes) did.view in
          omega (arith, is, long, at, within, terms, same));
    }

    -- and no other list
    pub full_look : (most : ℕ) → most ≡ (view p).terms.max_changes → SeesFull (view q) i
        → leb most point ≡ true
    full_look most is full =
        let same = ap length (some-injective did.list full.list (sym seen_here ∙ full.seen)) in
        let at = did.point in let long = full.full in
        let terms = ap (λ (z : View). z.terms.max_changes) did.view in
        tests most point (omega (arith, is, same, at, long, terms))
