use Rattle.std.proofs.Common.{◌≡◌, ◌<◌, Bool, true, false, length, sym, ap, ◌∙◌, inl, inr, arith}
use Rattle.std.proofs.lemmas.Bool.{cases_eq}
use Rattle.forest_law.specs.State.{where_at}
use Rattle.buffer_pool.proofs.PutLemmas.{read_place}
use Rattle.buffer_pool.proofs.free_numbers.lowest_free.Goals as goal

not_both : (b : Bool) → b ≡ false → b ≡ true → ⊥
not_both b e f = absurd cc

pub returns-then-is_free-clause-found : goal.returns-then-is_free-clause-found
returns-then-is_free-clause-found c = let xs = c.args.pool.now.place.items in
    let below : c.loop-n.n < length xs = omega arith in
    record {
      below = below;
      free = sym (c.index.ensures ∙ read_place xs c.loop-n.n c.index.result.now below)
          ∙ c.is_free.ensures.0 c.if-is_free.true;
      lowest = c.loop-n.invariant;
    }

pub loop-n-preserved : goal.loop-n-preserved
loop-n-preserved c = let xs = c.args.pool.now.place.items in
    let below : c.loop-n.n < length xs = omega arith in
    λ m less free. elim (cases_eq m c.loop-n.n) [
      | inl e ↦ not_both c.is_free.result c.if-is_free.false
          (c.is_free.ensures.1
          (c.index.ensures ∙ (read_place xs c.loop-n.n c.index.result.now below
          ∙ (ap (where_at xs) (sym e) ∙ free))))
      | inr ne ↦ c.loop-n.invariant m (omega (arith, less, ne)) free
    ]

pub returns-then-is_free-clause-named : goal.returns-then-is_free-clause-named
returns-then-is_free-clause-named c = λ e. let below = c.loop-n-test.true in
    let fits = c.ranges.pages.fits in omega (arith, e, below, fits)
