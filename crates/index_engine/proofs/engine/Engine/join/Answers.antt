use Rattle.std.proofs.Common.{ap, sym, ◌∙◌}
use Rattle.latch_space.specs.Passes.{view}
use Rattle.search_info.specs.Passes.{knowledge}
use Rattle.search_info.specs.declared.knows.Knows.{Knows}
use Rattle.call_law.specs.Spoken.{View}
use Rattle.index_engine.proofs.engine.Engine.join.Goals as goal

pub invariant_of-pass : goal.invariant_of-pass
invariant_of-pass c = let pass = c.args.pass.now in
    let other = c.args.other in let world = c.join.ensures.did in
    let learn = c.join-2.ensures.did in let parts = c.into_parts-world.ensures in
    let ends = ap (λ l. (knowledge l).end) parts.1
    ∙ (other.end ∙ sym (ap (λ w. (view w).end) parts.0)) in record {
      nothing = c.join.ensures.nothing;
      most = pass.most ∙ sym (ap (λ (v : View). v.terms.max_changes) world);
      low = ap (λ (k : Knows). k.low) learn ∙ (pass.low ∙ sym (ap (λ (v : View). v.low) world));
      end = ap (λ (k : Knows). k.end) learn ∙ (ends ∙ sym (ap (λ (v : View). v.end) world));
    }
