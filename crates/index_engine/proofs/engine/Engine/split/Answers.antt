-- The numbers and the terms of both passes are those of their parts.
use Rattle.std.proofs.Common.{◌≡◌, ℕ, ap, sym, ◌∙◌}
use Rattle.list_facts.specs.Parts.{middle_of}
use Rattle.search_info.specs.declared.knows.Knows.{Knows}
use Rattle.buffer_pool.proofs.AgainLemmas.{never_ends}
use Rattle.call_law.specs.Spoken.{View}
use Rattle.index_engine.proofs.engine.Engine.split.Goals as goal

-- numbers that are the same are cut at the same
same_middle : (low end low₀ end₀ : ℕ) → low ≡ low₀ → end ≡ end₀
    → middle_of low end ≡ middle_of low₀ end₀
same_middle low end low₀ end₀ same ends = ap (λ n. middle_of n end) same ∙ ap (middle_of low₀) ends

pub invariant_of-pass : goal.invariant_of-pass
invariant_of-pass c = let pass = c.args.pass.now in let kept = c.in_default.ensures.err in record {
  nothing = kept.2 ∙ pass.nothing;
  most = pass.most ∙ sym (ap (λ (v : View). v.terms.max_changes) kept.0);
  low = pass.low ∙ sym (ap (λ (v : View). v.low) kept.0);
  end = pass.end ∙ sym (ap (λ (v : View). v.end) kept.0);
}

pub invariant_of-pass-2 : goal.invariant_of-pass-2
invariant_of-pass-2 c = let pass = c.args.pass.now in let kept = c.in-Ok.ensures.kept in
    let learn = c.split-2.ensures.kept in record {
      nothing = kept.2 ∙ pass.nothing;
      most = pass.most ∙ sym (ap (λ (v : View). v.terms.max_changes) kept.0);
      low = ap (λ (k : Knows). k.low) learn ∙ (pass.low ∙ sym (ap (λ (v : View). v.low) kept.0));
      end = ap (λ (k : Knows). k.end) learn ∙ (same_middle _ _ _ _ pass.low pass.end
          ∙ sym (ap (λ (v : View). v.end) kept.0));
    }

pub unreachable-requires : goal.unreachable-requires
unreachable-requires c = never_ends c.in_default-split.ensures.ok

pub invariant_of-result : goal.invariant_of-result
invariant_of-result c = let pass = c.args.pass.now in let given = c.in-Ok.ensures.given in
    let learn = c.in-Ok-split.ensures.given.1 in record {
      nothing = given.2;
      most = pass.most ∙ sym (ap (λ (v : View). v.terms.max_changes) given.1);
      low = ap (λ (k : Knows). k.low) learn ∙ (same_middle _ _ _ _ pass.low pass.end
          ∙ sym (ap (λ (v : View). v.low) given.1));
      end = ap (λ (k : Knows). k.end) learn ∙ (pass.end ∙ sym (ap (λ (v : View). v.end) given.1));
    }
