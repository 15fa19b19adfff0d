use Rattle.std.proofs.Common.{ap, ◌∙◌, refl, List}
use Rattle.std.specs.List.{zip}
use lib.ListN.{get_elem?}
use Rattle.search_info.specs.declared.knows.Opening.{Opening}
use Rattle.search_info.specs.History.{Start}
use Rattle.hash_tests.proofs.learners.open_one.Goals as goal

pub returns : goal.returns
returns g c = let starts = ap (λ (o : Opening). o.starts) c.in-Ok.ensures.opening ∙ (λ k. zip (c.as_slice.ensures k) (c.as_slice-2.ensures k)) in
    record { own = (c.in-Ok.ensures.own, ((c.args.first.now, 1), ap (λ (l : List Start). get_elem? l 0) starts, refl)) }
