-- What was given back as it was taken, where a pass holds what it held and has said nothing.
use Rattle.std.proofs.Common.{[], ◌++◌, ◌∙◌}
use Rattle.latch_space.specs.Has.{IsKnown}
use Rattle.forest_world.specs.Held.{TreePass}
use Rattle.call_law.proofs.TraceLemmas.{both_added}
use Rattle.buffer_pool.specs.AsTaken.{GaveAsTaken}
use Rattle.buffer_pool.proofs.AgainLemmas.{gives_none}
use Rattle.buffer_pool.proofs.AsTakenLemmas.{both_as_taken, none_as_taken}
use Rattle.buffer_pool.proofs.CallLemmas.{does_both}

-- nothing was done
pub gave_none : (p : TreePass) → IsKnown p → GaveAsTaken p p
gave_none p known = let none = gives_none p known in record {
  got = none.got;
  as_taken = none_as_taken none.got.silently.added.references none.none;
}

-- one call behind the other
pub gave_both : (p q r : TreePass) → GaveAsTaken p q → GaveAsTaken q r → GaveAsTaken p r
gave_both p q r first second =
    let a = first.got.silently.added in let b = second.got.silently.added in
    record {
      got = record {
        silently = record {
          added = both_added a b;
          does = does_both p q r [] a b first.got.silently.does second.got.silently.does;
          silent = λ k. first.got.silently.silent k ++ second.got.silently.silent k;
        };
        count = second.got.count ∙ first.got.count;
      };
      as_taken = both_as_taken a.references b.references first.as_taken second.as_taken;
    }
