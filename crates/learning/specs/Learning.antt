-- What an event teaches.
use Rattle.std.specs.Prelude.{ℕ, ◌+◌, Bool, true, false, ◌&&◌, ◌==◌, nat_lt, if◌then◌else◌, List, [], ◌∷◌, Option, Some, None}
use Rattle.std.specs.Bool.{beq}
use Rattle.key_tuple.specs.declared.mode.Params.{Params}
use Rattle.learning.specs.declared.TheConstants.{HASH_ANALYSIS, HIT_LIMIT, MAX_POTENTIAL}
use Rattle.learning.specs.declared.info.Info.{Info}
use Rattle.learning.specs.declared.event.BlockFigures.{BlockFigures}
use Rattle.learning.specs.declared.event.Descent.{Descent}
use Rattle.learning.specs.declared.event.Event.{Event}
use Rattle.learning.specs.declared.event.Event.TheVariants.{Hit, Miss, Descent as Down}
use Rattle.learning.specs.Recommendation.{recommendation, promise, confirms}

-- one more, up to the limit; a number beyond the limit stays
abbrev pub one_more : ℕ → ℕ → ℕ
one_more limit n = if nat_lt n limit then n + 1 else n

-- the two prefixes are the same, and so is the end of the group that is entered
abbrev pub is_same : Params → Params → Bool
is_same p q = (p.fields == q.fields) && (p.bytes == q.bytes) && beq p.left q.left

-- the block is hashed with these very parameters
abbrev pub is_hashed_with : Params → Option Params → Bool
is_hashed_with p None = false
is_hashed_with p (Some q) = is_same q p

-- one event more, and one descent more that the recommendation has waited
abbrev pub waiting : Info → Info
waiting info = record info {
  analysis = one_more HASH_ANALYSIS info.analysis;
  events = info.events + 1;
}

-- the recommendation is still not looked at
abbrev pub is_early : Info → Bool
is_early info = nat_lt (waiting info).analysis HASH_ANALYSIS

-- the recommendation: it is confirmed, or a new one takes its place
abbrev pub reviewed : Info → Descent → Info
reviewed info d =
    if nat_lt 0 info.potential && confirms d.unique d.figures info.params
    then record info { potential = one_more MAX_POTENTIAL info.potential }
    else record info {
      analysis = 0;
      potential = promise d.figures;
      params = recommendation d.unique d.figures;
    }

-- hashing the block as advised would have helped this search too
abbrev pub has_helped : Info → BlockFigures → Bool
has_helped info block =
    nat_lt 0 block.helps && nat_lt 0 info.potential && is_same block.advice info.params

-- the block: it has helped once more, or it gets the index's recommendation as its advice
abbrev pub advised : Info → BlockFigures → BlockFigures
advised info block =
    if has_helped info block then record block { helps = one_more 4294967295 block.helps }
    else record block { helps = 1; advice = info.params }

-- whether the hash would have answered the search
abbrev pub would_hit : Info → BlockFigures → Bool
would_hit info block = has_helped info block && is_hashed_with info.params block.built

-- what an index knows after a descent
abbrev pub learn_descent : Info → Descent → Info
learn_descent info d =
    if is_early info then waiting info
    else (let new = reviewed (waiting info) d in record new { last = would_hit new d.block })

-- what an index knows after an event
abbrev pub learn : Info → Event → Info
learn info Hit = record info {
  last = true;
  potential = one_more HIT_LIMIT info.potential;
  events = info.events + 1;
}
learn info Miss = record info { last = false; events = info.events + 1 }
learn info (Down d) = learn_descent info d

-- the figures of the leaf's block after a descent
abbrev pub learn_block : Info → Descent → BlockFigures
learn_block info d = if is_early info then d.block else advised (reviewed (waiting info) d) d.block

-- what an index knows after a list of events
abbrev pub info_after : Info → List Event → Info
info_after info [] = info
info_after info (event ∷ events) = info_after (learn info event) events
