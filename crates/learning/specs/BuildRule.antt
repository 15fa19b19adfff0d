-- When a block is worth hashing.
use Rattle.std.specs.Prelude.{ℕ, ◌*◌, ◌/◌, Bool, false, not, ◌&&◌, ◌||◌, nat_lt, nat_le, if◌then◌else◌, is_none}
use Rattle.learning.specs.declared.TheConstants.{BUILD_LIMIT, PAGE_BUILD_LIMIT}
use Rattle.learning.specs.declared.info.Info.{Info}
use Rattle.learning.specs.declared.event.BlockFigures.{BlockFigures}
use Rattle.learning.specs.declared.event.Event.{Event}
use Rattle.learning.specs.declared.event.Event.TheVariants.{Hit, Miss, Descent as Down}
use Rattle.learning.specs.Learning.{is_hashed_with, is_early, learn_descent, learn_block}

-- the block has helped often enough for its rows, the index promises enough, and the block isn't
-- hashed, or has helped very often, or is hashed in another way than advised
abbrev pub is_worth_building : Info → BlockFigures → ℕ → Bool
is_worth_building info block rows =
    nat_lt (rows / PAGE_BUILD_LIMIT) block.helps && nat_le BUILD_LIMIT info.potential
    && (is_none block.built || nat_lt (2 * rows) block.helps
    || not (is_hashed_with block.advice block.built))

-- a build is due after the event
abbrev pub should_build : Info → Event → Bool
should_build info Hit = false
should_build info Miss = false
should_build info (Down d) =
    if is_early info then false
    else is_worth_building (learn_descent info d) (learn_block info d) d.rows
