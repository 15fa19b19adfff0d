-- The most that a page is charged for one row.
use Rattle.std.specs.Prelude.{ℕ, ◌==◌, if◌then◌else◌}
use Rattle.key_tuple.specs.declared.TheConstants.{MAX_POINTER_SIZE}
use Rattle.key_tuple.specs.Sizes.{charge}
use Rattle.index_page.specs.declared.TheConstants.{MAX_CHARGE}

-- the most that a page is charged for a pointer
abbrev pub most_for_pointer : ℕ
most_for_pointer = charge MAX_POINTER_SIZE

-- the most that a page of this level is charged for one row
abbrev pub largest_on : ℕ → ℕ
largest_on level = if level == 0 then MAX_CHARGE else most_for_pointer
