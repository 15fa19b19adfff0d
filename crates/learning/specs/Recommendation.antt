-- How a search recommends a prefix, and when it confirms one.
use Rattle.std.specs.Prelude.{ℕ, ◌+◌, Bool, true, false, not, ◌&&◌, ◌||◌, nat_lt, nat_le, if◌then◌else◌}
use Rattle.std.specs.Ordering.{nat_cmp, ordering_then, is_le}
use Rattle.std.specs.declared.cmp.Ordering.{Ordering}
use Rattle.std.specs.declared.cmp.Ordering.TheVariants.{Less, Equal, Greater}
use Rattle.key_tuple.specs.declared.mode.Match.{Match}
use Rattle.key_tuple.specs.declared.mode.Params.{Params}
use Rattle.learning.specs.declared.event.Figures.{Figures}
use Rattle.learning.specs.Opening.{opening_params}

-- so many fields and bytes against so many others: by fields, then by bytes
abbrev pub extent_cmp : Match → Match → Ordering
extent_cmp a b = ordering_then (nat_cmp a.fields b.fields) (nat_cmp a.bytes b.bytes)

-- the extent of a prefix
abbrev pub extent_of : Params → Match
extent_of prefix = record { fields = prefix.fields; bytes = prefix.bytes }

-- the shortest prefix in which the tuple agrees with the nearer row and not with the farther one;
-- all fields where the nearer row agrees in all
abbrev pub parting : ℕ → Match → Match → Bool → Params
parting unique near far left =
    if nat_le unique near.fields then record { fields = unique; bytes = 0; left = left }
    else (if nat_lt far.fields near.fields
    then record { fields = far.fields + 1; bytes = 0; left = left }
    else record { fields = far.fields; bytes = far.bytes + 1; left = left })

-- the prefix for rows beside the tuple that compare so: the row after is nearer, or the row before,
-- or neither
abbrev pub recommendation_by : Ordering → ℕ → Figures → Params
recommendation_by Equal unique f = opening_params
recommendation_by Greater unique f = parting unique f.up f.low true
recommendation_by Less unique f = parting unique f.low f.up false

-- the prefix that a search recommends
abbrev pub recommendation : ℕ → Figures → Params
recommendation unique f = recommendation_by (extent_cmp f.up f.low) unique f

-- the potential of a new recommendation, by how far the two rows agree
abbrev pub promise_by : Ordering → ℕ
promise_by Equal = 0
promise_by Greater = 1
promise_by Less = 1

-- the potential of a new recommendation: none where both rows agree with the tuple equally far
abbrev pub promise : Figures → ℕ
promise f = promise_by (extent_cmp f.up f.low)

-- a row that agrees with the tuple so far has the same prefix
abbrev pub has_prefix : Params → Match → Bool
has_prefix prefix row = is_le (extent_cmp (extent_of prefix) row)

-- a row beside the tuple stands after the place at which the tuple's group is entered: before the
-- group with left, so its rows do; behind it with right, so the other rows do
abbrev pub stands_after : Params → Match → Bool
stands_after prefix row = if prefix.left then has_prefix prefix row else not (has_prefix prefix row)

-- the search confirms the prefix: both name all fields and the row after, or the position is just
-- where the tuple's group is entered
abbrev pub confirms : ℕ → Figures → Params → Bool
confirms unique f prefix =
    (nat_le unique prefix.fields && nat_le unique f.up.fields)
    || (not (stands_after prefix f.low) && stands_after prefix f.up)
