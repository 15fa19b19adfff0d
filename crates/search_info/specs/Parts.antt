-- A pass cut in two, and two passes made one.
use Rattle.std.specs.Prelude.{ℕ, [], ◌++◌}
use Rattle.list_facts.specs.Parts.{middle_of, made_below, made_from, longer}
use Rattle.search_info.specs.declared.knows.Knows.{Knows}
use Rattle.search_info.specs.declared.knows.Try.{Try}

-- who made a try
abbrev pub maker : Try → ℕ
maker q = q.by

-- the number at which a pass is split
abbrev pub cut_at : Knows → ℕ
cut_at v = middle_of v.low v.end

-- the lower half of the numbers, with their tries
abbrev pub lower_part : Knows → Knows
lower_part v = record v { end = cut_at v; tries = made_below maker (cut_at v) v.tries }

-- the upper half of the numbers, with their tries
abbrev pub upper_part : Knows → Knows
upper_part v = record v { low = cut_at v; tries = made_from maker (cut_at v) v.tries }

-- the numbers and the tries of both, and the longer beginnings
abbrev pub joined_parts : Knows → Knows → Knows
joined_parts v u = record v { end = u.end; seen = longer v.seen u.seen; tries = v.tries ++ u.tries }

-- what is left of a pass that was joined to another
abbrev pub no_part : Knows
no_part = record {
  opening = record { starts = []; passes = 0 };
  low = 0;
  end = 0;
  seen = [];
  tries = [];
}
