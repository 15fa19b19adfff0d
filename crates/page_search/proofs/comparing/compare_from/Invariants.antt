use Rattle.std.proofs.Common.{[], ◌≤◌, get_or}
use Rattle.key_tuple.specs.Figures.{equal_bytes}
use Rattle.page_search.proofs.AgreeLemmas.{Upto}
use Rattle.page_search.proofs.comparing.compare_from.Given as goal

-- the fields so far are equal, and so many first bytes of the next one
abbrev pub invariant-loop-i : goal.invariant-loop-i
invariant-loop-i g l =
    Upto (g.A.Fields.fields_of l.tuple) (g.B.Fields.fields_of l.key) l.i
    × (l.start ≤ equal_bytes (get_or (g.A.Fields.fields_of l.tuple) l.i []) (get_or (g.B.Fields.fields_of l.key) l.i []))
