use Rattle.std.proofs.Common.{◌≡◌, ◌-◌, ◌++◌, take, drop}
use Rattle.std.specs.List.{flat_map}
use Rattle.map_history.specs.Spelling.{row_line}
use Rattle.report_text.proofs.scans.put_piece.Given as goal

-- the rows so far are put
abbrev pub invariant-loop-place : goal.invariant-loop-place
invariant-loop-place l = l.out.items ≡ l.initial.out.items
    ++ flat_map row_line (take (l.place - l.first) (drop l.first l.rows))
