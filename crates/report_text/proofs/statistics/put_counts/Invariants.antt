use Rattle.std.proofs.Common.{◌≡◌, ◌++◌, List, ℕ, take, map}
use Rattle.std.specs.List.{join_with_byte}
use Rattle.map_history.specs.Statistics.{statistics}
use Rattle.report_text.specs.Words.{count_text}
use Rattle.report_text.proofs.statistics.put_counts.Given as goal

abbrev pub invariant-loop-place : goal.invariant-loop-place
invariant-loop-place l = l.out.items ≡ l.initial.out.items ++ join_with_byte 32 (map (λ (s : List ℕ × ℕ). count_text s.0 s.1) (take l.place (statistics l.counts)))
