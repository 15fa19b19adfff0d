-- What is left of the statistics decides whether all are read.
use Rattle.std.proofs.Common.{◌≡◌, drop, map}
use Rattle.std.specs.Prelude.{string_bytes}
use Rattle.std.specs.List.{zip}
use Rattle.report_forms.specs.Lists.{read_each}
use Rattle.report_reading.specs.Reads.{without_things}
use Rattle.report_reading.specs.Report.{read_stat}
use Rattle.report_reading.proofs.stats.expect_stats.Given as goal

abbrev pub invariant-loop-index : goal.invariant-loop-index
invariant-loop-index l = without_things (read_each read_stat (zip (map string_bytes (drop l.index l.names)) (drop l.index l.counts)) l.text) ≡ without_things (read_each read_stat (zip (map string_bytes l.names) l.counts) l.fn.text)
