use Rattle.std.proofs.Common.{set, ap}
use Rattle.std.proofs.lemmas.Result.{on_ok_weaker}
use Rattle.report_reading.specs.Columns.{columns_seen}
use Rattle.report_reading.proofs.CountLemmas.{counts_one}
use Rattle.report_reading.proofs.counts.count_one.Goals as goal

pub returns : goal.returns
returns c = on_ok_weaker c.count_told.result (λ is. counts_one c.args.counts.now _ c.args.index _ (columns_seen c.args.columns) c.requires (ap (set c.args.counts.now c.args.index) is)) c.count_told.ensures.ok
