use Rattle.map_history.specs.Report.{Columns}
use Rattle.std.specs.Prelude.{ℕ, List}
use Rattle.column_counts.proofs.SumLemmas.{counts_append, all_counted}
use Rattle.column_counts.proofs.laws.counts_add_up.Goals as goal

pub returns : goal.returns
returns c = record {
  parts = counts_append;
  lanes = λ indexes lanes lists all. all_counted indexes (λ i (columns : ℕ → List Columns). columns i) lanes lists all;
}
