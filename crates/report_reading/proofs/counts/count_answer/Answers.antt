-- The columns of one line, or of each piece.
use Rattle.std.proofs.Common.{ℕ, List, [], ◌∷◌, ◌==◌, cond, map, sym, ap, ◌∙◌}
use Rattle.std.proofs.lemmas.Result.{on_ok_weaker}
use Rattle.map_history.specs.LegalReport.{columns_of}
use Rattle.map_history.specs.Report.{Columns}
use Rattle.report_reading.specs.declared.told.ReadTold.{ReadTold}
use Rattle.report_reading.specs.Columns.{columns_seen}
use Rattle.report_reading.specs.Counts.{piece_columns}
use Rattle.report_reading.specs.Told.{told_seen}
use Rattle.report_reading.proofs.CountLemmas.{counts_same, piece_columns_are}
use Rattle.report_reading.proofs.counts.count_answer.Goals as goal

pub returns-in-Plain : goal.returns-in-Plain
returns-in-Plain c =
    let are = ap (λ (t : ReadTold). columns_of (told_seen t)) c.in-Plain.is ∙ c.columns.ensures in
    on_ok_weaker c.count_one.result (λ more. counts_same c.args.counts.now c.count_one.new.counts (λ (i : ℕ). cond (c.args.index == i) (columns_seen c.columns.result ∷ []) []) (λ (i : ℕ). cond (c.args.index == i) (columns_of (told_seen c.args.told.now)) [])
    (λ (i : ℕ). ap (λ (cs : List Columns). cond (c.args.index == i) cs []) (sym are)) more) c.count_one.ensures

pub returns-in-Pieces : goal.returns-in-Pieces
returns-in-Pieces c =
    let are = ap (λ (t : ReadTold). columns_of (told_seen t)) c.in-Pieces.is ∙ (piece_columns_are c.in-Pieces.pieces.items ∙ ap (map piece_columns) (sym c.deref.ensures.value)) in
    on_ok_weaker c.count_pieces.result (λ more. counts_same c.args.counts.now c.count_pieces.new.counts (λ (i : ℕ). cond (c.args.index == i) (map piece_columns c.deref.result.now) []) (λ (i : ℕ). cond (c.args.index == i) (columns_of (told_seen c.args.told.now)) [])
    (λ (i : ℕ). ap (λ (cs : List Columns). cond (c.args.index == i) cs []) (sym are)) more) c.count_pieces.ensures
