use Rattle.std.proofs.Common.{drop}
use Rattle.tree_cursor.specs.Pieces.{fields_lent}
use Rattle.tree_cursor.specs.Telling.{end_of}
use Rattle.tree_cursor.proofs.pieces.PieceCall.tell.Given as goal

abbrev pub ghost-say : goal.ghost-say
ghost-say g a = (
  g.low,
  end_of (fields_lent a.self.now.to) g.low (drop a.first a.rows.now) a.cursor.now a.ending,
)
