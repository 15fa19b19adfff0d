use Rattle.tree_cursor.specs.Pieces.{fields_lent, scan_lent}
use Rattle.tree_cursor.proofs.TellLemmas.{gives_if}
use Rattle.tree_cursor.proofs.pieces.PieceCall.piece_of.Goals as goal

pub returns-clause-ok : goal.returns-clause-ok
returns-clause-ok g c =
    let self = c.args.self.now in
    gives_if c.tell-told.result c.args.pass.now c.args.block self.index c.args.start g.low
    (scan_lent self.from self.to self.limit) (fields_lent self.to) c.args.left
    (record { how = self.how; note = self.note }) c.args.rows.now c.tell-told.new.rows
    c.args.cursor.now c.tell-told.new.cursor c.tell-told.new.pass c.give_back.new.pass c.tell-told.ensures.ok
    c.give_back.ensures.gave
