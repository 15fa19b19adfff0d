use Rattle.std.proofs.Common.{rules, drop}
use Rattle.latch_space.specs.Passes.{view}
use Rattle.tree_cursor.specs.Pieces.{scan_lent}
use Rattle.tree_cursor.proofs.LeafMapLemmas.{may_say}
use Rattle.tree_cursor.proofs.pieces.PieceCall.say.Goals as goal

pub say_piece-requires : goal.say_piece-requires
say_piece-requires g c =
    let self = c.args.self.now in (
      search rules,
      (
        search rules,
        may_say (view c.args.pass.now) self.index (scan_lent self.from self.to self.limit)
            (record { how = self.how; note = self.note }) g.range.0 g.range.1
            (drop c.args.first c.args.rows.now) c.requires.1.1,
      ),
    )
