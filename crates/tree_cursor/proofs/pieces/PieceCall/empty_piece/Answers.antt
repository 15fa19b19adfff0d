use Rattle.std.proofs.Common.{rules, ◌≡◌, ℕ, [], None, drop, length, sym, subst, arith}
use Rattle.std.proofs.lemmas.List.{drop_all}
use Rattle.key_tuple.specs.KeyPlace.{End}
use Rattle.latch_law.specs.Fitting.{DidRead}
use Rattle.latch_space.specs.Passes.{view}
use Rattle.map_history.specs.Map.{Map}
use Rattle.map_history.specs.Report.{Columns}
use Rattle.index_law.specs.Answers.{Piece}
use Rattle.index_law.specs.Rightness.{IsRight}
use Rattle.forest_law.specs.Law.{IsLawful}
use Rattle.forest_law.specs.References.{IsReference}
use Rattle.tree_cursor.specs.MapRows.{AreMapRows}
use Rattle.tree_cursor.specs.Pieces.{scan_lent}
use Rattle.tree_cursor.proofs.EmptyLemmas.{none_from, tells_empty}
use Rattle.tree_cursor.proofs.LeafMapLemmas.{may_say}
use Rattle.tree_cursor.proofs.pieces.PieceCall.empty_piece.Goals as goal

none_left : (n : ℕ) (rows : Map) → n ≡ length rows → drop n rows ≡ []
none_left n rows all = drop_all n rows (omega (arith, all))

pub say_piece-point-requires : goal.say_piece-point-requires
say_piece-point-requires g c =
    let self = c.args.self.now in let rows = c.args.rows.now in (
      search rules,
      (
        search rules,
        may_say (view c.args.pass.now) self.index (scan_lent self.from self.to self.limit)
            (record { how = self.how; note = self.note }) g.low End
            (drop c.count-count.result rows)
            (subst (λ m. AreMapRows (view c.args.pass.now) self.index g.low End m)
            (sym (none_left c.count-count.result rows c.count-count.ensures))
            (none_from c.args.pass.now c.args.block self.index g.low c.requires.1.1.1)),
      ),
    )

pub returns-clause-told : goal.returns-clause-told
returns-clause-told g c =
    let self = c.args.self.now in let rows = c.args.rows.now in
    let ask = scan_lent self.from self.to self.limit in
    let columns : Columns = record { how = self.how; note = self.note } in
    tells_empty c.args.pass.now c.say_piece-point.new.pass c.give_back.new.pass c.args.block
    self.index ask g.low columns c.say_piece-point.result c.requires.1.1.1 c.requires.1.1.0
    (subst
    (λ m. DidRead IsLawful IsRight IsReference (view c.args.pass.now) self.index
    (Piece ask g.low End m None columns) c.say_piece-point.result (view c.say_piece-point.new.pass))
    (none_left c.count-count.result rows c.count-count.ensures) c.say_piece-point.ensures.told)
    c.say_piece-point.ensures.kept c.give_back.ensures.gave
