use Rattle.std.proofs.Common.{rules}
use Rattle.latch_space.specs.Passes.{view}
use Rattle.tree_cursor.specs.Pieces.{fields_lent, scan_lent}
use Rattle.tree_cursor.proofs.NextLemmas.{tell_next}
use Rattle.tree_cursor.proofs.ReadLemmas.{found_paged}
use Rattle.tree_cursor.proofs.TellLemmas.{gives_both_if, both_back}
use Rattle.tree_cursor.proofs.pieces.PieceCall.piece_of_next.Goals as goal

pub first_on-start-requires : goal.first_on-start-requires
first_on-start-requires g c =
    let h = c.requires.1.1.1.0.holds in (
      h.is.page,
      found_paged c.args.pass.now c.requires.1.1.0.known c.args.next c.args.self.now.index h
          c.frame.result.now c.frame.ensures,
    )

pub tell-told-requires : goal.tell-told-requires
tell-told-requires g c = λ κs sub.
    let may = c.requires.1.1.1.0 in let h = may.holds in (
      sub,
      (
        search rules,
        (
          c.requires.1.1.0.known,
          (
            tell_next (view c.args.pass.now) c.args.block c.args.next c.args.self.now.index g.low
                c.args.cursor.now c.first_on-start.result may
                (c.first_on-start.ensures h.is.page
                (found_paged c.args.pass.now c.requires.1.1.0.known c.args.next
                c.args.self.now.index h c.frame.result.now c.frame.ensures)),
            c.requires.1.1.1.1,
          ),
        ),
      ),
    )

pub returns-clause-ok : goal.returns-clause-ok
returns-clause-ok g c =
    let self = c.args.self.now in
    gives_both_if c.tell-told.result c.args.pass.now c.args.block c.args.next self.index
    c.first_on-start.result g.low (scan_lent self.from self.to self.limit) (fields_lent self.to)
    c.args.left (record { how = self.how; note = self.note }) c.args.rows.now c.tell-told.new.rows
    c.args.cursor.now c.tell-told.new.cursor c.tell-told.new.pass c.give_back-2.new.pass
    c.tell-told.ensures.ok
    (λ h. c.first_on-start.ensures h.is.page
    (found_paged c.args.pass.now c.requires.1.1.0.known c.args.next self.index h c.frame.result.now
    c.frame.ensures))
    (record {
      between = c.give_back.new.pass;
      first = c.give_back.ensures.gave;
      second = c.give_back-2.ensures.gave;
    })

pub returns-clause-err : goal.returns-clause-err
returns-clause-err g c =
    both_back c.tell-told.result c.args.pass.now c.args.block c.args.next c.tell-told.new.pass
    c.give_back-2.new.pass c.tell-told.ensures.err
    (record {
      between = c.give_back.new.pass;
      first = c.give_back.ensures.gave;
      second = c.give_back-2.ensures.gave;
    })
