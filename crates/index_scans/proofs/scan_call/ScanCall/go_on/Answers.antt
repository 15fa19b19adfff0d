use Rattle.std.proofs.Common.{sym, subst}
use Rattle.list_facts.proofs.Outcomes.{when_err}
use Rattle.buffer_pool.proofs.AgainLemmas.{passes_both}
use Rattle.tree_cursor.specs.Pieces.{fields_lent}
use Rattle.index_scans.specs.ScanSteps.{TakesLater, GoesUntil}
use Rattle.index_scans.proofs.LoopLemmas.{one_more, from_then, left_then, last_one, until_then}
use Rattle.index_scans.proofs.scan_call.ScanCall.go_on.Goals as goal

pub returns-in_err-take_later-clause-err : goal.returns-in_err-take_later-clause-err
returns-in_err-take_later-clause-err g c =
    let self = c.args.self.now in let p = c.args.pass.now in let from = self.from.now.fields in
    let to = fields_lent self.to in let pieces = c.args.pieces.now.items in
    let rows = c.args.rows.now in let q = c.take_later.new.pass in
    let same = c.in_err-take_later.ensures.lists in
    when_err c.from_residual.result
    (subst (λ ps. GoesUntil p self.index from to self.limit c.args.cursor pieces rows ps
    c.take_later.new.rows q) (sym same.0)
    (subst (λ m. GoesUntil p self.index from to self.limit c.args.cursor pieces rows
    c.loop.pieces.items m q) (sym same.1)
    (until_then p self.index from to self.limit c.args.cursor pieces rows c.loop.pass c.loop.cursor
    c.loop.pieces.items c.loop.rows c.loop.invariant.goes q c.in_err-take_later.ensures.err)))

pub returns-then-branch-clause-ok : goal.returns-then-branch-clause-ok
returns-then-branch-clause-ok g c =
    let self = c.args.self.now in let from = self.from.now.fields in
    let to = fields_lent self.to in
    last_one c.args.pass.now self.index from to self.limit c.args.cursor c.args.pieces.now.items
    c.args.rows.now c.loop.pass c.loop.cursor c.loop.pieces.items c.loop.rows c.loop.invariant.goes
    c.take_later.new.pieces.items c.take_later.new.rows c.take_later.new.cursor
    c.take_later.new.pass
    (subst (λ e. TakesLater c.loop.pass self.index from to self.limit c.loop.cursor
    c.loop.pieces.items c.loop.rows e c.take_later.new.pieces.items c.take_later.new.rows
    c.take_later.new.cursor c.take_later.new.pass) c.if-branch.true
    c.in_ok-take_later.ensures.ok)

pub loop-preserved : goal.loop-preserved
loop-preserved g c =
    let self = c.args.self.now in let from = self.from.now.fields in
    let to = fields_lent self.to in let p = c.args.pass.now in let done = c.take_later in
    let takes = subst (λ e. TakesLater c.loop.pass self.index from to self.limit c.loop.cursor
    c.loop.pieces.items c.loop.rows e done.new.pieces.items done.new.rows done.new.cursor
    done.new.pass) c.if-branch.false c.in_ok-take_later.ensures.ok in
    record {
      own = (
        passes_both p c.loop.pass done.new.pass c.loop.invariant.own.0 done.ensures.own.0,
        done.ensures.own.1,
      );
      nothing = done.ensures.nothing;
      from = from_then p self.index from to self.limit c.args.cursor c.args.pieces.now.items
          c.args.rows.now c.loop.pass c.loop.cursor c.loop.pieces.items c.loop.rows
          c.loop.invariant.goes done.new.pieces.items done.new.rows done.new.cursor done.new.pass
          takes c.loop.invariant.from;
      left = left_then p self.index from to self.limit c.args.cursor c.args.pieces.now.items
          c.args.rows.now c.loop.pass c.loop.cursor c.loop.pieces.items c.loop.rows
          c.loop.invariant.goes done.new.pieces.items done.new.rows done.new.cursor done.new.pass
          takes c.loop.invariant.from;
      goes = one_more p self.index from to self.limit c.args.cursor c.args.pieces.now.items
          c.args.rows.now c.loop.pass c.loop.cursor c.loop.pieces.items c.loop.rows
          c.loop.invariant.goes done.new.pieces.items done.new.rows done.new.cursor done.new.pass
          takes c.loop.invariant.from;
    }
