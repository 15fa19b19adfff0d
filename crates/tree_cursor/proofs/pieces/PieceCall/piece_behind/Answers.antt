use Rattle.std.proofs.Common.{rules, arith, ◌≡◌, None, [], ◌∷◌, inr, sym, subst}
use Rattle.latch_space.specs.Passes.{view}
use Rattle.tree_neighbours.specs.declared.side.Side.TheVariants.{Left, Right}
use Rattle.tree_neighbours.specs.LeafHands.{HoldsLeavesAlone}
use Rattle.tree_neighbours.specs.Neighbours.{TellsBeside, TakesBeside, IsLastOn}
use Rattle.tree_neighbours.proofs.HandLemmas.{beside_only}
use Rattle.tree_cursor.specs.Pieces.{fields_lent, scan_lent}
use Rattle.tree_cursor.specs.Telling.{MayTell}
use Rattle.tree_cursor.proofs.NextLemmas.{may_tell_next}
use Rattle.tree_cursor.proofs.PieceLemmas.{may_tell}
use Rattle.tree_cursor.proofs.WholeLemmas.{last_here, held_if, held_up_if, next_if, next_up_if}
use Rattle.tree_cursor.proofs.pieces.PieceCall.piece_behind.Goals as goal

pub take_beside-requires-clause-held : goal.take_beside-requires-clause-held
take_beside-requires-clause-held g c = c.requires.1.1.1.0.holds

pub take_beside-requires-clause-known : goal.take_beside-requires-clause-known
take_beside-requires-clause-known g c = c.requires.1.1.0.known

pub take_beside-requires-clause-frames : goal.take_beside-requires-clause-frames
take_beside-requires-clause-frames g c = c.requires.1.1.0.frames

pub take_beside-requires-clause-tables : goal.take_beside-requires-clause-tables
take_beside-requires-clause-tables g c = c.requires.1.1.0.tables

pub take_beside-requires-clause-room : goal.take_beside-requires-clause-room
take_beside-requires-clause-room g c = let count = c.requires.1.1.0.count in omega (arith, count)

pub piece_of_next-requires : goal.piece_of_next-requires
piece_of_next-requires g c = λ κs sub.
    let p = c.args.pass.now in let b = c.args.block in let i = c.args.self.now.index in
    let m = c.in-Held.next in let q = c.take_beside.new.pass in
    let took : TakesBeside p b i Right m q =
    subst (λ r. TellsBeside p b i Right r q) c.in-Held.is c.take_beside.ensures.tells in
    let stand = c.requires.1.1.1.0 in (
      sub,
      (
        search rules,
        (
          beside_only p b i Right m q took c.requires.1.1.0,
          (
            may_tell_next p b i c.args.cursor.now g.low stand (c.requires.1.1.1.1.0 stand.holds) m q
                took c.take_beside.ensures.fits,
            c.requires.1.1.1.1.1,
          ),
        ),
      ),
    )

pub piece_of-requires : goal.piece_of-requires
piece_of-requires g c = λ κs sub.
    let p = c.args.pass.now in let b = c.args.block in let i = c.args.self.now.index in
    let q = c.take_beside.new.pass in
    let last : IsLastOn p b i Right q =
    subst (λ r. TellsBeside p b i Right r q) c.in-AtEnd.is c.take_beside.ensures.tells in
    let stand = c.requires.1.1.1.0 in (
      sub,
      (
        search rules,
        (
          subst (λ z. HoldsLeavesAlone z (b ∷ [])) (sym last.same) c.requires.1.1.0,
          (
            subst (λ z. MayTell (view z) b i None g.low c.args.cursor.now) (sym last.same)
                (may_tell p b i c.args.cursor.now g.low None stand
                (c.requires.1.1.1.1.0 stand.holds)),
            c.requires.1.1.1.1.1,
          ),
        ),
      ),
    )

pub unreachable-requires : goal.unreachable-requires
unreachable-requires g c =
    let p = c.args.pass.now in let b = c.args.block in let i = c.args.self.now.index in
    let q = c.take_beside.new.pass in
    let busy = subst (λ r. TellsBeside p b i Right r q) c.in-Busy.is c.take_beside.ensures.tells in
    let left : Right ≡ Left = busy.left in cc

pub returns-in-Held-clause-ok : goal.returns-in-Held-clause-ok
returns-in-Held-clause-ok g c =
    let p = c.args.pass.now in let b = c.args.block in let self = c.args.self.now in
    let m = c.in-Held.next in let q = c.take_beside.new.pass in
    let took : TakesBeside p b self.index Right m q =
    subst (λ r. TellsBeside p b self.index Right r q) c.in-Held.is c.take_beside.ensures.tells in
    let stand = c.requires.1.1.1.0 in
    next_if p b self.index c.args.cursor.now g.low stand (c.requires.1.1.1.1.0 stand.holds) m q took
    (beside_only p b self.index Right m q took c.requires.1.1.0).known c.take_beside.ensures.fits
    c.piece_of_next.result (scan_lent self.from self.to self.limit) (fields_lent self.to) c.args.left
    (record { how = self.how; note = self.note }) c.args.rows.now c.piece_of_next.new.rows
    c.piece_of_next.new.cursor c.piece_of_next.new.pass c.requires.1.1.1.1.1
    c.piece_of_next.ensures.ok

pub returns-in-Held-clause-err : goal.returns-in-Held-clause-err
returns-in-Held-clause-err g c =
    let p = c.args.pass.now in let b = c.args.block in let self = c.args.self.now in
    let m = c.in-Held.next in let q = c.take_beside.new.pass in
    let took : TakesBeside p b self.index Right m q =
    subst (λ r. TellsBeside p b self.index Right r q) c.in-Held.is c.take_beside.ensures.tells in
    let stand = c.requires.1.1.1.0 in
    next_up_if p b self.index c.args.cursor.now g.low stand (c.requires.1.1.1.1.0 stand.holds) m q
    took (beside_only p b self.index Right m q took c.requires.1.1.0).known
    c.take_beside.ensures.fits c.piece_of_next.result c.piece_of_next.new.pass
    c.piece_of_next.ensures.err

pub returns-in-Held-clause-rows : goal.returns-in-Held-clause-rows
returns-in-Held-clause-rows g c = c.piece_of_next.ensures.rows

pub returns-in-Held-clause-cursor : goal.returns-in-Held-clause-cursor
returns-in-Held-clause-cursor g c = c.piece_of_next.ensures.cursor

pub returns-in-Held-clause-nothing : goal.returns-in-Held-clause-nothing
returns-in-Held-clause-nothing g c = c.piece_of_next.ensures.nothing

pub returns-in-AtEnd-clause-ok : goal.returns-in-AtEnd-clause-ok
returns-in-AtEnd-clause-ok g c =
    let p = c.args.pass.now in let b = c.args.block in let self = c.args.self.now in
    let q = c.take_beside.new.pass in
    let last : IsLastOn p b self.index Right q =
    subst (λ r. TellsBeside p b self.index Right r q) c.in-AtEnd.is c.take_beside.ensures.tells in
    let stand = c.requires.1.1.1.0 in
    held_if p b self.index c.args.cursor.now g.low None stand (c.requires.1.1.1.1.0 stand.holds)
    c.requires.1.1.0 c.piece_of.result (scan_lent self.from self.to self.limit) (fields_lent self.to)
    c.args.left (record { how = self.how; note = self.note }) c.args.rows.now c.piece_of.new.rows
    c.piece_of.new.cursor q c.piece_of.new.pass last.same c.fits.ensures c.requires.1.1.1.1.1
    (inr (last_here p b self.index c.args.cursor.now g.low stand q last)) c.piece_of.ensures.ok

pub returns-in-AtEnd-clause-err : goal.returns-in-AtEnd-clause-err
returns-in-AtEnd-clause-err g c =
    let p = c.args.pass.now in let b = c.args.block in let self = c.args.self.now in
    let q = c.take_beside.new.pass in
    let last : IsLastOn p b self.index Right q =
    subst (λ r. TellsBeside p b self.index Right r q) c.in-AtEnd.is c.take_beside.ensures.tells in
    let stand = c.requires.1.1.1.0 in
    held_up_if p b self.index c.args.cursor.now g.low None stand (c.requires.1.1.1.1.0 stand.holds)
    c.requires.1.1.0 c.piece_of.result q c.piece_of.new.pass last.same c.piece_of.ensures.err

pub returns-in-AtEnd-clause-rows : goal.returns-in-AtEnd-clause-rows
returns-in-AtEnd-clause-rows g c = c.piece_of.ensures.rows

pub returns-in-AtEnd-clause-cursor : goal.returns-in-AtEnd-clause-cursor
returns-in-AtEnd-clause-cursor g c = c.piece_of.ensures.cursor

pub returns-in-AtEnd-clause-nothing : goal.returns-in-AtEnd-clause-nothing
returns-in-AtEnd-clause-nothing g c = c.piece_of.ensures.nothing
