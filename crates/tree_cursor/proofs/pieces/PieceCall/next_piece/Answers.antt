use Rattle.std.proofs.Common.{rules, ◌≡◌, false, Option, Some, None, ℕ, is_some, inl, refl, sym, subst, ◌∙◌}
use Rattle.tree_cursor.specs.Pieces.{fields_lent, scan_lent}
use Rattle.tree_cursor.specs.Starts.{place_of, BeginsAt}
use Rattle.tree_cursor.proofs.PieceLemmas.{may_tell}
use Rattle.tree_cursor.proofs.WholeLemmas.{held_if, held_up_if}
use Rattle.tree_cursor.proofs.pieces.PieceCall.next_piece.Goals as goal

none_of : (o : Option ℕ) → is_some o ≡ false → o ≡ None
none_of None e = refl
none_of (Some x) e = absurd cc

pub start-start-requires-clause-known : goal.start-start-requires-clause-known
start-start-requires-clause-known g c = c.requires.1.1.0.known

pub start-start-requires-clause-stand : goal.start-start-requires-clause-stand
start-start-requires-clause-stand g c = (g.low, c.requires.1.1.1.0)

pub piece_of-requires : goal.piece_of-requires
piece_of-requires g c = λ κs sub.
    let stand = c.requires.1.1.1.0 in (
      sub,
      (
        search rules,
        (
          c.requires.1.1.0,
          (
            may_tell c.args.pass.now c.args.block c.args.self.now.index c.args.cursor.now g.low
                c.start-start.result stand (c.start-start.ensures stand.holds),
            c.requires.1.1.1.1,
          ),
        ),
      ),
    )

pub piece_behind-requires : goal.piece_behind-requires
piece_behind-requires g c = λ κs sub.
    let none : c.start-start.result ≡ None =
    none_of c.start-start.result (sym c.is_some.ensures ∙ c.if-is_some.false) in (
      sub,
      (
        search rules,
        (
          c.requires.1.1.0,
          (
            c.requires.1.1.1.0,
            (
              λ h. subst (λ o. BeginsAt h.is.page.rows (place_of c.args.cursor.now) o) none
                  (c.start-start.ensures h),
              c.requires.1.1.1.1,
            ),
          ),
        ),
      ),
    )

pub returns-then-is_some-clause-ok : goal.returns-then-is_some-clause-ok
returns-then-is_some-clause-ok g c =
    let self = c.args.self.now in let stand = c.requires.1.1.1.0 in
    held_if c.args.pass.now c.args.block self.index c.args.cursor.now g.low c.start-start.result stand
    (c.start-start.ensures stand.holds) c.requires.1.1.0 c.piece_of.result
    (scan_lent self.from self.to self.limit) (fields_lent self.to) c.args.left
    (record { how = self.how; note = self.note }) c.args.rows.now c.piece_of.new.rows
    c.piece_of.new.cursor c.args.pass.now c.piece_of.new.pass refl c.fits.ensures c.requires.1.1.1.1
    (inl (sym c.is_some.ensures ∙ c.if-is_some.true)) c.piece_of.ensures.ok

pub returns-then-is_some-clause-err : goal.returns-then-is_some-clause-err
returns-then-is_some-clause-err g c =
    let self = c.args.self.now in let stand = c.requires.1.1.1.0 in
    held_up_if c.args.pass.now c.args.block self.index c.args.cursor.now g.low c.start-start.result
    stand (c.start-start.ensures stand.holds) c.requires.1.1.0 c.piece_of.result c.args.pass.now
    c.piece_of.new.pass refl c.piece_of.ensures.err

pub returns-then-is_some-clause-rows : goal.returns-then-is_some-clause-rows
returns-then-is_some-clause-rows g c = c.piece_of.ensures.rows

pub returns-then-is_some-clause-cursor : goal.returns-then-is_some-clause-cursor
returns-then-is_some-clause-cursor g c = c.piece_of.ensures.cursor

pub returns-then-is_some-clause-nothing : goal.returns-then-is_some-clause-nothing
returns-then-is_some-clause-nothing g c = c.piece_of.ensures.nothing

pub returns-else-is_some-clause-ok : goal.returns-else-is_some-clause-ok
returns-else-is_some-clause-ok g c = c.piece_behind.ensures.ok

pub returns-else-is_some-clause-err : goal.returns-else-is_some-clause-err
returns-else-is_some-clause-err g c = c.piece_behind.ensures.err

pub returns-else-is_some-clause-rows : goal.returns-else-is_some-clause-rows
returns-else-is_some-clause-rows g c = c.piece_behind.ensures.rows

pub returns-else-is_some-clause-cursor : goal.returns-else-is_some-clause-cursor
returns-else-is_some-clause-cursor g c = c.piece_behind.ensures.cursor

pub returns-else-is_some-clause-nothing : goal.returns-else-is_some-clause-nothing
returns-else-is_some-clause-nothing g c = c.piece_behind.ensures.nothing
