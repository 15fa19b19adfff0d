-- What a box ends as, once a `&mut` into it has ended.
use Rattle.std.specs.Prelude.{Option, Some}
use Rattle.std.specs.Borrow.{LendsIf, MutBor, Fml, RattleType}
use Rattle.latch_space.specs.contracts.slots.ObjectBox.{the_row}

module _ (O : RattleType) where
  -- r lends what is in the box s, if something is
  abbrev pub LendsBoxed : MutBor (Option O.Denot) → Option (MutBor O.Denot) → Fml
  LendsBoxed s r = LendsIf (the_row O) O s r Some s.now
