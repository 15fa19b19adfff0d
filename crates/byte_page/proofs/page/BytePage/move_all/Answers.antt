use Rattle.std.proofs.Common.{[]}
use Rattle.byte_page.proofs.MovingLemmas.{all_may_go}
use Rattle.byte_page.proofs.page.BytePage.move_all.Goals as goal

pub append_rows-requires : goal.append_rows-requires
append_rows-requires c = (
  [],
  c.args.self.now.page.rows,
  all_may_go c.args.self.now c.args.to.now c.use_all-again.new.self c.use_all-again.result c.first.result c.use_all-again.ensures.stays c.use_all-again.ensures.garbage c.requires.level c.requires.fields
      c.requires.ascend c.requires.fits c.first.ensures,
)

pub returns-clause-moves : goal.returns-clause-moves
returns-clause-moves c =
    let can = all_may_go c.args.self.now c.args.to.now c.use_all-again.new.self c.use_all-again.result c.first.result c.use_all-again.ensures.stays c.use_all-again.ensures.garbage c.requires.level
    c.requires.fields c.requires.ascend c.requires.fits c.first.ensures in
    let a = c.append_rows.ensures [] c.args.self.now.page.rows can in
    record {
      between = c.use_all-again.new.self.page;
      stays = c.use_all-again.ensures.stays;
      moves = record { moved = a.moved; gone = c.clear.ensures.rows; behind = a.rows; same = a.same; head = c.clear.ensures.head; to_head = a.head };
    }

pub returns-clause-garbage : goal.returns-clause-garbage
returns-clause-garbage c =
    let can = all_may_go c.args.self.now c.args.to.now c.use_all-again.new.self c.use_all-again.result c.first.result c.use_all-again.ensures.stays c.use_all-again.ensures.garbage c.requires.level
    c.requires.fields c.requires.ascend c.requires.fits c.first.ensures in
    (c.append_rows.ensures [] c.args.self.now.page.rows can).tight

pub returns-clause-told : goal.returns-clause-told
returns-clause-told c = c.use_all-again.ensures.told
