use Rattle.std.proofs.Common.{◌∷◌, refl}
use Rattle.byte_page.proofs.TailLemmas.{tail_stands, tail_may_go, tail_moved}
use Rattle.byte_page.proofs.page.BytePage.move_tail.Goals as goal

pub append_rows-requires : goal.append_rows-requires
append_rows-requires c =
    let t = tail_stands c.args.self.now.page c.args.first c.is_in_order.ensures c.requires.first in (
      t.left,
      t.row ∷ t.right,
      tail_may_go c.args.self.now c.clear.new.self c.args.to.now c.args.first c.is_in_order.ensures t c.clear.ensures.rows c.clear.ensures.head c.clear.ensures.garbage c.requires.level c.requires.fields,
    )

pub delete_from-requires : goal.delete_from-requires
delete_from-requires c =
    let t = tail_stands c.args.self.now.page c.args.first c.is_in_order.ensures c.requires.first in
    (t.left, t.row, t.right, t.split, t.place_is)

pub returns-clause-moves : goal.returns-clause-moves
returns-clause-moves c =
    let t = tail_stands c.args.self.now.page c.args.first c.is_in_order.ensures c.requires.first in
    let can = tail_may_go c.args.self.now c.clear.new.self c.args.to.now c.args.first c.is_in_order.ensures t c.clear.ensures.rows c.clear.ensures.head c.clear.ensures.garbage c.requires.level c.requires.fields in
    tail_moved c.args.self.now.page c.delete_from.new.self.page c.args.to.now.page c.append_rows.new.self.page c.clear.new.self c.append_rows.new.self c.args.first t
    (c.delete_from.ensures t.left t.row t.right t.split t.place_is) c.clear.ensures.rows c.clear.ensures.head (c.append_rows.ensures t.left (t.row ∷ t.right) can) refl

pub returns-clause-garbage : goal.returns-clause-garbage
returns-clause-garbage c =
    let t = tail_stands c.args.self.now.page c.args.first c.is_in_order.ensures c.requires.first in
    let can = tail_may_go c.args.self.now c.clear.new.self c.args.to.now c.args.first c.is_in_order.ensures t c.clear.ensures.rows c.clear.ensures.head c.clear.ensures.garbage c.requires.level c.requires.fields in
    (c.append_rows.ensures t.left (t.row ∷ t.right) can).tight
