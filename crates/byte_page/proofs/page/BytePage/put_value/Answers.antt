use Rattle.std.proofs.Common.{◌∙◌, List, ℕ, length, sym, ap, subst, arith}
use Rattle.key_tuple.specs.Limits.{IsWithinLimits}
use Rattle.index_page.specs.declared.head.PageHead.{PageHead}
use Rattle.index_page.specs.Rows.{Bytes, placed_row}
use Rattle.index_page.specs.Changes.{Inserts}
use Rattle.byte_page.proofs.ReplaceLemmas.{vacated, comes_again}
use Rattle.byte_page.proofs.page.BytePage.put_value.Goals as goal

pub charge-size-requires : goal.charge-size-requires
charge-size-requires g c =
    let key = g.A.Fields.fields_of c.args.key.now in
    let v = vacated c.args.self.now c.delete.new.self c.args.place key c.args.value.now c.is_in_order.ensures c.requires.key c.requires.other c.requires.room c.delete.ensures.rows c.delete.ensures.gaps in
    subst IsWithinLimits v.key_is v.suits.limits

pub put_in-other-requires-clause-fields : goal.put_in-other-requires-clause-fields
put_in-other-requires-clause-fields g c =
    let key = g.A.Fields.fields_of c.args.key.now in
    let v = vacated c.args.self.now c.delete.new.self c.args.place key c.args.value.now c.is_in_order.ensures c.requires.key c.requires.other c.requires.room c.delete.ensures.rows c.delete.ensures.gaps in
    ap length (sym v.key_is) ∙ v.suits.fields ∙ ap (λ (h : PageHead). h.fields) (sym v.head)

pub put_in-other-requires-clause-limits : goal.put_in-other-requires-clause-limits
put_in-other-requires-clause-limits g c =
    let key = g.A.Fields.fields_of c.args.key.now in
    let v = vacated c.args.self.now c.delete.new.self c.args.place key c.args.value.now c.is_in_order.ensures c.requires.key c.requires.other c.requires.room c.delete.ensures.rows c.delete.ensures.gaps in
    subst IsWithinLimits v.key_is v.suits.limits

pub put_in-other-requires-clause-absent : goal.put_in-other-requires-clause-absent
put_in-other-requires-clause-absent g c =
    let key = g.A.Fields.fields_of c.args.key.now in
    let v = vacated c.args.self.now c.delete.new.self c.args.place key c.args.value.now c.is_in_order.ensures c.requires.key c.requires.other c.requires.room c.delete.ensures.rows c.delete.ensures.gaps in
    v.lacks

pub put_in-other-requires-clause-room : goal.put_in-other-requires-clause-room
put_in-other-requires-clause-room g c =
    let key = g.A.Fields.fields_of c.args.key.now in
    let v = vacated c.args.self.now c.delete.new.self c.args.place key c.args.value.now c.is_in_order.ensures c.requires.key c.requires.other c.requires.room c.delete.ensures.rows c.delete.ensures.gaps in
    omega (arith, v.room, c.charge-size.ensures.charge, c.charge-size.ensures.some)

pub returns : goal.returns
returns g c =
    let key = g.A.Fields.fields_of c.args.key.now in
    let v = vacated c.args.self.now c.delete.new.self c.args.place key c.args.value.now c.is_in_order.ensures c.requires.key c.requires.other c.requires.room c.delete.ensures.rows c.delete.ensures.gaps in
    let put = subst (λ (b : List ℕ). Inserts c.delete.new.self.page c.put_in-other.new.self.page (placed_row c.put_in-other.result key (Bytes b))) c.as_bytes.ensures.bytes c.put_in-other.ensures in
    comes_again c.args.self.now c.delete.new.self c.put_in-other.new.self.page c.args.place c.put_in-other.result key c.args.value.now v c.is_in_order.ensures c.is_in_order-2.ensures put
