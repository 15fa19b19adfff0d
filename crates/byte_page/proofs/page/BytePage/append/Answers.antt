use Rattle.std.proofs.Common.{◌≡◌, ◌≢◌, ◌∙◌, ◌-◌, ◌+◌, [], ◌∷◌, ◌++◌, ℕ, List, Some, IsSome, refl, sym, ap, ap₂, subst, length, arith}
use Rattle.std.specs.Vec.{with_items}
use Rattle.std.proofs.lemmas.List.{with_items_is}
use Rattle.compact_record.specs.declared.kind.RecordKind.{RecordKind}
use Rattle.compact_record.specs.declared.kind.RecordKind.TheVariants as kinds
use Rattle.index_page.specs.Rows.{Row, placed_row, find_row}
use Rattle.index_page.specs.Loads.{charge_of}
use Rattle.index_page.proofs.HalvesLemmas.{some_charge}
use Rattle.page_rows.specs.Reading.{body_of_kind}
use Rattle.page_rows.specs.Appending.{CanAppendRow, AppendsInBytes}
use Rattle.byte_page.specs.Form.{GappedPage, form_in_bytes, IsBytePage}
use Rattle.byte_page.specs.Moving.{AppendsRow}
use Rattle.byte_page.proofs.MovingLemmas.{some_is, can_append, is_appended}
use Rattle.byte_page.proofs.page.BytePage.append.Goals as goal

pub charge_at-size-requires : goal.charge_at-size-requires
charge_at-size-requires c = subst (λ o. IsSome o) (sym c.requires.there) refl

pub row-record-requires : goal.row-record-requires
row-record-requires c = subst (λ o. IsSome o) (sym c.requires.there) refl

pub append_row-requires : goal.append_row-requires
append_row-requires c =
    let fields = c.self.inside.fields in
    let r = c.row-record.result in
    let place = c.args.place in
    let kind = c.kind.result in
    let tail = c.tail.result.now in
    let size = c.charge_at-size.result - 1 in
    let found : find_row place c.args.from.now.page.rows ≡ Some (placed_row place r.key (body_of_kind kind tail)) =
    c.row-record.ensures ∙ ap₂ (λ (k : RecordKind) (t : List ℕ). Some (placed_row place r.key (body_of_kind k t))) (sym c.kind.ensures) (sym c.tail.ensures.tail) in
    let child : kind ≢ kinds.Row → length tail ≡ 4 = λ other. c.tail.ensures.child (λ e. other (c.kind.ensures ∙ e)) in
    let charge = c.charge_at-size.ensures (placed_row place r.key (body_of_kind kind tail)) found in
    let charged : size + 1 ≡ charge_of r.key (body_of_kind kind tail) = omega (arith, charge, some_charge r.key (body_of_kind kind tail)) in
    let can = can_append c.args.self.now c.args.from.now c.args.last place size kind r.key tail c.self.view_is c.self.invariant c.requires found c.is_in_order.ensures child charged in
    (fields, subst (λ (b : List ℕ). CanAppendRow b fields c.args.last kind r.key tail size) (sym c.deref_mut.ensures.value) can)

pub invariant_of-self : goal.invariant_of-self
invariant_of-self c =
    let fields = c.self.inside.fields in
    let r = c.row-record.result in
    let place = c.args.place in
    let kind = c.kind.result in
    let tail = c.tail.result.now in
    let size = c.charge_at-size.result - 1 in
    let new = c.append_row.new.page in
    let at = c.append_row.result in
    let value = c.deref_mut.ensures.value in
    let found : find_row place c.args.from.now.page.rows ≡ Some (placed_row place r.key (body_of_kind kind tail)) =
    c.row-record.ensures ∙ ap₂ (λ (k : RecordKind) (t : List ℕ). Some (placed_row place r.key (body_of_kind k t))) (sym c.kind.ensures) (sym c.tail.ensures.tail) in
    let child : kind ≢ kinds.Row → length tail ≡ 4 = λ other. c.tail.ensures.child (λ e. other (c.kind.ensures ∙ e)) in
    let charge = c.charge_at-size.ensures (placed_row place r.key (body_of_kind kind tail)) found in
    let charged : size + 1 ≡ charge_of r.key (body_of_kind kind tail) = omega (arith, charge, some_charge r.key (body_of_kind kind tail)) in
    let can = can_append c.args.self.now c.args.from.now c.args.last place size kind r.key tail c.self.view_is c.self.invariant c.requires found c.is_in_order.ensures child charged in
    let made = c.append_row.ensures fields (subst (λ (b : List ℕ). CanAppendRow b fields c.args.last kind r.key tail size) (sym value) can) in
    let a = subst (λ (b : List ℕ). AppendsInBytes b new fields (placed_row at r.key (body_of_kind kind tail))) value made in
    let e = is_appended c.args.self.now c.args.from.now c.args.last place at (placed_row place r.key (body_of_kind kind tail)) c.self.view_is c.self.invariant c.requires found c.is_in_order.ensures a in
    let written = with_items_is c.self.inside.bytes new
    (e.page.rows.spells.page.is.len ∙ sym c.self.invariant.rows.spells.page.is.len ∙ ap length (sym value) ∙ c.deref_mut.ensures.len) in
    subst (λ (b : List ℕ). IsBytePage b fields) (sym written) e.page

pub returns : goal.returns
returns c = λ row found'.
    let fields = c.self.inside.fields in
    let r = c.row-record.result in
    let place = c.args.place in
    let kind = c.kind.result in
    let tail = c.tail.result.now in
    let size = c.charge_at-size.result - 1 in
    let new = c.append_row.new.page in
    let at = c.append_row.result in
    let value = c.deref_mut.ensures.value in
    let ours : Row = placed_row place r.key (body_of_kind kind tail) in
    let found : find_row place c.args.from.now.page.rows ≡ Some ours =
    c.row-record.ensures ∙ ap₂ (λ (k : RecordKind) (t : List ℕ). Some (placed_row place r.key (body_of_kind k t))) (sym c.kind.ensures) (sym c.tail.ensures.tail) in
    let child : kind ≢ kinds.Row → length tail ≡ 4 = λ other. c.tail.ensures.child (λ e. other (c.kind.ensures ∙ e)) in
    let charge = c.charge_at-size.ensures ours found in
    let charged : size + 1 ≡ charge_of r.key (body_of_kind kind tail) = omega (arith, charge, some_charge r.key (body_of_kind kind tail)) in
    let can = can_append c.args.self.now c.args.from.now c.args.last place size kind r.key tail c.self.view_is c.self.invariant c.requires found c.is_in_order.ensures child charged in
    let made = c.append_row.ensures fields (subst (λ (b : List ℕ). CanAppendRow b fields c.args.last kind r.key tail size) (sym value) can) in
    let a = subst (λ (b : List ℕ). AppendsInBytes b new fields (placed_row at r.key (body_of_kind kind tail))) value made in
    let e = is_appended c.args.self.now c.args.from.now c.args.last place at ours c.self.view_is c.self.invariant c.requires found c.is_in_order.ensures a in
    let written = with_items_is c.self.inside.bytes new
    (e.page.rows.spells.page.is.len ∙ sym c.self.invariant.rows.spells.page.is.len ∙ ap length (sym value) ∙ c.deref_mut.ensures.len) in
    let here : AppendsRow c.args.self.now (form_in_bytes new fields) ours at = record {
      rows = e.rows ∙ ap (λ (f : GappedPage). f.page.rows ++ placed_row at r.key (body_of_kind kind tail) ∷ []) c.self.view_is;
      head = e.head ∙ ap (λ (f : GappedPage). f.page.head) c.self.view_is;
      tight = e.tight;
    } in
    subst (λ (x : Row). AppendsRow c.args.self.now (form_in_bytes (with_items c.self.inside.bytes new).items fields) x at) (some_is ours row (sym found ∙ found'))
    (subst (λ (b : List ℕ). AppendsRow c.args.self.now (form_in_bytes b fields) ours at) (sym written) here)
