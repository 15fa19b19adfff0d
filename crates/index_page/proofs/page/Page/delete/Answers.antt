use Rattle.std.proofs.Common.{◌≡◌, ℕ, Some, List, sym, ap, ◌∙◌, subst, arith}
use Rattle.std.specs.List.{remove}
use Rattle.index_page.specs.Rows.{Row, find_row}
use Rattle.index_page.specs.Page.{PageRows, IsPageInOrder, PlacesDiffer}
use Rattle.index_page.specs.Search.{IsPosition}
use Rattle.index_page.specs.Changes.{Deletes}
use Rattle.index_page.specs.Loads.{charge_of, load_of}
use Rattle.index_page.proofs.RowLemmas.{get_below, find_get}
use Rattle.index_page.proofs.OrderLemmas.{deleted_order, deleted_load, deletes}
use Rattle.index_page.proofs.page.Page.delete.Goals as goal

-- the row stands at that number of the stored rows
here : (stored now : PageRows) (place at : ℕ) → stored ≡ now → IsPosition now.rows place at → IsPosition stored.rows place at
here stored now place at same position = subst (λ (p : PageRows). IsPosition p.rows place at) (sym same) position

-- what was counted is the charge of that row
charged : (page : PageRows) (place at n : ℕ) → IsPageInOrder page → (position : IsPosition page.rows place at) → ((row : Row) → find_row place page.rows ≡ Some row → n ≡ charge_of row.key row.body) → n ≡ charge_of position.row.key position.row.body
charged page place at n order position counted = counted position.row (subst (λ q. find_row q page.rows ≡ Some position.row) position.place_is (find_get page.rows at position.row order.places position.there))

pub overflow_sub-self : goal.overflow_sub-self
overflow_sub-self c =
    let page = c.args.self.now in
    let order = subst IsPageInOrder c.self.view_is c.self.invariant in
    let n = charged page c.args.place c.position-at.result c.charge_at.result order c.position-at.ensures.row c.charge_at.ensures in
    omega (arith, n, deleted_load page c.args.place c.position-at.result order c.position-at.ensures.row, c.self.inside.charged, ap (λ (p : PageRows). load_of p.rows) c.self.view_is)

pub remove_at-requires : goal.remove_at-requires
remove_at-requires c =
    let position = here _ c.args.self.now c.args.place c.position-at.result c.self.view_is c.position-at.ensures.row in
    get_below c.self.inside.rows c.position-at.result position.row position.there

pub invariant_of-self-inside : goal.invariant_of-self-inside
invariant_of-self-inside c =
    let page = c.args.self.now in
    let order = subst IsPageInOrder c.self.view_is c.self.invariant in
    let n = charged page c.args.place c.position-at.result c.charge_at.result order c.position-at.ensures.row c.charge_at.ensures in
    let rows = c.remove_at.ensures.rows ∙ ap (λ (p : PageRows). remove p.rows c.position-at.result) c.self.view_is in
    (omega (arith, n, deleted_load page c.args.place c.position-at.result order c.position-at.ensures.row, c.self.inside.charged, ap load_of rows, ap (λ (p : PageRows). load_of p.rows) c.self.view_is), tt)

pub invariant_of-self : goal.invariant_of-self
invariant_of-self c =
    let position = here _ c.args.self.now c.args.place c.position-at.result c.self.view_is c.position-at.ensures.row in
    let places = subst PlacesDiffer c.remove_at.ensures.rows c.remove_at.ensures.differ in
    let order = deleted_order (record { head = c.self.inside.head; rows = c.self.inside.rows }) c.args.place c.position-at.result c.self.invariant position places in
    subst (λ (rows : List Row). IsPageInOrder (record { head = c.self.inside.head; rows = rows })) (sym c.remove_at.ensures.rows) order

pub returns : goal.returns
returns c =
    let position = here _ c.args.self.now c.args.place c.position-at.result c.self.view_is c.position-at.ensures.row in
    let after = ap (λ (rows : List Row). record { head = c.self.inside.head; rows = rows }) c.remove_at.ensures.rows in
    let made = deletes (record { head = c.self.inside.head; rows = c.self.inside.rows }) c.args.place c.position-at.result c.self.invariant position _ after in
    subst (λ (p : PageRows). Deletes p (record { head = c.self.inside.head; rows = c.remove_at.new.self }) c.args.place) c.self.view_is made
