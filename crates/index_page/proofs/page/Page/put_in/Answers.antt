use Rattle.std.proofs.Common.{◌≤◌, ◌+◌, List, arith, take, drop, sym, ap, ◌∙◌, subst}
use Rattle.std.specs.List.{insert}
use Rattle.key_tuple.specs.KeyPlace.{not_below}
use Rattle.index_page.specs.declared.TheConstants.{PAGE_ROOM}
use Rattle.index_page.specs.Rows.{Row, placed_row, body_by, LacksKey}
use Rattle.index_page.specs.Page.{PageRows, IsPageInOrder, IsRowOf, PlacesDiffer, FitsLevel}
use Rattle.index_page.specs.Search.{AllOut, AllIn}
use Rattle.index_page.specs.Changes.{Inserts}
use Rattle.index_page.specs.Loads.{charge_of, load_of}
use Rattle.index_page.proofs.AppendLemmas.{rows_within_load}
use Rattle.index_page.proofs.OrderLemmas.{inserted_order, inserts, inserted_load}
use Rattle.index_page.proofs.page.Page.put_in.Goals as goal

pub invariant_of-self-2 : goal.invariant_of-self-2
invariant_of-self-2 g c =
    let ok = c.in_ok-place.ensures.ok ∙ ap (λ b. insert c.self.inside.rows c.args.cut (placed_row c.in_ok-place.place (g.A.Fields.fields_of c.args.key.now) b)) c.beside.ensures.body in
    let key = g.A.Fields.fields_of c.args.key.now in
    let page : PageRows = record { head = c.self.inside.head; rows = c.self.inside.rows } in
    let was = sym c.self.view_is in
    let suits : IsRowOf c.self.inside.head (placed_row c.in_ok-place.place key (body_by c.args.body)) = record {
      fields = c.requires.fields ∙ ap (λ (p : PageRows). p.head.fields) was;
      limits = c.requires.limits;
      body = subst (λ (p : PageRows). FitsLevel p.head.level (body_by c.args.body)) was c.requires.body;
      short = c.beside.ensures.short;
    } in
    let lacks = subst (λ (p : PageRows). LacksKey key p.rows) was c.requires.absent in
    let out = subst (λ (p : PageRows). AllOut (not_below key) (take c.args.cut p.rows)) was c.requires.cut.out in
    let past = subst (λ (p : PageRows). AllIn (not_below key) (drop c.args.cut p.rows)) was c.requires.cut.past in
    let room : load_of page.rows + charge_of key (body_by c.args.body) ≤ PAGE_ROOM = omega (arith, c.requires.room, c.requires.need, ap (λ (p : PageRows). load_of p.rows) was) in
    let places = subst PlacesDiffer ok c.in_ok-place.ensures.differ in
    let order = inserted_order page _ c.args.cut c.self.invariant suits lacks out past room places in
    subst (λ (rows : List Row). IsPageInOrder (record { head = c.self.inside.head; rows = rows })) (sym ok) order

pub returns-clause-ok : goal.returns-clause-ok
returns-clause-ok g c =
    let ok = c.in_ok-place.ensures.ok ∙ ap (λ b. insert c.self.inside.rows c.args.cut (placed_row c.in_ok-place.place (g.A.Fields.fields_of c.args.key.now) b)) c.beside.ensures.body in
    let row = placed_row c.in_ok-place.place (g.A.Fields.fields_of c.args.key.now) (body_by c.args.body) in
    let after = ap (λ (rows : List Row). record { head = c.self.inside.head; rows = rows }) ok in
    let made = inserts (record { head = c.self.inside.head; rows = c.self.inside.rows }) row c.args.cut c.self.invariant _ after (invariant_of-self-2 g c) c.in_ok-place.ensures.vacant in
    subst (λ (p : PageRows). Inserts p (record { head = c.self.inside.head; rows = c.insert_at.new.self }) row) c.self.view_is made

pub insert_at-requires-clause-room : goal.insert_at-requires-clause-room
insert_at-requires-clause-room g c = omega (arith, rows_within_load c.self.inside.rows, c.self.invariant.fits)

pub invariant_of-self-inside-2 : goal.invariant_of-self-inside-2
invariant_of-self-inside-2 g c =
    let body = body_by c.args.body in
    let key = g.A.Fields.fields_of c.args.key.now in
    let row = placed_row c.in_ok-place.place key body in
    let ok = c.in_ok-place.ensures.ok ∙ ap (λ b. insert c.self.inside.rows c.args.cut (placed_row c.in_ok-place.place key b)) c.beside.ensures.body in
    let more = inserted_load (record { head = c.self.inside.head; rows = c.self.inside.rows }) row c.args.cut c.self.invariant in
    (ap (λ n. n + c.args.need) c.self.inside.charged ∙ ap (λ n. load_of c.self.inside.rows + n) c.requires.need ∙ sym more ∙ sym (ap load_of ok), tt)

pub invariant_of-self : goal.invariant_of-self
invariant_of-self g c = rw c.in_err-place.ensures.err c.self.invariant

pub invariant_of-self-inside : goal.invariant_of-self-inside
invariant_of-self-inside g c =
    (c.self.inside.charged ∙ ap load_of (sym c.in_err-place.ensures.err), tt)
