use Rattle.std.proofs.Common.{ap, ◌∙◌, List, arith, length, Result, Ok, Err, IsErr, OnOk, true≢false, sym}
use Rattle.index_page.specs.Store.{Content, rows_in, beside_by, stored_row}
use Rattle.list_facts.proofs.Outcomes.{when_err}
use Rattle.index_page.proofs.StoreLemmas.{spare_below, stored_differ}
use Rattle.index_page.proofs.ClaimLemmas.{filled_store, filled_rows, row_store, row_rows, row_vacant}
use Rattle.std.proofs.lemmas.List.{length-map}
use Rattle.index_page.proofs.heap.Heap.insert_at.Goals as goal

-- nothing is asked of a success that wasn't one
not_ok : {T E : Type 0} (r : Result T E) (P : Type 0) → IsErr r → OnOk r P
not_ok (Ok x) P is = absurd (true≢false (sym is))
not_ok (Err e) P is = tt

pub fill-requires-clause-there : goal.fill-requires-clause-there
fill-requires-clause-there g c =
    rw c.from.ensures (spare_below c.vacancy.new.slots c.vacancy.new.places c.in_ok-place.place c.vacancy.ensures.store c.in_ok-place.ensures.spare)

pub returns-in_err-fill-clause-err : goal.returns-in_err-fill-clause-err
returns-in_err-fill-clause-err g c =
    let same = ap (λ (slots : List Content). rows_in slots c.vacancy.new.places.live) c.in_err-fill.ensures.err in
    when_err c.from_residual-in_err-fill.result (same ∙ c.vacancy.ensures.rows ∙ c.self.view_is)

pub invariant_of-self-in_err-claim : goal.invariant_of-self-in_err-claim
invariant_of-self-in_err-claim g c =
    filled_store (record { key = g.A.Fields.fields_of c.args.key.now; body = beside_by c.args.beside }) c.vacancy.ensures.store c.in_ok-place.ensures.spare c.in_ok-fill.ensures.ok c.from.ensures c.vacancy.ensures.rows c.self.view_is c.claim.new.self c.in_err-claim.ensures.err

pub returns-in_err-claim-clause-err : goal.returns-in_err-claim-clause-err
returns-in_err-claim-clause-err g c =
    when_err c.from_residual-in_err-claim.result (filled_rows (record { key = g.A.Fields.fields_of c.args.key.now; body = beside_by c.args.beside }) c.vacancy.ensures.store c.in_ok-place.ensures.spare c.in_ok-fill.ensures.ok c.from.ensures c.vacancy.ensures.rows c.self.view_is c.claim.new.self c.in_err-claim.ensures.err)

pub invariant_of-self-2 : goal.invariant_of-self-2
invariant_of-self-2 g c =
    row_store (record { key = g.A.Fields.fields_of c.args.key.now; body = beside_by c.args.beside }) c.vacancy.ensures.store c.in_ok-place.ensures.spare c.in_ok-fill.ensures.ok c.from.ensures c.vacancy.ensures.rows c.self.view_is c.claim.new.self c.args.at c.requires.at c.in_ok-claim.ensures.live c.in_ok-claim.ensures.free

pub returns-clause-vacant : goal.returns-clause-vacant
returns-clause-vacant g c =
    row_vacant (record { key = g.A.Fields.fields_of c.args.key.now; body = beside_by c.args.beside }) c.vacancy.ensures.store c.in_ok-place.ensures.spare c.in_ok-fill.ensures.ok c.from.ensures c.vacancy.ensures.rows c.self.view_is

pub returns-clause-differ : goal.returns-clause-differ
returns-clause-differ g c = stored_differ _ c.claim.new.self (invariant_of-self-2 g c)

pub returns-clause-ok : goal.returns-clause-ok
returns-clause-ok g c =
    row_rows (record { key = g.A.Fields.fields_of c.args.key.now; body = beside_by c.args.beside }) c.vacancy.ensures.store c.in_ok-place.ensures.spare c.in_ok-fill.ensures.ok c.from.ensures c.vacancy.ensures.rows c.self.view_is c.claim.new.self c.args.at c.in_ok-claim.ensures.live

pub claim-requires-clause-at : goal.claim-requires-clause-at
claim-requires-clause-at g c =
    omega (arith, c.requires.at, ap length c.self.view_is, length-map c.self.inside.places.live (stored_row c.self.inside.slots), ap length c.vacancy.ensures.live)

pub invariant_of-self-in_err-fill : goal.invariant_of-self-in_err-fill
invariant_of-self-in_err-fill g c = rw c.in_err-fill.ensures.err c.vacancy.ensures.store

pub vacancy-requires-clause-room : goal.vacancy-requires-clause-room
vacancy-requires-clause-room g c =
    omega (arith, c.requires.room, ap length c.self.view_is, length-map c.self.inside.places.live (stored_row c.self.inside.slots))

pub returns-in_err-fill-clause-differ : goal.returns-in_err-fill-clause-differ
returns-in_err-fill-clause-differ g c = not_ok c.from_residual-in_err-fill.result _ c.from_residual-in_err-fill.ensures.0

pub returns-in_err-claim-clause-differ : goal.returns-in_err-claim-clause-differ
returns-in_err-claim-clause-differ g c = not_ok c.from_residual-in_err-claim.result _ c.from_residual-in_err-claim.ensures.0
