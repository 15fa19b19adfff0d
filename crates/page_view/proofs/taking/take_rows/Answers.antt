use Rattle.std.proofs.Common.{rules, ◌≡◌, Bool, true, false, not, subst, refl, ◌∷◌, ◌++◌, []}
use Rattle.std.specs.Prelude.{option_map}
use Rattle.key_tuple.specs.KeyPlace.{At}
use Rattle.map_history.specs.Rows.{row_from}
use Rattle.map_history.specs.Scans.{is_below}
use Rattle.page_view.proofs.TakingLemmas.{HasTaken, one_taken, stops_at_end, stops_at_to}
use Rattle.page_view.proofs.taking.take_rows.Goals as goal

from_not : (b : Bool) → true ≡ not b → b ≡ false
from_not false e = refl
from_not true e = absurd cc

from_not_false : (b : Bool) → false ≡ not b → b ≡ true
from_not_false true e = refl
from_not_false false e = absurd cc

pub loop-number-preserved : goal.loop-number-preserved
loop-number-preserved c =
    let page = c.args.page.now in let row = c.row-row.result.row in
    let to = option_map (λ t. t.now.fields) c.args.to in
    let added : c.push.new.self ≡ c.loop-number.rows ++ row_from row.key c.value.result.now ∷ [] =
    search rules in
    one_taken page.rows c.args.start to c.loop-number.number c.args.rows.now c.loop-number.rows
    c.in-Some.place row c.value.result.now c.next_near-next.result c.push.new.self
    (subst (HasTaken page.rows c.args.start to c.loop-number.number c.args.rows.now c.loop-number.rows)
    c.in-Some.is c.loop-number.invariant)
    c.is_in_order.ensures.places c.row-row.ensures.row c.value.ensures.bytes
    (from_not_false (is_below to (At row.key)) c.if-is_past_to.ensures) c.next_near-next.ensures added

pub returns-in_default-clause-ok : goal.returns-in_default-clause-ok
returns-in_default-clause-ok c =
    stops_at_end c.args.page.now.rows c.args.start (option_map (λ t. t.now.fields) c.args.to) c.args.limit
    c.loop-number.number c.args.rows.now c.loop-number.rows c.loop-number.next
    c.loop-number.invariant c.loop-number-test.true c.in_default.is

pub returns-then-is_past_to-clause-ok : goal.returns-then-is_past_to-clause-ok
returns-then-is_past_to-clause-ok c =
    let row = c.row-row.result.row in let to = option_map (λ t. t.now.fields) c.args.to in
    stops_at_to c.args.page.now.rows c.args.start to c.args.limit c.loop-number.number
    c.args.rows.now c.loop-number.rows c.loop-number.next c.loop-number.invariant
    c.loop-number-test.true c.in-Some.place row c.in-Some.is c.row-row.ensures.row
    (from_not (is_below to (At row.key)) c.if-is_past_to.ensures)
