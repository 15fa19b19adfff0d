use Rattle.std.proofs.Common.{◌≡◌, sym, subst}
use Rattle.std.proofs.lemmas.Result.{IfOk-weaker}
use Rattle.key_tuple.specs.Order.{FieldList}
use Rattle.key_tuple.specs.declared.key.Key.{Key}
use Rattle.clock_law.specs.ModifyClock.{HasKeyAt}
use Rattle.tree_cursor.specs.Storing.{IsKeyOf}
use Rattle.tree_cursor.proofs.StoreLemmas.{row_has_key}
use Rattle.tree_cursor.proofs.storing.key_at.Goals as goal

pub returns-in-Some-clause-key : goal.returns-in-Some-clause-key
returns-in-Some-clause-key c =
    let rows = c.args.page.now.rows in let high = c.args.high.now in let row = c.row.result.row in
    IfOk-weaker c.refillable.result (λ (k : Key). k.tuple ≡ row.key)
    (λ (k : Key). IsKeyOf rows high c.args.place k.tuple)
    (λ k is. subst (λ place. IsKeyOf rows high place k.tuple) (sym c.in-Some.is)
    (subst (λ (key : FieldList). HasKeyAt rows c.in-Some.place key) (sym is)
    (row_has_key rows c.in-Some.place row c.row.ensures.row)))
    c.refillable.ensures.key
