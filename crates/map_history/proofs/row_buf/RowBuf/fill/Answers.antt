-- The emptied buffer has room for the value, so it takes all of it.
use Rattle.std.proofs.Common.{ℕ, List, ◌++◌, ap, ◌∙◌, arith}
use Rattle.list_facts.proofs.Outcomes.{as_ok}
use Rattle.map_history.proofs.row_buf.RowBuf.fill.Goals as goal

pub returns-clause-value : goal.returns-clause-value
returns-clause-value g c =
    let put = c.extend_from_slice-room_holds in
    as_ok put.result _ _ _ (put.ensures.succeeds (omega (arith, c.clear.ensures.len, c.clear.ensures.capacity, c.self.invariant.1, c.requires.value))) put.ensures.items
    ∙ ap (λ (bytes : List ℕ). bytes ++ c.args.value.now) c.clear.ensures.items
