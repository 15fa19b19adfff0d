use Rattle.std.proofs.Common.{◌≡◌, ◌-◌, ◌++◌, append_assoc, take, drop, sym, ap, ap₂, ◌∙◌, arith}
use Rattle.std.proofs.lemmas.List.{flat_map_more}
use Rattle.std.specs.List.{flat_map}
use Rattle.map_history.specs.Map.{Pair}
use Rattle.map_history.specs.Rows.{row_at}
use Rattle.map_history.specs.Spelling.{row_line}
use Rattle.report_text.specs.Scans.{piece_line}
use Rattle.report_text.proofs.ScanLemmas.{rows_next, piece_put}
use Rattle.report_text.proofs.scans.put_piece.Goals as goal

pub loop-place-preserved : goal.loop-place-preserved
loop-place-preserved c =
    let rows = c.args.rows.now in let first = c.args.first in let place = c.loop-place.place in
    let end_is = c.requires.within in let below = c.loop-place-test.true in
    let from = c.loop-place.auto.place in
    let row = row_at rows place in
    let same : record { key = c.row-row.result.key; value = c.value.result.now } ≡ row =
    λ k. record {
      key = (c.row-row.ensures k).key;
      value = (c.value.ensures ∙ ap (λ (x : Pair). x.value) c.row-row.ensures) k;
    } in
    c.in_ok-scan_row.ensures.ok
    ∙ (ap₂ (λ front (x : Pair). front ++ row_line x) c.loop-place.invariant same
    ∙ (flat_map_more row_line c.piece_head.new.out.items (take (place - first) (drop first rows)) row
    ∙ ap (λ xs. c.piece_head.new.out.items ++ flat_map row_line xs)
    (sym (rows_next rows first place (omega (arith, from)) (omega (arith, below, end_is))))))

pub returns-clause-ok : goal.returns-clause-ok
returns-clause-ok c =
    let piece = c.args.piece.now in let rows = c.args.rows.now in let first = c.args.first in
    let place = c.loop-place.place in
    let counted = c.requires.counted in let within = c.requires.within in
    let last = c.loop-place-test.false in let most = c.loop-place.auto.place-end in
    let from = c.loop-place.auto.place in
    c.loop-place.invariant
    ∙ (ap₂ (λ front n. front ++ flat_map row_line (take n (drop first rows)))
    c.in_ok-piece_head.ensures.ok (omega (arith, counted, last, most, from))
    ∙ (append_assoc c.args.out.now.items (piece_line piece)
    (flat_map row_line (take piece.count (drop first rows)))
    ∙ ap (λ xs. c.args.out.now.items ++ xs)
    (piece_put piece rows first (omega (arith, counted, within)))))
