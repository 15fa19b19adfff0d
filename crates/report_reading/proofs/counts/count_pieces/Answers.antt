-- One piece more, or none.
use Rattle.std.proofs.Common.{ℕ, ◌+◌, [], ◌∷◌, ◌==◌, cond, map, take, get_or, ap}
use Rattle.std.proofs.lemmas.List.{take_all}
use Rattle.report_reading.specs.Counts.{piece_columns}
use Rattle.report_reading.proofs.CountLemmas.{counts_both, counts_same, piece_taken}
use Rattle.report_reading.proofs.counts.count_pieces.Goals as goal

pub loop-place-preserved : goal.loop-place-preserved
loop-place-preserved c =
    let index = c.args.index in
    let place = c.loop-place.place in
    counts_both c.args.counts.now c.loop-place.counts c.count_one.new.counts
    (λ (i : ℕ). cond (index == i) (map piece_columns (take place c.args.pieces.now)) []) (λ (i : ℕ). cond (index == i) (piece_columns (get_or c.args.pieces.now place c.index-pieces-place.result) ∷ []) [])
    (λ (i : ℕ). cond (index == i) (map piece_columns (take (place + 1) c.args.pieces.now)) [])
    (λ (i : ℕ). piece_taken (index == i) c.args.pieces.now place c.index-pieces-place.result c.loop-place-test.true) c.loop-place.invariant c.in_ok-count_one.ensures

pub returns : goal.returns
returns c =
    let index = c.args.index in
    counts_same c.args.counts.now c.loop-place.counts (λ (i : ℕ). cond (index == i) (map piece_columns (take c.loop-place.place c.args.pieces.now)) []) (λ (i : ℕ). cond (index == i) (map piece_columns c.args.pieces.now) [])
    (λ (i : ℕ). ap (λ ps. cond (index == i) (map piece_columns ps) []) (take_all c.loop-place.place c.args.pieces.now c.loop-place-test.false)) c.loop-place.invariant
