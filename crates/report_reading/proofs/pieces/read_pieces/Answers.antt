-- One piece more, or none that can stand.
use Rattle.std.proofs.Common.{◌≡◌, ℕ, ◌+◌, ◌-◌, true, false, List, [], ◌∷◌, ◌++◌, length, map, Ok, sym, subst, ap, ◌∙◌, arith}
use Rattle.std.proofs.lemmas.Result.{err_from_is_err_and}
use Rattle.std.proofs.lemmas.List.{map_push}
use Rattle.map_history.specs.Report.{ScanPiece}
use Rattle.report_forms.specs.Scans.{read_piece, read_pieces}
use Rattle.report_reading.specs.Pieces.{piece_seen}
use Rattle.report_reading.specs.Reads.{Stops}
use Rattle.report_reading.proofs.LoopLemmas.{joined, pieces_go_on, pieces_stop}
use Rattle.report_reading.proofs.pieces.read_pieces.Goals as goal

pub returns-in_err-piece : goal.returns-in_err-piece
returns-in_err-piece c =
    let p = err_from_is_err_and c.from_residual.result c.from_residual.ensures.1 in
    let done = c.loop-done.done in
    let count = c.args.count in
    let behind : (count - done) - 1 ≡ count - (done + 1) = omega arith in
    let told = subst (λ (n : ℕ). Stops c.in_err-piece.field-0.0 c.read_piece.new.text (read_piece c.args.fields (record { is_later = c.loop-done.is_later; behind = n; left = c.loop-done.left }) c.loop-done.text)) behind c.in_err-piece.ensures in
    rw (p.1, p.2) (pieces_stop c.args.fields (map piece_seen c.loop-done.pieces.items) c.loop-done.is_later c.loop-done.left count done c.loop-done.text c.read_piece.new.text c.in_err-piece.field-0.0 _ c.loop-done-test.true told c.loop-done.invariant)

pub loop-done-preserved : goal.loop-done-preserved
loop-done-preserved c =
    let done = c.loop-done.done in
    let count = c.args.count in
    let piece = piece_seen c.in_ok-piece.piece in
    let behind : (count - done) - 1 ≡ count - (done + 1) = omega arith in
    let told = subst (λ (n : ℕ). read_piece c.args.fields (record { is_later = c.loop-done.is_later; behind = n; left = c.loop-done.left }) c.loop-done.text ≡ Ok (piece, c.read_piece.new.text)) behind c.in_ok-piece.ensures in
    let more = pieces_go_on c.args.fields (map piece_seen c.loop-done.pieces.items) c.loop-done.is_later c.loop-done.left count done c.loop-done.text c.read_piece.new.text piece _ c.loop-done-test.true told c.loop-done.invariant in
    let grown : map piece_seen c.push.new.self.items ≡ map piece_seen c.loop-done.pieces.items ++ piece ∷ [] = rw c.in_ok-push.ensures.items (map_push _ c.loop-done.pieces.items c.in_ok-piece.piece) in
    let left : c.saturating_sub-left.result ≡ c.loop-done.left - length piece.rows = c.saturating_sub-left.ensures ∙ ap (λ (n : ℕ). c.loop-done.left - n) c.count.ensures in
    let by_left = subst (λ (n : ℕ). joined (map piece_seen c.loop-done.pieces.items ++ piece ∷ []) (read_pieces c.args.fields true n (count - (done + 1)) c.read_piece.new.text) ≡ read_pieces c.args.fields false c.args.rows count c.args.text.now) (sym left) more in
    subst (λ (front : List ScanPiece). joined front (read_pieces c.args.fields true c.saturating_sub-left.result (count - (done + 1)) c.read_piece.new.text) ≡ read_pieces c.args.fields false c.args.rows count c.args.text.now) (sym grown) by_left
