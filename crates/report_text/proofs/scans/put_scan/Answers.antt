use Rattle.std.proofs.Common.{◌≡◌, suc, ◌+◌, ◌++◌, append_assoc, get_or, take, drop, length, sym, ap, ap₂, ◌∙◌, arith}
use Rattle.std.proofs.lemmas.List.{flat_map_more, take_all}
use Rattle.std.specs.List.{flat_map}
use Rattle.map_history.specs.declared.columns.How.TheVariants as how
use Rattle.map_history.specs.declared.columns.Note.TheVariants as note
use Rattle.map_history.specs.declared.reply.Piece.{Piece}
use Rattle.map_history.specs.Spelling.{piece_lines}
use Rattle.scan_law.specs.ScanPieces.{piece_with, scan_pieces}
use Rattle.report_text.specs.Scans.{scan_line}
use Rattle.report_text.proofs.LineLemmas.{Extends-at_second_exit}
use Rattle.report_text.proofs.ScanLemmas.{counted, counted_more, piece_more, pieces_long, scan_put}
use Rattle.report_text.proofs.scans.put_scan.Goals as goal

pub returns-in_err-put_piece-clause-err : goal.returns-in_err-put_piece-clause-err
returns-in_err-put_piece-clause-err c =
    Extends-at_second_exit _ _ _ _ _ _ _ c.in_ok-scan_head.ensures.ok c.loop-piece.invariant.put
    c.in_err-put_piece.ensures.err

abbrev none : Piece
none = record { point = 0; count = 0; how = how.Dash; note = note.Dash }

pub loop-piece-preserved : goal.loop-piece-preserved
loop-piece-preserved c =
    let pieces = c.args.pieces.now in let rows = c.args.rows.now in
    let k = c.loop-piece.piece-index in let below = c.loop-piece-test.true in
    let next = c.loop-piece.invariant.next in let all = scan_pieces pieces rows in
    let more = counted_more pieces k none below in let up : k + 1 ≡ suc k = omega arith in
    let shift : counted (take (k + 1) pieces) ≡ counted (take (suc k) pieces) =
    ap (λ n. counted (take n pieces)) up in
    let piece = get_or pieces k none in
    let start = c.scan_head.new.out.items in
    record {
      next = omega (arith, next, more, shift);
      put = c.in_ok-put_piece.ensures.ok
          ∙ (ap₂ (λ front n. front ++ piece_lines (piece_with piece (take piece.count (drop n rows))))
          c.loop-piece.invariant.put next
          ∙ (flat_map_more piece_lines start (take k all)
          (piece_with piece (take piece.count (drop (counted (take k pieces)) rows)))
          ∙ ap (λ xs. start ++ flat_map piece_lines xs)
          (sym (ap (λ n. take n all) up ∙ piece_more pieces rows k none below))));
    }

pub returns-clause-ok : goal.returns-clause-ok
returns-clause-ok c =
    let pieces = c.args.pieces.now in let rows = c.args.rows.now in
    let k = c.loop-piece.piece-index in let last = c.loop-piece-test.false in
    let all = scan_pieces pieces rows in let long = pieces_long pieces rows in
    let head = c.in_ok-scan_head.ensures.ok in
    c.loop-piece.invariant.put
    ∙ (ap₂ (λ front xs. front ++ flat_map piece_lines xs) head
    (take_all k all (omega (arith, long, last)))
    ∙ (append_assoc c.args.out.now.items
    (scan_line c.args.line (length pieces) c.count.result) (flat_map piece_lines all)
    ∙ ap (λ xs. c.args.out.now.items ++ xs)
    (ap (λ n. scan_line c.args.line (length pieces) n ++ flat_map piece_lines all) c.count.ensures
    ∙ scan_put c.args.line pieces rows c.requires)))
