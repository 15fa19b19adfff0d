use Rattle.std.proofs.Common.{◌-◌, List, [], ◌∷◌, ◌++◌, length, ap, subst, ◌∙◌, refl}
use Rattle.list_facts.proofs.Outcomes.{when_err}
use Rattle.map_history.specs.Report.{Columns}
use Rattle.map_history.specs.declared.columns.Note.TheVariants as note
use Rattle.map_history.specs.declared.reply.Piece.{Piece}
use Rattle.tree_cursor.specs.Pieces.{fields_lent, GivesUp}
use Rattle.tree_cursor.specs.Starts.{place_of}
use Rattle.index_scans.proofs.LoopLemmas.{stops_none, stops_up, tells_about}
use Rattle.index_scans.proofs.scan_call.ScanCall.take_later.Goals as goal

pub returns-in_err-reserve-clause-err : goal.returns-in_err-reserve-clause-err
returns-in_err-reserve-clause-err g c =
    when_err c.from_residual.result (stops_none c.args.pass.now c.args.self.now.index)

pub returns-in_err-step-clause-err : goal.returns-in_err-step-clause-err
returns-in_err-step-clause-err g c =
    let found = c.find_again-block.result in let r = c.find_again-block.new.pass in
    let q = c.next_piece.new.pass in
    when_err c.from_residual-in_err-step.result
    (stops_up c.args.pass.now r q c.args.self.now.index c.args.cursor.now found.0 found.1
    c.requires.nothing.count c.find_again-block.ensures.finds
    (subst (λ i. GivesUp r found.0 i q) c.piece_call-call.ensures.about.0 c.in_err-step.ensures.err))

pub returns-clause-ok : goal.returns-clause-ok
returns-clause-ok g c =
    let self = c.args.self.now in let found = c.find_again-block.result in
    let call = c.piece_call-call.result in let about = c.piece_call-call.ensures.about in
    let told = c.piece_call-call.ensures.found in let step = c.in_ok-step.step in
    let columns : Columns = record { how = call.how; note = call.note } in
    let later : Columns = record { how = found.1; note = note.Dash } in record {
      piece = record { point = step.point; count = step.count; how = found.1; note = note.Dash };
      later = record {
        nothing = c.requires.nothing.count;
        block = found.0;
        word = found.1;
        between = c.find_again-block.new.pass;
        finds = c.find_again-block.ensures.finds;
        step = step;
        tells = tells_about c.find_again-block.new.pass found.0 c.args.cursor.now
            (place_of c.args.cursor.now) c.args.rows.now c.next_piece.new.rows step
            c.next_piece.new.cursor c.next_piece.new.pass call.index self.index
            call.from.now.fields self.from.now.fields (fields_lent call.to) (fields_lent self.to)
            call.limit self.limit (self.limit - c.count.result)
            (self.limit - length c.args.rows.now) columns later about.0 about.1 about.2 about.3
            (ap (λ n. self.limit - n) c.count.ensures) (λ k. record { how = told.0 k; note = told.1 k })
            c.in_ok-step.ensures.ok;
        end_is = refl;
        piece_is = refl;
      };
      pieces_are = c.push_reserved.ensures.items
          ∙ ap (λ (ps : List Piece). ps ++ record {
            point = step.point;
            count = step.count;
            how = found.1;
            note = note.Dash;
          } ∷ []) c.reserve.ensures.items;
    }
