-- What the line says, if it says something, is behind the others.
use Rattle.std.proofs.Common.{[], ◌∷◌, Option, Some, None, Ok, sym, ap, ◌∙◌, append-nil}
use Rattle.std.proofs.lemmas.List.{map-append}
use Rattle.std.specs.Prelude.{option_map}
use Rattle.map_history.specs.declared.op.Op.{Op}
use Rattle.map_history.specs.Lines.{line_text, line_texts}
use Rattle.map_history.specs.Operation.{operation_of}
use Rattle.script.proofs.reading.take_line.Goals as goal

pub returns-in_ok-push-clause-ok : goal.returns-in_ok-push-clause-ok
returns-in_ok-push-clause-ok c = record {
  said = Some (operation_of c.in-Some.op);
  says = c.in_ok-op.ensures ∙ ap (λ (op : Option Op). Ok (option_map operation_of op)) c.in-Some.is;
  grown = ap line_texts c.in_ok-push.ensures.items ∙ map-append line_text c.args.lines.now.items (record { line = c.args.number; op = c.in-Some.op } ∷ []);
}

pub returns-in_default-clause-ok : goal.returns-in_default-clause-ok
returns-in_default-clause-ok c = record {
  said = None;
  says = c.in_ok-op.ensures ∙ ap (λ (op : Option Op). Ok (option_map operation_of op)) c.in_default.is;
  grown = sym (append-nil (line_texts c.args.lines.now.items));
}
