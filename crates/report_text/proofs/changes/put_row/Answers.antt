use Rattle.std.proofs.Common.{[], ◌∷◌, ap}
use Rattle.change_log.specs.Log.{note_of}
use Rattle.map_history.specs.Text.{field_text, key_text}
use Rattle.report_text.proofs.ChangeLemmas.{words_put}
use Rattle.report_text.proofs.changes.put_row.Goals as goal

pub returns-clause-ok : goal.returns-clause-ok
returns-clause-ok c =
    let verb = c.args.verb.now in
    let key = key_text c.args.key.now.tuple in
    words_put c.put_line.result (note_of c.args.change.now) c.from.result c.from-2.result (verb ∷ key ∷ field_text c.args.value.now ∷ []) (verb ∷ key ∷ field_text c.as_bytes.result.now ∷ []) c.args.out.now.items c.put_line.new.out.items
    c.from.ensures c.from-2.ensures (ap (λ b. verb ∷ key ∷ field_text b ∷ []) c.as_bytes.ensures.bytes) c.put_line.ensures.ok

pub returns-clause-err : goal.returns-clause-err
returns-clause-err c = c.put_line.ensures.err
