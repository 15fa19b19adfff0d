use Rattle.std.proofs.Common.{[], ◌∷◌, refl}
use Rattle.std.specs.Prelude.{codes}
use Rattle.change_log.specs.Log.{note_of}
use Rattle.map_history.specs.Text.{key_text}
use Rattle.report_text.proofs.ChangeLemmas.{words_put}
use Rattle.report_text.proofs.changes.put_del.Goals as goal

pub returns-clause-ok : goal.returns-clause-ok
returns-clause-ok c =
    let words = codes "del" ∷ key_text c.args.key.now.tuple ∷ [] in
    words_put c.put_line.result (note_of c.args.change.now) c.from.result c.from-2.result words words c.args.out.now.items c.put_line.new.out.items
    c.from.ensures c.from-2.ensures refl c.put_line.ensures.ok

pub returns-clause-err : goal.returns-clause-err
returns-clause-err c = c.put_line.ensures.err
