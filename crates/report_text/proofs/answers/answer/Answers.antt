use Rattle.std.proofs.Common.{◌≡◌, rules, [], ◌∷◌, decimal, refl, ap, ◌∙◌}
use Rattle.map_history.specs.Text.{field_text, key_text, point_text}
use Rattle.map_history.specs.declared.reply.Reply.TheVariants.{Found}
use Rattle.report_text.specs.Printed.{reply_text}
use Rattle.report_text.proofs.AnswerLemmas.{answer_put, bare_put, log_full, row_found, space_full, value_found}
use Rattle.report_text.proofs.answers.answer.Goals as goal

pub returns-in-SpaceFull-default-clause-ok : goal.returns-in-SpaceFull-default-clause-ok
returns-in-SpaceFull-default-clause-ok g c =
    answer_put c.put_line-in-SpaceFull-default.result _ _ c.args.line c.from.result _ c.reply_text.result.now _ c.text.result.now _ c.text-2.result.now ([]) c.args.out.now.items c.put_line-in-SpaceFull-default.new.out.items
    (space_full c.args.op.now c.args.told.now (g.K.Fields.fields_of c.args.row.now) c.args.value.now c.in-SpaceFull-default.is-0) c.from.ensures (c.reply_text.ensures ∙ ap reply_text c.in-SpaceFull-default.is-0) c.text.ensures c.text-2.ensures refl c.put_line-in-SpaceFull-default.ensures.ok

pub returns-in_default-clause-ok : goal.returns-in_default-clause-ok
returns-in_default-clause-ok g c =
    answer_put c.put_line-in_default.result _ _ c.args.line c.from.result _ c.reply_text.result.now _ c.text.result.now _ c.text-2.result.now (field_text c.args.value.now ∷ point_text c.in-Found-Some.point ∷ []) c.args.out.now.items c.put_line-in_default.new.out.items
    (value_found c.args.op.now c.args.told.now (g.K.Fields.fields_of c.args.row.now) c.args.value.now c.in-Found-Some.point c.in-Found-Some.is-0 c.in-Found-Some.is-1 c.in_default.not-Seek c.requires) c.from.ensures (c.reply_text.ensures ∙ ap reply_text c.in-Found-Some.is-0) c.text.ensures c.text-2.ensures refl c.put_line-in_default.ensures.ok

pub returns-in-Seek-clause-ok : goal.returns-in-Seek-clause-ok
returns-in-Seek-clause-ok g c =
    answer_put c.put_line-in-Seek.result _ _ c.args.line c.from.result _ c.reply_text.result.now _ c.text.result.now _ c.text-2.result.now (key_text (g.K.Fields.fields_of c.args.row.now) ∷ field_text c.args.value.now ∷ point_text c.in-Found-Some.point ∷ []) c.args.out.now.items c.put_line-in-Seek.new.out.items
    (row_found c.args.op.now c.args.told.now (g.K.Fields.fields_of c.args.row.now) c.args.value.now c.in-Found-Some.point c.in-Seek.index c.in-Seek.mode c.in-Seek.tuple c.in-Found-Some.is-0 c.in-Found-Some.is-1 c.in-Seek.is) c.from.ensures (c.reply_text.ensures ∙ ap reply_text c.in-Found-Some.is-0) c.text.ensures c.text-2.ensures refl c.put_line-in-Seek.ensures.ok

pub returns-in-LogFull-default-clause-ok : goal.returns-in-LogFull-default-clause-ok
returns-in-LogFull-default-clause-ok g c =
    answer_put c.put_line.result _ _ c.args.line c.from.result _ c.reply_text.result.now _ c.text.result.now _ c.text-2.result.now (decimal c.in-LogFull-default.length ∷ []) c.args.out.now.items c.put_line.new.out.items
    (log_full c.args.op.now c.args.told.now (g.K.Fields.fields_of c.args.row.now) c.args.value.now c.in-LogFull-default.length c.in-LogFull-default.is-0) c.from.ensures (c.reply_text.ensures ∙ ap reply_text c.in-LogFull-default.is-0) c.text.ensures c.text-2.ensures refl c.put_line.ensures.ok

pub returns-in-Seek-clause-err : goal.returns-in-Seek-clause-err
returns-in-Seek-clause-err g c = c.put_line-in-Seek.ensures.err

pub returns-in_default-Some-clause-err : goal.returns-in_default-Some-clause-err
returns-in_default-Some-clause-err g c = c.put_line-in_default-Some.ensures.err

pub returns-in-SpaceFull-default-clause-err : goal.returns-in-SpaceFull-default-clause-err
returns-in-SpaceFull-default-clause-err g c = c.put_line-in-SpaceFull-default.ensures.err

pub returns-in-LogFull-default-clause-err : goal.returns-in-LogFull-default-clause-err
returns-in-LogFull-default-clause-err g c = c.put_line.ensures.err

pub returns-in_default-clause-err : goal.returns-in_default-clause-err
returns-in_default-clause-err g c = c.put_line-in_default.ensures.err

pub returns-in_default-Some-clause-ok : goal.returns-in_default-Some-clause-ok
returns-in_default-Some-clause-ok g c =
    let not_found : c.args.told.now.reply ≡ Found → ⊥ = search rules in
    bare_put c.put_line-in_default-Some.result c.args.told.now.reply c.args.op.now c.args.told.now (g.K.Fields.fields_of c.args.row.now) c.args.value.now c.in_default-Some.point c.args.line c.from.result c.reply_text.result.now c.text.result.now c.text-2.result.now c.args.out.now.items c.put_line-in_default-Some.new.out.items
    refl c.in_default-Some.is-1 not_found c.in_default-Some.not-SpaceFull-0 c.in_default-Some.not-LogFull-0 c.from.ensures c.reply_text.ensures c.text.ensures c.text-2.ensures c.put_line-in_default-Some.ensures.ok
