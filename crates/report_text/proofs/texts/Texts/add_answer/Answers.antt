use Rattle.std.proofs.Common.{◌≡◌, ℕ, List, ◌∷◌, [], ◌++◌, ◌∙◌, ap₂, refl, subst, IfSome}
use Rattle.key_tuple.specs.Parts.{parts}
use Rattle.map_history.specs.Operation.{operation_of}
use Rattle.map_history.specs.Spelling.{answer_text}
use Rattle.map_history.specs.Told.{answer_of}
use Rattle.report_text.proofs.LineLemmas.{put_where_no_err, same_where_err}
use Rattle.report_text.proofs.TextLemmas.{front_left, rises_after, rises_before, texts_after}
use Rattle.report_text.proofs.texts.Texts.add_answer.Goals as goal

pushed : (c : goal.Else-is_err) → c.push.new.self.items ≡ c.self.inside.ends.items ++ c.len.result ∷ []
pushed c = put_where_no_err _ c.self.inside.ends.items _ c.push.new.self.items c.if-is_err.ensures.value c.push.ensures.items

-- where there was no room for its end, the line is taken away again
unpushed : (c : goal.After-truncate) → c.push.new.self.items ≡ c.self.inside.ends.items
unpushed c = same_where_err _ c.self.inside.ends.items _ c.push.new.self.items c.if-is_err.ensures.value c.push.ensures.items

put : (c : goal.After-truncate) → IfSome (answer_of (operation_of c.args.op.now).ask c.args.told.now c.args.row.now) (λ a. c.answer.new.out.items ≡ c.self.inside.bytes.items ++ answer_text c.args.line a)
put c = subst (λ v. IfSome (answer_of (operation_of c.args.op.now).ask c.args.told.now (record { key = c.args.row.now.key; value = v })) (λ a. c.answer.new.out.items ≡ c.self.inside.bytes.items ++ answer_text c.args.line a)) c.value.ensures c.in_ok-answer.ensures.ok

cut : (c : goal.After-truncate) → c.truncate.new.self.items ≡ c.self.inside.bytes.items
cut c = front_left c.args.line (answer_of (operation_of c.args.op.now).ask c.args.told.now c.args.row.now) c.self.inside.bytes.items c.answer.new.out.items c.truncate.new.self.items c.len-start.result c.requires (put c) (c.len-start.ensures ∙ c.self.inside.bytes.ok.0) c.truncate.ensures.items

added : (c : goal.Else-is_err) → IfSome (answer_of (operation_of c.args.op.now).ask c.args.told.now c.args.row.now) (λ a. c.answer.new.out.items ≡ c.self.inside.bytes.items ++ answer_text c.args.line a)
added c = subst (λ v. IfSome (answer_of (operation_of c.args.op.now).ask c.args.told.now (record { key = c.args.row.now.key; value = v })) (λ a. c.answer.new.out.items ≡ c.self.inside.bytes.items ++ answer_text c.args.line a)) c.value.ensures c.in_ok-answer.ensures.ok

pub invariant_of-self-else-is_err : goal.invariant_of-self-else-is_err
invariant_of-self-else-is_err c = rises_after c.args.line (answer_of (operation_of c.args.op.now).ask c.args.told.now c.args.row.now) c.self.inside.bytes.items c.answer.new.out.items c.self.inside.ends.items c.push.new.self.items c.len.result c.requires (added c) (pushed c) (c.len.ensures ∙ c.answer.new.out.ok.0) c.self.invariant

pub returns-clause-ok : goal.returns-clause-ok
returns-clause-ok c = texts_after c.args.line (answer_of (operation_of c.args.op.now).ask c.args.told.now c.args.row.now) c.self.inside.bytes.items c.answer.new.out.items c.self.inside.ends.items c.push.new.self.items c.args.self.now c.len.result (added c) (pushed c) (c.len.ensures ∙ c.answer.new.out.ok.0) c.self.invariant c.self.view_is

pub returns-then-is_err-clause-err : goal.returns-then-is_err-clause-err
returns-then-is_err-clause-err c = ap₂ (λ (bytes : List ℕ) (ends : List ℕ). parts bytes 0 ends) (cut c) (unpushed c) ∙ c.self.view_is

pub invariant_of-self-then-is_err : goal.invariant_of-self-then-is_err
invariant_of-self-then-is_err c =
    rises_before c.self.inside.bytes.items c.truncate.new.self.items c.self.inside.ends.items c.push.new.self.items (cut c) (unpushed c) c.self.invariant

pub invariant_of-self : goal.invariant_of-self
invariant_of-self c = rises_before c.self.inside.bytes.items c.answer.new.out.items c.self.inside.ends.items c.self.inside.ends.items c.in_err-answer.ensures.err refl c.self.invariant
