use Rattle.std.proofs.Common.{refl, [], ◌∷◌, arith}
use Rattle.report_text.specs.Words.{text_of}
use Rattle.report_text.proofs.LineLemmas.{Extends-at_exit, Extends-at_second_exit, Extends-at_last_exit, joined_more, joined_ended}
use Rattle.report_text.proofs.line.put_words.Goals as goal

pub returns-in_err-put_separator-clause-err : goal.returns-in_err-put_separator-clause-err
returns-in_err-put_separator-clause-err g c =
    Extends-at_exit _ _ _ _ _ c.loop-i.invariant c.in_err-put_separator.ensures.err

pub returns-in_err-put_word-clause-err : goal.returns-in_err-put_word-clause-err
returns-in_err-put_word-clause-err g c =
    Extends-at_second_exit _ _ _ _ _ _ _ c.loop-i.invariant c.in_ok-put_separator.ensures.ok c.in_err-put_word.ensures.err

pub loop-i-preserved : goal.loop-i-preserved
loop-i-preserved g c =
    joined_more 32 (text_of g.K.Fields.fields_of) c.args.words.now c.loop-i.i c.loop-i.i c.index-words-i.result c.index-words-i.result _ _ _ _
    c.loop-i-test.true refl c.index-words-i.is c.loop-i.invariant c.in_ok-put_separator.ensures.ok c.in_ok-put_word.ensures.ok

pub returns-in_err-push-clause-err : goal.returns-in_err-push-clause-err
returns-in_err-push-clause-err g c =
    Extends-at_last_exit _ _ _ _ _ c.loop-i.invariant c.in_err-push.ensures.items

pub returns-clause-ok : goal.returns-clause-ok
returns-clause-ok g c =
    joined_ended 32 (text_of g.K.Fields.fields_of) c.args.words.now c.loop-i.i _ _ _ (10 ∷ []) (omega (arith, c.loop-i-test.false)) c.loop-i.invariant c.in_ok-push.ensures.items

pub returns-clause-err : goal.returns-clause-err
returns-clause-err g c = tt
