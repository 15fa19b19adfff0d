use Rattle.std.proofs.Common.{sym, ap, ◌∙◌}
use Rattle.std.proofs.lemmas.List.{drop_all}
use Rattle.std.specs.Str.{bytes_eq}
use Rattle.settings.specs.Words.{all_settings, named_among}
use Rattle.settings.proofs.WordLemmas.{named_here, named_later}
use Rattle.settings.proofs.setting.find_setting.Goals as goal

pub loop-setting-preserved : goal.loop-setting-preserved
loop-setting-preserved c = c.loop-setting.invariant
    ∙ named_later c.args.word.now _ c.loop-setting.setting-index _ c.loop-setting-test.true
    (sym (ap (λ t. bytes_eq t c.args.word.now) (c.as_bytes.ensures.value ∙ c.word.ensures))
    ∙ sym c.eq.ensures ∙ c.if-eq.false)

pub returns-then-eq : goal.returns-then-eq
returns-then-eq c = sym (c.loop-setting.invariant
    ∙ named_here c.args.word.now _ c.loop-setting.setting-index _ c.loop-setting-test.true
    (sym (ap (λ t. bytes_eq t c.args.word.now) (c.as_bytes.ensures.value ∙ c.word.ensures))
    ∙ sym c.eq.ensures ∙ c.if-eq.true))

pub returns : goal.returns
returns c = sym (c.loop-setting.invariant
    ∙ ap (named_among c.args.word.now) (drop_all c.loop-setting.setting-index all_settings c.loop-setting-test.false))
