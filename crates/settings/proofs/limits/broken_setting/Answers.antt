use Rattle.std.proofs.Common.{◌∙◌, ap, sym}
use Rattle.std.proofs.lemmas.List.{drop_all}
use Rattle.settings.specs.Limits.{first_outside}
use Rattle.settings.specs.Words.{all_settings}
use Rattle.settings.proofs.LimitLemmas.{setting_outside, setting_passed}
use Rattle.settings.proofs.limits.broken_setting.Goals as goal

pub loop-setting-preserved : goal.loop-setting-preserved
loop-setting-preserved c = c.loop-setting.invariant
    ∙ setting_passed c.args.sizes.now c.args.indexes c.args.lanes _ c.loop-setting.setting-index _
    c.loop-setting-test.true (sym c.is_within.ensures ∙ c.if-not-is_within.false)

pub returns-then-not-is_within : goal.returns-then-not-is_within
returns-then-not-is_within c = sym (c.loop-setting.invariant
    ∙ setting_outside c.args.sizes.now c.args.indexes c.args.lanes _ c.loop-setting.setting-index _
    c.loop-setting-test.true (sym c.is_within.ensures ∙ c.if-not-is_within.true))

pub returns : goal.returns
returns c = sym (c.loop-setting.invariant
    ∙ ap (first_outside c.args.sizes.now c.args.indexes c.args.lanes) (drop_all c.loop-setting.setting-index all_settings c.loop-setting-test.false))
