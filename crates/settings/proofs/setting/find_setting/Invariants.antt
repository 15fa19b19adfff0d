use Rattle.std.proofs.Common.{◌≡◌, drop}
use Rattle.settings.specs.Words.{setting_named, named_among}
use Rattle.settings.proofs.setting.find_setting.Given as goal

-- the settings so far have other words
abbrev pub invariant-loop-setting : goal.invariant-loop-setting
invariant-loop-setting l = setting_named l.word ≡ named_among l.word (drop l.setting-index l.setting-items)
