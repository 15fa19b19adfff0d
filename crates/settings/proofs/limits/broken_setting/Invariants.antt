use Rattle.std.proofs.Common.{◌≡◌, drop}
use Rattle.settings.specs.Limits.{first_broken, first_outside}
use Rattle.settings.proofs.limits.broken_setting.Given as goal

-- the settings so far are within their limits
abbrev pub invariant-loop-setting : goal.invariant-loop-setting
invariant-loop-setting l = first_broken l.sizes l.indexes l.lanes
    ≡ first_outside l.sizes l.indexes l.lanes (drop l.setting-index l.setting-items)
