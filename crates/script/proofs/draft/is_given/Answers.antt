use Rattle.std.proofs.Common.{◌==◌, rules, tests}
use Rattle.std.proofs.lemmas.Iterator.{YieldsList-from_slice}
use Rattle.std.proofs.lemmas.Iterator.Search.{any_from_yields_List}
use Rattle.settings.specs.declared.setting.Setting.{Setting}
use Rattle.settings.specs.Words.{place_of}
use Rattle.script.proofs.draft.is_given.Goals as goal

pub returns : goal.returns
returns c =
    any_from_yields_List (λ (known : Setting). place_of known == place_of c.args.setting) _ _ c.any.result c.any.ensures.ran (YieldsList-from_slice _ c.iter.ensures.rest) (λ x b q k. search (rules, tests))
