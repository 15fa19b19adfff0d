use Rattle.std.proofs.Common.{◌∙◌, rules, tests}
use Rattle.std.proofs.lemmas.Iterator.{YieldsList-from_slice}
use Rattle.std.proofs.lemmas.Iterator.Consumers.{YieldsList-from_copied}
use Rattle.std.proofs.lemmas.Iterator.Search.{find_from_yields_List}
use Rattle.std.specs.Str.{bytes_eq}
use Rattle.key_tuple.specs.declared.mode.Mode.{Mode}
use Rattle.script.specs.Lane.{mode_word, modes}
use Rattle.script.proofs.Results.{as_it_is}
use Rattle.script.proofs.modes.find_mode.Goals as goal

pub returns : goal.returns
returns c =
    as_it_is c.find.result ∙ find_from_yields_List {v = λ (x : Mode). x} {s = c.copied.result} (λ (known : Mode). bytes_eq (mode_word known) c.args.word.now) _ _ _ c.find.ensures.ran
    (YieldsList-from_copied {ys = modes} (rw (← c.copied.ensures.source) at (YieldsList-from_slice {s = c.iter.result} modes c.iter.ensures.rest))) (λ x b q k. search (rules, tests))
