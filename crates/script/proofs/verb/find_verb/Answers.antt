use Rattle.std.proofs.Common.{◌∙◌, rules, tests}
use Rattle.std.proofs.lemmas.Iterator.{YieldsList-from_slice}
use Rattle.std.proofs.lemmas.Iterator.Consumers.{YieldsList-from_copied}
use Rattle.std.proofs.lemmas.Iterator.Search.{find_from_yields_List}
use Rattle.std.specs.Str.{bytes_eq}
use Rattle.script.specs.declared.verb.Verb.{Verb}
use Rattle.script.specs.Lane.{verb_word, verbs}
use Rattle.script.proofs.Results.{as_it_is}
use Rattle.script.proofs.verb.find_verb.Goals as goal

pub returns : goal.returns
returns c =
    as_it_is c.find.result ∙ find_from_yields_List {v = λ (x : Verb). x} {s = c.copied.result} (λ (known : Verb). bytes_eq (verb_word known) c.args.word.now) _ _ _ c.find.ensures.ran
    (YieldsList-from_copied {ys = verbs} (rw (← c.copied.ensures.source) at (YieldsList-from_slice {s = c.iter.result} verbs c.iter.ensures.rest))) (λ x b q k. search (rules, tests))
