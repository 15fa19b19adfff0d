use Rattle.std.proofs.Common.{rules, tests}
use Rattle.std.proofs.lemmas.Iterator.{YieldsList-from_slice}
use Rattle.std.proofs.lemmas.Iterator.Search.{all_from_yields_List}
use Rattle.script.specs.Grammar.{is_name_byte}
use Rattle.script.proofs.words.all_continue_name.Goals as goal

pub returns : goal.returns
returns c = all_from_yields_List is_name_byte _ _ c.all.result c.all.ensures.ran (YieldsList-from_slice _ c.iter.ensures.rest) (λ x b q k. search (rules, tests))
