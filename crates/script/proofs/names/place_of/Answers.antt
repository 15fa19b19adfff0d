use Rattle.std.proofs.Common.{rules, tests, string_bytes}
use Rattle.std.proofs.lemmas.Iterator.{YieldsList-from_slice}
use Rattle.std.proofs.lemmas.Iterator.Search.{position_from_yields_List}
use Rattle.std.specs.Str.{bytes_eq}
use Rattle.script.proofs.names.place_of.Goals as goal

pub returns : goal.returns
returns c =
    position_from_yields_List (λ known. bytes_eq (string_bytes known) c.args.name.now) _ _ c.position.result c.position.ensures.ran (YieldsList-from_slice _ c.iter.ensures.rest) (λ x b q k. search (rules, tests))
