use Rattle.std.proofs.Common.{◌∙◌, sym, rules, tests}
use Rattle.std.proofs.lemmas.Iterator.{YieldsList-from_slice}
use Rattle.std.proofs.lemmas.Iterator.Search.{all_from_yields_List}
use Rattle.std.proofs.lemmas.List.Folds.{list_all-map}
use Rattle.std.specs.String.{string_bytes}
use Rattle.ahi_cli.specs.Words.{names_file}
use Rattle.ahi_cli.proofs.words.name_files.Goals as goal

pub returns : goal.returns
returns c =
    let words = c.args.words.now in
    all_from_yields_List (λ word. names_file (string_bytes word)) _ _ c.all.result c.all.ensures.ran (YieldsList-from_slice words cc) (λ x b q k. search (rules, tests)) ∙ sym (list_all-map names_file string_bytes words)
