-- Each key is read again.
use Rattle.std.proofs.Common.{◌≡◌, Some, ap, sym, ◌∙◌}
use Rattle.script.specs.Grammar.{tuple_of}
use Rattle.script_laws.proofs.Commas.{key_again}
use Rattle.script_laws.proofs.grammar.keys_are_read_again.Goals as goal

pub returns : goal.returns
returns c = record {
  again = key_again;
  unique = λ a b is_a is_b same. let e : Some a ≡ Some b = sym (key_again a is_a) ∙ ap tuple_of same ∙ key_again b is_b in cc;
}
