-- Each field is read again.
use Rattle.std.proofs.Common.{◌≡◌, Some, ap, sym, ◌∙◌}
use Rattle.script.specs.Grammar.{field_of}
use Rattle.script_laws.proofs.Escapes.{field_again}
use Rattle.script_laws.proofs.grammar.fields_are_read_again.Goals as goal

pub returns : goal.returns
returns c = record {
  again = field_again;
  unique = λ a b is_a is_b same. let e : Some a ≡ Some b = sym (field_again a is_a) ∙ ap field_of same ∙ field_again b is_b in cc;
}
