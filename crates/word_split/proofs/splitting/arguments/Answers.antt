use Rattle.std.proofs.Common.{Some, None, ap, map, ◌∙◌}
use Rattle.std.proofs.lemmas.Result.{IfOk-weaker}
use Rattle.clap.specs.Words.{found_of}
use Rattle.word_split.proofs.CallLemmas.{read_arguments}
use Rattle.word_split.proofs.splitting.arguments.Goals as goal

pub returns-in-Some : goal.returns-in-Some
returns-in-Some c = IfOk-weaker c.from_slice.result _ _ (λ words e. ap (map (λ word. word.now)) e ∙ read_arguments (found_of c.args.found.now) (Some (map (λ word. word.now) c.in-Some.words.now)) c.in-Some.ensures) c.from_slice.ensures.items

pub returns-in-None : goal.returns-in-None
returns-in-None c = ap (map (λ word. word.now)) c.new.ensures.items ∙ read_arguments (found_of c.args.found.now) None c.in-None.ensures
