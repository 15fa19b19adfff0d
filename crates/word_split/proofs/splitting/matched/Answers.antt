use Rattle.std.proofs.Common.{ap, ap₂, refl, ◌≡◌, ◌∙◌, true, true, List, [], ◌∷◌, ℕ, map}
use Rattle.std.specs.Prelude.{string_bytes}
use Rattle.std.proofs.lemmas.Result.{IfErr-weaker, IfOk-weaker}
use Rattle.clap.specs.Words.{app_of, is_simple, subcommand_of, takes}
use Rattle.word_split.specs.CallWords.{IsCall}
use Rattle.word_split.specs.ProgramCommand.{program_app, call_rows}
use Rattle.word_split.proofs.CallLemmas.{call_is_simple, found_call, takes_call}
use Rattle.word_split.proofs.splitting.matched.Goals as goal

rows_by : (words : List (List ℕ)) → IsCall words → subcommand_of program_app words ≡ call_rows words
rows_by [] call = absurd call
rows_by (command ∷ ws) call = found_call command ws call.0 call.1

takes_by : (words : List (List ℕ)) → IsCall words → takes program_app words ≡ true
takes_by [] call = absurd call
takes_by (command ∷ ws) call = takes_call command ws call.0 call.1

pub returns-clause-ok : goal.returns-clause-ok
returns-clause-ok c =
    let app_is : app_of c.in_ok-program_command.field-0 ≡ program_app = c.in_ok-program_command.ensures in
    let parse = c.try_get_matches_from in
    IfOk-weaker parse.result _ _ (λ m h. (h (ap is_simple app_is ∙ call_is_simple)).1 ∙ ap₂ subcommand_of app_is refl ∙ rows_by (map string_bytes c.args.words.now) c.requires) parse.ensures.matches

pub returns-clause-err : goal.returns-clause-err
returns-clause-err c =
    let app_is : app_of c.in_ok-program_command.field-0 ≡ program_app = c.in_ok-program_command.ensures in
    let parse = c.try_get_matches_from in
    IfErr-weaker parse.result _ _ (λ e h. h (ap₂ takes app_is refl ∙ takes_by (map string_bytes c.args.words.now) c.requires)) parse.ensures.passes
