use Rattle.std.proofs.Common.{ap, ap₂, refl, codes, ◌≡◌, ◌∙◌, Some, Bool, true, false, ◌||◌}
use Rattle.std.proofs.lemmas.Result.{IfOk-weaker}
use Rattle.clap.specs.Words.{App, Rule, app_of, rule_of, with_rule, with_subcommand}
use Rattle.clap.specs.Simple.{app_of_fields, on_top}
use Rattle.clap.specs.declared.builder.action.ArgAction.TheVariants.{Append}
use Rattle.clap.specs.declared.builder.arg.Arg.{Arg}
use Rattle.word_split.specs.ProgramCommand.{bare_app, command_app, arguments_rule}
use Rattle.word_split.proofs.command.program_command.Goals as goal

neither : {a b : Bool} → a ≡ false → b ≡ false → (a || b) ≡ false
neither e f = rw (e, f) refl

abbrev appended : Rule → Rule
appended r = record r { action = Some Append }

abbrev unnamed : App → App
unnamed = on_top (λ s. record s { no_binary_name = true })

abbrev unflagged : App → App
unflagged = on_top (λ s. record s { disable_help_flag = true })

abbrev unhelped : App → App
unhelped = on_top (λ s. record s { disable_help_subcommand = true })

pub returns : goal.returns
returns c =
    let lanes_is : rule_of c.action-lanes.result ≡ arguments_rule = ap rule_of c.action-lanes.ensures ∙ ap appended c.new.ensures.rule in
    let file_is : rule_of c.action-file.result ≡ arguments_rule = ap rule_of c.action-file.ensures ∙ ap appended c.new-3.ensures.rule in
    let numbers_is : rule_of c.action-numbers.result ≡ arguments_rule = ap rule_of c.action-numbers.ensures ∙ ap appended c.new-5.ensures.rule in
    let lanes_own = ap (λ (a : Arg). a.global) c.action-lanes.ensures ∙ c.new.ensures.optional.1 in
    let file_own = ap (λ (a : Arg). a.global) c.action-file.ensures ∙ c.new-3.ensures.optional.1 in
    let numbers_own = ap (λ (a : Arg). a.global) c.action-numbers.ensures ∙ c.new-5.ensures.optional.1 in
    let run_is : app_of c.in_ok-run.run' ≡ command_app (codes "run") = c.in_ok-run.ensures.shape lanes_own ∙ ap₂ with_rule c.new-2.ensures.app lanes_is in
    let page_is : app_of c.in_ok-page.page ≡ command_app (codes "page") = c.in_ok-page.ensures.shape file_own ∙ ap₂ with_rule c.new-4.ensures.app file_is in
    let gen_is : app_of c.in_ok-generated.generated ≡ command_app (codes "gen") = c.in_ok-generated.ensures.shape numbers_own ∙ ap₂ with_rule c.new-6.ensures.app numbers_is in
    let run_own = c.in_ok-run.ensures.globals ∙ neither c.new-2.ensures.local lanes_own in
    let page_own = c.in_ok-page.ensures.globals ∙ neither c.new-4.ensures.local file_own in
    let gen_own = c.in_ok-generated.ensures.globals ∙ neither c.new-6.ensures.local numbers_own in
    let bare_is : app_of c.disable_help_subcommand-bare.result ≡ bare_app =
    ap app_of_fields c.disable_help_subcommand-bare.ensures ∙ ap unhelped (ap app_of_fields c.disable_help_flag.ensures ∙ ap unflagged (ap app_of_fields c.no_binary_name.ensures ∙ ap unnamed c.new-7.ensures.app)) in
    let one_is : app_of c.in_ok-one.one ≡ with_subcommand bare_app (command_app (codes "run")).top =
    c.in_ok-one.ensures.shape run_own ∙ ap₂ with_subcommand bare_is (ap (λ (a : App). a.top) run_is) in
    let two_is : app_of c.in_ok-two.two ≡ with_subcommand (with_subcommand bare_app (command_app (codes "run")).top) (command_app (codes "page")).top =
    c.in_ok-two.ensures.shape page_own ∙ ap₂ with_subcommand one_is (ap (λ (a : App). a.top) page_is) in
    IfOk-weaker c.subcommand-3.result _ _ (λ m h. h.shape gen_own ∙ ap₂ with_subcommand two_is (ap (λ (a : App). a.top) gen_is)) c.subcommand-3.ensures
