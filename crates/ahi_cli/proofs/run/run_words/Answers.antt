use Rattle.std.proofs.Common.{◌≡◌, ◌∙◌, refl, sym, ap, map, length, arith, Some, None}
use Rattle.std.proofs.lemmas.List.{length-map}
use Rattle.std.specs.Option.{option_map}
use Rattle.std.specs.String.{string_bytes}
use Rattle.ahi_cli.specs.declared.stop.Stop.TheVariants as stop
use Rattle.ahi_cli.specs.Ends.{output_of}
use Rattle.ahi_cli.specs.Run.{Asked, asked_of, IsReportOf, IsReportBy, Reports, ReportsBy, Stops}
use Rattle.ahi_cli.specs.Scripts.{TellsScript, RefusesSizes}
use Rattle.ahi_cli.specs.Words.{accepted, names_of}
use Rattle.ahi_cli.proofs.ScriptLemmas.{is_script, tells, refuses_sizes}
use Rattle.ahi_cli.proofs.EndsLemmas.{refused_ends, reading_stops, ends_as, leaves_as, leaves_none}
use Rattle.ahi_cli.proofs.run.run_words.Goals as goal

pub returns-in-Ok-clause-ends : goal.returns-in-Ok-clause-ends
returns-in-Ok-clause-ends g c =
    let asked : Asked = asked_of (map string_bytes c.args.words.now) g.F.Shelf c.args.shelf.now c.read_script.new.shelf in
    let script = c.in-Ok.script in
    let names = names_of c.in-Some.command in
    let accepts : accepted asked.words ≡ Some names = sym c.accept.ensures.accepted ∙ ap (option_map names_of) c.in-Some.is in
    let count : length script.lanes.items ≡ length names.1 = omega (arith, c.in-Ok.ensures.lanes, script.lanes.ok.0, length-map c.in-Some.command.lanes.now string_bytes) in
    ends_as (TellsScript IsReportOf script) (Reports asked) (RefusesSizes script) (Stops asked) (output_of g.K.Sink c.args.sink.now c.run_script.new.sink) c.run_script.result
    (λ text told. tells IsReportOf asked names script text accepts c.in-Ok.ensures.ok count told)
    (λ refusal refused. refuses_sizes asked names script refusal accepts c.in-Ok.ensures.ok count refused)
    c.run_script.ensures.ends

pub returns-in-Ok-clause-trail : goal.returns-in-Ok-clause-trail
returns-in-Ok-clause-trail g c =
    let asked : Asked = asked_of (map string_bytes c.args.words.now) g.F.Shelf c.args.shelf.now c.read_script.new.shelf in
    let script = c.in-Ok.script in
    let names = names_of c.in-Some.command in
    let accepts : accepted asked.words ≡ Some names = sym c.accept.ensures.accepted ∙ ap (option_map names_of) c.in-Some.is in
    let count : length script.lanes.items ≡ length names.1 = omega (arith, c.in-Ok.ensures.lanes, script.lanes.ok.0, length-map c.in-Some.command.lanes.now string_bytes) in
    leaves_as (λ pass. TellsScript (IsReportBy pass) script) (λ pass. ReportsBy pass asked) (output_of g.K.Sink c.args.sink.now c.run_script.new.sink) c.run_script.new.trail c.run_script.result
    (λ pass text told. tells (IsReportBy pass) asked names script text accepts c.in-Ok.ensures.ok count told)
    c.run_script.ensures.trail

pub returns-in-Err-clause-ends : goal.returns-in-Err-clause-ends
returns-in-Err-clause-ends g c =
    let asked : Asked = asked_of (map string_bytes c.args.words.now) g.F.Shelf c.args.shelf.now c.read_script.new.shelf in
    let accepts : accepted asked.words ≡ Some (names_of c.in-Some.command) = sym c.accept.ensures.accepted ∙ ap (option_map names_of) c.in-Some.is in
    let cause = reading_stops asked (names_of c.in-Some.command) c.in-Err.stop accepts c.in-Err.ensures.err in
    refused_ends (Reports asked) (Stops asked) (output_of g.K.Sink c.args.sink.now c.refuse-in-Err.new.sink) c.in-Err.stop c.refuse-in-Err.result cause c.refuse-in-Err.ensures.ends

pub returns-in_default-clause-ends : goal.returns-in_default-clause-ends
returns-in_default-clause-ends g c =
    let asked : Asked = asked_of (map string_bytes c.args.words.now) g.F.Shelf c.args.shelf.now c.args.shelf.now in
    let unaccepted : accepted asked.words ≡ None = sym c.in_default.ensures.accepted in
    refused_ends (Reports asked) (Stops asked) (output_of g.K.Sink c.args.sink.now c.refuse.new.sink) stop.Usage c.refuse.result (λ other. unaccepted) c.refuse.ensures.ends

pub run_script-requires-clause-script : goal.run_script-requires-clause-script
run_script-requires-clause-script g c κs lives =
    is_script c.in-Ok.script (length c.in-Some.command.lanes.now) c.in-Ok.ensures.indexes c.in-Ok.ensures.lanes c.in-Some.ensures.lanes c.in-Ok.ensures.lines

pub returns-in-Err-clause-trail : goal.returns-in-Err-clause-trail
returns-in-Err-clause-trail g c =
    let asked : Asked = asked_of (map string_bytes c.args.words.now) g.F.Shelf c.args.shelf.now c.read_script.new.shelf in
    leaves_none (λ pass. ReportsBy pass asked) (output_of g.K.Sink c.args.sink.now c.refuse-in-Err.new.sink) None c.refuse-in-Err.result refl c.refuse-in-Err.ensures.other

pub returns-in_default-clause-trail : goal.returns-in_default-clause-trail
returns-in_default-clause-trail g c =
    let asked : Asked = asked_of (map string_bytes c.args.words.now) g.F.Shelf c.args.shelf.now c.args.shelf.now in
    leaves_none (λ pass. ReportsBy pass asked) (output_of g.K.Sink c.args.sink.now c.refuse.new.sink) None c.refuse.result refl c.refuse.ensures.other
