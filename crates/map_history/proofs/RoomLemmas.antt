-- Where no answer is `space-full`, there is room.
use Rattle.std.proofs.Common.{◌≡◌, false}
use Rattle.std.specs.List.{AllByRecursion}
use Rattle.list_facts.proofs.Each.{each_get}
use Rattle.map_history.specs.Report.{AnswerLine, SpaceFull}
use Rattle.map_history.specs.LegalReport.{is_space_full}
use Rattle.map_history.specs.Laws.{NoSpaceFullHasRoom}

pub room-no_space_full : NoSpaceFullHasRoom
room-no_space_full run report none lane place line columns a =
    let plain : AnswerLine → Type 0 = λ (x : AnswerLine). is_space_full x.answer ≡ false in
    let in_lane = each_get (AllByRecursion plain) report.lanes lane a.answer_there.0 none a.answer_there.1 in
    let here : is_space_full (SpaceFull columns) ≡ false = each_get plain a.answer_there.0 place (record { line = line.line; answer = SpaceFull columns }) in_lane a.answer_there.2 in
    absurd cc
