-- The replies of the lanes of a generated run.
use Rattle.std.proofs.Common.{◌≡◌, ℕ, suc, ◌+◌, ◌<◌, ◌≤◌, Bool, true, false, cond, Some, List, [], ◌∷◌, length, refl, ap, ◌∙◌, arith}
use Rattle.std.specs.List.{slice_get, AllByRecursion, AllZip}
use Rattle.std.proofs.lemmas.List.Sums.{sum_by-cons}
use Rattle.std.proofs.lemmas.Nat.{mul-le}
use Rattle.map_history.specs.LegalReport.{Line, Answers, has_form, is_space_full}
use Rattle.map_history.specs.Operation.{Ask, Get, Make, Seek, Scan, is_scan}
use Rattle.map_history.specs.Report.{Columns, ScanPiece, Answer, Replied, LogFull, SpaceFull, Scanned, AnswerLine}
use Rattle.report_laws.specs.LineCounts.{asks_change, change_lines}
use Rattle.report_laws.specs.FullLaws.{enough_pages}
use Rattle.report_laws.proofs.LogFullLemmas.{no_log_full}
use Rattle.report_laws.proofs.SpaceFullLemmas.{no_space_full}
use Rattle.reply_counts.specs.Laws.{IsCounted}
use Rattle.reply_counts.specs.Replies.{replies_in}
use Rattle.reply_counts.proofs.ReplyLemmas.{all_counted}
use Rattle.gen_runs.specs.Laws.{RepliesAddUp, FourAddUp, four_replies}
use Rattle.gen_runs.specs.Runs.{gen_run, lanes_drawn, AreFewLines}
use Rattle.gen_runs.proofs.DrawnLemmas.{IsDrawn, lanes_are_drawn, as_many_lanes, count_upto_all}

-- pieces answer a scan alone
no_pieces : (ask : Ask) (pieces : List ScanPiece) → has_form ask (Scanned pieces) ≡ true → is_scan ask ≡ false → ⊥
no_pieces (Get key) pieces form plain = absurd (let no : false ≡ true = form in cc)
no_pieces (Make change) pieces form plain = absurd (let no : false ≡ true = form in cc)
no_pieces (Seek mode tuple) pieces form plain = absurd (let no : false ≡ true = form in cc)
no_pieces (Scan from to limit) pieces form plain = absurd (let no : true ≡ false = plain in cc)

-- an answer to a line that doesn't scan is counted, where it isn't that the list was full
is_counted : (line : Line) (answer : Answer) → has_form line.op.ask answer ≡ true → is_scan line.op.ask ≡ false → ((n : ℕ) (columns : Columns) → answer ≡ LogFull n columns → ⊥) → IsCounted answer
is_counted line (Replied reply point columns) form plain none = tt
is_counted line (LogFull n columns) form plain none = absurd (none n columns refl)
is_counted line (SpaceFull columns) form plain none = tt
is_counted line (Scanned pieces) form plain none = absurd (no_pieces line.op.ask pieces form plain)

lane_counted : (lane : List Line) (answers : List AnswerLine) → AllZip Answers lane answers → AllByRecursion (λ (line : Line). is_scan line.op.ask ≡ false) lane
    → ((place : ℕ) (line : Line) (n : ℕ) (columns : Columns) → slice_get lane place ≡ Some line → slice_get answers place ≡ Some (record { line = line.line; answer = LogFull n columns }) → ⊥)
    → AllByRecursion (λ (a : AnswerLine). IsCounted a.answer) answers × (length answers ≡ length lane)
lane_counted [] [] all plain none = (tt, refl)
lane_counted [] (a ∷ answers) all plain none = absurd all
lane_counted (line ∷ lane) [] all plain none = absurd all
lane_counted (line ∷ lane) (a ∷ answers) all plain none =
    let rest = lane_counted lane answers all.1 plain.1 (λ place. none (suc place)) in
    ((is_counted line a.answer all.0.form plain.0 (λ n columns is. none 0 line n columns refl (λ i. Some (record { line = all.0.same_line i; answer = is i }))), rest.0), ap suc rest.1)

lanes_add_up : (lines : ℕ) (lanes : List (List Line)) (told : List (List AnswerLine)) → AllZip (AllZip Answers) lanes told → AllByRecursion (IsDrawn lines) lanes
    → ((k place : ℕ) (lane : List Line) (answers : List AnswerLine) (line : Line) (n : ℕ) (columns : Columns) → slice_get lanes k ≡ Some lane → slice_get told k ≡ Some answers → slice_get lane place ≡ Some line
    → slice_get answers place ≡ Some (record { line = line.line; answer = LogFull n columns }) → ⊥)
    → AllByRecursion (λ (answers : List AnswerLine). four_replies (replies_in answers) + (replies_in answers).full ≡ lines) told
lanes_add_up lines [] [] all drawn none = tt
lanes_add_up lines [] (answers ∷ told) all drawn none = absurd all
lanes_add_up lines (lane ∷ lanes) [] all drawn none = absurd all
lanes_add_up lines (lane ∷ lanes) (answers ∷ told) all drawn none =
    let one = lane_counted lane answers all.0 drawn.0.plain (λ place line n columns at at'. none 0 place lane answers line n columns refl refl at at') in
    (all_counted answers one.0 ∙ (one.1 ∙ drawn.0.long), lanes_add_up lines lanes told all.1 drawn.1 (λ k. none (suc k)))

-- no list of changes is shorter than there are lines
few_changes : (number lanes lines : ℕ) → AreFewLines lanes lines → change_lines (gen_run number lanes lines) ≤ 1280000
few_changes number lanes lines few =
    let upto = count_upto_all (λ (line : Line). asks_change line.op.ask) lines (lanes_drawn number lanes lines) (lanes_are_drawn number lanes lines) in
    let most = mul-le (length (lanes_drawn number lanes lines)) lines 64 20000 (omega (arith, few.0, as_many_lanes number lanes lines)) few.1 in
    omega (arith, upto, most)

pub all_add_up : RepliesAddUp
all_add_up number lanes lines report few legal =
    lanes_add_up lines (lanes_drawn number lanes lines) report.lanes legal.but_room.form.lanes (lanes_are_drawn number lanes lines)
    (λ k place lane answers line n columns lane_at answers_at at at'.
    no_log_full (gen_run number lanes lines) report legal.but_room (few_changes number lanes lines few) k place line n columns (record { line_there = (lane, lane_at, at); answer_there = (answers, answers_at, at') }))

abbrev one_if : Bool → ℕ
one_if b = cond b 1 0

-- an answer of another kind isn't counted as one for which no page was left
not_full : (answer : Answer) → ((columns : Columns) → answer ≡ SpaceFull columns → ⊥) → one_if (is_space_full answer) ≡ 0
not_full (Replied reply point columns) none = refl
not_full (LogFull n columns) none = refl
not_full (SpaceFull columns) none = absurd (none columns refl)
not_full (Scanned pieces) none = refl

none_full : (lane : List Line) (answers : List AnswerLine) → AllZip Answers lane answers
    → ((place : ℕ) (line : Line) (columns : Columns) → slice_get lane place ≡ Some line → slice_get answers place ≡ Some (record { line = line.line; answer = SpaceFull columns }) → ⊥)
    → (replies_in answers).full ≡ 0
none_full lane [] all none = refl
none_full [] (a ∷ answers) all none = absurd all
none_full (line ∷ lane) (a ∷ answers) all none =
    let rest = none_full lane answers all.1 (λ place. none (suc place)) in
    let one = not_full a.answer (λ columns is. none 0 line columns refl (λ i. Some (record { line = all.0.same_line i; answer = is i }))) in
    let sum = sum_by-cons (λ (x : AnswerLine). one_if (is_space_full x.answer)) a answers in
    omega (arith, rest, one, sum)

lanes_four : (lines : ℕ) (lanes : List (List Line)) (told : List (List AnswerLine)) → AllZip (AllZip Answers) lanes told
    → AllByRecursion (λ (answers : List AnswerLine). four_replies (replies_in answers) + (replies_in answers).full ≡ lines) told
    → ((k place : ℕ) (lane : List Line) (answers : List AnswerLine) (line : Line) (columns : Columns) → slice_get lanes k ≡ Some lane → slice_get told k ≡ Some answers → slice_get lane place ≡ Some line
    → slice_get answers place ≡ Some (record { line = line.line; answer = SpaceFull columns }) → ⊥)
    → AllByRecursion (λ (answers : List AnswerLine). four_replies (replies_in answers) ≡ lines) told
lanes_four lines lanes [] all sums none = tt
lanes_four lines [] (answers ∷ told) all sums none = absurd all
lanes_four lines (lane ∷ lanes) (answers ∷ told) all sums none =
    let full = none_full lane answers all.0 (λ place line columns at at'. none 0 place lane answers line columns refl refl at at') in
    let sum = sums.0 in
    (omega (arith, full, sum), lanes_four lines lanes told all.1 sums.1 (λ k. none (suc k)))

pub all_four : FourAddUp
all_four number lanes lines report few enough legal =
    let run = gen_run number lanes lines in
    let pages : enough_pages run < run.sizes.pages + 2 = omega (arith, enough, as_many_lanes number lanes lines) in
    lanes_four lines (lanes_drawn number lanes lines) report.lanes legal.but_room.form.lanes (all_add_up number lanes lines report few legal)
    (λ k place lane answers line columns lane_at answers_at at at'.
    no_space_full run report legal pages k place line columns (record { line_there = (lane, lane_at, at); answer_there = (answers, answers_at, at') }))
