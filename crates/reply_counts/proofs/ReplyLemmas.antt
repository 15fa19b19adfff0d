-- The counts of answers with one more.
use Rattle.std.proofs.Common.{◌≡◌, ℕ, ◌+◌, Bool, cond, Option, Some, None, List, [], ◌∷◌, ◌++◌, length, refl, ap, ◌∙◌, arith}
use Rattle.std.specs.Prelude.{count_by}
use Rattle.std.specs.List.{AllByRecursion}
use Rattle.std.proofs.lemmas.List.Sums.{sum_by-append, sum_by-cons}
use Rattle.map_history.specs.LegalReport.{is_space_full}
use Rattle.map_history.specs.Map.{Pair}
use Rattle.map_history.specs.Operation.{Ask, Get, Make, Seek, Scan}
use Rattle.map_history.specs.Reply.{MapReply, Value, Row, Done, Absent, Duplicate}
use Rattle.map_history.specs.Report.{Columns, Answer, AnswerLine, Replied, LogFull, SpaceFull, Scanned}
use Rattle.map_history.specs.Told.{answer_of, replied_at, said}
use Rattle.map_history.specs.declared.columns.How.{How}
use Rattle.map_history.specs.declared.columns.Note.{Note}
use Rattle.map_history.specs.declared.reply.Reply.{Reply}
use Rattle.map_history.specs.declared.reply.Reply.TheVariants as word
use Rattle.map_history.specs.declared.reply.Told.{Told}
use Rattle.reply_counts.specs.declared.counting.ReplyCounts.{ReplyCounts}
use Rattle.reply_counts.specs.Laws.{IsCounted}
use Rattle.reply_counts.specs.Replies.{is_made, is_found, is_absent, is_duplicate, replies_in, with_reply}

abbrev one_if : Bool → ℕ
one_if b = cond b 1 0

-- the word of a reply
abbrev word_of : MapReply → Reply
word_of (Value value) = word.Found
word_of (Row key value) = word.Found
word_of Done = word.Ok
word_of Absent = word.Absent
word_of Duplicate = word.Duplicate

-- counts with what an answer adds to each
abbrev with_answer : ReplyCounts → Answer → ReplyCounts
with_answer counts a = record {
  ok = counts.ok + one_if (is_made a);
  found = counts.found + one_if (is_found a);
  absent = counts.absent + one_if (is_absent a);
  duplicate = counts.duplicate + one_if (is_duplicate a);
  full = counts.full + one_if (is_space_full a);
}

counted_last : (p : AnswerLine → Bool) (answers : List AnswerLine) (a : AnswerLine) → count_by p (answers ++ a ∷ []) ≡ count_by p answers + one_if (p a)
counted_last p answers a = sum_by-append (λ (x : AnswerLine). one_if (p x)) answers (a ∷ []) ∙ (let one = sum_by-cons (λ (x : AnswerLine). one_if (p x)) a [] in omega (arith, one))

one_behind : (answers : List AnswerLine) (a : AnswerLine) → replies_in (answers ++ a ∷ []) ≡ with_answer (replies_in answers) a.answer
one_behind answers a = λ i. record {
  ok = counted_last (λ (x : AnswerLine). is_made x.answer) answers a i;
  found = counted_last (λ (x : AnswerLine). is_found x.answer) answers a i;
  absent = counted_last (λ (x : AnswerLine). is_absent x.answer) answers a i;
  duplicate = counted_last (λ (x : AnswerLine). is_duplicate x.answer) answers a i;
  full = counted_last (λ (x : AnswerLine). is_space_full x.answer) answers a i;
}

-- counts are the same where each number is
same_counts : (x y : ReplyCounts) → x.ok ≡ y.ok → x.found ≡ y.found → x.absent ≡ y.absent → x.duplicate ≡ y.duplicate → x.full ≡ y.full → x ≡ y
same_counts x y a b c d e = λ i. record { ok = a i; found = b i; absent = c i; duplicate = d i; full = e i }

-- what an answer that is a reply of the map adds
replied_adds : (counts : ReplyCounts) (reply : MapReply) (point : ℕ) (columns : Columns) → with_answer counts (Replied reply point columns) ≡ with_reply counts (word_of reply)
replied_adds counts (Value value) point columns = same_counts _ _ (omega arith) refl (omega arith) (omega arith) (omega arith)
replied_adds counts (Row key value) point columns = same_counts _ _ (omega arith) refl (omega arith) (omega arith) (omega arith)
replied_adds counts Done point columns = same_counts _ _ refl (omega arith) (omega arith) (omega arith) (omega arith)
replied_adds counts Absent point columns = same_counts _ _ (omega arith) (omega arith) refl (omega arith) (omega arith)
replied_adds counts Duplicate point columns = same_counts _ _ (omega arith) (omega arith) (omega arith) refl (omega arith)

-- the reply of the map that is said with a word has this word
said_word : (ask : Ask) (word : Reply) (row : Pair) (reply : MapReply) → said ask word row ≡ Some reply → word_of reply ≡ word
said_word (Get key) word.Found row reply e = ap word_of (let same : reply ≡ Value row.value = cc in same)
said_word (Seek mode tuple) word.Found row reply e = ap word_of (let same : reply ≡ Row row.key row.value = cc in same)
said_word (Make change) word.Found row reply e = absurd (let none : None ≡ Some reply = e in cc)
said_word (Scan from to limit) word.Found row reply e = absurd (let none : None ≡ Some reply = e in cc)
said_word ask word.Absent row reply e = ap word_of (let same : reply ≡ Absent = cc in same)
said_word ask word.Ok row reply e = ap word_of (let same : reply ≡ Done = cc in same)
said_word ask word.Duplicate row reply e = ap word_of (let same : reply ≡ Duplicate = cc in same)
said_word ask word.SpaceFull row reply e = absurd (let none : None ≡ Some reply = e in cc)
said_word ask (word.LogFull n) row reply e = absurd (let none : None ≡ Some reply = e in cc)

-- what a reply at a point adds
said_adds : (counts : ReplyCounts) (word : Reply) (said : Option MapReply) (point : Option ℕ) (columns : Columns) (answer : Answer) → ((reply : MapReply) → said ≡ Some reply → word_of reply ≡ word) → replied_at said point columns ≡ Some answer → with_answer counts answer ≡ with_reply counts word
said_adds counts word None point columns answer has e = absurd (let none : None ≡ Some answer = e in cc)
said_adds counts word (Some reply) None columns answer has e = absurd (let none : None ≡ Some answer = e in cc)
said_adds counts word (Some reply) (Some point) columns answer has e =
    ap (with_answer counts) (let same : answer ≡ Replied reply point columns = cc in same) ∙ replied_adds counts reply point columns ∙ ap (with_reply counts) (has reply refl)

-- what an answer adds
answer_adds : (counts : ReplyCounts) (ask : Ask) (reply : Reply) (point : Option ℕ) (how : How) (note : Note) (row : Pair) (answer : Answer) → answer_of ask (record { reply = reply; point = point; how = how; note = note }) row ≡ Some answer → with_answer counts answer ≡ with_reply counts reply
answer_adds counts ask word.Ok point how note row answer e = said_adds counts word.Ok (said ask word.Ok row) point (record { how = how; note = note }) answer (said_word ask word.Ok row) e
answer_adds counts ask word.Found point how note row answer e = said_adds counts word.Found (said ask word.Found row) point (record { how = how; note = note }) answer (said_word ask word.Found row) e
answer_adds counts ask word.Absent point how note row answer e = said_adds counts word.Absent (said ask word.Absent row) point (record { how = how; note = note }) answer (said_word ask word.Absent row) e
answer_adds counts ask word.Duplicate point how note row answer e = said_adds counts word.Duplicate (said ask word.Duplicate row) point (record { how = how; note = note }) answer (said_word ask word.Duplicate row) e
answer_adds counts ask word.SpaceFull point how note row answer e = ap (with_answer counts) (let same : answer ≡ SpaceFull (record { how = how; note = note }) = cc in same) ∙ same_counts _ _ (omega arith) (omega arith) (omega arith) (omega arith) refl
answer_adds counts ask (word.LogFull n) point how note row answer e = ap (with_answer counts) (let same : answer ≡ LogFull n (record { how = how; note = note }) = cc in same) ∙ same_counts _ _ (omega arith) (omega arith) (omega arith) (omega arith) (omega arith)

pub counts_follow : (answers : List AnswerLine) (line : ℕ) (ask : Ask) (told : Told) (row : Pair) (answer : Answer) → answer_of ask told row ≡ Some answer → replies_in (answers ++ record { line = line; answer = answer } ∷ []) ≡ with_reply (replies_in answers) told.reply
counts_follow answers line ask told row answer e = one_behind answers (record { line = line; answer = answer }) ∙ answer_adds (replies_in answers) ask told.reply told.point told.how told.note row answer e

-- an answer that is counted is in one count
one_count : (a : Answer) → IsCounted a → one_if (is_made a) + one_if (is_found a) + one_if (is_absent a) + one_if (is_duplicate a) + one_if (is_space_full a) ≡ 1
one_count (Replied (Value value) point columns) is = refl
one_count (Replied (Row key value) point columns) is = refl
one_count (Replied Done point columns) is = refl
one_count (Replied Absent point columns) is = refl
one_count (Replied Duplicate point columns) is = refl
one_count (LogFull n columns) is = absurd is
one_count (SpaceFull columns) is = refl
one_count (Scanned pieces) is = absurd is

pub all_counted : (answers : List AnswerLine) → AllByRecursion (λ (a : AnswerLine). IsCounted a.answer) answers → (let counts = replies_in answers in counts.ok + counts.found + counts.absent + counts.duplicate + counts.full ≡ length answers)
all_counted [] all = refl
all_counted (a ∷ answers) all =
    let rest = all_counted answers all.1 in
    let one = one_count a.answer all.0 in
    let ok = sum_by-cons (λ (x : AnswerLine). one_if (is_made x.answer)) a answers in
    let found = sum_by-cons (λ (x : AnswerLine). one_if (is_found x.answer)) a answers in
    let absent = sum_by-cons (λ (x : AnswerLine). one_if (is_absent x.answer)) a answers in
    let duplicate = sum_by-cons (λ (x : AnswerLine). one_if (is_duplicate x.answer)) a answers in
    let full = sum_by-cons (λ (x : AnswerLine). one_if (is_space_full x.answer)) a answers in
    omega (arith, rest, one, ok, found, absent, duplicate, full)
