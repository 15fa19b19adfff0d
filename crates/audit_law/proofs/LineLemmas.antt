-- Each line of a report that can be read is one line of its bytes.
use Rattle.std.proofs.Common.{◌≡◌, ℕ, zero, suc, ◌+◌, ◌^◌, ◌<◌, ◌≤◌, Bool, true, false, not, ◌&&◌, ◌==◌, cond, List, [], ◌∷◌, ◌++◌, length, map, codes, get_or, refl, sym, ap, ◌∙◌, arith, append_assoc, ◌/◌, ◌%◌, ltb}
use Rattle.std.proofs.lemmas.List.Folds.{list_all-append}
use Rattle.std.proofs.lemmas.Bool.Decides.{nat_tests}
use Rattle.std.specs.Fmt.{decimal, digits, digits_onto, digit_glyph}
use Rattle.std.specs.List.{list_all, flat_map, enumerate_from, join_with_byte, onto_first, AllByRecursion, sum_by}
use Rattle.list_facts.proofs.Each.{each_append}
use Rattle.map_history.specs.Map.{Pair, MapChange, Put, Set, Del}
use Rattle.map_history.specs.Reply.{MapReply, Value, Row, Done, Absent, Duplicate}
use Rattle.map_history.specs.Report.{ScanPiece, Answer, Replied, LogFull, SpaceFull, Scanned, AnswerLine, ChangeLine, IndexPart}
use Rattle.map_history.specs.Spelling.{reply_words, column_words, change_words, statistic_words}
use Rattle.map_history.specs.Statistics.{numbered_from, statistics}
use Rattle.map_history.specs.Text.{field_text, key_text, point_text, line_of}
use Rattle.map_history.specs.Words.{counted_words}
use Rattle.report_laws.specs.SpellingLaws.{IsSmallPiece, IsSmallAnswer, IsPlainList}
use Rattle.report_laws.proofs.TextLemmas.{in_line, decimal_in, point_in, value_in, key_in, columns_in}
use Rattle.report_laws.proofs.PieceLemmas.{IsWord}
use Rattle.audit_law.specs.TextLines.{TextLine, Answered, head_text, formal, piece_text_lines, pieces_of, answer_text_lines, lane_text_lines, entry_text_line, part_text_lines, stats_text_line, text_lines, ended_lines}
use Rattle.audit_law.specs.Laws.{LinesAreLines}
use Rattle.audit_law.proofs.SpellLemmas.{lines_are_spelled}

abbrev goes_on : ℕ → Bool
goes_on b = not (b == 10)

-- some bytes without a line feed, and then one
record IsOneLine (text : List ℕ) : Type 0 where
  body : List ℕ
  whole : text ≡ body ++ 10 ∷ []
  inside : list_all goes_on body ≡ true

first_true : (a b : Bool) → (a && b) ≡ true → a ≡ true
first_true a b e = grind arith

rest_true : (a b : Bool) → (a && b) ≡ true → b ≡ true
rest_true a b e = grind arith

not_false : (t : Bool) → not t ≡ true → t ≡ false
not_false t e = grind arith

cut_one : (body rest : List ℕ) → list_all goes_on body ≡ true → ended_lines (body ++ 10 ∷ rest) ≡ (body ++ 10 ∷ []) ∷ ended_lines rest
cut_one [] rest e = refl
cut_one (b ∷ body) rest e =
    let more = cut_one body rest (rest_true (goes_on b) (list_all goes_on body) e) in
    rw (not_false (b == 10) (first_true (goes_on b) (list_all goes_on body) e)) (ap (onto_first b) more)

cut_all : (lines : List TextLine) → AllByRecursion (λ (l : TextLine). IsOneLine l.text) lines → ended_lines (flat_map (λ (l : TextLine). l.text) lines) ≡ map (λ (l : TextLine). l.text) lines
cut_all [] all = refl
cut_all (l ∷ lines) all =
    let one = all.0 in
    let rest = flat_map (λ (x : TextLine). x.text) lines in
    ap (λ (t : List ℕ). ended_lines (t ++ rest)) one.whole
    ∙ (ap ended_lines (append_assoc one.body (10 ∷ []) rest)
    ∙ (cut_one one.body rest one.inside
    ∙ (ap (λ (t : List ℕ). t ∷ ended_lines rest) (sym one.whole) ∙ ap (λ (ts : List (List ℕ)). l.text ∷ ts) (cut_all lines all.1))))

-- words make a line
word_goes_on : (word : List ℕ) → IsWord word → list_all goes_on word ≡ true
word_goes_on [] e = refl
word_goes_on (b ∷ word) e = rw (rest_true (not (b == 32)) (goes_on b) (first_true (in_line b) (list_all in_line word) e)) (word_goes_on word (rest_true (in_line b) (list_all in_line word) e))

join_goes_on : (words : List (List ℕ)) → AllByRecursion IsWord words → list_all goes_on (join_with_byte 32 words) ≡ true
join_goes_on [] all = refl
join_goes_on (w ∷ []) all = word_goes_on w all.0
join_goes_on (w ∷ v ∷ words) all = list_all-append goes_on w (32 ∷ join_with_byte 32 (v ∷ words)) ∙ rw (word_goes_on w all.0) (join_goes_on (v ∷ words) all.1)

one_line : (words : List (List ℕ)) → AllByRecursion IsWord words → IsOneLine (line_of words)
one_line words all = record { body = join_with_byte 32 words; whole = refl; inside = join_goes_on words all }

-- all of a list that is made of others
each_flat : {A B : Type 0} (P : B → Type 0) (Q : A → Type 0) (f : A → List B) → ((x : A) → Q x → AllByRecursion P (f x)) → (xs : List A) → AllByRecursion Q xs → AllByRecursion P (flat_map f xs)
each_flat P Q f h [] all = tt
each_flat P Q f h (x ∷ xs) all = each_append P (f x) (flat_map f xs) (h x all.0) (each_flat P Q f h xs all.1)

each_numbered : {A : Type 0} (Q : A → Type 0) (k : ℕ) (xs : List A) → AllByRecursion Q xs → AllByRecursion (λ (x : ℕ × A). Q x.1) (enumerate_from k xs)
each_numbered Q k [] all = tt
each_numbered Q k (x ∷ xs) all = (all.0, each_numbered Q (k + 1) xs all.1)

abbrev Are : List TextLine → Type 0
Are lines = AllByRecursion (λ (l : TextLine). IsOneLine l.text) lines

row_ones : (rows : List Pair) → Are (map (λ (row : Pair). formal (line_of (codes "row" ∷ key_text row.key ∷ field_text row.value ∷ []))) rows)
row_ones [] = tt
row_ones (row ∷ rows) = (one_line (codes "row" ∷ key_text row.key ∷ field_text row.value ∷ []) (refl, (key_in row.key, (value_in row.value, tt))), row_ones rows)

piece_ones : (lane place : ℕ) (p : ℕ × ScanPiece) → IsSmallPiece p.1 → Are (piece_text_lines lane place p)
piece_ones lane place p small =
    let c = columns_in p.1.columns in
    (one_line (codes "piece" ∷ point_text p.1.point ∷ decimal (length p.1.rows) ∷ column_words p.1.columns) (refl, (point_in p.1.point small.0, (decimal_in (length p.1.rows) small.1, (c.0, (c.1, tt))))), row_ones p.1.rows)

reply_in : (reply : MapReply) (more : List (List ℕ)) → AllByRecursion IsWord more → AllByRecursion IsWord (reply_words reply ++ more)
reply_in (Value v) more all = (refl, (value_in v, all))
reply_in (Row k v) more all = (refl, (key_in k, (value_in v, all)))
reply_in Done more all = (refl, all)
reply_in Absent more all = (refl, all)
reply_in Duplicate more all = (refl, all)

answer_ones : (lane : ℕ) (a : ℕ × AnswerLine) → (a.1.line < 2 ^ 64) × IsSmallAnswer a.1.answer → Are (answer_text_lines lane a)
answer_ones lane a small = go a.1.answer small.1
  where
    number : IsWord (decimal a.1.line)
    number = decimal_in a.1.line small.0

    go : (answer : Answer) → IsSmallAnswer answer → Are (record { text = head_text a.1.line answer; subject = Answered lane a.0 } ∷ flat_map (piece_text_lines lane a.0) (enumerate_from 0 (pieces_of answer)))
    go (Replied reply point columns) s =
        let c = columns_in columns in
        (one_line (decimal a.1.line ∷ (reply_words reply ++ point_text point ∷ column_words columns)) (number, reply_in reply (point_text point ∷ column_words columns) (point_in point s, (c.0, (c.1, tt)))), tt)
    go (LogFull n columns) s =
        let c = columns_in columns in
        (one_line (decimal a.1.line ∷ codes "log-full" ∷ decimal n ∷ column_words columns) (number, (refl, (decimal_in n s, (c.0, (c.1, tt))))), tt)
    go (SpaceFull columns) s =
        let c = columns_in columns in
        (one_line (decimal a.1.line ∷ codes "space-full" ∷ column_words columns) (number, (refl, (c.0, (c.1, tt)))), tt)
    go (Scanned pieces) s = (
      one_line (decimal a.1.line ∷ codes "scan" ∷ decimal (length pieces) ∷ decimal (sum_by (λ (p : ScanPiece). length p.rows) pieces) ∷ []) (number, (refl, (decimal_in (length pieces) s.0, (decimal_in _ s.1, tt)))),
      each_flat (λ (l : TextLine). IsOneLine l.text) (λ (p : ℕ × ScanPiece). IsSmallPiece p.1) (piece_text_lines lane a.0) (piece_ones lane a.0) (enumerate_from 0 pieces) (each_numbered IsSmallPiece 0 pieces s.2),
    )

lane_ones : (lane : ℕ × List AnswerLine) → (lane.0 + 1 < 2 ^ 64) × AllByRecursion (λ (a : AnswerLine). (a.line < 2 ^ 64) × IsSmallAnswer a.answer) lane.1 → Are (lane_text_lines lane)
lane_ones lane small = (
  one_line (codes "lane" ∷ decimal (lane.0 + 1) ∷ []) (refl, (decimal_in (lane.0 + 1) small.0, tt)),
  each_flat (λ (l : TextLine). IsOneLine l.text) (λ (a : ℕ × AnswerLine). (a.1.line < 2 ^ 64) × IsSmallAnswer a.1.answer) (answer_text_lines lane.0) (answer_ones lane.0) (enumerate_from 0 lane.1)
      (each_numbered (λ (a : AnswerLine). (a.line < 2 ^ 64) × IsSmallAnswer a.answer) 0 lane.1 small.1),
)

-- their numbers are no more than how many there are
each_counted : {A : Type 0} (Q : A → Type 0) (k n : ℕ) (xs : List A) → k + length xs ≤ n → AllByRecursion Q xs → AllByRecursion (λ (x : ℕ × A). (x.0 + 1 ≤ n) × Q x.1) (enumerate_from k xs)
each_counted Q k n [] le all = tt
each_counted Q k n (x ∷ xs) le all = ((omega (arith, le), all.0), each_counted Q (k + 1) n xs (omega (arith, le)) all.1)

each_weak : {A : Type 0} (P Q : A → Type 0) → ((x : A) → P x → Q x) → (xs : List A) → AllByRecursion P xs → AllByRecursion Q xs
each_weak P Q h [] all = tt
each_weak P Q h (x ∷ xs) all = (h x all.0, each_weak P Q h xs all.1)

change_in : (c : MapChange) → AllByRecursion IsWord (change_words c)
change_in (Put k v) = (refl, (key_in k, (value_in v, tt)))
change_in (Set k v) = (refl, (key_in k, (value_in v, tt)))
change_in (Del k) = (refl, (key_in k, tt))

entry_ones : (index : ℕ) (entries : List (ℕ × ChangeLine)) → AllByRecursion (λ (e : ℕ × ChangeLine). (e.0 + 1 < 2 ^ 64) × ((e.1.lane < 2 ^ 64) × (e.1.line < 2 ^ 64))) entries → Are (map (entry_text_line index) entries)
entry_ones index [] all = tt
entry_ones index (e ∷ entries) all =
    let small = all.0 in
    (one_line (decimal (e.0 + 1) ∷ decimal e.1.lane ∷ decimal e.1.line ∷ change_words e.1.change) (decimal_in (e.0 + 1) small.0, (decimal_in e.1.lane small.1.0, (decimal_in e.1.line small.1.1, change_in e.1.change))), entry_ones index entries all.1)

part_ones : (part : ℕ × IndexPart) → IsPlainList part.1 → Are (part_text_lines part)
part_ones part plain =
    let entries = part.1.entries in
    let Small : ChangeLine → Type 0 = λ e. (e.lane < 2 ^ 64) × (e.line < 2 ^ 64) in
    let counted = each_counted Small 0 (length entries) entries (omega arith) plain.entries_small in (
      one_line (codes "changes" ∷ part.1.name ∷ decimal (length entries) ∷ []) (refl, (plain.name, (decimal_in (length entries) plain.length_small, tt))),
      entry_ones part.0 (enumerate_from 0 entries) (each_weak (λ (e : ℕ × ChangeLine). (e.0 + 1 ≤ length entries) × Small e.1) (λ (e : ℕ × ChangeLine). (e.0 + 1 < 2 ^ 64) × Small e.1) (λ e h. (omega (arith, h.0, plain.length_small), h.1)) (enumerate_from 0 entries) counted),
    )

-- the digits of any number go on
digit_in : (d : ℕ) → d < 10 → in_line (digit_glyph false d) ≡ true
digit_in d low = go (ltb d 10) refl
  where
    go : (b : Bool) → ltb d 10 ≡ b → in_line (cond b (48 + d) (87 + d)) ≡ true
    go true is = grind (arith, nat_tests)
    go false is = grind (arith, nat_tests)

both_in : (a b : Bool) → a ≡ true → b ≡ true → (a && b) ≡ true
both_in a b e f = rw e f

either_in : (b : Bool) (xs ys : List ℕ) → list_all in_line xs ≡ true → list_all in_line ys ≡ true → list_all in_line (cond b xs ys) ≡ true
either_in true xs ys x y = x
either_in false xs ys x y = y

digits_in : (k n : ℕ) (behind : List ℕ) → list_all in_line behind ≡ true → list_all in_line (digits_onto k 10 false n behind) ≡ true
digits_in zero n behind h = h
digits_in (suc k) n behind h =
    let more = both_in (in_line (digit_glyph false (n % 10))) (list_all in_line behind) (digit_in (n % 10) (omega arith)) h in
    either_in (n / 10 == 0) (digit_glyph false (n % 10) ∷ behind) (digits_onto k 10 false (n / 10) (digit_glyph false (n % 10) ∷ behind)) more (digits_in k (n / 10) (digit_glyph false (n % 10) ∷ behind) more)

number_in : (n : ℕ) → IsWord (decimal n)
unfolding digits
number_in n = digits_in 64 n [] refl

words_in : (words : List (List ℕ)) (i : ℕ) (ns : List ℕ) → AllByRecursion IsWord words → AllByRecursion IsWord (flat_map statistic_words (numbered_from i words ns))
words_in [] i ns a = tt
words_in (w ∷ words) i ns a = (a.0, (number_in (get_or ns i 0), words_in words (suc i) ns a.1))

counted_in : AllByRecursion IsWord counted_words
counted_in = (refl, (refl, (refl, (refl, (refl, (refl, (refl, (refl, (refl, (refl, (refl, (refl, (refl, (refl, (refl, (refl, (refl, (refl, tt))))))))))))))))))

stats_ones : (parts : List IndexPart) → AllByRecursion IsPlainList parts → Are (map stats_text_line parts)
stats_ones [] all = tt
stats_ones (p ∷ parts) all = (one_line (codes "stats" ∷ p.name ∷ flat_map statistic_words (statistics p.counts)) (refl, (all.0.name, words_in counted_words 0 p.counts.numbers counted_in)), stats_ones parts all.1)

pub lines_are_lines : LinesAreLines
lines_are_lines report plain = ap ended_lines (lines_are_spelled report) ∙ cut_all (text_lines report) all
  where
    Small : List AnswerLine → Type 0
    Small answers = AllByRecursion (λ (a : AnswerLine). (a.line < 2 ^ 64) × IsSmallAnswer a.answer) answers

    lanes : Are (flat_map lane_text_lines (enumerate_from 0 report.lanes))
    lanes = each_flat (λ (l : TextLine). IsOneLine l.text) (λ (x : ℕ × List AnswerLine). (x.0 + 1 < 2 ^ 64) × Small x.1) lane_text_lines lane_ones (enumerate_from 0 report.lanes)
        (each_weak (λ (x : ℕ × List AnswerLine). (x.0 + 1 ≤ length report.lanes) × Small x.1) (λ (x : ℕ × List AnswerLine). (x.0 + 1 < 2 ^ 64) × Small x.1) (λ x h. (omega (arith, h.0, plain.lanes_few), h.1)) (enumerate_from 0 report.lanes)
        (each_counted Small 0 (length report.lanes) report.lanes (omega arith) plain.lanes))

    parts : Are (flat_map part_text_lines (enumerate_from 0 report.indexes))
    parts = each_flat (λ (l : TextLine). IsOneLine l.text) (λ (x : ℕ × IndexPart). IsPlainList x.1) part_text_lines part_ones (enumerate_from 0 report.indexes) (each_numbered IsPlainList 0 report.indexes plain.lists)

    last : Are (map stats_text_line report.indexes ++ formal (line_of (codes "end" ∷ [])) ∷ [])
    last = each_append (λ (l : TextLine). IsOneLine l.text) (map stats_text_line report.indexes) (formal (line_of (codes "end" ∷ [])) ∷ []) (stats_ones report.indexes plain.lists) (one_line (codes "end" ∷ []) (refl, tt), tt)

    all : Are (text_lines report)
    all = (
      one_line (codes "ahi" ∷ codes "run" ∷ []) (refl, (refl, tt)),
      each_append (λ (l : TextLine). IsOneLine l.text) (flat_map lane_text_lines (enumerate_from 0 report.lanes)) (flat_map part_text_lines (enumerate_from 0 report.indexes) ++ (map stats_text_line report.indexes ++ formal (line_of (codes "end" ∷ [])) ∷ []))
          lanes (each_append (λ (l : TextLine). IsOneLine l.text) (flat_map part_text_lines (enumerate_from 0 report.indexes)) (map stats_text_line report.indexes ++ formal (line_of (codes "end" ∷ [])) ∷ []) parts last),
    )
