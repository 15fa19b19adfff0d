-- The line of an answer is read again, where no scan was asked.
use Rattle.std.proofs.Common.{◌≡◌, ℕ, ◌<◌, ◌^◌, Bool, true, false, ◌&&◌, ltb, Option, Some, List, [], ◌∷◌, ◌++◌, codes, refl, sym, ap, ◌∙◌, arith}
use Rattle.std.specs.Prelude.{option_and_then, option_map}
use Rattle.std.specs.Fmt.{decimal}
use Rattle.std.specs.List.{AllByRecursion}
use Rattle.key_tuple.specs.Order.{FieldList}
use Rattle.map_history.specs.Bytes.{AreFields}
use Rattle.map_history.specs.declared.columns.How.{How}
use Rattle.map_history.specs.declared.columns.How.TheVariants as how
use Rattle.map_history.specs.declared.columns.Note.{Note}
use Rattle.map_history.specs.declared.columns.Note.TheVariants as note
use Rattle.map_history.specs.LegalReport.{has_form}
use Rattle.map_history.specs.Map.{Put, Set, Del}
use Rattle.map_history.specs.Operation.{Ask, Get, Make, Seek, Scan, is_scan}
use Rattle.map_history.specs.Reply.{MapReply, Value, Row, Done, Absent, Duplicate}
use Rattle.map_history.specs.Report.{Columns, ScanPiece, Answer, Replied, LogFull, SpaceFull, Scanned, unlearnt}
use Rattle.map_history.specs.Spelling.{reply_words, column_words, answer_text}
use Rattle.map_history.specs.Text.{field_text, key_text, point_text}
use Rattle.map_history.specs.Words.{how_text, note_text}
use Rattle.report_laws.specs.SpellingLaws.{IsSmallAnswer}
use Rattle.report_laws.proofs.TextLemmas.{decimal_in, point_in, key_in, value_in, columns_in}
use Rattle.report_laws.proofs.PieceLemmas.{IsWord}
use Rattle.script.specs.Grammar.{field_of, tuple_of}
use Rattle.script_laws.proofs.Escapes.{field_again}
use Rattle.script_laws.proofs.Commas.{key_again}
use Rattle.audit_law.specs.Verdicts.{IsKey, TellsRow, PrintsRows}
use Rattle.line_forms.specs.LineForms.{IsLineForm, in_line}
use Rattle.line_forms.specs.Anew.{words_of}
use Rattle.line_forms.proofs.AnewLemmas.{both_true, anew_form, words_again}
use Rattle.report_forms.specs.Limits.{is_key, is_value}
use Rattle.report_forms.specs.Answers.{how_named, note_named, columns_told, point_told, answer_told, IsAnswerTo, is_small, tells_row, prints_row, is_answer_to, read_answer, AnswersAreRead}
use Rattle.report_forms.proofs.LimitLemmas.{below, is_below, key_is, key_passes, value_is, value_passes}
use Rattle.report_forms.proofs.NumberLemmas.{number_again}

how_again : (h : How) → how_named (how_text h) ≡ h
how_again how.Dash = refl
how_again how.Hit = refl
how_again how.Off = refl
how_again how.Cold = refl
how_again how.Short = refl
how_again how.PartBusy = refl
how_again how.NoEntry = refl
how_again how.BlockBusy = refl
how_again how.Clock = refl
how_again how.Unequal = refl
how_again how.ByClock = refl
how_again how.ByBusy = refl
how_again how.ByMoved = refl
how_again how.ByLast = refl

note_again : (n : Note) → note_named (note_text n) ≡ n
note_again note.Dash = refl
note_again note.No = refl
note_again note.Built = refl
note_again note.Same = refl
note_again note.Arena = refl
note_again note.Raced = refl
note_again note.Worn = refl

pub columns_again : (c : Columns) → columns_told (how_text c.how) (note_text c.note) ≡ c
columns_again c = λ i. record { how = how_again c.how i; note = note_again c.note i }

-- the tests say what the types say
is_told : (fields : ℕ) (reply : MapReply) → tells_row fields reply ≡ true → TellsRow fields reply
is_told fields (Value v) t = value_is v t
is_told fields (Row k v) t = let a = both_true (is_key fields k) (is_value v) t in (key_is fields k a.0, value_is v a.1)
is_told fields Done t = tt
is_told fields Absent t = tt
is_told fields Duplicate t = tt

told_passes : (fields : ℕ) (reply : MapReply) → TellsRow fields reply → tells_row fields reply ≡ true
told_passes fields (Value v) h = value_passes v h
told_passes fields (Row k v) h = rw (key_passes fields k h.0) (value_passes v h.1)
told_passes fields Done h = refl
told_passes fields Absent h = refl
told_passes fields Duplicate h = refl

small_is : (fields : ℕ) (answer : Answer) → is_small answer ≡ true → prints_row fields answer ≡ true → IsSmallAnswer answer × PrintsRows fields answer
small_is fields (Replied reply point columns) s r = (below point (2 ^ 64) s, is_told fields reply r)
small_is fields (LogFull n columns) s r = (below n (2 ^ 64) s, tt)
small_is fields (SpaceFull columns) s r = (tt, tt)
small_is fields (Scanned pieces) s r = absurd cc

answer_is : (fields : ℕ) (ask : Ask) (answer : Answer) → is_answer_to fields ask answer ≡ true → IsAnswerTo fields ask answer
answer_is fields ask answer t =
    let a = both_true (has_form ask answer && is_small answer) (prints_row fields answer) t in
    let b = both_true (has_form ask answer) (is_small answer) a.0 in
    let both = small_is fields answer b.1 a.1 in
    record { form = b.0; small = both.0; rows = both.1 }

-- only a scan is answered in pieces
pub no_pieces : (ask : Ask) (pieces : List ScanPiece) → is_scan ask ≡ false → has_form ask (Scanned pieces) ≡ true → ⊥
no_pieces (Scan from to limit) pieces other form = absurd cc
no_pieces (Get k) pieces other form = absurd cc
no_pieces (Make (Put k v)) pieces other form = absurd cc
no_pieces (Make (Set k v)) pieces other form = absurd cc
no_pieces (Make (Del k)) pieces other form = absurd cc
no_pieces (Seek mode tuple) pieces other form = absurd cc

answer_passes : (fields : ℕ) (ask : Ask) → is_scan ask ≡ false → (answer : Answer) → IsAnswerTo fields ask answer → is_answer_to fields ask answer ≡ true
answer_passes fields ask other (Replied reply point columns) h = rw (h.form, is_below point (2 ^ 64) h.small) (told_passes fields reply h.rows)
answer_passes fields ask other (LogFull n columns) h = rw (h.form, is_below n (2 ^ 64) h.small) refl
answer_passes fields ask other (SpaceFull columns) h = rw h.form refl
answer_passes fields ask other (Scanned pieces) h = absurd (no_pieces ask pieces other h.form)

-- an answer is read again
module _ (fields number : ℕ) (ask : Ask) (some : 0 < fields) (fits : number < 2 ^ 64) (other : is_scan ask ≡ false) where
  fields_are : (k : FieldList) → IsKey fields k → AreFields k
  fields_are k h = record { some = omega (arith, h.count, some); bytes = h.bytes }

  -- the words of the line of a reply
  replied : (reply : MapReply) (point : ℕ) (columns : Columns) → point < 2 ^ 64 → AllByRecursion IsWord (reply_words reply ++ point_text point ∷ column_words columns)
      → words_of (answer_text number (Replied reply point columns)) ≡ decimal number ∷ (reply_words reply ++ point_text point ∷ column_words columns)
  replied reply point columns small all = words_again (decimal number) (reply_words reply ++ point_text point ∷ column_words columns) (decimal_in number fits, all)

  behind : (point : ℕ) (columns : Columns) → point < 2 ^ 64 → AllByRecursion IsWord (point_text point ∷ column_words columns)
  behind point columns small = let c = columns_in columns in (point_in point small, (c.0, (c.1, tt)))

  again : (answer : Answer) → IsAnswerTo fields ask answer → answer_told (words_of (answer_text number answer)) ≡ Some answer
  again (Replied (Value v) point c) h =
      ap answer_told (replied (Value v) point c h.small (refl, (value_in v, behind point c h.small)))
      ∙ (ap (option_map (λ (w : List ℕ). Replied (Value w) (point_told (point_text point)) (columns_told (how_text c.how) (note_text c.note)))) (field_again v h.rows.bytes)
      ∙ (λ i. Some (Replied (Value v) (number_again point h.small i) (columns_again c i))))
  again (Replied (Row k v) point c) h =
      ap answer_told (replied (Row k v) point c h.small (refl, (key_in k, (value_in v, behind point c h.small))))
      ∙ (ap (option_and_then (λ (j : FieldList). option_map (λ (w : List ℕ). Replied (Row j w) (point_told (point_text point)) (columns_told (how_text c.how) (note_text c.note))) (field_of (field_text v)))) (key_again k (fields_are k h.rows.0))
      ∙ (ap (option_map (λ (w : List ℕ). Replied (Row k w) (point_told (point_text point)) (columns_told (how_text c.how) (note_text c.note)))) (field_again v h.rows.1.bytes)
      ∙ (λ i. Some (Replied (Row k v) (number_again point h.small i) (columns_again c i)))))
  again (Replied Done point c) h =
      ap answer_told (replied Done point c h.small (refl, behind point c h.small)) ∙ (λ i. Some (Replied Done (number_again point h.small i) (columns_again c i)))
  again (Replied Absent point c) h =
      ap answer_told (replied Absent point c h.small (refl, behind point c h.small)) ∙ (λ i. Some (Replied Absent (number_again point h.small i) (columns_again c i)))
  again (Replied Duplicate point c) h =
      ap answer_told (replied Duplicate point c h.small (refl, behind point c h.small)) ∙ (λ i. Some (Replied Duplicate (number_again point h.small i) (columns_again c i)))
  again (LogFull n c) h =
      let cs = columns_in c in
      ap answer_told (words_again (decimal number) (codes "log-full" ∷ decimal n ∷ column_words c) (decimal_in number fits, (refl, (decimal_in n h.small, (cs.0, (cs.1, tt))))))
      ∙ (λ i. Some (LogFull (number_again n h.small i) (columns_again c i)))
  again (SpaceFull c) h =
      let cs = columns_in c in
      ap answer_told (words_again (decimal number) (codes "space-full" ∷ column_words c) (decimal_in number fits, (refl, (cs.0, (cs.1, tt))))) ∙ (λ i. Some (SpaceFull (columns_again c i)))
  again (Scanned pieces) h = absurd (no_pieces ask pieces other h.form)

-- some answer
some_answer : (ask : Ask) → is_scan ask ≡ false → (answer : Answer) × ((fields : ℕ) → IsAnswerTo fields ask answer)
some_answer (Get k) other = (Replied Absent 0 unlearnt, λ fields. record { form = refl; small = omega arith; rows = tt })
some_answer (Make (Put k v)) other = (Replied Done 0 unlearnt, λ fields. record { form = refl; small = omega arith; rows = tt })
some_answer (Make (Set k v)) other = (Replied Done 0 unlearnt, λ fields. record { form = refl; small = omega arith; rows = tt })
some_answer (Make (Del k)) other = (Replied Done 0 unlearnt, λ fields. record { form = refl; small = omega arith; rows = tt })
some_answer (Seek mode tuple) other = (Replied Absent 0 unlearnt, λ fields. record { form = refl; small = omega arith; rows = tt })
some_answer (Scan from to limit) other = absurd cc

pub answers_are_read : AnswersAreRead
answers_are_read fields number ask some fits other =
    let one = some_answer ask other in
    anew_form (IsAnswerTo fields ask) (λ (line : List ℕ). answer_told (words_of line)) (is_answer_to fields ask) (answer_text number) one.0 (one.1 fields)
    (again fields number ask some fits other) (answer_passes fields ask other) (answer_is fields ask)
