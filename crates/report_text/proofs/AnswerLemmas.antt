-- The line that is put for an answer is that of the answer.
use Rattle.std.proofs.Common.{◌≡◌, ℕ, Option, Some, Result, Ok, Err, IsSome, IfSome, OnOk, List, [], ◌∷◌, ◌++◌, decimal, refl, sym, subst, ap, ◌∙◌}
use Rattle.key_tuple.specs.Order.{FieldList}
use Rattle.key_tuple.specs.declared.mode.Mode.{Mode}
use Rattle.key_tuple.specs.declared.tuple.Tuple.{Tuple}
use Rattle.map_history.specs.Reply.{Absent, Done, Duplicate, Row, Value}
use Rattle.map_history.specs.Report.{Answer, LogFull, Replied, SpaceFull}
use Rattle.map_history.specs.Spelling.{answer_text}
use Rattle.map_history.specs.Text.{line_of, point_text}
use Rattle.map_history.specs.Told.{columns_told}
use Rattle.map_history.specs.Words.{how_text, note_text}
use Rattle.map_history.specs.declared.op.Op.{Op}
use Rattle.map_history.specs.declared.op.Op.TheVariants as op
use Rattle.map_history.specs.declared.reply.Reply.{Reply}
use Rattle.map_history.specs.declared.reply.Reply.TheVariants as word
use Rattle.map_history.specs.declared.reply.Told.{Told}
use Rattle.report_text.specs.Printed.{printed_answer, reply_text}

-- the line of an answer, by what was put for each of its words
pub answer_put : {T E : Type 0} (r : Result T E) (printed : Option Answer) (a : Answer) (line line' : ℕ) (word word' how how' note note' : List ℕ) (between : List (List ℕ)) (old new : List ℕ)
    → printed ≡ Some a
    → line' ≡ line
    → word' ≡ word
    → how' ≡ how
    → note' ≡ note
    → answer_text line a ≡ line_of (decimal line ∷ word ∷ (between ++ how ∷ note ∷ []))
    → OnOk r (new ≡ old ++ line_of (decimal line' ∷ word' ∷ (between ++ how' ∷ note' ∷ [])))
    → OnOk r (IfSome printed (λ a. new ≡ old ++ answer_text line a))
answer_put (Ok x) printed a line line' word word' how how' note note' between old new is same_line same_word same_how same_note spelled put =
    let words : line_of (decimal line' ∷ word' ∷ (between ++ how' ∷ note' ∷ [])) ≡ line_of (decimal line ∷ word ∷ (between ++ how ∷ note ∷ [])) =
    ap (λ (n : ℕ). line_of (decimal n ∷ word' ∷ (between ++ how' ∷ note' ∷ []))) same_line
    ∙ ap (λ (w : List ℕ). line_of (decimal line ∷ w ∷ (between ++ how' ∷ note' ∷ []))) same_word
    ∙ ap (λ (w : List ℕ). line_of (decimal line ∷ word ∷ (between ++ w ∷ note' ∷ []))) same_how
    ∙ ap (λ (w : List ℕ). line_of (decimal line ∷ word ∷ (between ++ how ∷ w ∷ []))) same_note in
    subst (λ o. IfSome o (λ a. new ≡ old ++ answer_text line a)) (sym is) (put ∙ ap (λ l. old ++ l) (words ∙ sym spelled))
answer_put (Err e) printed a line line' word word' how how' note note' between old new is same_line same_word same_how same_note spelled put = tt

-- what is printed of each reply
pub log_full : (operation : Op) (told : Told) (key : FieldList) (value : List ℕ) (length : ℕ) → told.reply ≡ word.LogFull length
    → printed_answer operation told key value ≡ Some (LogFull length (columns_told told))
log_full operation told key value length full = rw full refl

pub space_full : (operation : Op) (told : Told) (key : FieldList) (value : List ℕ) → told.reply ≡ word.SpaceFull
    → printed_answer operation told key value ≡ Some (SpaceFull (columns_told told))
space_full operation told key value full = rw full refl

pub row_found : (operation : Op) (told : Told) (key : FieldList) (value : List ℕ) (point index : ℕ) (mode : Mode) (tuple : Tuple) → told.reply ≡ word.Found
    → told.point ≡ Some point
    → operation ≡ op.Seek index mode tuple
    → printed_answer operation told key value ≡ Some (Replied (Row key value) point (columns_told told))
row_found operation told key value point index mode tuple found at seek = rw (seek, found, at) refl

-- what was found by an operation that is no seek is printed without its key
pub value_found : (operation : Op) (told : Told) (key : FieldList) (value : List ℕ) (point : ℕ)
    → told.reply ≡ word.Found
    → told.point ≡ Some point
    → ((index : ℕ) (mode : Mode) (tuple : Tuple) → operation ≡ op.Seek index mode tuple → ⊥)
    → IsSome (printed_answer operation told key value)
    → printed_answer operation told key value ≡ Some (Replied (Value value) point (columns_told told))
value_found (op.Get index k) told key value point found at other some = rw (found, at) refl
value_found (op.Put index k v) told key value point found at other some = absurd (cc (rw found at some))
value_found (op.Set index k v) told key value point found at other some = absurd (cc (rw found at some))
value_found (op.Del index k) told key value point found at other some = absurd (cc (rw found at some))
value_found (op.Seek index mode tuple) told key value point found at other some = absurd (other index mode tuple refl)
value_found (op.Scan index from to limit) told key value point found at other some = absurd (cc (rw found at some))

-- a reply without a row is printed by its word and its point
pub bare_put : {T E : Type 0} (r : Result T E) (reply : Reply) (operation : Op) (told : Told) (key : FieldList) (value : List ℕ) (point line line' : ℕ) (word' how' note' old new : List ℕ)
    → told.reply ≡ reply
    → told.point ≡ Some point
    → (told.reply ≡ word.Found → ⊥)
    → (told.reply ≡ word.SpaceFull → ⊥)
    → ((length : ℕ) → told.reply ≡ word.LogFull length → ⊥)
    → line' ≡ line
    → word' ≡ reply_text told.reply
    → how' ≡ how_text told.how
    → note' ≡ note_text told.note
    → OnOk r (new ≡ old ++ line_of (decimal line' ∷ word' ∷ point_text point ∷ how' ∷ note' ∷ []))
    → OnOk r (IfSome (printed_answer operation told key value) (λ a. new ≡ old ++ answer_text line a))
bare_put r word.Found operation told key value point line line' word' how' note' old new is at found space log e1 e2 e3 e4 put = absurd (found is)
bare_put r word.SpaceFull operation told key value point line line' word' how' note' old new is at found space log e1 e2 e3 e4 put = absurd (space is)
bare_put r (word.LogFull n) operation told key value point line line' word' how' note' old new is at found space log e1 e2 e3 e4 put = absurd (log n is)
bare_put r word.Absent operation told key value point line line' word' how' note' old new is at found space log e1 e2 e3 e4 put =
    answer_put r (printed_answer operation told key value) (Replied Absent point (columns_told told)) line line' _ word' _ how' _ note' (point_text point ∷ []) old new (rw (is, at) refl) e1 (e2 ∙ ap reply_text is) e3 e4 refl put
bare_put r word.Ok operation told key value point line line' word' how' note' old new is at found space log e1 e2 e3 e4 put =
    answer_put r (printed_answer operation told key value) (Replied Done point (columns_told told)) line line' _ word' _ how' _ note' (point_text point ∷ []) old new (rw (is, at) refl) e1 (e2 ∙ ap reply_text is) e3 e4 refl put
bare_put r word.Duplicate operation told key value point line line' word' how' note' old new is at found space log e1 e2 e3 e4 put =
    answer_put r (printed_answer operation told key value) (Replied Duplicate point (columns_told told)) line line' _ word' _ how' _ note' (point_text point ∷ []) old new (rw (is, at) refl) e1 (e2 ∙ ap reply_text is) e3 e4 refl put
