-- What is put of a change.
use Rattle.std.proofs.Common.{◌≡◌, ℕ, Result, List, ◌∷◌, ◌++◌, decimal, sym, subst}
use Rattle.std.specs.Prelude.{OnOk}
use Rattle.change_log.specs.Log.{ChangeNote}
use Rattle.map_history.specs.Operation.{operation_of}
use Rattle.map_history.specs.Text.{line_of}
use Rattle.map_history.specs.declared.op.Op.{Op}
use Rattle.report_text.specs.Printed.{noted_line, noted_text}

-- the line of a change that is asked for by this operation
abbrev pub asked_text : ℕ → ℕ → ℕ → Op → List ℕ
asked_text number lane line operation = noted_text (record { number = number; lane = lane; line = record { line = line; op = operation_of operation } })

-- the words of a change are put, by what was put for its numbers and its words
pub words_put : {T E : Type 0} (r : Result T E) (note : ChangeNote) (lane line : ℕ) (words words' : List (List ℕ)) (old new : List ℕ)
    → lane ≡ note.lane → line ≡ note.line.line → words' ≡ words
    → OnOk r (new ≡ old ++ line_of (decimal note.number ∷ decimal lane ∷ decimal line ∷ words'))
    → OnOk r (new ≡ old ++ noted_line note words)
words_put r note lane line words words' old new same_lane same_line same_words put =
    subst (λ (t : List ℕ). OnOk r (new ≡ old ++ t)) (λ i. line_of (decimal note.number ∷ decimal (same_lane i) ∷ decimal (same_line i) ∷ same_words i)) put

-- the change is put where its words are
pub change_put : {T E : Type 0} (r : Result T E) (note : ChangeNote) (words : List (List ℕ)) (old new : List ℕ)
    → noted_text note ≡ noted_line note words
    → OnOk r (new ≡ old ++ noted_line note words)
    → OnOk r (new ≡ old ++ noted_text note)
change_put r note words old new spelled put = subst (λ (t : List ℕ). OnOk r (new ≡ old ++ t)) (sym spelled) put
