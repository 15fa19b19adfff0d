-- A change that writes a row.
use Rattle.std.proofs.Common.{◌≡◌, ℕ, List, true, false, sym, subst}
use Rattle.std.specs.Str.{bytes_eq}
use Rattle.script.specs.Pieces.{pieces_left}
use Rattle.report_reading.specs.Rows.{row_seen}
use Rattle.report_reading.proofs.ToldLemmas.{put_told, set_told}
use Rattle.report_reading.proofs.entry_line.tell_change.Goals as goal

pub returns-then-eq-2 : goal.returns-then-eq-2
returns-then-eq-2 c =
    let verb = c.in-Some.verb.now in
    let is = subst (λ (word : List ℕ). bytes_eq verb word ≡ true) c.as_slice-2.ensures (sym c.if-eq-2.ensures) in
    rw c.in-Some.ensures.steps (put_told c.args.fields verb (pieces_left c.next.new.self) (row_seen (c.in_ok-key-2.key, c.in_ok-key-2.value)) is c.in_ok-key-2.ensures)

pub returns-then-eq-3 : goal.returns-then-eq-3
returns-then-eq-3 c =
    let verb = c.in-Some.verb.now in
    let other = subst (λ (word : List ℕ). bytes_eq verb word ≡ false) c.as_slice-2.ensures (sym c.if-eq-2.ensures) in
    let is = subst (λ (word : List ℕ). bytes_eq verb word ≡ true) c.as_slice-3.ensures (sym c.if-eq-3.ensures) in
    rw c.in-Some.ensures.steps (set_told c.args.fields verb (pieces_left c.next.new.self) (row_seen (c.in_ok-key-3.key, c.in_ok-key-3.value)) other is c.in_ok-key-3.ensures)
