-- A schema and lanes that were read ask for a run whose reports are a form of lines.
use Rattle.std.proofs.Common.{◌≡◌, ℕ, ◌<◌, ◌&&◌, not, Bool, true, false, eqb, ltb, List, [], ◌∷◌, length, refl, subst, arith}
use Rattle.std.specs.List.{AllByRecursion, list_all}
use Rattle.std.proofs.lemmas.Bool.{eqb-true}
use Rattle.std.proofs.lemmas.List.Elements.{recursion_from_All}
use Rattle.map_history.specs.LegalReport.{Line}
use Rattle.report_forms.specs.Reports.{IsReadLine}
use Rattle.report_laws.specs.SpellingLaws.{IsPlainName}
use Rattle.script.specs.declared.TheConstants.{MAX_NAME_BYTES}
use Rattle.script.specs.Grammar.{is_letter, is_name, is_name_byte}
use Rattle.script.specs.Lane.{AreLaneLines, IsLaneLine}
use Rattle.script.specs.Schema.{SchemaText, IsFieldCount}
use Rattle.script.proofs.Results.{both_so}
use Rattle.report_reading.specs.Laws.{ReadRunsAreAsked, HasSmallNumber}

each : {A : Type 0} (P Q : A → Type 0) → ((x : A) → P x → Q x) → (xs : List A) → AllByRecursion P xs → AllByRecursion Q xs
each P Q f [] all = tt
each P Q f (x ∷ xs) all = (f x all.0, each P Q f xs all.1)

-- no byte of a name is a space or a line feed
name_byte : (b : ℕ) → is_name_byte b ≡ true → (not (eqb b 32) && not (eqb b 10)) ≡ true
name_byte b e = go (eqb b 32) (eqb b 10) refl refl
  where
    go : (s t : Bool) → eqb b 32 ≡ s → eqb b 10 ≡ t → (not s && not t) ≡ true
    go true t space feed = absurd (cc (subst (λ (n : ℕ). is_name_byte n ≡ true) (eqb-true b 32 space) e))
    go false true space feed = absurd (cc (subst (λ (n : ℕ). is_name_byte n ≡ true) (eqb-true b 10 feed) e))
    go false false space feed = refl

name_bytes : (bytes : List ℕ) → list_all is_name_byte bytes ≡ true → list_all (λ (b : ℕ). not (eqb b 32) && not (eqb b 10)) bytes ≡ true
name_bytes [] e = refl
name_bytes (b ∷ bytes) e = let h = both_so (is_name_byte b) (list_all is_name_byte bytes) e in rw (name_byte b h.0) (name_bytes bytes h.1)

letter_byte : (b : ℕ) → is_letter b ≡ true → is_name_byte b ≡ true
letter_byte b e = rw e refl

name_plain : (name : List ℕ) → is_name name ≡ true → IsPlainName name
name_plain [] e = refl
name_plain (b ∷ bytes) e =
    let all = both_so (is_letter b && ltb (length bytes) MAX_NAME_BYTES) (list_all is_name_byte bytes) e in
    let first = both_so (is_letter b) (ltb (length bytes) MAX_NAME_BYTES) all.0 in
    rw (name_byte b (letter_byte b first.0)) (name_bytes bytes all.1)

line_read : (s : SchemaText) (line : Line) → IsLaneLine s line → HasSmallNumber line → IsReadLine s.fields line
line_read s line is small = record { number = omega (arith, small); index = is.counted }

lines_read : (s : SchemaText) (lines : List Line) → AreLaneLines s lines → AllByRecursion HasSmallNumber lines → AllByRecursion (IsReadLine s.fields) lines
lines_read s [] are small = tt
lines_read s (line ∷ lines) are small = (line_read s line are.0 small.0, lines_read s lines are.1 small.1)

lanes_read : (s : SchemaText) (lanes : List (List Line)) → AllByRecursion (AreLaneLines s) lanes → AllByRecursion (AllByRecursion HasSmallNumber) lanes → AllByRecursion (AllByRecursion (IsReadLine s.fields)) lanes
lanes_read s [] are small = tt
lanes_read s (lines ∷ lanes) are small = (lines_read s lines are.0 small.0, lanes_read s lanes are.1 small.1)

pub read_runs_are_asked : ReadRunsAreAsked
read_runs_are_asked schema lanes is few are small = record {
  names = each (λ (name : List ℕ). is_name name ≡ true) IsPlainName name_plain schema.names (recursion_from_All (λ (name : List ℕ). is_name name ≡ true) schema.names is.named);
  few = omega (arith, few);
  counted = is.paired;
  some = each IsFieldCount (λ (count : ℕ). 0 < count) (λ count h. omega (arith, h.0)) schema.fields (recursion_from_All IsFieldCount schema.fields is.counts);
  lines = lanes_read schema lanes are small;
}
