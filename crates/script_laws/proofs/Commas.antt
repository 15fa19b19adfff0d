-- A key that is written is read again.
use Rattle.std.proofs.Common.{◌≡◌, ℕ, ◌/◌, ◌%◌, ◌<◌, ◌&&◌, inl, inr, not, Bool, true, false, eqb, leb, ltb, List, [], ◌∷◌, ◌++◌, Some, refl, ap, ◌∙◌, arith}
use Rattle.std.specs.List.{All, AllByRecursion, flat_map, slice_split}
use Rattle.std.proofs.lemmas.Bool.{lt-ltb, le-ltb, ne_eqb, cases_lt}
use Rattle.std.proofs.lemmas.List.Elements.{All-nil, All-cons, All-append}
use Rattle.std.proofs.lemmas.List.Splits.{slice_split_none, slice_split_at}
use Rattle.key_tuple.specs.Order.{FieldList}
use Rattle.map_history.specs.Text.{is_plain, hex_digit, byte_text, field_text, key_text}
use Rattle.script.specs.Grammar.{fields_in, tuple_of}
use Rattle.map_history.specs.Bytes.{AreBytes, AreFields}
use Rattle.script.proofs.Results.{both_so}
use Rattle.script_laws.proofs.Escapes.{field_again, not_so}

abbrev no_comma : ℕ → Type 0
no_comma b = eqb b 44 ≡ false

digit_no_comma : (n : ℕ) → n < 16 → no_comma (hex_digit n)
digit_no_comma n lt =
    elim (cases_lt n 10) [
      | inl low ↦ let small : ltb n 10 ≡ true = lt-ltb _ _ low in rw small (ne_eqb _ _ (λ is. absurd (omega arith)))
      | inr high ↦ let large : ltb n 10 ≡ false = le-ltb _ _ high in rw large (ne_eqb _ _ (λ is. absurd (omega arith)))
    ]

byte_no_comma : (is : Bool) (b : ℕ) → is_plain b ≡ is → b < 256 → All no_comma (byte_text b)
byte_no_comma true b p lt =
    let ne : no_comma b = not_so _ (both_so ((leb 33 b && leb b 125) && not (eqb b 37)) (not (eqb b 44)) p).1 in
    rw p (All-cons no_comma b [] ne (All-nil no_comma))
byte_no_comma false b p lt =
    let low : List ℕ = hex_digit (b % 16) ∷ [] in
    rw p (All-cons no_comma 37 (hex_digit (b / 16) ∷ low) refl (All-cons no_comma (hex_digit (b / 16)) low (digit_no_comma (b / 16) (omega arith))
    (All-cons no_comma (hex_digit (b % 16)) [] (digit_no_comma (b % 16) (omega arith)) (All-nil no_comma))))

bytes_no_comma : (bytes : List ℕ) → AreBytes bytes → All no_comma (flat_map byte_text bytes)
bytes_no_comma [] h = All-nil no_comma
bytes_no_comma (b ∷ bytes) h = All-append no_comma (byte_text b) (flat_map byte_text bytes) (byte_no_comma (is_plain b) b refl h.0) (bytes_no_comma bytes h.1)

-- no field is written with a comma
field_no_comma : (bytes : List ℕ) → AreBytes bytes → All no_comma (field_text bytes)
field_no_comma [] h = All-cons no_comma 126 [] refl (All-nil no_comma)
field_no_comma (b ∷ bytes) h = bytes_no_comma (b ∷ bytes) h

abbrev at_comma : ℕ → Bool
at_comma b = eqb b 44

tuple_again : (x : List ℕ) (xs : FieldList) → AreBytes x → AllByRecursion AreBytes xs → tuple_of (key_text (x ∷ xs)) ≡ Some (x ∷ xs)
tuple_again x [] h g =
    let cut : slice_split at_comma (field_text x) ≡ field_text x ∷ [] = slice_split_none at_comma (field_text x) (field_no_comma x h) in
    ap fields_in cut ∙ rw (field_again x h) refl
tuple_again x (y ∷ ys) h g =
    let cut : slice_split at_comma (field_text x ++ 44 ∷ key_text (y ∷ ys)) ≡ field_text x ∷ slice_split at_comma (key_text (y ∷ ys)) =
    slice_split_at at_comma (field_text x) 44 (key_text (y ∷ ys)) (field_no_comma x h) refl in
    ap fields_in cut ∙ rw (field_again x h, tuple_again y ys g.0 g.1) refl

-- a key that is written is read again
pub key_again : (fields : FieldList) → AreFields fields → tuple_of (key_text fields) ≡ Some fields
key_again [] h = absurd (omega (arith, h.some))
key_again (x ∷ xs) h = tuple_again x xs h.bytes.0 h.bytes.1
