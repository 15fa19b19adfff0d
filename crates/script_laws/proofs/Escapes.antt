-- A field that is written is read again.
use Rattle.std.proofs.Common.{◌≡◌, ℕ, ◌+◌, ◌-◌, ◌*◌, ◌/◌, ◌%◌, ◌<◌, ◌≤◌, ◌&&◌, inl, inr, not, Bool, true, false, eqb, leb, ltb, List, [], ◌∷◌, ◌++◌, Some, refl, ap, ◌∙◌, arith}
use Rattle.std.specs.List.{flat_map}
use Rattle.std.proofs.lemmas.Bool.{leb-true, le-leb, lt-leb, lt-ltb, le-ltb, ne_eqb, cases_lt}
use Rattle.map_history.specs.Text.{is_plain, hex_digit, byte_text, field_text}
use Rattle.script.specs.Grammar.{is_from, digit_of, byte_of, in_front, bytes_of, is_tilde, field_of}
use Rattle.map_history.specs.Bytes.{AreBytes}
use Rattle.script.proofs.Results.{both_so, and_false}

is_between : (low high b : ℕ) → low ≤ b → b ≤ high → is_from low high b ≡ true
is_between low high b l h = let x : leb low b ≡ true = le-leb _ _ l in let y : leb b high ≡ true = le-leb _ _ h in rw (x, y) refl

is_above : (low high b : ℕ) → high < b → is_from low high b ≡ false
is_above low high b l = and_false (leb low b) (leb b high) (lt-leb _ _ l)

pub not_so : (t : Bool) → not t ≡ true → t ≡ false
not_so true h = absurd cc
not_so false h = refl

-- what a byte that needs no escape isn't
record IsPlain (b : ℕ) : Type 0 where
  escape : eqb b 37 ≡ false
  high : b ≤ 125

plain_is : (b : ℕ) → is_plain b ≡ true → IsPlain b
plain_is b p =
    let comma = both_so ((leb 33 b && leb b 125) && not (eqb b 37)) (not (eqb b 44)) p in
    let percent = both_so (leb 33 b && leb b 125) (not (eqb b 37)) comma.0 in
    let range = both_so (leb 33 b) (leb b 125) percent.0 in
    record { escape = not_so _ percent.1; high = leb-true _ _ range.1 }

-- a digit that is written is read again
digit_again : (n : ℕ) → n < 16 → digit_of (hex_digit n) ≡ Some n
digit_again n lt =
    elim (cases_lt n 10) [
      | inl low ↦
          let small : ltb n 10 ≡ true = lt-ltb _ _ low in
          let d : is_from 48 57 (48 + n) ≡ true = is_between 48 57 (48 + n) (omega arith) (omega arith) in
          let same : 48 + n - 48 ≡ n = omega arith in
          rw (small, d, same) refl
      | inr high ↦
          let large : ltb n 10 ≡ false = le-ltb _ _ high in
          let d : is_from 48 57 (87 + n) ≡ false = is_above 48 57 (87 + n) (omega arith) in
          let l : is_from 97 102 (87 + n) ≡ true = is_between 97 102 (87 + n) (omega arith) (omega arith) in
          let same : 87 + n - 87 ≡ n = omega arith in
          rw (large, d, l, same) refl
    ]

-- a byte's two digits are read again
byte_again : (b : ℕ) → b < 256 → byte_of (hex_digit (b / 16)) (hex_digit (b % 16)) ≡ Some b
byte_again b lt =
    let high : digit_of (hex_digit (b / 16)) ≡ Some (b / 16) = digit_again (b / 16) (omega arith) in
    let low : digit_of (hex_digit (b % 16)) ≡ Some (b % 16) = digit_again (b % 16) (omega arith) in
    let whole : b / 16 * 16 + b % 16 ≡ b = omega arith in
    rw (high, low) (ap Some whole)

plain_first : (b : ℕ) (rest : List ℕ) → is_plain b ≡ true → eqb b 37 ≡ false → bytes_of (b ∷ rest) ≡ in_front (Some b) (bytes_of rest)
plain_first b [] p n = rw p refl
plain_first b (c ∷ []) p n = rw p refl
plain_first b (c ∷ d ∷ rest) p n = rw (p, n) refl

-- a byte's text stands in front of what the rest stands for
first_again : (is : Bool) (b : ℕ) (rest : List ℕ) → is_plain b ≡ is → b < 256 → bytes_of (byte_text b ++ rest) ≡ in_front (Some b) (bytes_of rest)
first_again true b rest p lt = rw p (plain_first b rest p (plain_is b p).escape)
first_again false b rest p lt = rw (p, byte_again b lt) refl

bytes_again : (bytes : List ℕ) → AreBytes bytes → bytes_of (flat_map byte_text bytes) ≡ Some bytes
bytes_again [] h = refl
bytes_again (b ∷ bytes) h =
    first_again (is_plain b) b (flat_map byte_text bytes) refl h.0 ∙ rw (bytes_again bytes h.1) refl

not_tilde : (b : ℕ) (rest : List ℕ) → b ≤ 125 → is_tilde (b ∷ rest) ≡ false
not_tilde b [] h = ne_eqb _ _ (λ is. absurd (omega arith))
not_tilde b (c ∷ rest) h = refl

-- a text that isn't `~` is read byte by byte
field_first : (is : Bool) (b : ℕ) (rest : List ℕ) → is_plain b ≡ is → field_of (byte_text b ++ rest) ≡ bytes_of (byte_text b ++ rest)
field_first true b rest p = rw (p, not_tilde b rest (plain_is b p).high) refl
field_first false b rest p = rw p refl

-- a field that is written is read again
pub field_again : (bytes : List ℕ) → AreBytes bytes → field_of (field_text bytes) ≡ Some bytes
field_again [] h = refl
field_again (b ∷ bytes) h = field_first (is_plain b) b (flat_map byte_text bytes) refl ∙ bytes_again (b ∷ bytes) h
