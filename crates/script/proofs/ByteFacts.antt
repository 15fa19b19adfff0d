-- What is read as a field, a key or a value is bytes.
use Rattle.std.proofs.Common.{◌≡◌, ℕ, ◌+◌, ◌-◌, ◌*◌, ◌<◌, ◌≤◌, ◌&&◌, Bool, true, false, cond, not, eqb, leb, List, [], ◌∷◌, length, Option, Some, None, refl, subst, arith}
use Rattle.std.specs.Prelude.{option_and_then, option_map}
use Rattle.std.specs.List.{AllByRecursion, slice_split}
use Rattle.std.proofs.lemmas.Bool.{leb-true}
use Rattle.std.proofs.lemmas.List.Splits.{length-slice_split}
use Rattle.key_tuple.specs.Order.{FieldList}
use Rattle.map_history.specs.Text.{is_plain}
use Rattle.script.specs.Grammar.{is_from, plain, digit_of, byte_of, in_front, bytes_of, is_tilde, field_of, fields_in, tuple_of}
use Rattle.map_history.specs.Bytes.{AreBytes, AreFields}
use Rattle.script.proofs.Results.{given, both_so}

-- what holds of the first and of the others holds of each
in_front_each : {A : Type 0} (P : A → Type 0) (first : Option A) (rest : Option (List A)) (ys : List A) → in_front first rest ≡ Some ys
    → ((x : A) → first ≡ Some x → P x) → ((xs : List A) → rest ≡ Some xs → AllByRecursion P xs) → AllByRecursion P ys
in_front_each P None rest ys h one more = absurd cc
in_front_each P (Some x) None ys h one more = absurd cc
in_front_each P (Some x) (Some xs) ys h one more =
    let is : x ∷ xs ≡ ys = cc in
    subst (λ (zs : List _). AllByRecursion P zs) is (one x refl, more xs refl)

-- a byte of a range is no larger than its end
pub upto : (low high b : ℕ) → is_from low high b ≡ true → b ≤ high
upto low high b h = leb-true _ _ (both_so (leb low b) (leb b high) h).1

plain_small : (b x : ℕ) → plain b ≡ Some x → x < 256
plain_small b x h =
    let g = given (is_plain b) b x h in
    let front = both_so ((leb 33 b && leb b 125) && not (eqb b 37)) (not (eqb b 44)) g.0 in
    let range = both_so (leb 33 b && leb b 125) (not (eqb b 37)) front.0 in
    let most : b ≤ 125 = leb-true _ _ (both_so (leb 33 b) (leb b 125) range.0).1 in
    subst (λ (k : ℕ). k < 256) g.1 (omega (arith, most))

digit_by : (p q r : Bool) (b d : ℕ) → is_from 48 57 b ≡ p → is_from 97 102 b ≡ q → is_from 65 70 b ≡ r
    → cond p (Some (b - 48)) (cond q (Some (b - 87)) (cond r (Some (b - 55)) None)) ≡ Some d → d < 16
digit_by true q r b d f g h e = let is : b - 48 ≡ d = cc in omega (arith, is, upto 48 57 b f)
digit_by false true r b d f g h e = let is : b - 87 ≡ d = cc in omega (arith, is, upto 97 102 b g)
digit_by false false true b d f g h e = let is : b - 55 ≡ d = cc in omega (arith, is, upto 65 70 b h)
digit_by false false false b d f g h e = absurd cc

digit_small : (b d : ℕ) → digit_of b ≡ Some d → d < 16
digit_small b d h = digit_by (is_from 48 57 b) (is_from 97 102 b) (is_from 65 70 b) b d refl refl refl h

two_digits : (high low : Option ℕ) (x : ℕ) → option_and_then (λ (h : ℕ). option_map (λ (l : ℕ). h * 16 + l) low) high ≡ Some x
    → ((d : ℕ) → high ≡ Some d → d < 16) → ((d : ℕ) → low ≡ Some d → d < 16) → x < 256
two_digits None low x e f g = absurd cc
two_digits (Some h) None x e f g = absurd cc
two_digits (Some h) (Some l) x e f g = let is : h * 16 + l ≡ x = cc in omega (arith, is, f h refl, g l refl)

byte_small : (high low x : ℕ) → byte_of high low ≡ Some x → x < 256
byte_small high low x h = two_digits (digit_of high) (digit_of low) x h (digit_small high) (digit_small low)

one_small : (escape : Bool) (a b c : ℕ) (text bytes : List ℕ)
    → cond escape (in_front (byte_of b c) (bytes_of text)) (in_front (plain a) (bytes_of (b ∷ c ∷ text))) ≡ Some bytes
    → ((xs : List ℕ) → bytes_of text ≡ Some xs → AreBytes xs) → ((xs : List ℕ) → bytes_of (b ∷ c ∷ text) ≡ Some xs → AreBytes xs) → AreBytes bytes
one_small true a b c text bytes h late next = in_front_each (λ (x : ℕ). x < 256) (byte_of b c) (bytes_of text) bytes h (byte_small b c) late
one_small false a b c text bytes h late next = in_front_each (λ (x : ℕ). x < 256) (plain a) (bytes_of (b ∷ c ∷ text)) bytes h (plain_small a) next

no_bytes : (bytes : List ℕ) → Some [] ≡ Some bytes → AreBytes bytes
no_bytes bytes h =
    let none : List ℕ = [] in
    let is : none ≡ bytes = cc in
    subst (λ (xs : List ℕ). AreBytes xs) is tt

bytes_small : (text bytes : List ℕ) → bytes_of text ≡ Some bytes → AreBytes bytes
bytes_small [] bytes h = no_bytes bytes h
bytes_small (a ∷ []) bytes h = in_front_each (λ (x : ℕ). x < 256) (plain a) (Some []) bytes h (plain_small a) no_bytes
bytes_small (a ∷ b ∷ []) bytes h = in_front_each (λ (x : ℕ). x < 256) (plain a) (bytes_of (b ∷ [])) bytes h (plain_small a) (λ xs e. bytes_small (b ∷ []) xs e)
bytes_small (a ∷ b ∷ c ∷ text) bytes h = one_small (eqb a 37) a b c text bytes h (λ xs e. bytes_small text xs e) (λ xs e. bytes_small (b ∷ c ∷ text) xs e)

field_by : (tilde : Bool) (text bytes : List ℕ) → cond tilde (Some []) (bytes_of text) ≡ Some bytes → AreBytes bytes
field_by true text bytes h = no_bytes bytes h
field_by false text bytes h = bytes_small text bytes h

-- a field or a value is bytes
pub field_small : (text bytes : List ℕ) → field_of text ≡ Some bytes → AreBytes bytes
field_small [] bytes h = absurd cc
field_small (a ∷ text) bytes h = field_by (is_tilde (a ∷ text)) (a ∷ text) bytes h

fields_small : (texts : List (List ℕ)) (fields : FieldList) → fields_in texts ≡ Some fields → AllByRecursion AreBytes fields
fields_small [] fields h =
    let none : FieldList = [] in
    let is : none ≡ fields = cc in
    subst (λ (f : FieldList). AllByRecursion AreBytes f) is tt
fields_small (text ∷ texts) fields h = in_front_each AreBytes (field_of text) (fields_in texts) fields h (field_small text) (λ xs e. fields_small texts xs e)

in_front_some : (first : Option (List ℕ)) (rest : Option FieldList) (fields : FieldList) → in_front first rest ≡ Some fields → 0 < length fields
in_front_some None rest fields h = absurd cc
in_front_some (Some x) None fields h = absurd cc
in_front_some (Some x) (Some xs) fields h =
    let is : x ∷ xs ≡ fields = cc in
    subst (λ (f : FieldList). 0 < length f) is (omega arith)

some_fields : (texts : List (List ℕ)) (fields : FieldList) → 0 < length texts → fields_in texts ≡ Some fields → 0 < length fields
some_fields [] fields lt h = absurd (omega (arith, lt))
some_fields (text ∷ texts) fields lt h = in_front_some (field_of text) (fields_in texts) fields h

-- a key or a tuple has a field, and each is bytes
pub tuple_written : (word : List ℕ) (fields : FieldList) → tuple_of word ≡ Some fields → AreFields fields
tuple_written word fields h =
    let texts = slice_split (λ (b : ℕ). eqb b 44) word in
    record { some = some_fields texts fields (omega (arith, length-slice_split (λ (b : ℕ). eqb b 44) word)) h; bytes = fields_small texts fields h }
