-- Names and their bytes.
use Rattle.std.proofs.Common.{◌≡◌, ◌==◌, ℕ, ◌<◌, ◌&&◌, ◌||◌, Bool, true, false, eqb, ltb, List, [], ◌∷◌, length, map, refl, sym, ap, ◌∙◌, arith, Vec, String, Global, string_bytes, vec_len}
use Rattle.std.specs.List.{All, list_all}
use Rattle.std.proofs.lemmas.Bool.{eqb-true}
use Rattle.std.proofs.lemmas.List.{length-map}
use Rattle.std.proofs.lemmas.List.Elements.{All-cons}
use Rattle.std.proofs.lemmas.List.Sums.{AllPass-from_list_all}
use Rattle.script.specs.declared.TheConstants.{MAX_NAME_BYTES}
use Rattle.script.specs.Grammar.{is_from, is_letter, is_name_byte, is_name}
use Rattle.script.proofs.ByteFacts.{upto}
use Rattle.script.proofs.Results.{both_so}

small_by : (letter digit line : Bool) (b : ℕ) → is_from 97 122 b ≡ letter → is_from 48 57 b ≡ digit → eqb b 95 ≡ line → (letter || digit || line) ≡ true → b < 128
small_by true digit line b e f g h = omega (arith, upto 97 122 b e)
small_by false true line b e f g h = omega (arith, upto 48 57 b f)
small_by false false true b e f g h = omega (arith, eqb-true b 95 g)
small_by false false false b e f g h = absurd cc

byte_small : (b : ℕ) → is_name_byte b ≡ true → b < 128
byte_small b h = small_by (is_from 97 122 b) (is_from 48 57 b) (eqb b 95) b refl refl refl h

-- a name is of small bytes
pub name_small : (name : List ℕ) → is_name name ≡ true → All (λ (b : ℕ). b < 128) name
name_small [] h = absurd cc
name_small (b ∷ bytes) h =
    let parted = both_so (is_letter b && ltb (length bytes) MAX_NAME_BYTES) (list_all is_name_byte bytes) h in
    let first = both_so (is_letter b) (ltb (length bytes) MAX_NAME_BYTES) parted.0 in
    All-cons (λ (k : ℕ). k < 128) b bytes (omega (arith, upto 97 122 b first.0)) (λ k d lt. byte_small _ (AllPass-from_list_all is_name_byte bytes parted.1 k d lt))

-- the names are none where the vector is empty
pub alike_empty : (names : Vec (String Global) Global) (empty : Bool) → empty ≡ (vec_len names == 0) → (length (map string_bytes names.items) == 0) ≡ empty
alike_empty names empty is = ap (λ (n : ℕ). n == 0) (length-map names.items string_bytes ∙ sym names.ok.0) ∙ sym is
