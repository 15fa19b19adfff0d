-- The lowest bit of a hash, and what a fold depends on.
use Rattle.std.proofs.Common.{◌≡◌, ◌≢◌, length, take, get_or, ℕ, ◌+◌, ◌-◌, ◌*◌, ◌%◌, ◌^◌, ◌≤◌, ◌<◌, List, [], ◌∷◌, ◌++◌, fold, flat_map, map, bit_xor, refl, sym, ap, ◌∙◌, arith}
use Rattle.std.proofs.lemmas.List.Sums.{fold-append}
use Rattle.std.proofs.lemmas.List.{take_more, flat_map_more}
use Rattle.std.proofs.lemmas.Bool.Decides.{nat_tests}
use Rattle.std.proofs.lemmas.Nat.{xor_mod, mod_below, pow_pos}
use Rattle.std.proofs.Math.Pow.{mod-mod-pow}
use Rattle.std.specs.Int.{bytes_high_first}
use Rattle.key_tuple.specs.declared.mode.Params.{Params}
use Rattle.key_tuple.specs.Order.{FieldList}
use Rattle.key_tuple.specs.Fold.{hash_byte, hash_of, with_length, whole_fields, next_bytes, prefix_bytes, fold_of, asked_fields}
use Rattle.key_tuple.specs.FoldLaws.{lowest_bits}

-- the prime is odd, so the product keeps the lowest bit
odd_product : (n : ℕ) → (n * 0x100000001b3) % 2 ^ 64 % 2 ≡ n % 2
odd_product n =
    let short : (n * 0x100000001b3) % 2 ^ 64 % 2 ≡ (n * 0x100000001b3) % 2 = mod-mod-pow (n * 0x100000001b3) 63 1 in
    omega arith

hash_byte-low : (hash byte : ℕ) → hash_byte hash byte % 2 ≡ bit_xor (hash % 2) (byte % 2)
hash_byte-low hash byte = odd_product (bit_xor hash byte) ∙ xor_mod hash byte 1

low_of : (bytes : List ℕ) (hash : ℕ) → fold hash_byte hash bytes % 2 ≡ fold bit_xor (hash % 2) (map (λ byte. byte % 2) bytes)
low_of [] hash = refl
low_of (byte ∷ bytes) hash = low_of bytes (hash_byte hash byte) ∙ ap (λ (bit : ℕ). fold bit_xor bit (map (λ byte. byte % 2) bytes)) (hash_byte-low hash byte)

pub lowest_bit : (index : ℕ) (s : FieldList) (p : Params) (bits : ℕ) → 1 ≤ bits → fold_of index s p bits % 2 ≡ lowest_bits (prefix_bytes index s p)
unfolding fold_of
lowest_bit index s p bits some =
    let hash : ℕ = hash_of (prefix_bytes index s p) in
    let rest : (bits - 1) + 1 ≡ bits = omega arith in
    let short : hash % 2 ^ bits % 2 ≡ hash % 2 = ap (λ (n : ℕ). hash % 2 ^ n % 2) (sym rest) ∙ mod-mod-pow hash (bits - 1) 1 in
    short ∙ low_of (prefix_bytes index s p) 0xcbf29ce484222325

pub fold_below : (index : ℕ) (s : FieldList) (p : Params) (bits : ℕ) → fold_of index s p bits < 2 ^ bits
unfolding fold_of
fold_below index s p bits = mod_below (hash_of (prefix_bytes index s p)) (2 ^ bits) (pow_pos bits)

pub same_prefix : (index : ℕ) (s t : FieldList) (p q : Params) (bits : ℕ) → whole_fields s p ≡ whole_fields t q → next_bytes s p ≡ next_bytes t q → fold_of index s p bits ≡ fold_of index t q bits
unfolding fold_of
same_prefix index s t p q bits whole next = λ i. hash_of (bytes_high_first 4 index ++ flat_map with_length (whole i) ++ next i) % 2 ^ bits

-- the hash of a prefix, taken part by part
pub prefix_hash : (index : ℕ) (s : FieldList) (p : Params) (start whole hash : ℕ) → start ≡ fold hash_byte 0xcbf29ce484222325 (bytes_high_first 4 index) → whole ≡ fold hash_byte start (flat_map with_length (whole_fields s p)) → hash ≡ fold hash_byte whole (next_bytes s p) → hash ≡ hash_of (prefix_bytes index s p)
prefix_hash index s p start whole hash first fields next =
    let four : List ℕ = bytes_high_first 4 index in
    let all : List ℕ = flat_map with_length (whole_fields s p) in
    next
    ∙ ap (λ (n : ℕ). fold hash_byte n (next_bytes s p)) (fields ∙ ap (λ (n : ℕ). fold hash_byte n all) first)
    ∙ sym (fold-append hash_byte (fold hash_byte 0xcbf29ce484222325 four) all (next_bytes s p))
    ∙ sym (fold-append hash_byte 0xcbf29ce484222325 four (all ++ next_bytes s p))

-- where bytes of a field are asked for, there is a field more
pub one_more_field : (p : Params) (count : ℕ) → p.bytes ≢ 0 → asked_fields p ≤ count → p.fields < count
one_more_field p count some asked = grind (arith, nat_tests)

-- the hash with one field more
pub fold_flat_more : {S X A : Type 0} (f : S → A → S) (g : X → List A) (a : S) (xs : List X) (i : ℕ) (d : X) → i < length xs
    → fold f a (flat_map g (take (i + 1) xs)) ≡ fold f (fold f a (flat_map g (take i xs))) (g (get_or xs i d))
fold_flat_more f g a xs i d below =
    ap (λ ys. fold f a (flat_map g ys)) (take_more xs i d below) ∙ ap (fold f a) (sym (flat_map_more g [] (take i xs) (get_or xs i d)))
    ∙ fold-append f a (flat_map g (take i xs)) (g (get_or xs i d))
