-- The lengths of parts and the bytes of fields, one after another.
use Rattle.std.proofs.Common.{◌≡◌, ℕ, zero, suc, ◌+◌, ◌-◌, ◌<◌, ◌≤◌, List, [], ◌∷◌, ◌++◌, length, take, drop, get_or, All, refl, sym, ap, ◌∙◌, arith, length-append}
use Rattle.std.specs.List.{concat}
use Rattle.std.proofs.lemmas.List.{append_assoc, append-nil, drop_more, take_more, take-append-drop}
use Rattle.std.proofs.lemmas.List.Sums.{sum_by-cons}
use Rattle.std.proofs.lemmas.List.Folds.{concat-append}
use Rattle.std.proofs.lemmas.List.Elements.{All-get_or}
use Rattle.key_tuple.specs.Order.{FieldList, byte_count}
use Rattle.compact_record.specs.declared.TheConstants.{LENGTH_LIMIT}
use Rattle.compact_record.specs.Bytes.{SpellsAt}
use Rattle.compact_record.specs.Record.{length_bytes, lengths_bytes}
use Rattle.compact_record.specs.Lengths.{EndsLength}
use Rattle.compact_record.proofs.BytesLemmas.{spells_front, spells_end}

-- the lengths of later parts come first
pub lengths-append : (xs ys : FieldList) → lengths_bytes (xs ++ ys) ≡ lengths_bytes ys ++ lengths_bytes xs
lengths-append [] ys = sym (append-nil (lengths_bytes ys))
lengths-append (x ∷ xs) ys = ap (λ (l : List ℕ). l ++ length_bytes (length x)) (lengths-append xs ys) ∙ append_assoc (lengths_bytes ys) (lengths_bytes xs) (length_bytes (length x))

-- the lengths from part i on, with that of part i last
pub lengths_from : (parts : FieldList) (i : ℕ) → i < length parts → lengths_bytes (drop i parts) ≡ lengths_bytes (drop (i + 1) parts) ++ length_bytes (length (get_or parts i []))
lengths_from parts i h = ap lengths_bytes (drop_more parts i [] h)

-- the lengths from part i on are no more than all
pub lengths_from_le : (parts : FieldList) (i : ℕ) → length (lengths_bytes (drop i parts)) ≤ length (lengths_bytes parts)
lengths_from_le parts i =
    let whole : lengths_bytes parts ≡ lengths_bytes (drop i parts) ++ lengths_bytes (take i parts) = ap lengths_bytes (sym (take-append-drop i parts)) ∙ lengths-append (take i parts) (drop i parts) in
    omega (arith, ap length whole, length-append (lengths_bytes (drop i parts)) (lengths_bytes (take i parts)))

-- the bytes of the fields up to field i, with those of field i last
pub fields_upto : (fields : FieldList) (i : ℕ) → i < length fields → concat (take (i + 1) fields) ≡ concat (take i fields) ++ get_or fields i []
fields_upto fields i h = ap concat (take_more fields i [] h) ∙ concat-append (take i fields) (get_or fields i [] ∷ []) ∙ ap (λ (l : List ℕ). concat (take i fields) ++ l) (append-nil (get_or fields i []))

-- the bytes of the fields up to field i are no more than all
pub fields_upto_le : (fields : FieldList) (i : ℕ) → length (concat (take i fields)) ≤ length (concat fields)
fields_upto_le fields i =
    let whole : concat fields ≡ concat (take i fields) ++ concat (drop i fields) = ap concat (sym (take-append-drop i fields)) ∙ concat-append (take i fields) (drop i fields) in
    omega (arith, ap length whole, length-append (concat (take i fields)) (concat (drop i fields)))

pub length-concat : (fields : FieldList) → length (concat fields) ≡ byte_count fields
length-concat [] = refl
length-concat (x ∷ xs) = length-append x (concat xs) ∙ ap (λ (n : ℕ). length x + n) (length-concat xs) ∙ sym (sum_by-cons length x xs)

-- the lengths of later parts stand first
pub later_lengths : (b : List ℕ) (at i : ℕ) (parts : FieldList) → SpellsAt b at (lengths_bytes parts) → SpellsAt b at (lengths_bytes (drop i parts))
later_lengths b at zero parts s = s
later_lengths b at (suc i) [] s = s
later_lengths b at (suc i) (x ∷ xs) s = later_lengths b at i xs (spells_front b at (lengths_bytes xs) (length_bytes (length x)) s)

-- the length of part i ends where those from it on do
pub length_there : (b : List ℕ) (at i : ℕ) (parts : FieldList) → i < length parts → All (λ part. length part < LENGTH_LIMIT) parts → SpellsAt b at (lengths_bytes parts)
    → EndsLength b (length (get_or parts i [])) (at + length (lengths_bytes (drop i parts)))
length_there b at i parts h small s =
    let cut = lengths_from parts i h in
    let here = later_lengths b at i parts s in
    let low = lengths_bytes (drop (i + 1) parts) in
    let one = length_bytes (length (get_or parts i [])) in
    let size : length (lengths_bytes (drop i parts)) ≡ length low + length one = ap length cut ∙ length-append low one in
    let begins : at + length (lengths_bytes (drop i parts)) - length one ≡ at + length low = omega arith in
    record {
      small = All-get_or (λ part. length part < LENGTH_LIMIT) parts i [] h small;
      room = omega arith;
      spells = rw begins (spells_end b at low one (rw cut at here));
    }
