-- Bytes that stand for themselves, put together.
use Rattle.std.proofs.Common.{◌≡◌, ℕ, suc, ◌-◌, ◌<◌, ◌≤◌, ◌&&◌, Bool, true, false, cond, not, eqb, leb, List, [], ◌∷◌, ◌++◌, length, get_or, take, drop, Option, Some, None, refl, sym, subst, ap, ◌∙◌, arith, append_assoc}
use Rattle.std.specs.List.{All, position, position_or_len}
use Rattle.std.proofs.lemmas.Bool.{ltb-false}
use Rattle.std.proofs.lemmas.List.Quantifiers.{position-Some}
use Rattle.std.proofs.lemmas.List.{get_or-take, length-take, length-drop, take_rest, take-append-drop, append-nil}
use Rattle.std.proofs.lemmas.List.Sums.{fails_before_first}
use Rattle.map_history.specs.Text.{is_plain}
use Rattle.script.specs.Grammar.{byte_of, in_front, behind, bytes_of}
use Rattle.script.specs.Pieces.{IsFirstByte}
use Rattle.script.proofs.Results.{both_so}
use Rattle.script.proofs.Steps.{behind_in_front, behind_nothing}

abbrev pub escapes : ℕ → Bool
escapes b = not (is_plain b)

plain_so : (p : Bool) → not p ≡ false → p ≡ true
plain_so true h = refl
plain_so false h = absurd cc

no_sign : (sign : Bool) → not sign ≡ true → sign ≡ false
no_sign true h = absurd cc
no_sign false h = refl

isn't_escape : (b : ℕ) → is_plain b ≡ true → eqb b 37 ≡ false
isn't_escape b h =
    let front = both_so ((leb 33 b && leb b 125) && not (eqb b 37)) (not (eqb b 44)) h in
    no_sign (eqb b 37) (both_so (leb 33 b && leb b 125) (not (eqb b 37)) front.0).1

one_plain : (a : ℕ) (text : List ℕ) → is_plain a ≡ true → bytes_of (a ∷ text) ≡ in_front (Some a) (bytes_of text)
one_plain a [] h = rw h refl
one_plain a (b ∷ []) h = rw h refl
one_plain a (b ∷ c ∷ text) h = rw (h, isn't_escape a h) refl

-- a byte alone at the front of a text
pub plain_first : (text : List ℕ) → 0 < length text → is_plain (get_or text 0 0) ≡ true → IsFirstByte text (get_or text 0 0) (take (length text - 1) (drop 1 text))
plain_first [] lt h = absurd (omega arith)
plain_first (a ∷ text) lt h = rw (take_rest (a ∷ text) 1) (record { spelled = one_plain a text h; shorter = omega arith })

-- an escape at the front of a text
pub escape_first : (text : List ℕ) (byte : ℕ) → 3 ≤ length text → get_or text 0 0 ≡ 37 → byte_of (get_or text 1 0) (get_or text 2 0) ≡ Some byte
    → IsFirstByte text byte (take (length text - 3) (drop 3 text))
escape_first [] byte le sign h = absurd (omega arith)
escape_first (a ∷ []) byte le sign h = absurd (omega arith)
escape_first (a ∷ b ∷ []) byte le sign h = absurd (omega arith)
escape_first (a ∷ b ∷ c ∷ text) byte le sign h = rw (take_rest (a ∷ b ∷ c ∷ text) 3) (record { spelled = rw (sign, h) refl; shorter = omega arith })

-- an escape whose digits are none
pub no_digits : (text : List ℕ) → 3 ≤ length text → get_or text 0 0 ≡ 37 → byte_of (get_or text 1 0) (get_or text 2 0) ≡ None → bytes_of text ≡ None
no_digits [] le sign h = absurd (omega arith)
no_digits (a ∷ []) le sign h = absurd (omega arith)
no_digits (a ∷ b ∷ []) le sign h = absurd (omega arith)
no_digits (a ∷ b ∷ c ∷ text) le sign h = rw (sign, h) refl

in_front_behind : (x : ℕ) (run : List ℕ) (o : Option (List ℕ)) → in_front (Some x) (behind run o) ≡ behind (x ∷ run) o
in_front_behind x run None = refl
in_front_behind x run (Some xs) = refl

behind_twice : (front run : List ℕ) (o : Option (List ℕ)) → behind front (behind run o) ≡ behind (front ++ run) o
behind_twice front run None = refl
behind_twice front run (Some xs) = ap Some (sym (append_assoc front run xs))

-- a run stands in front of what the text after it stands for
run_bytes : (run text : List ℕ) → All (λ (b : ℕ). escapes b ≡ false) run → bytes_of (run ++ text) ≡ behind run (bytes_of text)
run_bytes [] text h = sym (behind_nothing (bytes_of text))
run_bytes (x ∷ run) text h =
    one_plain x (run ++ text) (plain_so (is_plain x) (h 0 0 (omega arith)))
    ∙ ap (in_front (Some x)) (run_bytes run text (λ k d lt. h (suc k) d (omega arith)))
    ∙ in_front_behind x run (bytes_of text)

-- the place of an escape is one of the text
pub escape_inside : (s : List ℕ) (i : ℕ) → position escapes s ≡ Some i → i < length s
escape_inside s i h = (position-Some escapes s i 0 h).0

-- so the escape is left
pub some_left : (s : List ℕ) (i : ℕ) → position escapes s ≡ Some i → 0 < length (take (length s - i) (drop i s))
some_left s i h = omega (arith, escape_inside s i h, length-take (length s - i) (drop i s), length-drop i s)

-- and what is behind it is shorter than the text
pub fewer_left : (s after : List ℕ) (i : ℕ) → length after < length (take (length s - i) (drop i s)) → length after < length s
fewer_left s after i h = omega (arith, h, length-take (length s - i) (drop i s), length-drop i s)

before_escape : (s : List ℕ) (i : ℕ) → position escapes s ≡ Some i → All (λ (b : ℕ). escapes b ≡ false) (take i s)
before_escape s i h k d lt =
    let below : k < i = omega (arith, length-take i s) in
    rw (get_or-take i s k d below) ((position-Some escapes s i d h).2 k below)

cut_run : (s : List ℕ) (i : ℕ) → position escapes s ≡ Some i → bytes_of s ≡ behind (take i s) (bytes_of (take (length s - i) (drop i s)))
cut_run s i h = rw (take_rest s i) (ap bytes_of (sym (take-append-drop i s)) ∙ run_bytes (take i s) (drop i s) (before_escape s i h))

-- a run and the byte after it
pub run_decoded : (front s after : List ℕ) (i byte : ℕ) → position escapes s ≡ Some i → bytes_of (take (length s - i) (drop i s)) ≡ in_front (Some byte) (bytes_of after)
    → behind front (bytes_of s) ≡ behind ((front ++ take i s) ++ byte ∷ []) (bytes_of after)
run_decoded front s after i byte h is =
    ap (behind front) (cut_run s i h ∙ ap (behind (take i s)) is)
    ∙ behind_twice front (take i s) (in_front (Some byte) (bytes_of after))
    ∙ behind_in_front (front ++ take i s) byte (bytes_of after)

-- a run before what stands for nothing
pub run_refused : (front s : List ℕ) (i : ℕ) → position escapes s ≡ Some i → bytes_of (take (length s - i) (drop i s)) ≡ None → behind front (bytes_of s) ≡ None
run_refused front s i h is = ap (behind front) (cut_run s i h ∙ ap (behind (take i s)) is)

none_cond : (b : Bool) (n : ℕ) → cond b (Some n) None ≡ None → b ≡ false
none_cond true n h = absurd cc
none_cond false n h = refl

-- a text that is one run
pub run_alone : (front s : List ℕ) → position escapes s ≡ None → behind front (bytes_of s) ≡ Some (front ++ s)
run_alone front s h =
    let long : length s ≤ position_or_len escapes s = ltb-false _ _ (none_cond _ _ h) in
    let run : bytes_of (s ++ []) ≡ Some (s ++ []) = run_bytes s [] (λ k d lt. fails_before_first escapes s k d (omega arith)) in
    ap (behind front) (subst (λ (t : List ℕ). bytes_of t ≡ Some t) (append-nil s) run)
