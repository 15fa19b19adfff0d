-- Pieces and lines at their first cut.
use Rattle.std.proofs.Common.{◌≡◌, ℕ, suc, ◌+◌, ◌-◌, ◌<◌, ◌≤◌, Bool, true, false, eqb, List, [], ◌∷◌, ◌++◌, length, get_or, take, drop, refl, sym, subst, arith, add-one}
use Rattle.memchr.specs.Find.{Nowhere, NoneBefore, Passes, is_byte}
use Rattle.std.proofs.lemmas.Bool.{eqb-true, eq-eqb}
use Rattle.std.proofs.lemmas.List.Splits.{slice_split_none, slice_split_at}
use Rattle.std.proofs.lemmas.List.{get_or-take, get_or_default, length-take, take_rest}
use Rattle.std.proofs.Math.Seq.{split_at}
use Rattle.script.specs.Grammar.{lines_of}
use Rattle.script.specs.Pieces.{LacksByte, IsFirstCut, pieces_by}

abbrev is_at : ℕ → ℕ → Bool
is_at v b = eqb b v

isn't_true : (b : Bool) → ¬ (b ≡ true) → b ≡ false
isn't_true true h = absurd (h refl)
isn't_true false h = refl

-- where there is no such byte up to a place, each byte before it is another
lacks_before : (v : ℕ) (s : List ℕ) (n k d : ℕ) → n ≤ length s → Nowhere (Passes (is_byte v) s) 0 n → k < n → eqb (get_or s k d) v ≡ false
lacks_before v s n k d within none lt = rw (get_or_default s k d 0 (omega arith)) (isn't_true (eqb (get_or s k 0) v) (none k (omega arith) lt))

-- what the first place cuts
pub cut_there : (v : ℕ) (s : List ℕ) (i : ℕ) → NoneBefore (Passes (is_byte v) s) 0 (length s) i → Passes (is_byte v) s i → IsFirstCut v s (take i s) (drop (i + 1) s)
cut_there v s i h here =
    let is : get_or s i 0 ≡ v = eqb-true _ _ here in
    record {
      whole = subst (λ (b : ℕ). s ≡ take i s ++ b ∷ drop (i + 1) s) is (rw add-one (split_at s i 0 h.high));
      first = λ k d klt.
          let ki : k < i = omega (arith, length-take i s) in
          rw (get_or-take i s k d ki) (lacks_before v s i k d (omega (arith, h.high)) h.before ki);
    }

-- where there is no place, nothing is cut
pub cut_nowhere : (v : ℕ) (s : List ℕ) → Nowhere (Passes (is_byte v) s) 0 (length s) → LacksByte v s
cut_nowhere v s h k d lt = lacks_before v s (length s) k d (omega arith) h lt

-- the first piece, and the pieces of what is cut off
pub pieces_cut : (v : ℕ) (s a b : List ℕ) → IsFirstCut v s a b → pieces_by v s ≡ a ∷ pieces_by v b
pieces_cut v s a b h = rw h.whole (slice_split_at (is_at v) a v b h.first (eq-eqb v v refl))

pub pieces_whole : (v : ℕ) (s : List ℕ) → LacksByte v s → pieces_by v s ≡ s ∷ []
pieces_whole v s h = slice_split_none (is_at v) s h

lines_at : (a b : List ℕ) → LacksByte 10 a → lines_of (a ++ 10 ∷ b) ≡ a ∷ lines_of b
lines_at [] b h = refl
lines_at (x ∷ xs) b h =
    let ne : eqb x 10 ≡ false = h 0 0 (omega arith) in
    let rest : lines_of (xs ++ 10 ∷ b) ≡ xs ∷ lines_of b = lines_at xs b (λ k d lt. h (suc k) d (omega arith)) in
    rw (ne, rest) refl

-- the first line, and the lines of what is cut off
pub lines_cut : (s a b : List ℕ) → IsFirstCut 10 s a b → lines_of s ≡ a ∷ lines_of b
lines_cut s a b h = rw h.whole (lines_at a b h.first)

pub lines_whole : (x : ℕ) (s : List ℕ) → LacksByte 10 (x ∷ s) → lines_of (x ∷ s) ≡ (x ∷ s) ∷ []
lines_whole x [] h = let ne : eqb x 10 ≡ false = h 0 0 (omega arith) in rw ne refl
lines_whole x (y ∷ s) h =
    let ne : eqb x 10 ≡ false = h 0 0 (omega arith) in
    let rest : lines_of (y ∷ s) ≡ (y ∷ s) ∷ [] = lines_whole y s (λ k d lt. h (suc k) d (omega arith)) in
    rw (ne, rest) refl

pub lines_none : (s : List ℕ) → true ≡ eqb (length s) 0 → lines_of s ≡ []
lines_none [] h = refl
lines_none (x ∷ s) h = absurd (omega (arith, eqb-true _ _ (sym h)))

-- some bytes are the one line where none ends it
pub lines_last : (s : List ℕ) → 0 < length s → LacksByte 10 s → lines_of s ≡ s ∷ []
lines_last [] lt h = absurd (omega arith)
lines_last (x ∷ s) lt h = lines_whole x s h

-- the same, as `&bytes[..i]` and `&bytes[i + 1..]` stand
pub cut_parts : (v : ℕ) (s : List ℕ) (i : ℕ) → NoneBefore (Passes (is_byte v) s) 0 (length s) i → Passes (is_byte v) s i → IsFirstCut v s (take i s) (take (length s - (i + 1)) (drop (i + 1) s))
cut_parts v s i h here = rw (take_rest s (i + 1)) (cut_there v s i h here)
