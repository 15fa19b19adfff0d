-- The lines of some bytes, cut at the first line feed.
use Rattle.std.proofs.Common.{◌≡◌, ℕ, suc, ◌+◌, ◌-◌, ◌<◌, ◌≤◌, Bool, true, false, cond, eqb, List, [], ◌∷◌, ◌++◌, length, get_or, take, drop, refl, sym, ap, ◌∙◌, arith}
use Rattle.std.specs.List.{onto_first}
use Rattle.std.proofs.lemmas.Bool.{eqb-true}
use Rattle.std.proofs.lemmas.List.{take_more}
use Rattle.memchr.specs.Find.{Nowhere, NoneBefore, Passes, is_byte}
use Rattle.script.specs.Pieces.{LacksByte}
use Rattle.script.proofs.Cuts.{cut_parts, cut_nowhere}
use Rattle.audit_law.specs.TextLines.{ended_lines}
use Rattle.line_forms.specs.Anew.{without_end}

line_at : (body rest : List ℕ) → LacksByte 10 body → ended_lines (body ++ 10 ∷ rest) ≡ (body ++ 10 ∷ []) ∷ ended_lines rest
line_at [] rest h = refl
line_at (b ∷ body) rest h =
    let no : eqb b 10 ≡ false = h 0 0 (omega arith) in
    rw no (ap (onto_first b) (line_at body rest (λ k d low. h (suc k) d (omega (arith, low)))))

-- the first line feed cuts a line off
pub line_there : (s : List ℕ) (i : ℕ) → NoneBefore (Passes (is_byte 10) s) 0 (length s) i → Passes (is_byte 10) s i → ended_lines s ≡ take (i + 1) s ∷ ended_lines (take (length s - (i + 1)) (drop (i + 1) s))
line_there s i h here =
    let c = cut_parts 10 s i h here in
    let is : get_or s i 0 ≡ 10 = eqb-true _ _ here in
    let behind = take (length s - (i + 1)) (drop (i + 1) s) in
    let line : take (i + 1) s ≡ take i s ++ 10 ∷ [] = take_more s i 0 (omega (arith, h.high)) ∙ ap (λ (b : ℕ). take i s ++ b ∷ []) is in
    ap ended_lines c.whole ∙ (line_at (take i s) behind c.first ∙ ap (λ (l : List ℕ). l ∷ ended_lines behind) (sym line))

last_line : (x : ℕ) (s : List ℕ) → LacksByte 10 (x ∷ s) → ended_lines (x ∷ s) ≡ (x ∷ s) ∷ []
last_line x [] h = let no : eqb x 10 ≡ false = h 0 0 (omega arith) in rw no refl
last_line x (y ∷ s) h =
    let no : eqb x 10 ≡ false = h 0 0 (omega arith) in
    rw no (ap (onto_first x) (last_line y s (λ k d low. h (suc k) d (omega (arith, low)))))

-- where none stands, all bytes are one line
pub line_whole : (s : List ℕ) → 0 < length s → Nowhere (Passes (is_byte 10) s) 0 (length s) → ended_lines s ≡ s ∷ []
line_whole [] some h = absurd (omega (arith, some))
line_whole (x ∷ s) some h = last_line x s (cut_nowhere 10 (x ∷ s) h)

-- the bytes before the last
pub front_of : (line : List ℕ) → take (length line - 1) line ≡ without_end line
front_of [] = refl
front_of (b ∷ []) = refl
front_of (b ∷ c ∷ line) =
    let more : length (b ∷ c ∷ line) - 1 ≡ suc (length (c ∷ line) - 1) = omega arith in
    ap (λ (n : ℕ). take n (b ∷ c ∷ line)) more ∙ ap (λ (l : List ℕ). b ∷ l) (front_of (c ∷ line))

-- there are no more lines than bytes
pub few_lines : (bytes : List ℕ) → length (ended_lines bytes) ≤ length bytes
few_lines [] = omega arith
few_lines (b ∷ bytes) = go (eqb b 10) (few_lines bytes)
  where
    onto : (lines : List (List ℕ)) → length lines ≤ length bytes → length (onto_first b lines) ≤ length (b ∷ bytes)
    onto [] h = omega arith
    onto (l ∷ lines) h = omega (arith, h)

    go : (t : Bool) → length (ended_lines bytes) ≤ length bytes → length (cond t ((b ∷ []) ∷ ended_lines bytes) (onto_first b (ended_lines bytes))) ≤ length (b ∷ bytes)
    go true h = omega (arith, h)
    go false h = onto (ended_lines bytes) h
