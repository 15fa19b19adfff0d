-- Bytes that stand for themselves, put together.
use Rattle.std.proofs.Common.{length-drop, ◌≡◌, ℕ, suc, ◌+◌, ◌-◌, ◌<◌, ◌≤◌, Bool, true, false, cond, not, List, [], ◌∷◌, ◌++◌, length, get_or, take, drop, Some, None, refl, sym, subst, ap, ◌∙◌, arith, append_assoc, add-one}
use Rattle.std.specs.List.{All, flat_map, position, position_or_len}
use Rattle.std.proofs.lemmas.Bool.{ltb-false}
use Rattle.std.proofs.lemmas.List.Quantifiers.{position-Some}
use Rattle.std.proofs.lemmas.List.{get_or-take, length-take, take_rest, append-nil}
use Rattle.std.proofs.lemmas.List.Sums.{fails_before_first}
use Rattle.std.proofs.Math.Seq.{split_at}
use Rattle.map_history.specs.Text.{is_plain, byte_text}

abbrev pub needs_escape : ℕ → Bool
needs_escape b = not (is_plain b)

is_alone : (p : Bool) → not p ≡ false → p ≡ true
is_alone true h = refl
is_alone false h = absurd cc

-- the texts of bytes that stand for themselves are these bytes
run_texts : (run more : List ℕ) → All (λ (b : ℕ). needs_escape b ≡ false) run → flat_map byte_text (run ++ more) ≡ run ++ flat_map byte_text more
run_texts [] more h = refl
run_texts (x ∷ run) more h =
    let alone : is_plain x ≡ true = is_alone (is_plain x) (h 0 0 (omega arith)) in
    let rest : flat_map byte_text (run ++ more) ≡ run ++ flat_map byte_text more = run_texts run more (λ k d lt. h (suc k) d (omega arith)) in
    rw (alone, rest) refl

-- what was put behind the first bytes, and what is still to be put
pub record IsPutSoFar (start now whole rest : List ℕ) : Type 0 where
  pub put : List ℕ
  pub grown : now ≡ start ++ put
  pub told : flat_map byte_text whole ≡ put ++ flat_map byte_text rest

pub none_put : (start whole : List ℕ) → IsPutSoFar start start whole whole
none_put start whole = record { put = []; grown = sym (append-nil start); told = refl }

plain_before : (s : List ℕ) (i : ℕ) → position needs_escape s ≡ Some i → All (λ (b : ℕ). needs_escape b ≡ false) (take i s)
plain_before s i h k d lt =
    let below : k < i = omega (arith, length-take i s) in
    rw (get_or-take i s k d below) ((position-Some needs_escape s i d h).2 k below)

pub at_within : (s : List ℕ) (i : ℕ) → position needs_escape s ≡ Some i → i < length s
at_within s i h = (position-Some needs_escape s i 0 h).0

-- what is left is shorter
pub rest_shorter : (s : List ℕ) (i : ℕ) → position needs_escape s ≡ Some i → length (take (length s - (i + 1)) (drop (i + 1) s)) < length s
rest_shorter s i h = let within = at_within s i h in rw (take_rest s (i + 1), length-drop (i + 1) s) (omega (arith, within))

one_text : (s : List ℕ) (i : ℕ) → position needs_escape s ≡ Some i → flat_map byte_text s ≡ take i s ++ (byte_text (get_or s i 0) ++ flat_map byte_text (drop (i + 1) s))
one_text s i h =
    let whole : s ≡ take i s ++ get_or s i 0 ∷ drop (i + 1) s = rw add-one (split_at s i 0 (position-Some needs_escape s i 0 h).0) in
    ap (flat_map byte_text) whole ∙ run_texts (take i s) (get_or s i 0 ∷ drop (i + 1) s) (plain_before s i h)

-- a run and the byte after it were put
pub run_put : (start now after whole rest : List ℕ) (i : ℕ) → position needs_escape rest ≡ Some i → after ≡ (now ++ take i rest) ++ byte_text (get_or rest i 0)
    → IsPutSoFar start now whole rest → IsPutSoFar start after whole (take (length rest - (i + 1)) (drop (i + 1) rest))
run_put start now after whole rest i h is so = record {
  put = (so.put ++ take i rest) ++ byte_text (get_or rest i 0);
  grown = is ∙ ap (λ l. (l ++ take i rest) ++ byte_text (get_or rest i 0)) so.grown ∙ simp append_assoc;
  told = so.told ∙ ap (λ l. so.put ++ l) (one_text rest i h) ∙ rw (take_rest rest (i + 1)) (simp append_assoc);
}

none_there : (b : Bool) (n : ℕ) → cond b (Some n) None ≡ None → b ≡ false
none_there true n h = absurd cc
none_there false n h = refl

-- the last run was put
pub all_put : (start now after whole rest : List ℕ) → position needs_escape rest ≡ None → after ≡ now ++ rest → IsPutSoFar start now whole rest → after ≡ start ++ flat_map byte_text whole
all_put start now after whole rest h is so =
    let long : length rest ≤ position_or_len needs_escape rest = ltb-false _ _ (none_there _ _ h) in
    let run : flat_map byte_text (rest ++ []) ≡ rest ++ [] = run_texts rest [] (λ k d lt. fails_before_first needs_escape rest k d (omega arith)) in
    let alone : flat_map byte_text rest ≡ rest = subst (λ (t : List ℕ). flat_map byte_text t ≡ t) (append-nil rest) run in
    is ∙ ap (λ l. l ++ rest) so.grown ∙ append_assoc start so.put rest ∙ ap (λ l. start ++ l) (sym (so.told ∙ ap (λ l. so.put ++ l) alone))
