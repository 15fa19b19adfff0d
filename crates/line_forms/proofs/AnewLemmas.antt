-- A line that is read loosely and printed anew is a form of lines.
use Rattle.std.proofs.Common.{◌≡◌, ℕ, ◌+◌, ◌-◌, Bool, true, false, cond, ◌&&◌, ◌==◌, Option, Some, None, List, [], ◌∷◌, ◌++◌, refl, sym, ap, ◌∙◌, subst, arith, eq-eqb}
use Rattle.std.specs.Prelude.{option_and_then}
use Rattle.std.proofs.lemmas.List.Elements.{All-from_recursion}
use Rattle.std.proofs.lemmas.Bool.Decides.{nat_tests}
use Rattle.std.proofs.lemmas.List.Splits.{slice_split_at, slice_split_none}
use Rattle.std.specs.List.{slice_split, list_all, All, AllByRecursion, join_with_byte}
use Rattle.std.specs.Str.{bytes_eq}
use Rattle.map_history.specs.Text.{line_of}
use Rattle.report_laws.proofs.TextLemmas.{in_line as goes_on}
use Rattle.report_laws.proofs.PieceLemmas.{IsWord}
use Rattle.line_forms.specs.LineForms.{IsLineForm, read_line, in_line}
use Rattle.line_forms.proofs.FormLemmas.{one_line_form}
use Rattle.line_forms.specs.Anew.{anew, without_end, words_of, exactly}

pub both_true : (a b : Bool) → (a && b) ≡ true → (a ≡ true) × (b ≡ true)
both_true true true e = (refl, refl)
both_true true false e = absurd cc
both_true false b e = absurd cc

bytes_same : (xs ys : List ℕ) → bytes_eq xs ys ≡ true → xs ≡ ys
bytes_same [] [] e = refl
bytes_same [] (y ∷ ys) e = absurd cc
bytes_same (x ∷ xs) [] e = absurd cc
bytes_same (x ∷ xs) (y ∷ ys) e =
    let h = both_true (x == y) (bytes_eq xs ys) e in
    let first : x ≡ y = grind (arith, nat_tests) in
    let rest = bytes_same xs ys h.1 in
    cc

bytes_alike : (xs : List ℕ) → bytes_eq xs xs ≡ true
bytes_alike [] = refl
bytes_alike (x ∷ xs) = rw (eq-eqb x x refl) (bytes_alike xs)

module _ {A : Type 0} (Fits : A → Type 0) (loose : List ℕ → Option A) (fits : A → Bool) (text : A → List ℕ) (some : A) (some_fits : Fits some)
    (again : (x : A) → Fits x → loose (text x) ≡ Some x) (does : (x : A) → Fits x → fits x ≡ true) (did : (x : A) → fits x ≡ true → Fits x) where
  anew_again : (x : A) → Fits x → anew loose fits text (text x) ≡ Some x
  anew_again x h = rw (again x h) (rw (does x h, bytes_alike (text x)) refl)

  anew_written : (line : List ℕ) (x : A) → anew loose fits text line ≡ Some x → Fits x × (line ≡ text x)
  anew_written line x e = go (loose line) refl e
    where
      test : (y : A) (b : Bool) → (fits y && bytes_eq (text y) line) ≡ b → ◌≡◌ {A = Option A} (cond b (Some y) None) (Some x) → Fits x × (line ≡ text x)
      test y false is f = absurd cc
      test y true is f =
          let h = both_true (fits y) (bytes_eq (text y) line) is in
          let item : y ≡ x = cc in
          subst (λ (z : A). Fits z × (line ≡ text z)) item (did y h.0, sym (bytes_same (text y) line h.1))

      go : (o : Option A) → loose line ≡ o → option_and_then (λ y. cond (fits y && bytes_eq (text y) line) (Some y) None) o ≡ Some x → Fits x × (line ≡ text x)
      go None is f = absurd cc
      go (Some y) is f = test y (fits y && bytes_eq (text y) line) refl f

  pub anew_form : IsLineForm Fits (in_line text) (read_line (anew loose fits text))
  anew_form = one_line_form Fits text (anew loose fits text) some some_fits anew_again anew_written

-- a line that can only be one
module _ (text : List ℕ) where
  exactly_again : exactly text text ≡ Some tt
  exactly_again = rw (bytes_alike text) refl

  exactly_written : (line : List ℕ) (u : Unit {0}) → exactly text line ≡ Some u → Unit {0} × (line ≡ text)
  exactly_written line u e = go (bytes_eq line text) refl e
    where
      go : (b : Bool) → bytes_eq line text ≡ b → ◌≡◌ {A = Option (Unit {0})} (cond b (Some tt) None) (Some u) → Unit {0} × (line ≡ text)
      go false is f = absurd cc
      go true is f = (tt, bytes_same line text is)

  pub exactly_form : IsLineForm (λ (u : Unit {0}). Unit {0}) (in_line (λ (u : Unit {0}). text)) (read_line (exactly text))
  exactly_form = one_line_form (λ (u : Unit {0}). Unit {0}) (λ (u : Unit {0}). text) (exactly text) tt tt (λ u h. exactly_again) exactly_written

-- the words of a line are read again
ended : (line : List ℕ) (b : ℕ) → without_end (line ++ b ∷ []) ≡ line
ended [] b = refl
ended (a ∷ []) b = refl
ended (a ∷ c ∷ line) b = ap (λ (l : List ℕ). a ∷ l) (ended (c ∷ line) b)

no_space : (word : List ℕ) → IsWord word → All (λ (b : ℕ). (b == 32) ≡ false) word
no_space word e = All-from_recursion _ word (each word e)
  where
    each : (w : List ℕ) → IsWord w → AllByRecursion (λ (b : ℕ). (b == 32) ≡ false) w
    each [] f = tt
    each (b ∷ w) f = let h = both_true (goes_on b) (list_all goes_on w) f in (grind (arith, nat_tests), each w h.1)

split_again : (w : List ℕ) (words : List (List ℕ)) → AllByRecursion IsWord (w ∷ words) → slice_split (λ (b : ℕ). b == 32) (join_with_byte 32 (w ∷ words)) ≡ w ∷ words
split_again w [] all = slice_split_none (λ (b : ℕ). b == 32) w (no_space w all.0)
split_again w (v ∷ words) all = slice_split_at (λ (b : ℕ). b == 32) w 32 (join_with_byte 32 (v ∷ words)) (no_space w all.0) refl ∙ ap (λ (ws : List (List ℕ)). w ∷ ws) (split_again v words all.1)

pub words_again : (w : List ℕ) (words : List (List ℕ)) → AllByRecursion IsWord (w ∷ words) → words_of (line_of (w ∷ words)) ≡ w ∷ words
words_again w words all = ap (slice_split (λ (b : ℕ). b == 32)) (ended (join_with_byte 32 (w ∷ words)) 10) ∙ split_again w words all
