-- Things that are read one after another are a form of lines where each of them is one.
use Rattle.std.proofs.Common.{◌≡◌, ℕ, zero, suc, ◌+◌, ◌<◌, ◌≤◌, Ok, Err, List, [], ◌∷◌, ◌++◌, length, map, refl, sym, ap, ◌∙◌, subst, arith}
use Rattle.std.specs.List.{AllByRecursion, AllZip}
use Rattle.line_forms.specs.LineForms.{Lines, Reading, IsLineForm, in_line, read_both, both_lines, both_fit, read_as}
use Rattle.line_forms.proofs.FormLemmas.{ok_is, two_forms}
use Rattle.line_forms.proofs.SeenLemmas.{seen_form}
use Rattle.report_forms.specs.Lists.{in_front, read_each, each_lines, numbers_from}

-- nothing, in no lines
module _ {A : Type 0} (Fits : List A → Type 0) (lines : List A → Lines) (fits : Fits []) (none : lines [] ≡ []) (only : (things : List A) → Fits things → things ≡ []) where
  abbrev read_nothing : Lines → Reading (List A)
  read_nothing text = Ok ([], text)

  nothing_again : (things : List A) (rest : Lines) → Fits things → read_nothing (lines things ++ rest) ≡ Ok (things, rest)
  nothing_again things rest h =
      let is = only things h in
      ap (λ (zs : List A). read_nothing (lines zs ++ rest)) is ∙ (ap (λ (t : Lines). read_nothing (t ++ rest)) none ∙ ap (λ (zs : List A). Ok (zs, rest)) (sym is))

  nothing_ok : (text rest : Lines) (things : List A) → read_nothing text ≡ Ok (things, rest) → Fits things × (text ≡ lines things ++ rest)
  nothing_ok text rest things e =
      subst (λ (z : List A × Lines). Fits z.0 × (text ≡ lines z.0 ++ z.1)) (ok_is ([], text) (things, rest) e) (fits, ap (λ (t : Lines). t ++ text) (sym none))

  pub nothing_form : IsLineForm Fits lines (λ (text : Lines). Ok ([], text))
  nothing_form = record {
    some = [];
    some_fits = fits;
    again = nothing_again;
    fits = λ text rest things e. (nothing_ok text rest things e).0;
    written = λ text rest things e. (nothing_ok text rest things e).1;
    stops = λ text rest e. absurd cc;
  }

-- a list as its first thing and the others; of an empty one the first is made up
abbrev parted : {A : Type 0} → A → List A → A × List A
parted other [] = (other, [])
parted other (thing ∷ things) = (thing, things)

-- one thing and then others
module _ {A : Type 0} (First : A → Type 0) (Rest : A → List A → Type 0) (Fits : List A → Type 0) (first_lines : A → Lines) (rest_lines : A → List A → Lines) (lines : List A → Lines)
    (read : Lines → Reading A) (read_rest : A → Lines → Reading (List A))
    (one : IsLineForm First first_lines read) (others : (x : A) → First x → IsLineForm (Rest x) (rest_lines x) (read_rest x))
    (makes : (x : A) (xs : List A) → First x → Rest x xs → Fits (x ∷ xs)) (parts : (x : A) (xs : List A) → Fits (x ∷ xs) → First x × Rest x xs) (some : Fits [] → ⊥)
    (same : (x : A) (xs : List A) → First x → lines (x ∷ xs) ≡ first_lines x ++ rest_lines x xs) where
  came_apart : (things : List A) → Fits things → both_fit First Rest (parted one.some things)
  came_apart [] h = absurd (some h)
  came_apart (x ∷ xs) h = parts x xs h

  put_back : (things : List A) → Fits things → in_front (parted one.some things) ≡ things
  put_back [] h = absurd (some h)
  put_back (x ∷ xs) h = refl

  pub more_form : IsLineForm Fits lines (λ (text : Lines). read_as in_front (read_both read read_rest text))
  more_form =
      seen_form (both_fit First Rest) Fits (both_lines first_lines rest_lines) lines (read_both read read_rest) in_front (parted one.some)
      (λ y h. makes y.0 y.1 h.0 h.1) came_apart put_back (λ y h. same y.0 y.1 h.0) (two_forms First Rest first_lines rest_lines read read_rest one others)

module _ {X A : Type 0} (Fits : X → A → Type 0) (lines : X → A → Lines) (read : X → Lines → Reading A) where
  none_zipped : (things : List A) → AllZip Fits [] things → things ≡ []
  none_zipped [] h = refl
  none_zipped (thing ∷ things) h = absurd h

  pub each_form : (xs : List X) → AllByRecursion (λ (x : X). IsLineForm (Fits x) (lines x) (read x)) xs → IsLineForm (AllZip Fits xs) (each_lines lines xs) (read_each read xs)
  each_form [] forms = nothing_form (AllZip Fits []) (each_lines lines []) tt refl none_zipped
  each_form (x ∷ xs) forms =
      more_form (Fits x) (λ (first : A). AllZip Fits xs) (AllZip Fits (x ∷ xs)) (lines x) (λ (first : A). each_lines lines xs) (each_lines lines (x ∷ xs))
      (read x) (λ (first : A). read_each read xs) forms.0 (λ first h. each_form xs forms.1)
      (λ y ys a b. (a, b)) (λ y ys h. (h.0, h.1)) (λ h. h) (λ y ys a. refl)

-- what holds of each number from one on
pub each_number : (P : ℕ → Type 0) (number n : ℕ) → ((k : ℕ) → number ≤ k → k < number + n → P k) → AllByRecursion P (numbers_from number n)
each_number P number zero h = tt
each_number P number (suc n) h = (h number (omega arith) (omega arith), each_number P (number + 1) n (λ k low high. h k (omega (arith, low)) (omega (arith, high))))

-- so many numbers and things of which each fits any number
pub zip_numbers : {A : Type 0} (Fits : A → Type 0) (number : ℕ) (things : List A) → AllByRecursion Fits things → AllZip (λ (k : ℕ). Fits) (numbers_from number (length things)) things
zip_numbers Fits number [] all = tt
zip_numbers Fits number (thing ∷ things) all = (all.0, zip_numbers Fits (number + 1) things all.1)

pub zipped_numbers : {A : Type 0} (Fits : A → Type 0) (number n : ℕ) (things : List A) → AllZip (λ (k : ℕ). Fits) (numbers_from number n) things → (length things ≡ n) × AllByRecursion Fits things
zipped_numbers Fits number zero [] h = (refl, tt)
zipped_numbers Fits number zero (thing ∷ things) h = absurd h
zipped_numbers Fits number (suc n) [] h = absurd h
zipped_numbers Fits number (suc n) (thing ∷ things) h = let more = zipped_numbers Fits (number + 1) n things h.1 in (ap suc more.0, (h.0, more.1))

-- the lines of things of one line each, whatever their numbers
pub numbered_lines : {A : Type 0} (text : A → List ℕ) (number : ℕ) (things : List A) → each_lines (λ (k : ℕ). in_line text) (numbers_from number (length things)) things ≡ map text things
numbered_lines text number [] = refl
numbered_lines text number (thing ∷ things) = ap (λ (t : Lines). text thing ∷ t) (numbered_lines text (number + 1) things)
