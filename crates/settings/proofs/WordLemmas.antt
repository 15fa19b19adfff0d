-- A setting of another word isn't the one that is named.
use Rattle.std.proofs.Common.{◌≡◌, ℕ, zero, suc, ◌+◌, ◌<◌, true, false, cond, List, [], ◌∷◌, length, drop, get_or, ap, ◌∙◌, arith, Some}
use Rattle.std.specs.Str.{bytes_eq}
use Rattle.settings.specs.declared.setting.Setting.{Setting}
use Rattle.settings.specs.Words.{setting_word, named_among}

module _ (word : List ℕ) where
  -- the first setting that is left has the word
  pub named_here : (items : List Setting) (k : ℕ) (d : Setting) → k < length items
      → bytes_eq (setting_word (get_or items k d)) word ≡ true
      → named_among word (drop k items) ≡ Some (get_or items k d)
  named_here [] k d below same = absurd (omega (arith, below))
  named_here (x ∷ items) zero d below same =
      ap (λ b. cond b (Some x) (named_among word items)) same
  named_here (x ∷ items) (suc k) d below same = named_here items k d (omega (arith, below)) same

  next_named : (items : List Setting) (k : ℕ) (d : Setting) → k < length items
      → bytes_eq (setting_word (get_or items k d)) word ≡ false
      → named_among word (drop k items) ≡ named_among word (drop (suc k) items)
  next_named [] k d below other = absurd (omega (arith, below))
  next_named (x ∷ items) zero d below other =
      ap (λ b. cond b (Some x) (named_among word items)) other
  next_named (x ∷ items) (suc k) d below other =
      next_named items k d (omega (arith, below)) other

  -- one setting more has another word
  pub named_later : (items : List Setting) (k : ℕ) (d : Setting) → k < length items
      → bytes_eq (setting_word (get_or items k d)) word ≡ false
      → named_among word (drop k items) ≡ named_among word (drop (k + 1) items)
  named_later items k d below other = let next : suc k ≡ k + 1 = omega arith in
      next_named items k d below other ∙ ap (λ n. named_among word (drop n items)) next
