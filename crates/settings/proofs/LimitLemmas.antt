-- A setting that is within its limits isn't the first that is broken.
use Rattle.std.proofs.Common.{◌≡◌, ℕ, zero, suc, ◌+◌, ◌<◌, true, false, cond, List, [], ◌∷◌, length, drop, get_or, ap, ◌∙◌, arith, Some}
use Rattle.map_history.specs.declared.sizes.Sizes.{Sizes}
use Rattle.settings.specs.declared.setting.Setting.{Setting}
use Rattle.settings.specs.Limits.{fits_limits, first_outside}

module _ (sizes : Sizes) (indexes lanes : ℕ) where
  next_setting : (items : List Setting) (k : ℕ) (d : Setting) → k < length items
      → fits_limits sizes indexes lanes (get_or items k d) ≡ true
      → first_outside sizes indexes lanes (drop k items)
      ≡ first_outside sizes indexes lanes (drop (suc k) items)
  next_setting [] k d below allowed = absurd (omega (arith, below))
  next_setting (x ∷ items) zero d below allowed =
      ap (λ b. cond b (first_outside sizes indexes lanes items) (Some x)) allowed
  next_setting (x ∷ items) (suc k) d below allowed =
      next_setting items k d (omega (arith, below)) allowed

  -- the first setting that is left is outside
  pub setting_outside : (items : List Setting) (k : ℕ) (d : Setting) → k < length items
      → fits_limits sizes indexes lanes (get_or items k d) ≡ false
      → first_outside sizes indexes lanes (drop k items) ≡ Some (get_or items k d)
  setting_outside [] k d below broken = absurd (omega (arith, below))
  setting_outside (x ∷ items) zero d below broken =
      ap (λ b. cond b (first_outside sizes indexes lanes items) (Some x)) broken
  setting_outside (x ∷ items) (suc k) d below broken =
      setting_outside items k d (omega (arith, below)) broken

  -- one setting more is judged
  pub setting_passed : (items : List Setting) (k : ℕ) (d : Setting) → k < length items
      → fits_limits sizes indexes lanes (get_or items k d) ≡ true
      → first_outside sizes indexes lanes (drop k items)
      ≡ first_outside sizes indexes lanes (drop (k + 1) items)
  setting_passed items k d below allowed = let next : suc k ≡ k + 1 = omega arith in
      next_setting items k d below allowed
      ∙ ap (λ n. first_outside sizes indexes lanes (drop n items)) next
