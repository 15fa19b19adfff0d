-- What a step that didn't fail says of the steps before it.
use Rattle.std.proofs.Common.{◌≡◌, ℕ, ◌&&◌, Bool, true, false, cond, Option, Some, None, Result, Ok, Err, refl}
use Rattle.std.specs.Prelude.{option_map}
use Rattle.script.specs.declared.error.Flaw.{Flaw}
use Rattle.script.specs.declared.error.Refusal.{Refusal}
use Rattle.script.specs.declared.error.Refusal.TheVariants as refusal
use Rattle.script.specs.Steps.{◌>>=◌, or_bad, numbered, Fails}

pub bind_ok : {A B E : Type 0} (r : Result A E) (f : A → Result B E) (y : B) → (r >>= f) ≡ Ok y → (x : A) × (r ≡ Ok x) × (f x ≡ Ok y)
bind_ok (Ok x) f y h = (x, refl, h)
bind_ok (Err e) f y h = absurd cc

pub some_of : {A : Type 0} (o : Option A) (x : A) → or_bad o ≡ Ok x → o ≡ Some x
some_of None x h = absurd cc
some_of (Some y) x h = cc

pub chosen : {A E : Type 0} (b : Bool) (x y : A) (e : E) → cond b (Ok x) (Err e) ≡ Ok y → (b ≡ true) × (x ≡ y)
chosen true x y e h = (refl, cc)
chosen false x y e h = absurd cc

pub not_chosen : {A E : Type 0} (b : Bool) (x y : A) (e : E) → cond b (Err e) (Ok x) ≡ Ok y → (b ≡ false) × (x ≡ y)
not_chosen false x y e h = (refl, cc)
not_chosen true x y e h = absurd cc

pub given : {A : Type 0} (b : Bool) (x y : A) → cond b (Some x) None ≡ Some y → (b ≡ true) × (x ≡ y)
given true x y h = (refl, cc)
given false x y h = absurd cc

pub both_so : (a b : Bool) → (a && b) ≡ true → (a ≡ true) × (b ≡ true)
both_so true b h = (refl, h)
both_so false b h = absurd cc

pub unnumbered : {A : Type 0} (n : ℕ) (r : Result A Flaw) (x : A) → numbered n r ≡ Ok x → r ≡ Ok x
unnumbered n (Ok y) x h = cc
unnumbered n (Err f) x h = absurd cc

pub and_false : (a b : Bool) → b ≡ false → (a && b) ≡ false
and_false true b h = h
and_false false b h = refl

-- what fails at its first step fails
pub fails_first : {A B : Type 0} (e : Refusal) (r : Result A Flaw) (next : A → Result B Flaw) → Fails e r → Fails e (r >>= next)
fails_first refusal.NoMemory r next h = tt
fails_first (refusal.Flawed f) r next h = rw h refl

pub as_it_is : {A : Type 0} (o : Option A) → o ≡ option_map (λ (x : A). x) o
as_it_is None = refl
as_it_is (Some x) = refl
