-- Fields that are copied one by one, and what is refused of them.
use Rattle.std.proofs.Common.{◌≡◌, ℕ, ◌+◌, ◌<◌, ◌≤◌, List, [], ◌∷◌, ◌++◌, Vec, Global, length, get_or, map, take, Option, Some, None, Result, Ok, Err, IfSome, ◌⊎◌, inl, inr, refl, sym, ap, subst, ◌∙◌, arith}
use Rattle.std.proofs.lemmas.Bool.{lt-ltb, le-ltb}
use Rattle.std.proofs.lemmas.List.{map_more}
use Rattle.std.proofs.lemmas.List.Sums.{sum_by_push}
use Rattle.key_tuple.specs.declared.error.KeyError.{KeyError}
use Rattle.key_tuple.specs.declared.error.KeyError.TheVariants.{TooManyFields, TooLong}
use Rattle.key_tuple.specs.Limits.{IsWithinLimits, refusal_of, MAX_FIELDS, MAX_KEY_BYTES}
use Rattle.key_tuple.specs.Order.{FieldList, byte_count}

abbrev pub Copies : Type 0
Copies = List (Vec ℕ Global)

abbrev pub bytes_of : Copies → FieldList
bytes_of = map (λ f. f.items)

-- one field more
pub one_more : (copies : Copies) (i : ℕ) (copy : Vec ℕ Global) → i < length copies
    → copy ≡ get_or copies i copy
    → bytes_of (take (i + 1) copies) ≡ bytes_of (take i copies) ++ copy.items ∷ []
one_more copies i copy below is = map_more (λ f. f.items) copies i copy below
    ∙ ap (λ (x : Vec ℕ Global). bytes_of (take i copies) ++ x.items ∷ []) (sym is)

pub one_more_count : (copies : Copies) (i : ℕ) (copy : Vec ℕ Global) → i < length copies
    → copy ≡ get_or copies i copy
    → byte_count (bytes_of (take (i + 1) copies)) ≡ byte_count (bytes_of (take i copies)) + length copy.items
one_more_count copies i copy below is = ap byte_count (one_more copies i copy below is)
    ∙ sum_by_push length (bytes_of (take i copies)) copy.items

-- what is asked of the value in a `Some`
pub of_some : (P : ℕ → Type 0) (o : Option ℕ) (n : ℕ) → o ≡ Some n → IfSome o P → P n
of_some P o n is p = subst (λ q. IfSome q P) is p

pub too_many : (fields : FieldList) (n : ℕ) → n ≡ length fields → MAX_FIELDS < n
    → refusal_of fields ≡ Some (TooManyFields n)
too_many fields n count many =
    let more : MAX_FIELDS < length fields = omega (arith, many) in
    rw (lt-ltb _ _ more, count) refl

pub too_long : (fields : FieldList) (n : ℕ) → length fields ≤ MAX_FIELDS → n ≡ byte_count fields
    → MAX_KEY_BYTES < n → refusal_of fields ≡ Some (TooLong n)
too_long fields n few count long =
    let more : MAX_KEY_BYTES < byte_count fields = omega (arith, long) in
    rw (le-ltb _ _ few, lt-ltb _ _ more, count) refl

pub in_limits : (fields : FieldList) → IsWithinLimits fields → refusal_of fields ≡ None
in_limits fields within = rw (le-ltb _ _ within.few, le-ltb _ _ within.short) refl

-- a refusal is told
pub is_told : (T : Type 0) (o : Option KeyError) (x : KeyError) → o ≡ Some x
    → IfSome o (λ e. (◌≡◌ {A = Result T KeyError} (Err x) (Err e)) ⊎ (◌≡◌ {A = Result T KeyError} (Err x) (Err KeyError.NoMemory)))
is_told T None x same = tt
is_told T (Some e) x same = inl cc

-- nothing is refused
pub none_told : {T : Type 0} (o : Option KeyError) (r : Result T KeyError) → o ≡ None
    → IfSome o (λ e. (r ≡ Err e) ⊎ (r ≡ Err KeyError.NoMemory))
none_told None r same = tt
none_told (Some e) r same = absurd cc

-- what was accepted wasn't refused, so nothing is told of it
pub nothing_told : {T U : Type 0} (o : Option KeyError) (x : T) (r : Result U KeyError)
    → IfSome o (λ e. ◌≡◌ {A = Result T KeyError} (Ok x) (Err e)) → IfSome o (λ e. r ≡ Err e)
nothing_told None x r told = tt
nothing_told (Some e) x r told = absurd cc

pub neither_told : {T U : Type 0} (o : Option KeyError) (x : T) (r : Result U KeyError)
    → IfSome o (λ e. (◌≡◌ {A = Result T KeyError} (Ok x) (Err e)) ⊎ (◌≡◌ {A = Result T KeyError} (Ok x) (Err KeyError.NoMemory)))
    → IfSome o (λ e. (r ≡ Err e) ⊎ (r ≡ Err KeyError.NoMemory))
neither_told None x r told = tt
neither_told (Some e) x r (inl q) = absurd cc
neither_told (Some e) x r (inr q) = absurd cc
