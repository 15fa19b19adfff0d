-- What is refused of fields that lie in one buffer.
use Rattle.std.proofs.Common.{◌≡◌, ℕ, ◌<◌, ◌≤◌, List, length, Some, None, refl, arith}
use Rattle.std.proofs.lemmas.Bool.{lt-ltb, le-ltb}
use Rattle.key_tuple.specs.declared.error.KeyError.TheVariants.{TooManyFields, TooLong}
use Rattle.key_tuple.specs.Limits.{IsWithinLimits, refusal_of, MAX_FIELDS, MAX_KEY_BYTES}
use Rattle.key_tuple.specs.Order.{byte_count}
use Rattle.key_tuple.specs.Parts.{parts, RiseTo}
use Rattle.key_tuple.proofs.PartsLemmas.{length-parts, byte_count-parts}

-- all parts together have the bytes of the buffer
byte_count-whole : (bytes ends : List ℕ) → RiseTo 0 ends (length bytes) → byte_count (parts bytes 0 ends) ≡ length bytes
byte_count-whole bytes ends rises = omega (arith, byte_count-parts bytes 0 ends (length bytes) rises (omega arith))

pub flat_too_many : (bytes ends : List ℕ) → MAX_FIELDS < length ends → refusal_of (parts bytes 0 ends) ≡ Some (TooManyFields (length ends))
flat_too_many bytes ends many = rw (length-parts bytes 0 ends, lt-ltb _ _ many) refl

pub flat_too_long : (bytes ends : List ℕ) → RiseTo 0 ends (length bytes) → length ends ≤ MAX_FIELDS → MAX_KEY_BYTES < length bytes
    → refusal_of (parts bytes 0 ends) ≡ Some (TooLong (length bytes))
flat_too_long bytes ends rises few long = rw (length-parts bytes 0 ends, le-ltb _ _ few, byte_count-whole bytes ends rises, lt-ltb _ _ long) refl

pub flat_fits : (bytes ends : List ℕ) → RiseTo 0 ends (length bytes) → length ends ≤ MAX_FIELDS → length bytes ≤ MAX_KEY_BYTES
    → (refusal_of (parts bytes 0 ends) ≡ None) × IsWithinLimits (parts bytes 0 ends)
flat_fits bytes ends rises few short =
    let none : refusal_of (parts bytes 0 ends) ≡ None = rw (length-parts bytes 0 ends, le-ltb _ _ few, byte_count-whole bytes ends rises, le-ltb _ _ short) refl in
    (none, record { few = omega (arith, length-parts bytes 0 ends); short = omega (arith, byte_count-whole bytes ends rises) })
