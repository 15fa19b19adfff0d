-- What is refused is too long, and what is taken isn't.
use Rattle.std.proofs.Common.{◌≡◌, ℕ, Bool, true, false, cond, ltb, List, length, Some, None, Ok, Err, IfSome, refl, sym, ap}
use Rattle.key_tuple.specs.declared.TheConstants.{MAX_VALUE_BYTES}
use Rattle.key_tuple.specs.declared.error.KeyError.{KeyError}
use Rattle.key_tuple.specs.declared.error.KeyError.TheVariants as key
use Rattle.script.specs.declared.error.Flaw.TheVariants.{TooLong}
use Rattle.script.proofs.rows.value_within.Goals as goal

taken : (long : Bool) (bytes value : List ℕ) (e : KeyError) → value ≡ bytes → IfSome (cond long (Some e) None) (λ f. Ok value ≡ Err f) → cond long (Err TooLong) (Ok bytes) ≡ Ok value
taken true bytes value e is h = absurd cc
taken false bytes value e is h = ap Ok (sym is)

refused : (long : Bool) (bytes : List ℕ) (e f : KeyError) → cond long (Some e) None ≡ Some f → cond long (Err TooLong) (Ok bytes) ≡ Err TooLong
refused true bytes e f h = refl
refused false bytes e f h = absurd cc

pub returns-in-Ok : goal.returns-in-Ok
returns-in-Ok c = taken (ltb MAX_VALUE_BYTES (length c.args.bytes.items)) c.args.bytes.items c.in-Ok.value (key.TooLong (length c.args.bytes.items)) c.in-Ok.ensures.ok c.in-Ok.ensures.refused

pub returns-in-Err-TooLong : goal.returns-in-Err-TooLong
returns-in-Err-TooLong c = refused (ltb MAX_VALUE_BYTES (length c.args.bytes.items)) c.args.bytes.items (key.TooLong (length c.args.bytes.items)) _ c.in-Err-TooLong.ensures.cause
