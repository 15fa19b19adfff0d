-- Reads and writes one after another, of a reader that is read to its end.
use Rattle.std.proofs.Common.{◌≡◌, ℕ, ◌<◌, ◌≤◌, List, [], ◌++◌, length, take, Option, Some, None, IfSome, refl, sym, subst, ap, ◌∙◌, arith, length-append}
use Rattle.std.proofs.lemmas.List.{append-nil, take-append-le}
use Rattle.std.proofs.KnownBytes.{Consumes-trans, Consumes-whole}
use Rattle.std.specs.Io.KnownBytes.{Appends, Consumes, IsAtEnd, Keeps}

-- a read or a write after some that did nothing
pub Kept-Consumes : (a b c : Option (List ℕ)) (bs : List ℕ) → Keeps a b → Consumes b c bs → Consumes a c bs
Kept-Consumes None b c bs kept more = tt
Kept-Consumes (Some x) None c bs kept more = absurd kept
Kept-Consumes (Some x) (Some y) None bs kept more = absurd more
Kept-Consumes (Some x) (Some y) (Some z) bs kept more = sym kept ∙ more

pub Kept-Appends : (a b c : Option (List ℕ)) (bs : List ℕ) → Keeps a b → Appends b c bs → Appends a c bs
Kept-Appends None b c bs kept more = tt
Kept-Appends (Some x) None c bs kept more = absurd kept
Kept-Appends (Some x) (Some y) None bs kept more = absurd more
Kept-Appends (Some x) (Some y) (Some z) bs kept more = more ∙ ap (λ l. l ++ bs) kept

-- one more read, whose bytes stand at the front of a piece
pub lost_more : (a b c : Option (List ℕ)) (old new piece rest : List ℕ) (read : ℕ) → read ≤ length piece → new ≡ old ++ take read (piece ++ rest)
    → Consumes a b old → Consumes b c (take read piece) → Consumes a c new
lost_more a b c old new piece rest read short is lost more =
    let front : take read (piece ++ rest) ≡ take read piece = rw take-append-le refl in
    subst (Consumes a c) (sym (is ∙ ap (λ l. old ++ l) front)) (Consumes-trans a b c old (take read piece) lost more)

-- a read at the end gives nothing more
pub all_read : (a b c : Option (List ℕ)) (bytes piece : List ℕ) (read : ℕ) → Consumes a b bytes → Consumes b c (take read piece) → read ≡ 0 → IsAtEnd c → IfSome a (λ all. bytes ≡ all)
all_read a b c bytes piece read lost more zero end =
    let none : Consumes b c [] = subst (λ (n : ℕ). Consumes b c (take n piece)) zero more in
    let whole : Consumes a c bytes = subst (Consumes a c) (append-nil bytes) (Consumes-trans a b c bytes [] lost none) in
    Consumes-whole a c bytes (λ all. bytes ≡ all) whole end refl

-- a reader had as many bytes as were read
pub more_read : (a b : Option (List ℕ)) (bytes : List ℕ) (limit : ℕ) → Consumes a b bytes → limit < length bytes → IfSome a (λ all. limit < length all)
more_read None b bytes limit lost long = tt
more_read (Some x) None bytes limit lost long = absurd lost
more_read (Some x) (Some y) bytes limit lost long = omega (arith, ap length lost, length-append bytes y)
