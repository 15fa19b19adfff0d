-- Texts that are put one after another.
use Rattle.std.proofs.Common.{◌≡◌, ℕ, ◌+◌, ◌<◌, ◌≤◌, Option, Some, None, Result, Ok, Err, List, ◌++◌, length, take, ap, ◌∙◌, sym, arith, inl, inr, append_assoc}
use Rattle.std.specs.Option.{option_map}
use Rattle.std.proofs.lemmas.List.{take-append-le}
use Rattle.std.proofs.Math.Seq.{take-append-add, take-append_seam, take_all}
use Rattle.std.proofs.lemmas.Bool.{cases_lt}
use Rattle.io_port.specs.Faults.{ShowsFault}
use Rattle.io_port.specs.Sink.{Puts, PutsSome}
use Rattle.io_port.specs.declared.sink.Sink.{Ghosts}
use Rattle.report_print.specs.declared.halt.Halt.{Halt}
use Rattle.report_print.specs.declared.halt.Halt.TheVariants.{SinkFault, NoMemory}
use Rattle.report_print.specs.Prints.{PrintsTo}

-- one text and then another
Puts-append : (a b c : Option (List ℕ)) (x y : List ℕ) → Puts a b x → Puts b c y → Puts a c (x ++ y)
Puts-append None b c x y p q = q ∙ ap (option_map (λ w. w ++ y)) p
Puts-append (Some w) b c x y p q = q ∙ ap (option_map (λ v. v ++ y)) p ∙ ap Some (append_assoc w x y)

-- a first part of the first text is one of both
first_part : (n : ℕ) (x y : List ℕ) → (m : ℕ) × (take m (x ++ y) ≡ take n x)
first_part n x y = elim (cases_lt n (length x)) [ inl below ↦ (n, within below) | inr past ↦ (length x, take-append_seam x y ∙ sym (take_all n x past)) ]
  where
    within : n < length x → take n (x ++ y) ≡ take n x
    within below = let le : n ≤ length x = omega arith in take-append-le n x y le

PutsSome-first : (a b : Option (List ℕ)) (x y : List ℕ) → PutsSome a b x → PutsSome a b (x ++ y)
PutsSome-first a b x y p =
    let part = first_part p.0 x y in
    (part.0, p.1 ∙ ap (λ t. option_map (λ w. w ++ t) a) (sym part.1))

PutsSome-second : (a b c : Option (List ℕ)) (x y : List ℕ) → Puts a b x → PutsSome b c y → PutsSome a c (x ++ y)
PutsSome-second a b c x y p q = (length x + q.0, Puts-append a b c x (take q.0 y) p q.1 ∙ ap (λ t. option_map (λ w. w ++ t) a) (sym (take-append-add x y q.0)))

ShowsFault-later : (a b c : ℕ) → a ≤ b → ShowsFault b c → ShowsFault a c
ShowsFault-later a b c le (inl rose) = inl (omega arith)
ShowsFault-later a b c le (inr last) = inr last

module _ {K : Type 0} (sink : Ghosts K) where
  -- the first text was put, and then the second or a part of it
  pub then_put : (k l m : K) (x y : List ℕ) (r : Result (Unit {0}) Halt) → PrintsTo sink k l x (Ok tt) → PrintsTo sink l m y r → PrintsTo sink k m (x ++ y) r
  then_put k l m x y (Ok done) p q = (Puts-append (sink.written k) (sink.written l) (sink.written m) x y p.0 q.0, omega (arith, p.1, q.1))
  then_put k l m x y (Err SinkFault) p q = (PutsSome-second (sink.written k) (sink.written l) (sink.written m) x y p.0 q.0, ShowsFault-later (sink.faults k) (sink.faults l) (sink.faults m) p.1 q.1)
  then_put k l m x y (Err NoMemory) p q = (PutsSome-second (sink.written k) (sink.written l) (sink.written m) x y p.0 q.0, omega (arith, p.1, q.1))

  -- the first text wasn't put whole
  pub halted : (k l : K) (x y : List ℕ) (h : Halt) → PrintsTo sink k l x (Err h) → PrintsTo sink k l (x ++ y) (Err h)
  halted k l x y SinkFault q = (PutsSome-first (sink.written k) (sink.written l) x y q.0, q.1)
  halted k l x y NoMemory q = (PutsSome-first (sink.written k) (sink.written l) x y q.0, q.1)
