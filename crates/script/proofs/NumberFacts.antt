-- The numbers of a lane's lines.
use Rattle.std.proofs.Common.{◌≡◌, ℕ, ◌+◌, ◌<◌, ◌≤◌, List, [], ◌∷◌, ◌++◌, length, Option, Some, None, Result, Ok, Err, subst, arith}
use Rattle.std.specs.Prelude.{IfOk}
use Rattle.std.specs.List.{AllByRecursion, AllPairs}
use Rattle.std.proofs.lemmas.List.Elements.{All-from_recursion}
use Rattle.std.proofs.lemmas.List.Kept.{AllPairs-cons}
use Rattle.list_facts.proofs.Each.{each_weaker}
use Rattle.map_history.specs.Operation.{Operation}
use Rattle.map_history.specs.LegalReport.{Line}
use Rattle.script.specs.declared.error.ScriptError.{ScriptError}
use Rattle.script.specs.Grammar.{lines_of}
use Rattle.script.specs.Lane.{lane_from, lane_of, line_said, NumbersRise}
use Rattle.script.specs.Schema.{SchemaText}
use Rattle.script.specs.Steps.{GivesWhole}
use Rattle.script.proofs.LaneSteps.{step, no_lines}

abbrev precedes : Line → Line → Type 0
precedes x y = x.line < y.line

abbrev is_at_least : ℕ → Line → Type 0
is_at_least low x = low ≤ x.line

abbrev is_below : ℕ → Line → Type 0
is_below high x = x.line < high

-- the numbers rise within two ends
record RiseBetween (low high : ℕ) (lines : List Line) : Type 0 where
  ascend : AllPairs precedes lines
  from_low : AllByRecursion (is_at_least low) lines
  to_high : AllByRecursion (is_below high) lines

-- one line more in front, if it says something
first_rises : (n high : ℕ) (said : Option Operation) (more : List Line) → n < high → RiseBetween (n + 1) high more → RiseBetween n high (line_said n said ++ more)
first_rises n high None more lt r = record { ascend = r.ascend; from_low = each_weaker (is_at_least (n + 1)) (is_at_least n) (λ x le. omega (arith, le)) more r.from_low; to_high = r.to_high }
first_rises n high (Some op) more lt r =
    let line : Line = record { line = n; op = op } in
    let later = each_weaker (is_at_least (n + 1)) (precedes line) (λ x le. omega (arith, le)) more r.from_low in
    record {
      ascend = AllPairs-cons precedes line more (All-from_recursion (precedes line) more later) r.ascend;
      from_low = (omega arith, each_weaker (is_at_least (n + 1)) (is_at_least n) (λ x le. omega (arith, le)) more r.from_low);
      to_high = (lt, r.to_high);
    }

from_rises : (s : SchemaText) (n : ℕ) (texts : List (List ℕ)) (lines : List Line) → lane_from n s texts ≡ Ok lines → RiseBetween n (n + length texts) lines
from_rises s n [] lines h =
    subst (λ (ls : List Line). RiseBetween n (n + 0) ls) (no_lines lines s n h) (record { ascend = λ i j d lt within. absurd (omega (arith, within)); from_low = tt; to_high = tt })
from_rises s n (text ∷ texts) lines h =
    let x = step s n text texts lines h in
    let end : (n + 1) + length texts ≡ n + length (text ∷ texts) = omega arith in
    let later = subst (λ (k : ℕ). RiseBetween (n + 1) k x.more) end (from_rises s (n + 1) texts x.more x.later) in
    subst (λ (ls : List Line). RiseBetween n (n + length (text ∷ texts)) ls) x.whole (first_rises n (n + length (text ∷ texts)) x.said x.more (omega arith) later)

-- along a lane that a file spells the numbers rise, from 1 up to how many lines the file has
numbers_rise : (s : SchemaText) (bytes : List ℕ) (lines : List Line) → lane_of s bytes ≡ Ok lines → NumbersRise (length (lines_of bytes)) lines
unfolding lane_of
numbers_rise s bytes lines h =
    let r = from_rises s 1 (lines_of bytes) lines h in
    record { ascend = r.ascend; from_one = r.from_low; within = each_weaker (is_below (1 + length (lines_of bytes))) (λ (x : Line). x.line ≤ length (lines_of bytes)) (λ x lt. omega (arith, lt)) lines r.to_high }

-- so in a lane that the program gives
pub numbered_lane : {X : Type 0} (s : SchemaText) (bytes : List ℕ) (view : X → List Line) (result : Result X ScriptError)
    → GivesWhole view result (lane_of s bytes) → IfOk result (λ v. NumbersRise (length (lines_of bytes)) (view v))
numbered_lane s bytes view (Ok v) h = numbers_rise s bytes (view v) h
numbered_lane s bytes view (Err e) h = tt
