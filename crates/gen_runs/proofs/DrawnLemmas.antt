-- How many lines are drawn, and that none of them scans.
use Rattle.std.proofs.Common.{◌≡◌, ℕ, zero, suc, ◌+◌, ◌*◌, ◌%◌, ◌≤◌, Bool, true, false, cond, nat_lt, ◌==◌, List, [], ◌∷◌, ◌++◌, length, length-append, refl, ◌∙◌, arith}
use Rattle.std.proofs.Math.Nat.{suc-mul}
use Rattle.std.specs.List.{AllByRecursion, count_by, sum_by}
use Rattle.std.proofs.lemmas.List.Sums.{sum_by-cons, count_by-le-length}
use Rattle.key_tuple.specs.Order.{FieldList}
use Rattle.map_history.specs.LegalReport.{Line}
use Rattle.map_history.specs.Map.{Put, Set, Del}
use Rattle.map_history.specs.Operation.{Get, Make, is_scan}
use Rattle.gen_law.specs.Drawing.{ask_by, key_drawn, value_written, line_drawn, lane_lines, state_after, number_drawn}
use Rattle.gen_runs.specs.Runs.{lanes_drawn}

-- what all elements of two lists have, those of both have
pub all_append : {X : Type 0} (P : X → Type 0) (xs ys : List X) → AllByRecursion P xs → AllByRecursion P ys → AllByRecursion P (xs ++ ys)
all_append P [] ys first second = second
all_append P (x ∷ xs) ys first second = (first.0, all_append P xs ys first.1 second)

ask_plain : (choice : ℕ) (key : FieldList) (value : List ℕ) → is_scan (ask_by choice key value) ≡ false
ask_plain choice key value = by_tests (nat_lt choice 3) (choice == 3) (choice == 4)
  where
    by_tests : (a b c : Bool) → is_scan (cond a (Make (Put key value)) (cond b (Make (Set key value)) (cond c (Make (Del key)) (Get key)))) ≡ false
    by_tests true b c = refl
    by_tests false true c = refl
    by_tests false false true = refl
    by_tests false false false = refl

line_plain : (lane line state : ℕ) → is_scan (line_drawn lane line state).op.ask ≡ false
line_plain lane line state = ask_plain (number_drawn state % 8) (key_drawn lane (number_drawn state) ∷ []) (value_written line)

-- so many lines, none of which scans
pub record IsDrawn (lines : ℕ) (lane : List Line) : Type 0 where
  pub long : length lane ≡ lines
  pub plain : AllByRecursion (λ (line : Line). is_scan line.op.ask ≡ false) lane

lane_is_drawn : (number lane lines : ℕ) → IsDrawn lines (lane_lines number lane lines)
lane_is_drawn number lane zero = record { long = refl; plain = tt }
lane_is_drawn number lane (suc lines) =
    let before = lane_is_drawn number lane lines in
    let last = line_drawn lane (suc lines) (state_after (number + lane) (suc lines)) in
    record {
      long = length-append (lane_lines number lane lines) (last ∷ []) ∙ (let long = before.long in omega (arith, long));
      plain = all_append (λ (line : Line). is_scan line.op.ask ≡ false) (lane_lines number lane lines) (last ∷ []) before.plain (line_plain lane (suc lines) (state_after (number + lane) (suc lines)), tt);
    }

pub lanes_are_drawn : (number lanes lines : ℕ) → AllByRecursion (IsDrawn lines) (lanes_drawn number lanes lines)
lanes_are_drawn number zero lines = tt
lanes_are_drawn number (suc lanes) lines =
    all_append (IsDrawn lines) (lanes_drawn number lanes lines) (lane_lines number (suc lanes) lines ∷ []) (lanes_are_drawn number lanes lines) (lane_is_drawn number (suc lanes) lines, tt)

pub as_many_lanes : (number lanes lines : ℕ) → length (lanes_drawn number lanes lines) ≡ lanes
as_many_lanes number zero lines = refl
as_many_lanes number (suc lanes) lines =
    let rest = as_many_lanes number lanes lines in
    length-append (lanes_drawn number lanes lines) (lane_lines number (suc lanes) lines ∷ []) ∙ omega (arith, rest)

-- of the lines of some lanes no more pass a test than there are
pub count_upto_all : (test : Line → Bool) (lines : ℕ) (lanes : List (List Line)) → AllByRecursion (IsDrawn lines) lanes → sum_by (λ (lane : List Line). count_by test lane) lanes ≤ length lanes * lines
count_upto_all test lines [] all = omega arith
count_upto_all test lines (lane ∷ lanes) all =
    let rest = count_upto_all test lines lanes all.1 in
    let first = count_by-le-length test lane in
    let long = all.0.long in
    let sum = sum_by-cons (λ (l : List Line). count_by test l) lane lanes in
    let product : suc (length lanes) * lines ≡ length lanes * lines + lines = suc-mul (length lanes) lines in
    omega (arith, rest, first, long, sum, product)
