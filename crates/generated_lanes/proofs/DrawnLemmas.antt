-- Drawn lines ask for keys of one field, and lanes with one more.
use Rattle.std.proofs.Common.{◌≡◌, ℕ, zero, suc, ◌+◌, ◌%◌, Bool, true, false, cond, nat_lt, ◌==◌, List, [], ◌∷◌, ◌++◌, Vec, length, map, refl, ap, ◌∙◌, sym, subst, arith}
use Rattle.std.specs.List.{AllByRecursion}
use Rattle.std.specs.declared.alloc.Global.{Global}
use Rattle.std.proofs.lemmas.List.{map-append}
use mathlib.Core.Option.{some}
use lib.ListN.{get_elem?}
use Rattle.key_tuple.specs.Order.{FieldList}
use Rattle.map_history.specs.declared.line.Line as script
use Rattle.map_history.specs.declared.op.Op.{Op}
use Rattle.map_history.specs.declared.op.Op.TheVariants as op
use Rattle.map_history.specs.LegalReport.{Line}
use Rattle.map_history.specs.Lines.{line_text, line_texts}
use Rattle.map_history.specs.Map.{Put, Set, Del, key_of}
use Rattle.map_history.specs.Operation.{Operation, Ask, Get, Make, Seek, Scan, operation_of}
use Rattle.lane_law.specs.Lines.{IsOpOf, AreLinesOf}
use Rattle.gen_law.specs.Drawing.{ask_by, key_drawn, value_written, line_drawn, lane_lines, state_after, number_drawn}
use Rattle.gen_runs.specs.Runs.{lanes_drawn}

-- a get or a change by a key of one field
abbrev AsksOne : Ask → Type 0
AsksOne (Get key) = length key ≡ 1
AsksOne (Make change) = length (key_of change) ≡ 1
AsksOne (Seek mode tuple) = ⊥
AsksOne (Scan from to limit) = ⊥

-- such an operation of the first index
record IsFirst (o : Operation) : Type 0 where
  index : o.index ≡ 0
  one : AsksOne o.ask

ask_one : (choice : ℕ) (key value : List ℕ) → AsksOne (ask_by choice (key ∷ []) value)
ask_one choice key value = by_tests (nat_lt choice 3) (choice == 3) (choice == 4)
  where
    by_tests : (a b c : Bool) → AsksOne (cond a (Make (Put (key ∷ []) value)) (cond b (Make (Set (key ∷ []) value)) (cond c (Make (Del (key ∷ []))) (Get (key ∷ [])))))
    by_tests true b c = refl
    by_tests false true c = refl
    by_tests false false true = refl
    by_tests false false false = refl

all_append : {X : Type 0} (P : X → Type 0) (xs ys : List X) → AllByRecursion P xs → AllByRecursion P ys → AllByRecursion P (xs ++ ys)
all_append P [] ys first second = second
all_append P (x ∷ xs) ys first second = (first.0, all_append P xs ys first.1 second)

lines_first : (number lane lines : ℕ) → AllByRecursion (λ (line : Line). IsFirst line.op) (lane_lines number lane lines)
lines_first number lane zero = tt
lines_first number lane (suc lines) =
    let state = state_after (number + lane) (suc lines) in
    all_append (λ (line : Line). IsFirst line.op) (lane_lines number lane lines) (line_drawn lane (suc lines) state ∷ []) (lines_first number lane lines)
    (record { index = refl; one = ask_one (number_drawn state % 8) (key_drawn lane (number_drawn state)) (value_written (suc lines)) }, tt)

-- a key of the first index
key_first : (index n : ℕ) → index ≡ 0 → n ≡ 1 → get_elem? (1 ∷ []) index ≡ some n
key_first index n first one = (λ i. get_elem? (1 ∷ []) (first i)) ∙ ap some (sym one)

op_first : (o : Op) → IsFirst (operation_of o) → IsOpOf (1 ∷ []) o
op_first (op.Get index key) is = key_first index (length key.tuple) is.index is.one
op_first (op.Put index key value) is = key_first index (length key.tuple) is.index is.one
op_first (op.Set index key value) is = key_first index (length key.tuple) is.index is.one
op_first (op.Del index key) is = key_first index (length key.tuple) is.index is.one
op_first (op.Seek index mode tuple) is = absurd is.one
op_first (op.Scan index from to limit) is = absurd is.one

texts_first : (lines : List script.Line) → AllByRecursion (λ (line : Line). IsFirst line.op) (line_texts lines) → AreLinesOf (1 ∷ []) lines
texts_first [] all = tt
texts_first (line ∷ lines) all = (op_first line.op all.0, texts_first lines all.1)

-- drawn lines ask for keys of one field of the first index
pub are_lines : (number lane lines : ℕ) (made : List script.Line) → line_texts made ≡ lane_lines number lane lines → AreLinesOf (1 ∷ []) made
are_lines number lane lines made drawn = texts_first made (subst (AllByRecursion (λ (line : Line). IsFirst line.op)) (sym drawn) (lines_first number lane lines))

-- the lanes' lines as texts
abbrev pub all_texts : List (Vec script.Line Global) → List (List Line)
all_texts lanes = map (λ (lane : Vec script.Line Global). line_texts lane.items) lanes

-- with one lane more
pub texts_more : (number lines before : ℕ) (made made' : List (Vec script.Line Global)) (lane : Vec script.Line Global) → made' ≡ made ++ lane ∷ [] → all_texts made ≡ lanes_drawn number before lines → line_texts lane.items ≡ lane_lines number (before + 1) lines → all_texts made' ≡ lanes_drawn number (before + 1) lines
texts_more number lines before made made' lane more drawn one =
    let next : before + 1 ≡ suc before = omega arith in
    ap all_texts more ∙ (map-append (λ (l : Vec script.Line Global). line_texts l.items) made (lane ∷ []) ∙ (ap (λ (ls : List (List Line)). ls ++ line_texts lane.items ∷ []) drawn
    ∙ (ap (λ (l : List Line). lanes_drawn number before lines ++ l ∷ []) (one ∙ ap (λ n. lane_lines number n lines) next) ∙ ap (λ n. lanes_drawn number n lines) (sym next))))

pub lines_more : (number lines before : ℕ) (made made' : List (Vec script.Line Global)) (lane : Vec script.Line Global) → made' ≡ made ++ lane ∷ [] → AllByRecursion (λ (l : Vec script.Line Global). AreLinesOf (1 ∷ []) l.items) made → line_texts lane.items ≡ lane_lines number (before + 1) lines → AllByRecursion (λ (l : Vec script.Line Global). AreLinesOf (1 ∷ []) l.items) made'
lines_more number lines before made made' lane more all one = subst (AllByRecursion (λ (l : Vec script.Line Global). AreLinesOf (1 ∷ []) l.items)) (sym more)
    (all_append (λ (l : Vec script.Line Global). AreLinesOf (1 ∷ []) l.items) made (lane ∷ []) all (are_lines number (before + 1) lines lane.items one, tt))
