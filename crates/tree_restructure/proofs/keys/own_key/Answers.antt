use Rattle.std.proofs.Common.{◌≡◌, ◌+◌, ◌<◌, ◌≤◌, ℕ, List, [], ◌∷◌, ◌++◌, Vec, Global, length, get_or, map, take, ap, ◌∙◌, sym, subst, arith, Result, Ok, Err, IfOk, IsErrAnd}
use Rattle.std.specs.Result.{MatchResult}
use Rattle.std.proofs.lemmas.List.{take_all, take_more, map-append, length-map}
use Rattle.std.proofs.lemmas.Result.{IfOk-weaker}
use Rattle.key_tuple.specs.declared.key.Key.{Key}
use Rattle.key_tuple.specs.Order.{FieldList}
use Rattle.tree_restructure.proofs.keys.own_key.Goals as goal

abbrev Copy : Type 0
Copy = Vec ℕ Global

abbrev of_copies : List Copy → FieldList
of_copies = map (λ f. f.items)

all_copied : (copies : List Copy) (fields : FieldList) (i : ℕ) → of_copies copies ≡ take i fields
    → length fields ≤ i → of_copies copies ≡ fields
all_copied copies fields i so_far all = so_far ∙ take_all i fields all

some_copied : (copies : List Copy) (fields : FieldList) → of_copies copies ≡ fields
    → 0 < length fields → 0 < length copies
some_copied copies fields same some =
    omega (arith, ap length same, length-map copies (λ f. f.items))

one_more : (copies : List Copy) (copy : Copy) (fields : FieldList) (i : ℕ)
    → of_copies copies ≡ take i fields → i < length fields → copy.items ≡ get_or fields i []
    → of_copies (copies ++ copy ∷ []) ≡ take (i + 1) fields
one_more copies copy fields i so_far more same =
    map-append (λ f. f.items) copies (copy ∷ []) ∙ (λ j. so_far j ++ same j ∷ [])
    ∙ sym (take_more fields i [] more)

-- what holds of a success holds of it with another error
mapped : {K E D : Type 0} (P : K → Type 0) (R : E → D → Type 0) (r : Result K E) (s : Result K D)
    → MatchResult r (λ x. s ≡ Ok x) (λ e. IsErrAnd s (R e)) → IfOk r P → IfOk s P
mapped P R (Ok x) s m ok = subst (λ q. IfOk q P) (sym m) ok
mapped P R (Err e) (Ok v) m ok = absurd m
mapped P R (Err e) (Err d) m ok = tt

pub try_new-requires : goal.try_new-requires
try_new-requires c d = let fields = c.A.Fields.fields_of d.args.fields.now in
    let all : length fields ≤ d.loop-i.i = omega (arith, d.count-i-end.ensures, d.loop-i-test.false) in
    some_copied d.loop-i.copies.items fields
    (all_copied d.loop-i.copies.items fields d.loop-i.i d.loop-i.invariant all) d.requires.some

pub loop-i-preserved : goal.loop-i-preserved
loop-i-preserved c d = let fields = c.A.Fields.fields_of d.args.fields.now in
    let more : d.loop-i.i < length fields = omega (arith, d.count-i-end.ensures, d.loop-i-test.true) in
    ap of_copies {y = d.loop-i.copies.items ++ d.in_ok-own_field.field-0 ∷ []} d.in_ok-push.ensures.items
    ∙ one_more d.loop-i.copies.items d.in_ok-own_field.field-0 fields d.loop-i.i d.loop-i.invariant more d.in_ok-own_field.ensures

pub returns : goal.returns
returns c d = let fields = c.A.Fields.fields_of d.args.fields.now in
    let all : length fields ≤ d.loop-i.i = omega (arith, d.count-i-end.ensures, d.loop-i-test.false) in
    let same = all_copied d.loop-i.copies.items fields d.loop-i.i d.loop-i.invariant all in
    mapped (λ (k : Key). k.tuple ≡ fields) _ d.try_new.result d.map_err.result d.map_err.ensures.cases
    (IfOk-weaker d.try_new.result _ (λ (k : Key). k.tuple ≡ fields) (λ k e. e ∙ same) d.try_new.ensures.ok)
