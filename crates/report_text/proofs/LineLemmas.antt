-- Lines that grow by one part at a time.
use Rattle.std.proofs.Common.{◌≡◌, ℕ, true, false, ◌+◌, ◌<◌, ◌≤◌, Result, Ok, Err, List, [], ◌∷◌, ◌++◌, length, map, take, get_or, refl, sym, ap, ◌∙◌, append_assoc, arith, length-append}
use Rattle.std.proofs.lemmas.List.{take_all, take_at, take-take, map_more, length-take-le, length-map}
use Rattle.std.specs.Bool.{if◌then◌else◌}
use Rattle.std.specs.Result.{IsErr, OnErr, OnOk, is_err, is_ok}
use Rattle.std.specs.List.{join_with_byte}
use Rattle.report_text.specs.Line.{KeepsBytes, separator}

-- what a longer list begins with is what a part of its front begins with
pub Extends-front : (a x b c : List ℕ) → b ≡ a ++ x → KeepsBytes b c → KeepsBytes a c
Extends-front a x b c e h =
    let shorter : length a ≤ length b = omega (arith, length-append a x, ap length e) in
    sym (take-take (length a) (length b) c shorter)
    ∙ ap (take (length a)) (h ∙ e)
    ∙ take_at a x (length a) refl

-- the same where a `?` leaves
pub Extends-at_exit : {T E : Type 0} (r : Result T E) (a x b c : List ℕ) → b ≡ a ++ x → KeepsBytes b c → OnErr r (KeepsBytes a c)
Extends-at_exit (Ok y) a x b c e h = tt
Extends-at_exit (Err y) a x b c e h = Extends-front a x b c e h

-- the same after two steps
pub Extends-at_second_exit : {T E : Type 0} (r : Result T E) (a x b y c d : List ℕ) → b ≡ a ++ x → c ≡ b ++ y → KeepsBytes c d → OnErr r (KeepsBytes a d)
Extends-at_second_exit r a x b y c d e f h = Extends-at_exit r a (x ++ y) c d (f ∙ ap (λ front. front ++ y) e ∙ append_assoc a x y) h

-- the same at a last step, which may fail
pub Extends-at_last_step : {T E : Type 0} (r : Result T E) (a x b c : List ℕ) → b ≡ a ++ x → OnErr r (KeepsBytes b c) → OnErr r (KeepsBytes a c)
Extends-at_last_step (Ok y) a x b c e h = tt
Extends-at_last_step (Err y) a x b c e h = Extends-front a x b c e h

-- what stays as it is keeps its bytes
stays : (a c : List ℕ) → c ≡ a → KeepsBytes a c
stays a c same = ap (take (length a)) same ∙ take_all (length a) a (omega arith)

pub Stays-at_exit : {T E : Type 0} (r : Result T E) (a c : List ℕ) → c ≡ a → OnErr r (KeepsBytes a c)
Stays-at_exit (Ok y) a c same = tt
Stays-at_exit (Err y) a c same = stays a c same

-- the same of a call that puts some bytes or leaves all as it is
pub Stays-where_err : {T E : Type 0} (r : Result T E) (a x c : List ℕ) → c ≡ (if is_ok r then a ++ x else a) → OnErr r (KeepsBytes a c)
Stays-where_err (Ok y) a x c put = tt
Stays-where_err (Err y) a x c same = stays a c same

-- what such a call put
pub put_where_ok : {T E : Type 0} (r : Result T E) (a x text c : List ℕ) → x ≡ text → c ≡ (if is_ok r then a ++ x else a) → OnOk r (c ≡ a ++ text)
put_where_ok (Ok y) a x text c is put = put ∙ ap (λ l. a ++ l) is
put_where_ok (Err y) a x text c is same = tt

-- and what it left where it is known to have failed
pub same_where_err : {T E : Type 0} (r : Result T E) (a x c : List ℕ) → true ≡ is_err r → c ≡ (if is_ok r then a ++ x else a) → c ≡ a
same_where_err (Ok y) a x c failed put = absurd (cc failed)
same_where_err (Err y) a x c failed same = same

pub put_where_no_err : {T E : Type 0} (r : Result T E) (a x c : List ℕ) → false ≡ is_err r → c ≡ (if is_ok r then a ++ x else a) → c ≡ a ++ x
put_where_no_err (Ok y) a x c done put = put
put_where_no_err (Err y) a x c done same = absurd (cc done)

-- where a `?` leaves, nothing is asked of what would have been put
pub OnOk-at_exit : {T E : Type 0} (r : Result T E) (P : Type 0) → IsErr r → OnOk r P
OnOk-at_exit (Ok y) P failed = absurd (cc failed)
OnOk-at_exit (Err y) P failed = tt

-- two steps and a last one, which may fail
pub Extends-at_third_step : {T E : Type 0} (r : Result T E) (a x b y c d : List ℕ) → b ≡ a ++ x → c ≡ b ++ y → OnErr r (KeepsBytes c d) → OnErr r (KeepsBytes a d)
Extends-at_third_step r a x b y c d e f h = Extends-at_last_step r a (x ++ y) c d (f ∙ ap (λ front. front ++ y) e ∙ append_assoc a x y) h

pub put_in_three : {T E : Type 0} (r : Result T E) (a x text b y c z d : List ℕ) → x ≡ text → b ≡ a ++ x → c ≡ b ++ y → OnOk r (d ≡ c ++ z) → OnOk r (d ≡ a ++ (text ++ (y ++ z)))
put_in_three (Ok w) a x text b y c z d is e f h =
    let front : c ≡ (a ++ text) ++ y = f ∙ ap (λ l. l ++ y) (e ∙ ap (λ l. a ++ l) is) in
    h ∙ ap (λ l. l ++ z) front ∙ simp append_assoc
put_in_three (Err w) a x text b y c z d is e f h = tt

-- the same behind other steps
pub Extends-at_last_exit : {T E : Type 0} (r : Result T E) (a x b c : List ℕ) → b ≡ a ++ x → c ≡ b → OnErr r (KeepsBytes a c)
Extends-at_last_exit r a x b c e same = Extends-at_exit r a x b c e (stays b c same)

regrouped : (x j s y : List ℕ) → x ++ ((j ++ s) ++ y) ≡ ((x ++ j) ++ s) ++ y
regrouped x j s y = simp append_assoc

-- one more part behind some joined ones
join_push : (c : ℕ) (xs : List (List ℕ)) (y : List ℕ) → join_with_byte c (xs ++ y ∷ []) ≡ (join_with_byte c xs ++ separator c (length xs)) ++ y
join_push c [] y = refl
join_push c (x ∷ []) y = sym (append_assoc x (c ∷ []) y)
join_push c (x ∷ z ∷ xs) y = ap (λ more. x ++ c ∷ more) (join_push c (z ∷ xs) y) ∙ regrouped x (c ∷ join_with_byte c (z ∷ xs)) (c ∷ []) y

join_more : {X : Type 0} (c : ℕ) (f : X → List ℕ) (xs : List X) (i : ℕ) (d : X) → i < length xs
    → join_with_byte c (map f (take (i + 1) xs)) ≡ (join_with_byte c (map f (take i xs)) ++ separator c i) ++ f (get_or xs i d)
join_more c f xs i d h =
    let within : i ≤ length xs = omega arith in
    let short : length (map f (take i xs)) ≡ i = simp (length-map, length-take-le i xs within) in
    ap (join_with_byte c) (map_more f xs i d h)
    ∙ join_push c (map f (take i xs)) (f (get_or xs i d))
    ∙ ap (λ n. (join_with_byte c (map f (take i xs)) ++ separator c n) ++ f (get_or xs i d)) short

-- the step of a loop that puts a separator and then the next part
pub joined_more : {X : Type 0} (c : ℕ) (f : X → List ℕ) (xs : List X) (i place : ℕ) (d part : X) (start was between after : List ℕ) → i < length xs
    → place ≡ i
    → part ≡ get_or xs i d
    → was ≡ start ++ join_with_byte c (map f (take i xs))
    → between ≡ was ++ separator c place
    → after ≡ between ++ f part
    → after ≡ start ++ join_with_byte c (map f (take (i + 1) xs))
joined_more c f xs i place d part start was between after h at is e1 e2 e3 =
    let put : between ≡ (start ++ join_with_byte c (map f (take i xs))) ++ separator c i = e2 ∙ ap (λ n. was ++ separator c n) at ∙ ap (λ l. l ++ separator c i) e1 in
    e3 ∙ ap (λ x. between ++ f x) is ∙ ap (λ l. l ++ f (get_or xs i d)) put
    ∙ sym (regrouped start (join_with_byte c (map f (take i xs))) (separator c i) (f (get_or xs i d)))
    ∙ ap (λ l. start ++ l) (sym (join_more c f xs i d h))

-- the end of that loop: all parts were put
pub joined_all : {X : Type 0} (c : ℕ) (f : X → List ℕ) (xs : List X) (i : ℕ) (start was : List ℕ) → length xs ≤ i → was ≡ start ++ join_with_byte c (map f (take i xs)) → was ≡ start ++ join_with_byte c (map f xs)
joined_all c f xs i start was all e = e ∙ ap (λ ys. start ++ join_with_byte c (map f ys)) (take_all i xs all)

-- and what was put behind them
pub joined_ended : {X : Type 0} (c : ℕ) (f : X → List ℕ) (xs : List X) (i : ℕ) (start was after end : List ℕ) → length xs ≤ i → was ≡ start ++ join_with_byte c (map f (take i xs)) → after ≡ was ++ end
    → after ≡ start ++ (join_with_byte c (map f xs) ++ end)
joined_ended c f xs i start was after end all e e' =
    e' ∙ ap (λ l. l ++ end) (joined_all c f xs i start was all e) ∙ append_assoc start (join_with_byte c (map f xs)) end
