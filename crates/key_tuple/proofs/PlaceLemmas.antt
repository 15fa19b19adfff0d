-- The laws of the order.
use Rattle.std.proofs.Common.{◌≡◌, ℕ, true, false, not, List, [], ◌∷◌, refl, ap, arith, is_lt, Ordering, Less, Equal, Greater}
use Rattle.std.proofs.lemmas.Cmp.{tied_itself}
use Rattle.std.proofs.lemmas.Bool.{not-true}
use Rattle.std.proofs.lemmas.Bool.Decides.{nat_tests}
use Rattle.std.specs.Cmp.{IsTotalOrder}
use Rattle.std.specs.Ordering.{nat_cmp, ordering_then, ordering_reverse}
use Rattle.std.specs.Cmp.Lexicographic.{slice_cmp}
use Rattle.list_facts.proofs.ByteLists.{byte_lists_total}
use Rattle.list_facts.proofs.Orders.{is_less}
use Rattle.key_tuple.specs.Order.{FieldList, key_cmp}
use Rattle.key_tuple.specs.KeyPlace.{KeyPlace, Start, At, End, before, IsCut}

pub total : IsTotalOrder key_cmp
total = byte_lists_total

-- lists that compare as equal are equal, where their elements are
exact : {A : Type 0} (R : A → A → Ordering) → ((x y : A) → R x y ≡ Equal → x ≡ y) → (xs ys : List A) → slice_cmp R xs ys ≡ Equal → xs ≡ ys
exact R h [] [] e = refl
exact R h [] (y ∷ ys) e = absurd cc
exact R h (x ∷ xs) [] e = absurd cc
exact R h (x ∷ xs) (y ∷ ys) e = go (R x y) refl e (exact R h xs ys)
  where
    go : (o : Ordering) → R x y ≡ o → ordering_then o (slice_cmp R xs ys) ≡ Equal → (slice_cmp R xs ys ≡ Equal → xs ≡ ys) → x ∷ xs ≡ y ∷ ys
    go Less q e more = absurd cc
    go Equal q e more = cc (more e, h x y q)
    go Greater q e more = absurd cc

nat_exact : (x y : ℕ) → nat_cmp x y ≡ Equal → x ≡ y
nat_exact x y e = grind (arith, nat_tests)

pub key_exact : (j k : FieldList) → key_cmp j k ≡ Equal → j ≡ k
key_exact = exact (slice_cmp nat_cmp) (exact nat_cmp nat_exact)

pub before-itself : (x : KeyPlace) → before x x ≡ false
unfolding before
before-itself Start = refl
before-itself (At k) = ap is_lt (tied_itself total k)
before-itself End = refl

pub before-trans : (x y z : KeyPlace) → before x y ≡ true → before y z ≡ true → before x z ≡ true
unfolding before
before-trans (At j) (At k) (At l) p q = ap is_lt (total.trans j k l (is_less _ p) (is_less _ q))
before-trans Start (At k) (At l) p q = refl
before-trans (At j) (At k) End p q = refl
before-trans Start (At k) End p q = refl
before-trans Start End z p q = absurd cc
before-trans Start Start z p q = absurd cc
before-trans (At j) Start z p q = absurd cc
before-trans (At j) End z p q = absurd cc
before-trans End y z p q = absurd cc
before-trans x (At k) Start p q = absurd cc

pub before-tied : (x y : KeyPlace) → before x y ≡ false → before y x ≡ false → x ≡ y
unfolding before
before-tied Start Start p q = refl
before-tied Start (At k) p q = absurd cc
before-tied Start End p q = absurd cc
before-tied (At j) Start p q = absurd cc
before-tied (At j) (At k) p q = ap At (key_exact j k (go (key_cmp j k) (key_cmp k j) (total.antisymm k j) p q))
  where
    go : (o r : Ordering) → r ≡ ordering_reverse o → is_lt o ≡ false → is_lt r ≡ false → o ≡ Equal
    go Less r e p q = absurd cc
    go Equal r e p q = refl
    go Greater r e p q = absurd (cc (ap is_lt e))
before-tied (At j) End p q = absurd cc
before-tied End Start p q = absurd cc
before-tied End (At k) p q = absurd cc
before-tied End End p q = refl

-- what follows from these
pub before_upto : (x y z : KeyPlace) → before x y ≡ true → before z y ≡ false → before x z ≡ true
before_upto x y z p q = grind (arith, before-itself x, before-trans z x y, before-trans x z y, before-tied x z)

pub upto_before : (x y z : KeyPlace) → before y x ≡ false → before y z ≡ true → before x z ≡ true
upto_before x y z p q = grind (arith, before-trans y z x, before-trans y x z, before-tied x z, before-tied x y)

pub before_not_after : (x y : KeyPlace) → before x y ≡ true → before y x ≡ false
before_not_after x y p = grind (arith, before-itself x, before-trans x y x)

-- the cut just after a place
pub before-Start : (x : KeyPlace) → before x Start ≡ false
unfolding before
before-Start Start = refl
before-Start (At k) = refl
before-Start End = refl

pub cut_after : (x : KeyPlace) → before x End ≡ true → IsCut (before x)
cut_after x e = record { begins = before-Start x; ends = e; rises = λ y z b t. before-trans x y z t b }

pub before-End : (k : FieldList) → before (At k) End ≡ true
unfolding before
before-End k = refl

-- the cut just after a key
pub key_cut : (k : FieldList) → IsCut (before (At k))
key_cut k = cut_after (At k) (before-End k)

pub before_some : (x y : KeyPlace) → before x y ≡ true → before x End ≡ true
unfolding before
before_some Start y e = refl
before_some (At k) y e = refl
before_some End y e = absurd cc

pub some_before : (x y : KeyPlace) → before x y ≡ true → before Start y ≡ true
unfolding before
some_before x Start e = absurd (cc (before-Start x))
some_before x (At k) e = refl
some_before x End e = refl

pub End-before : (x : KeyPlace) → before End x ≡ false
unfolding before
End-before x = refl

-- the cut at the end of a range
pub cut_before : (x : KeyPlace) → before Start x ≡ true → IsCut (λ y. not (before y x))
cut_before x e = record { begins = ap not e; ends = ap not (End-before x); rises = λ y z b t. ap not (not_before_after y z b (not-true (before y x) t)) }
  where
    not_before_after : (y z : KeyPlace) → before y z ≡ true → before y x ≡ false → before z x ≡ false
    not_before_after y z b f = grind (arith, before-trans y z x)

pub Start-End : before Start End ≡ true
unfolding before
Start-End = refl
