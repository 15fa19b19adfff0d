-- The position of a tuple is a cut, and goes with the mode's cut.
use Rattle.std.proofs.Common.{◌≡◌, ℕ, ◌==◌, ◌&&◌, Bool, true, false, not, cond, [], ◌∷◌, length, refl, sym, ap, ◌∙◌, arith, eq-eqb, is_lt, is_gt, Ordering, Less, Equal, Greater}
use Rattle.std.proofs.lemmas.Bool.Decides.{nat_tests}
use Rattle.std.proofs.lemmas.Cmp.{nat_list_cmp_total}
use Rattle.std.specs.Ordering.{nat_cmp, ordering_then, ordering_reverse}
use Rattle.std.specs.Cmp.Lexicographic.{slice_cmp}
use Rattle.key_tuple.specs.declared.mode.Mode.{Mode}
use Rattle.key_tuple.specs.declared.mode.Mode.TheVariants.{Ge, G, Le, L}
use Rattle.key_tuple.specs.Order.{FieldList, key_cmp, tuple_cmp}
use Rattle.key_tuple.specs.KeyPlace.{KeyPlace, Start, At, End, before, IsCut, not_below, above, cut_of, within}
use Rattle.key_tuple.specs.Position.{position_cut, HasPosition, IsOfFields, PositionsPart}
use Rattle.key_tuple.proofs.PlaceLemmas.{before_upto}
use Rattle.key_tuple.proofs.TupleLemmas.{not_below_cut, above_cut, tuple_cmp-whole}

-- the cut of each mode is one
pub mode_cut : (mode : Mode) (tuple : FieldList) → IsCut (cut_of mode tuple)
mode_cut Ge tuple = not_below_cut tuple
mode_cut G tuple = above_cut tuple
mode_cut Le tuple = above_cut tuple
mode_cut L tuple = not_below_cut tuple

-- one of two cuts is one
one_of : (b : Bool) (p q : KeyPlace → Bool) → IsCut p → IsCut q → IsCut (λ x. cond b (p x) (q x))
one_of true p q first second = record { begins = first.begins; ends = first.ends; rises = first.rises }
one_of false p q first second = record { begins = second.begins; ends = second.ends; rises = second.rises }

pub position_is_cut : (fields : ℕ) (mode : Mode) (tuple : FieldList) → IsCut (position_cut fields mode tuple)
position_is_cut fields mode tuple = one_of (length tuple == fields) (above tuple) (cut_of mode tuple) (above_cut tuple) (mode_cut mode tuple)

-- above a tuple with all fields is after its key
above-whole : (fields : ℕ) (tuple : FieldList) (x : KeyPlace) → length tuple ≡ fields → IsOfFields fields x → above tuple x ≡ before (At tuple) x
unfolding above before
above-whole fields tuple Start e f = refl
above-whole fields tuple (At k) e f = ap is_lt (tuple_cmp-whole tuple k (e ∙ sym f))
above-whole fields tuple End e f = refl

pub position-whole : (fields : ℕ) (mode : Mode) (tuple : FieldList) (x : KeyPlace) → length tuple ≡ fields → IsOfFields fields x → position_cut fields mode tuple x ≡ before (At tuple) x
position-whole fields mode tuple x e f =
    ap (λ b. cond b (above tuple x) (cut_of mode tuple x)) (eq-eqb (length tuple) fields e) ∙ above-whole fields tuple x e f

pub has_key : (fields : ℕ) (mode : Mode) (tuple : FieldList) (low high : KeyPlace) → length tuple ≡ fields → IsOfFields fields low → IsOfFields fields high → HasPosition fields mode tuple low high → within low high (At tuple) ≡ true
has_key fields mode tuple low high e f g has =
    let above_low : before (At tuple) low ≡ false = sym (position-whole fields mode tuple low e f) ∙ has.at_low in
    let below_high : before (At tuple) high ≡ true = sym (position-whole fields mode tuple high e g) ∙ has.at_high in
    rw (above_low, below_high) refl

-- a place within bounds is at the low end or after it, and before the high end
pub within_parts : (low high x : KeyPlace) → within low high x ≡ true → (before x low ≡ false) × (before x high ≡ true)
within_parts low high x e = both (before x low) (before x high) e
  where
    both : (a b : Bool) → (not a && b) ≡ true → (a ≡ false) × (b ≡ true)
    both a b e = grind arith

pub of_key : (fields : ℕ) (mode : Mode) (tuple : FieldList) (low high : KeyPlace) → length tuple ≡ fields → IsOfFields fields low → IsOfFields fields high → within low high (At tuple) ≡ true → HasPosition fields mode tuple low high
of_key fields mode tuple low high e f g inside =
    let parts = within_parts low high (At tuple) inside in
    record { at_low = position-whole fields mode tuple low e f ∙ parts.0; at_high = position-whole fields mode tuple high e g ∙ parts.1 }

-- what is above a tuple isn't below it
above_past : (tuple : FieldList) (x : KeyPlace) → above tuple x ≡ true → not_below tuple x ≡ true
unfolding above not_below
above_past tuple Start e = absurd cc
above_past tuple (At k) e = past (tuple_cmp tuple k) e
  where
    past : (o : Ordering) → is_lt o ≡ true → not (is_gt o) ≡ true
    past Less e = refl
    past Equal e = absurd cc
    past Greater e = absurd cc
above_past tuple End e = refl

above_admits : (mode : Mode) (tuple : FieldList) (x : KeyPlace) → above tuple x ≡ true → cut_of mode tuple x ≡ true
above_admits Ge tuple x e = above_past tuple x e
above_admits G tuple x e = e
above_admits Le tuple x e = e
above_admits L tuple x e = above_past tuple x e

pub position_beyond : (fields : ℕ) (mode : Mode) (tuple : FieldList) (x : KeyPlace) → position_cut fields mode tuple x ≡ true → cut_of mode tuple x ≡ true
position_beyond fields mode tuple x e = pick (length tuple == fields) e
  where
    pick : (b : Bool) → cond b (above tuple x) (cut_of mode tuple x) ≡ true → cut_of mode tuple x ≡ true
    pick true e = above_admits mode tuple x e
    pick false e = e

-- a tuple that is greater than a key as a key is, is above it as a tuple
greater_key : (t k : FieldList) → is_lt (key_cmp k t) ≡ true → tuple_cmp t k ≡ Greater
greater_key [] [] e = absurd cc
greater_key [] (k ∷ ks) e = absurd cc
greater_key (t ∷ ts) [] e = refl
greater_key (t ∷ ts) (k ∷ ks) e = go (slice_cmp nat_cmp k t) (slice_cmp nat_cmp t k) (nat_list_cmp_total.antisymm t k) e (greater_key ts ks)
  where
    go : (o r : Ordering) → r ≡ ordering_reverse o → is_lt (ordering_then o (key_cmp ks ts)) ≡ true → (is_lt (key_cmp ks ts) ≡ true → tuple_cmp ts ks ≡ Greater) → ordering_then r (tuple_cmp ts ks) ≡ Greater
    go Less r q e more = ap (λ s. ordering_then s (tuple_cmp ts ks)) q
    go Equal r q e more = ap (λ s. ordering_then s (tuple_cmp ts ks)) q ∙ more e
    go Greater r q e more = absurd cc

-- a key before the tuple's key is left out in each mode
pub before_left_out : (mode : Mode) (tuple : FieldList) (x : KeyPlace) → before x (At tuple) ≡ true → cut_of mode tuple x ≡ false
unfolding before above not_below
before_left_out mode tuple Start e = starts mode
  where
    starts : (mode : Mode) → cut_of mode tuple Start ≡ false
    starts Ge = refl
    starts G = refl
    starts Le = refl
    starts L = refl
before_left_out mode tuple (At k) e = left mode (greater_key tuple k e)
  where
    left : (mode : Mode) → tuple_cmp tuple k ≡ Greater → cut_of mode tuple (At k) ≡ false
    left Ge g = ap (λ o. not (is_gt o)) g
    left G g = ap is_lt g
    left Le g = ap is_lt g
    left L g = ap (λ o. not (is_gt o)) g
before_left_out mode tuple End e = absurd cc

-- what a cut leaves out, it leaves out before too
falls : (p : KeyPlace → Bool) → ((x y : KeyPlace) → before x y ≡ true → p x ≡ true → p y ≡ true) → (x y : KeyPlace) → before x y ≡ true → p y ≡ false → p x ≡ false
falls p rises x y b e = not_both (p x) (p y) (rises x y b) e
  where
    not_both : (a c : Bool) → (a ≡ true → c ≡ true) → c ≡ false → a ≡ false
    not_both a c h e = grind arith

pub position_below : (fields : ℕ) (mode : Mode) (tuple : FieldList) (x y : KeyPlace) → IsOfFields fields y → position_cut fields mode tuple y ≡ false → before x y ≡ true → cut_of mode tuple x ≡ false
position_below fields mode tuple x y f e b = pick (length tuple == fields) refl e
  where
    pick : (c : Bool) → (length tuple == fields) ≡ c → cond c (above tuple y) (cut_of mode tuple y) ≡ false → cut_of mode tuple x ≡ false
    pick true q e =
        let whole : length tuple ≡ fields = grind (arith, nat_tests) in
        let upto : before (At tuple) y ≡ false = sym (above-whole fields tuple y whole f) ∙ e in
        before_left_out mode tuple x (before_upto x y (At tuple) b upto)
    pick false q e = falls (cut_of mode tuple) (mode_cut mode tuple).rises x y b e

pub positions_part : PositionsPart
positions_part = record {
  cut = position_is_cut;
  whole = position-whole;
  has_key = has_key;
  of_key = of_key;
  beyond = position_beyond;
  below = position_below;
}
