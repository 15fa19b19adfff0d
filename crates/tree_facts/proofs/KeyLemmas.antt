-- Keys of empty fields, among keys of as many.
use Rattle.std.proofs.Common.{◌≡◌, true, false, [], ◌∷◌, length, refl, ap, arith, is_lt, Less}
use Rattle.key_tuple.specs.Order.{FieldList, key_cmp}
use Rattle.key_tuple.specs.KeyPlace.{At, before}
use Rattle.list_facts.proofs.Orders.{is_less}
use Rattle.tree_law.specs.Pages.{is_empty}

-- a key above another of as many fields has a field that isn't empty
above_has_some : (lesser key : FieldList) → key_cmp lesser key ≡ Less
    → length lesser ≡ length key → is_empty key ≡ false
above_has_some [] [] less l = absurd cc
above_has_some [] (k ∷ ks) less l = absurd (omega (arith, l))
above_has_some (j ∷ js) [] less l = absurd (omega (arith, l))
above_has_some ([] ∷ js) ([] ∷ ks) less l = above_has_some js ks less (omega (arith, l))
above_has_some ((x ∷ xs) ∷ js) ([] ∷ ks) less l = absurd cc
above_has_some (j ∷ js) ((y ∷ ys) ∷ ks) less l = refl

pub some_above : (lesser key : FieldList) → length lesser ≡ length key
    → before (At lesser) (At key) ≡ true → is_empty key ≡ false
unfolding before
some_above lesser key l b = above_has_some lesser key (is_less (key_cmp lesser key) b) l

-- a key of empty fields comes before each key of as many that has another
empty_is_less : (least key : FieldList) → is_empty least ≡ true → is_empty key ≡ false
    → length least ≡ length key → key_cmp least key ≡ Less
empty_is_less [] [] e some l = absurd cc
empty_is_less [] (k ∷ ks) e some l = absurd (omega (arith, l))
empty_is_less (j ∷ js) [] e some l = absurd (omega (arith, l))
empty_is_less ((x ∷ xs) ∷ js) (k ∷ ks) e some l = absurd cc
empty_is_less ([] ∷ js) ([] ∷ ks) e some l = empty_is_less js ks e some (omega (arith, l))
empty_is_less ([] ∷ js) ((y ∷ ys) ∷ ks) e some l = refl

pub empty_before : (least key : FieldList) → is_empty least ≡ true → is_empty key ≡ false
    → length least ≡ length key → before (At least) (At key) ≡ true
unfolding before
empty_before least key e some l = ap is_lt (empty_is_less least key e some l)
