-- A tuple cuts the keys in two.
use Rattle.std.proofs.Common.{◌≡◌, ◌≢◌, length, sym, Bool, true, not, [], ◌∷◌, refl, ap, ◌∙◌, subst, arith, is_lt, is_gt, Ordering, Less, Equal, Greater}
use Rattle.std.proofs.lemmas.Cmp.{nat_list_cmp_total, alike_right}
use Rattle.std.specs.Ordering.{nat_cmp, ordering_then}
use Rattle.std.specs.Cmp.Lexicographic.{slice_cmp}
use Rattle.list_facts.proofs.Orders.{is_less, is_greater}
use Rattle.key_tuple.proofs.PlaceLemmas.{key_exact}
use Rattle.key_tuple.specs.Order.{FieldList, key_cmp, tuple_cmp}
use Rattle.key_tuple.specs.KeyPlace.{KeyPlace, Start, At, End, before, IsCut, not_below, above}

-- where a tuple is below a key, or meets it, it is so for each greater key
abbrev Rises : Ordering → Ordering → Type 0
Rises o r = (is_lt o ≡ true → is_lt r ≡ true) × (is_gt r ≡ true → is_gt o ≡ true)

on_less : (a b o r : Ordering) → (a ≡ Less → b ≡ Less) → (a ≡ Equal → b ≡ Less) → Rises (ordering_then a o) (ordering_then b r)
on_less Less b o r f g = let e : b ≡ Less = f refl in (λ t. rw e, λ t. absurd (cc (ap (λ (c : Ordering). is_gt (ordering_then c r)) e)))
on_less Equal b o r f g = let e : b ≡ Less = g refl in (λ t. rw e, λ t. absurd (cc (ap (λ (c : Ordering). is_gt (ordering_then c r)) e)))
on_less Greater b o r f g = (λ t. absurd cc, λ t. refl)

on_same : (a o r : Ordering) → Rises o r → Rises (ordering_then a o) (ordering_then a r)
on_same Less o r h = (λ t. t, λ t. t)
on_same Equal o r h = h
on_same Greater o r h = (λ t. t, λ t. t)

tuple_rises : (t j k : FieldList) → is_lt (key_cmp j k) ≡ true → Rises (tuple_cmp t j) (tuple_cmp t k)
tuple_rises [] j k b = (λ e. e, λ e. e)
tuple_rises (x ∷ ts) [] [] b = absurd cc
tuple_rises (x ∷ ts) [] (k ∷ ks) b = (λ e. absurd cc, λ e. refl)
tuple_rises (x ∷ ts) (j ∷ js) [] b = absurd cc
tuple_rises (x ∷ ts) (j ∷ js) (k ∷ ks) b = go (slice_cmp nat_cmp j k) refl b (tuple_rises ts js ks)
  where
    go : (c : Ordering) → slice_cmp nat_cmp j k ≡ c → is_lt (ordering_then c (key_cmp js ks)) ≡ true → (is_lt (key_cmp js ks) ≡ true → Rises (tuple_cmp ts js) (tuple_cmp ts ks)) → Rises (tuple_cmp (x ∷ ts) (j ∷ js)) (tuple_cmp (x ∷ ts) (k ∷ ks))
    go Less e b more = on_less (slice_cmp nat_cmp x j) (slice_cmp nat_cmp x k) _ _ (λ f. nat_list_cmp_total.trans x j k f e) (λ f. nat_list_cmp_total.congr x j k f ∙ e)
    go Equal e b more = subst (λ (c : Ordering). Rises (ordering_then (slice_cmp nat_cmp x j) (tuple_cmp ts js)) (ordering_then c (tuple_cmp ts ks))) (alike_right nat_list_cmp_total j k x e) (on_same _ _ _ (more b))
    go Greater e b more = absurd cc

not_gt : (a b : Bool) → (b ≡ true → a ≡ true) → not a ≡ true → not b ≡ true
not_gt a b f e = grind arith

pub not_below_cut : (t : FieldList) → IsCut (not_below t)
unfolding not_below before
not_below_cut t = record { begins = refl; ends = refl; rises = rise }
  where
    rise : (x y : KeyPlace) → before x y ≡ true → not_below t x ≡ true → not_below t y ≡ true
    rise Start y b e = absurd cc
    rise (At j) Start b e = absurd cc
    rise (At j) (At k) b e = not_gt _ _ (tuple_rises t j k b).1 e
    rise x End b e = refl
    rise End y b e = absurd cc

pub above_cut : (t : FieldList) → IsCut (above t)
unfolding above before
above_cut t = record { begins = refl; ends = refl; rises = rise }
  where
    rise : (x y : KeyPlace) → before x y ≡ true → above t x ≡ true → above t y ≡ true
    rise Start y b e = absurd cc
    rise (At j) Start b e = absurd cc
    rise (At j) (At k) b e = (tuple_rises t j k b).0 e
    rise x End b e = refl
    rise End y b e = absurd cc

-- what is above a tuple stays above it, and what is below it was below it
pub stays_above : (t j k : FieldList) → key_cmp j k ≡ Less → tuple_cmp t j ≡ Less → tuple_cmp t k ≡ Less
stays_above t j k rises above = is_less _ ((tuple_rises t j k (ap is_lt rises)).0 (ap is_lt above))

pub was_below : (t j k : FieldList) → key_cmp j k ≡ Less → tuple_cmp t k ≡ Greater → tuple_cmp t j ≡ Greater
was_below t j k rises below = is_greater _ ((tuple_rises t j k (ap is_lt rises)).1 (ap is_gt below))

-- a key between two that begin with the tuple begins with it too
pub meets_between : (t j k l : FieldList) → key_cmp j k ≢ Greater → key_cmp k l ≢ Greater → tuple_cmp t j ≡ Equal → tuple_cmp t l ≡ Equal → tuple_cmp t k ≡ Equal
meets_between t j k l up on first last = go (key_cmp j k) refl (key_cmp k l) refl (tuple_cmp t k) refl
  where
    go : (o : Ordering) → key_cmp j k ≡ o → (r : Ordering) → key_cmp k l ≡ r → (s : Ordering) → tuple_cmp t k ≡ s → tuple_cmp t k ≡ Equal
    go o p r q Equal e = e
    go Greater p r q s e = absurd (up p)
    go o p Greater q s e = absurd (on q)
    go Equal p r q s e = ap (tuple_cmp t) (sym (key_exact j k p)) ∙ first
    go o p Equal q s e = ap (tuple_cmp t) (key_exact k l q) ∙ last
    go Less p Less q Less e = absurd (cc (stays_above t k l q e))
    go Less p Less q Greater e = absurd (cc (was_below t j k p e))

-- a tuple of as many fields is compared as a key
pub tuple_cmp-whole : (t k : FieldList) → length t ≡ length k → tuple_cmp t k ≡ key_cmp t k
tuple_cmp-whole [] [] e = refl
tuple_cmp-whole [] (k ∷ ks) e = absurd (omega arith)
tuple_cmp-whole (t ∷ ts) [] e = absurd (omega arith)
tuple_cmp-whole (t ∷ ts) (k ∷ ks) e = ap (ordering_then (slice_cmp nat_cmp t k)) (tuple_cmp-whole ts ks (omega arith))
