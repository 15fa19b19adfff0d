-- Texts of the elements of a list, which a loop puts one after another.
use Rattle.std.proofs.Common.{◌≡◌, ℕ, zero, suc, ◌+◌, ◌≤◌, Some, Ok, Err, List, [], ◌∷◌, ◌++◌, length, take, drop, refl, ap, ◌∙◌, sym, subst, append_assoc}
use Rattle.std.specs.List.{slice_get, flat_map}
use Rattle.std.proofs.lemmas.List.{take_more, append-nil, take_all}
use Rattle.std.proofs.lemmas.Grind.{flat_map-append}
use Rattle.std.proofs.lemmas.Option.{get_or_from_slice_get}
use Rattle.list_facts.proofs.Places.{get_inside, one_at}
use Rattle.io_port.specs.declared.sink.Sink.{Ghosts}
use Rattle.report_print.specs.declared.halt.Halt.{Halt}
use Rattle.report_print.specs.Prints.{PrintsTo}
use Rattle.report_print.proofs.PrintLemmas.{then_put, halted}

module _ {X : Type 0} (f : X → List ℕ) where
  -- the texts up to an element
  texts_up_to : (xs : List X) (i : ℕ) (x : X) → slice_get xs i ≡ Some x → flat_map f (take (i + 1) xs) ≡ flat_map f (take i xs) ++ f x
  texts_up_to xs i x at =
      let one = take_more xs i x (get_inside xs i x at) ∙ ap (λ (y : X). take i xs ++ y ∷ []) (get_or_from_slice_get xs i x x at) in
      ap (flat_map f) one ∙ flat_map-append f (take i xs) (x ∷ []) ∙ ap (λ t. flat_map f (take i xs) ++ t) (append-nil (f x))

  -- all texts, parted before and behind an element
  texts_around : (xs : List X) (i : ℕ) (x : X) → slice_get xs i ≡ Some x → flat_map f xs ≡ flat_map f (take i xs) ++ (f x ++ flat_map f (drop (suc i) xs))
  texts_around [] i x at = absurd cc
  texts_around (y ∷ xs) zero x at = ap (λ (z : X). f z ++ flat_map f xs) (one_at (y ∷ xs) zero y x refl at)
  texts_around (y ∷ xs) (suc i) x at = ap (λ r. f y ++ r) (texts_around xs i x at) ∙ sym (append_assoc (f y) (flat_map f (take i xs)) (f x ++ flat_map f (drop (suc i) xs)))

  module _ {K : Type 0} (sink : Ghosts K) where
    -- one text more was put
    pub one_more : (k l m : K) (xs : List X) (i : ℕ) (x : X) → slice_get xs i ≡ Some x → PrintsTo sink k l (flat_map f (take i xs)) (Ok tt) → PrintsTo sink l m (f x) (Ok tt) → PrintsTo sink k m (flat_map f (take (i + 1) xs)) (Ok tt)
    one_more k l m xs i x at p q = subst (λ t. PrintsTo sink k m t (Ok tt)) (sym (texts_up_to xs i x at)) (then_put sink k l m (flat_map f (take i xs)) (f x) (Ok tt) p q)

    -- the next text wasn't
    pub no_more : (k l m : K) (xs : List X) (i : ℕ) (x : X) (h : Halt) → slice_get xs i ≡ Some x → PrintsTo sink k l (flat_map f (take i xs)) (Ok tt) → PrintsTo sink l m (f x) (Err h) → PrintsTo sink k m (flat_map f xs) (Err h)
    no_more k l m xs i x h at p q = subst (λ t. PrintsTo sink k m t (Err h)) (sym (texts_around xs i x at)) (then_put sink k l m (flat_map f (take i xs)) _ (Err h) p (halted sink l m (f x) (flat_map f (drop (suc i) xs)) h q))

    -- all texts were
    pub all_put : (k l : K) (xs : List X) (i : ℕ) → length xs ≤ i → PrintsTo sink k l (flat_map f (take i xs)) (Ok tt) → PrintsTo sink k l (flat_map f xs) (Ok tt)
    all_put k l xs i past p = subst (λ ys. PrintsTo sink k l (flat_map f ys) (Ok tt)) (take_all i xs past) p
