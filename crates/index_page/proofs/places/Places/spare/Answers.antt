use Rattle.index_page.proofs.StoreLemmas.{get_elem}
use Rattle.index_page.proofs.RowLemmas.{get_split}
use Rattle.index_page.specs.Store.{PlaceLists, IsSpare}
use Rattle.std.proofs.lemmas.List.{drop_all}
use Rattle.std.specs.List.{slice_get}
use Rattle.std.proofs.Common.{◌≡◌, ℕ, suc, ◌-◌, Option, Some, None, IfSome, [], ◌∷◌, ◌++◌, List, length, take, refl, ap, sym, ◌∙◌, arith}
use Rattle.index_page.proofs.places.Places.spare.Goals as goal

-- the last of some places
abbrev end : List ℕ → Option ℕ
end xs = slice_get xs (length xs - 1)

last_spare : (places : PlaceLists) (o : Option ℕ) → o ≡ end places.free → IfSome o (IsSpare places)
last_spare places None is = tt
last_spare places (Some place) is =
    let n = length places.free - 1 in
    let first = take n places.free in
    record { rest = first; free = get_split places.free n place (sym is) ∙ ap (λ (xs : List ℕ). first ++ place ∷ xs) (drop_all (suc n) places.free (omega arith)) }

none_last : (xs : List ℕ) → end xs ≡ None → xs ≡ []
none_last [] none = refl
none_last (x ∷ xs) none = let there = get_elem (x ∷ xs) (length (x ∷ xs) - 1) x (omega arith) in absurd cc

pub returns-clause-some : goal.returns-clause-some
returns-clause-some c = last_spare c.args.self.now c.copied.result (c.copied.ensures ∙ c.last.ensures.value ∙ ap end (c.deref.ensures.value ∙ ap (λ (p : PlaceLists). p.free) c.self.view_is))

pub returns-clause-none : goal.returns-clause-none
returns-clause-none c none =
    none_last c.args.self.now.free (sym (ap end (c.deref.ensures.value ∙ ap (λ (p : PlaceLists). p.free) c.self.view_is)) ∙ sym c.last.ensures.value ∙ sym c.copied.ensures ∙ none)
