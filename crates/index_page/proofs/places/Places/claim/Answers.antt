use Rattle.std.proofs.Math.Seq.{take-length}
use Rattle.std.proofs.lemmas.List.{take-append-le}
use Rattle.index_page.specs.Store.{PlaceLists}
use Rattle.std.proofs.Common.{◌≡◌, ℕ, ◌+◌, ◌-◌, ◌≤◌, ◌++◌, ◌∷◌, [], List, length, take, ap, sym, ◌∙◌, arith, length-append, vec_len, vec_capacity}
use Rattle.index_page.proofs.places.Places.claim.Goals as goal

-- the last one was taken out
popped : (all rest new : List ℕ) (n last : ℕ) → all ≡ rest ++ last ∷ [] → n ≡ length all → new ≡ take (n - 1) all → all ≡ new ++ last ∷ []
popped all rest new n last is long cut =
    let fewer : n - 1 ≡ length rest = omega (arith, long, ap length is, length-append rest (last ∷ [])) in
    let same : take (n - 1) all ≡ take (length rest) (rest ++ last ∷ []) = (λ i. take (fewer i) (is i)) in
    let first : new ≡ rest = cut ∙ same ∙ take-append-le (length rest) rest (last ∷ []) (omega arith) ∙ take-length rest in
    is ∙ ap (λ (xs : List ℕ). xs ++ last ∷ []) (sym first)

pub returns-clause-free : goal.returns-clause-free
returns-clause-free c =
    let free = c.self.inside.free in
    let view = ap (λ (p : PlaceLists). p.free) c.self.view_is in
    sym view ∙ popped free.items c.requires.spare.rest c.pop.new.self.items (vec_len free) c.args.place (view ∙ c.requires.spare.free) (omega (arith, free.ok.0)) c.pop.ensures.rest

pub invariant_of-self-2 : goal.invariant_of-self-2
invariant_of-self-2 c =
    let view = ap (λ (p : PlaceLists). length p.free) c.self.view_is in
    let less = ap length (returns-clause-free c) ∙ length-append c.pop.new.self.items (c.args.place ∷ []) in
    let more = c.in_ok-insert.ensures.len in
    let before : length c.self.inside.live.items + length c.self.inside.free.items ≤ vec_capacity c.self.inside.free = c.self.invariant in
    let fits : length c.insert.new.self.items + length c.pop.new.self.items ≤ vec_capacity c.pop.new.self = omega (arith, view, less, more, before, c.pop.ensures.capacity, c.insert.new.self.ok.0, c.self.inside.live.ok.0) in
    fits
