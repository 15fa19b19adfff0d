use Rattle.index_page.specs.Store.{Content, PlaceLists, AllDiffer, IsStore}
use Rattle.std.specs.List.{AllByRecursion}
use Rattle.std.proofs.Common.{◌≡◌, ℕ, ◌<◌, ◌++◌, [], List, length, ap, sym, subst, arith}
use Rattle.index_page.proofs.heap.Heap.clear.Goals as goal

-- a store of nothing
empty_store : (slots : List Content) (places : PlaceLists) → slots ≡ [] → places.live ≡ [] → places.free ≡ [] → IsStore slots places
empty_store slots places none live free =
    let all : places.live ++ places.free ≡ [] = (λ i. live i ++ free i) in
    record {
      differ = subst AllDiffer (sym all) tt;
      slotted = subst (AllByRecursion (λ (y : ℕ). y < length slots)) (sym all) tt;
      whole = omega (arith, ap length none, ap length live, ap length free);
    }

pub invariant_of-self : goal.invariant_of-self
invariant_of-self c = empty_store c.clear.new.self c.clear-2.new.self c.clear.ensures c.clear-2.ensures.0 c.clear-2.ensures.1
