-- How often a node stands in lists, and how many nodes two equal bags have.
use Rattle.std.proofs.Common.{◌≡◌, ◌⊎◌, inl, inr, ◌+◌, ◌≤◌, Bool, true, false, List, [], ◌∷◌, ◌++◌, length, refl, sym, ap, arith, length-append}
use Rattle.chain_arena.specs.declared.node.Node.{Node}
use Rattle.chain_arena.specs.Bag.{same_node, count_of, SameBag}
use Rattle.chain_arena.specs.Count.{bit}
use Rattle.chain_arena.proofs.BagLemmas.{same_is, same_self}

-- how often a node stands in two lists together
pub count-append : (n : Node) (xs ys : List Node)
    → count_of n (xs ++ ys) ≡ count_of n xs + count_of n ys
count-append n [] ys = omega arith
count-append n (x ∷ xs) ys = let e = count-append n xs ys in omega (arith, e)

-- a list, cut where the node stands
record IsCutAt (n : Node) (ms : List Node) : Type 0 where
  before : List Node
  after : List Node
  parts : ms ≡ before ++ n ∷ after

-- a list that has the node is cut there
cut_at : (n : Node) (ms : List Node) → 1 ≤ count_of n ms → IsCutAt n ms
cut_at n [] more = absurd (omega (arith, more))
cut_at n (m ∷ ms) more = elim (bits (same_node n m)) [
  | inl e ↦ record {
    before = [];
    after = ms;
    parts = ap (λ z. z ∷ ms) (sym (same_is n m e));
  }
  | inr e ↦ (let none : bit (same_node n m) ≡ 0 = ap bit e in
      let r = cut_at n ms (omega (arith, more, none)) in record {
        before = m ∷ r.before;
        after = r.after;
        parts = ap (λ z. m ∷ z) r.parts;
      })
]
  where
    bits : (b : Bool) → (b ≡ true) ⊎ (b ≡ false)
    bits true = inl refl
    bits false = inr refl

-- a node stands in a list that begins with it
stands_first : (n : Node) (ms : List Node) → 1 ≤ count_of n (n ∷ ms)
stands_first n ms = let e : bit (same_node n n) ≡ 1 = ap bit (same_self n) in omega (arith, e)

-- two equal bags have as many nodes
pub length-same_bag : (xs ys : List Node) → SameBag xs ys → length xs ≡ length ys
length-same_bag [] [] same = refl
length-same_bag [] (y ∷ ys) same = absurd (omega (arith, same y, stands_first y ys))
length-same_bag (x ∷ xs) ys same =
    let r = cut_at x ys (omega (arith, same x, stands_first x xs)) in
    let rest : SameBag xs (r.before ++ r.after) = λ n. omega (
      arith,
      same n,
      ap (count_of n) r.parts,
      count-append n r.before (x ∷ r.after),
      count-append n r.before r.after,
    ) in
    omega (
      arith,
      length-same_bag xs (r.before ++ r.after) rest,
      ap (λ z. length z) r.parts,
      length-append r.before (x ∷ r.after),
      length-append r.before r.after,
    )
