-- Nodes that leave by their fold, one after the other.
use Rattle.std.proofs.Common.{◌≡◌, ◌≢◌, ◌<◌, ◌≤◌, ◌+◌, ◌⊎◌, inl, inr, ℕ, true, false, Option, Some, None, List, ◌∷◌, length, sym, ap, subst, ◌∙◌, arith}
use Rattle.std.specs.Prelude.{IfSome, IfNone}
use Rattle.std.specs.Option.{is_some}
use Rattle.chain_arena.specs.declared.node.Node.{Node}
use Rattle.std.proofs.lemmas.Bool.{cases_eq}
use Rattle.chain_arena.specs.Bag.{HasNoFoldOf, SameOutsideBlock, count_of}
use Rattle.hash_partition.specs.Part.{Part, KeepsShape}
use Rattle.hash_upkeep.specs.Cover.{count_with}
use Rattle.hash_upkeep.proofs.CoverLemmas.{fold_or_other, folds_apart}

-- where none was found, the partition is as it was
pub unchanged_if : (found : Option Node) (old new : Part) → is_some found ≡ false
    → IfNone found (new ≡ old) → new ≡ old
unchanged_if None old new e is = is
unchanged_if (Some n) old new e is = absurd cc

-- and the block has none with that fold
pub none_is_left : (found : Option Node) (fold block : ℕ) (old new : Part) → is_some found ≡ false
    → IfNone found (HasNoFoldOf old.nodes fold block) → IfNone found (new ≡ old)
    → HasNoFoldOf new.nodes fold block
none_is_left None fold block old new e none is =
    subst (λ (p : Part). HasNoFoldOf p.nodes fold block) (sym is) none
none_is_left (Some n) fold block old new e none is = absurd cc

-- where one was found, fewer are left
pub fewer_are_left : (found : Option Node) (old new : Part) → is_some found ≡ true
    → IfSome found (λ node. new.spare ≡ old.spare + 1)
    → IfSome found (λ node. KeepsShape old new) → length new.nodes < length old.nodes
fewer_are_left None old new e spare kept = absurd cc
fewer_are_left (Some n) old new e spare kept = omega (arith, spare, kept.room)

-- a walk has fewer entries ahead once it passed one
pub entries_fall : (all : List Node) (m : Node) (rest : List Node) → all ≡ m ∷ rest
    → length rest < length all
entries_fall all m rest e = omega (arith, ap (λ (ms : List Node). length ms) e)

-- what left its block by the folds that a walk passed is gone, also with the next fold
pub left_goes_on : (block : ℕ) (node : Node) (all rest old new : List Node) → all ≡ node ∷ rest
    → HasNoFoldOf new node.fold block
    → ((n : Node) → n.fold ≢ node.fold → count_of n new ≡ count_of n old) → (n : Node)
    → n.block ≡ block → (count_of n old ≡ 0) ⊎ (1 ≤ count_with n.fold all)
    → (count_of n new ≡ 0) ⊎ (1 ≤ count_with n.fold rest)
left_goes_on block node all rest old new passed gone others n here was = elim (fold_or_other node n.fold) [
  | inl same ↦ inl (gone n (sym same) here)
  | inr other ↦ (elim was [
    | inl none ↦ inl (others n (folds_apart node n other) ∙ none)
    | inr more ↦ inr (omega (arith, other, more, ap (count_with n.fold) passed))
  ])
]

-- and no node came
pub none_came : (block : ℕ) (node : Node) (first old new : List Node)
    → HasNoFoldOf new node.fold block
    → ((n : Node) → n.fold ≢ node.fold → count_of n new ≡ count_of n old)
    → SameOutsideBlock new old block → (n : Node) → count_of n old ≤ count_of n first
    → count_of n new ≤ count_of n first
none_came block node first old new gone others outside n few = elim (fold_or_other node n.fold) [
  | inl same ↦ (elim (cases_eq n.block block) [
    | inl here ↦ omega (arith, gone n (sym same) here)
    | inr apart ↦ omega (arith, outside n apart, few)
  ])
  | inr other ↦ omega (arith, others n (folds_apart node n other), few)
]
