-- How much room there is once a block was dropped, and why a row that goes drops none.
use Rattle.std.proofs.Common.{◌≡◌, ◌==◌, ℕ, ◌≤◌, ◌<◌, ◌+◌, Bool, true, false, cond, Option, Some, None, List, [], ◌∷◌, ◌++◌, length, sym, ap, subst, ◌∙◌, refl, arith, length-append, inl, inr}
use Rattle.std.specs.Prelude.{nat_lt}
use Rattle.std.proofs.lemmas.Bool.{cases_eq, eqb-true, ltb-true, le-ltb}
use Rattle.chain_arena.specs.declared.node.Node.{Node}
use Rattle.chain_arena.specs.Bag.{count_of, HasNoBlock, SameBag, SameOutsideBlock}
use Rattle.hash_partition.specs.Part.{Part, KeepsShape}
use Rattle.hash_law.specs.Entries.{NodesAt, has_fold, unless_alike}
use Rattle.hash_law.specs.Changes.{newly_entered, brought_in, driven_out}
use Rattle.hash_law.specs.Sums.{AreOfBlock}
use Rattle.hash_law.proofs.BagLemmas.{count-append, length-same_bag}
use Rattle.hash_upkeep.specs.declared.upkeep.Upkeep.{Upkeep}
use Rattle.hash_upkeep.specs.declared.upkeep.Upkeep.TheVariants.{Kept, Dropped}
use Rattle.hash_upkeep.specs.Upkeep.{IfKept, LacksIfDropped, upkeep_of}
use Rattle.hash_upkeep.proofs.KeepLemmas.{none_or_some}

-- a block's own nodes have none of another block
none_of : (n : Node) (block : ℕ) (ms : List Node) → AreOfBlock block ms → ¬ (n.block ≡ block)
    → count_of n ms ≡ 0
none_of n block ms own other = elim (none_or_some (count_of n ms)) [
  | inl none ↦ none
  | inr some ↦ absurd (other (own n some))
]

-- a partition that lost all nodes of a block has as many spare ones more
spare_without : (block : ℕ) (due : List Node) (old new : Part) → AreOfBlock block due
    → NodesAt block old.nodes due → HasNoBlock new.nodes block
    → SameOutsideBlock new.nodes old.nodes block → KeepsShape old new
    → new.spare ≡ old.spare + length due
spare_without block due old new own exact gone others shape =
    let bag : SameBag old.nodes (new.nodes ++ due) = λ n. elim (cases_eq n.block block) [
      | inl e ↦ omega (arith, exact n e, gone n e, count-append n new.nodes due)
      | inr ne ↦ omega (
        arith,
        others n ne,
        none_of n block due own ne,
        count-append n new.nodes due,
      )
    ] in
    omega (
      arith,
      length-same_bag old.nodes (new.nodes ++ due) bag,
      length-append new.nodes due,
      shape.room,
    )

not_kept : (need spare : ℕ) → Dropped need spare ≡ Kept → ⊥
not_kept need spare e = absurd cc

-- a block is dropped only where more nodes are needed than can be entered
dropped_lacks : (b : Bool) (need spare n s : ℕ) → nat_lt spare need ≡ b
    → Dropped n s ≡ cond b (Dropped need spare) Kept → spare < need
dropped_lacks true need spare n s low e = ltb-true spare need low
dropped_lacks false need spare n s low e = absurd (not_kept n s e)

-- so there is no room for what the block has with the change
pub room_after : (u : Upkeep) (block : ℕ) (goes comes due now : List Node) (old new : Part)
    (A : Type 0) → u ≡ upkeep_of old.spare goes comes
    → length now + length goes ≡ length due + length comes → AreOfBlock block due
    → NodesAt block old.nodes due → IfKept u A (HasNoBlock new.nodes block)
    → SameOutsideBlock new.nodes old.nodes block → KeepsShape old new
    → LacksIfDropped u new.spare (length now)
room_after Kept block goes comes due now old new A is number own exact nodes others shape = tt
room_after (Dropped n s) block goes comes due now old new A is number own exact nodes others shape =
    omega (
      arith,
      dropped_lacks (nat_lt (old.spare + length goes) (length comes)) (length comes)
          (old.spare + length goes) n s refl is,
      number,
      spare_without block due old new own exact nodes others shape,
    )

-- a node drives out no more than it brings in
few_more : (b : Bool) (x m : Node) (rest : List Node)
    → length (cond b [] (m ∷ [])) ≤ length (cond b [] (x ∷ []) ++ rest)
few_more true x m rest = omega arith
few_more false x m rest = omega arith

alike_fewer : (b : Bool) (led : Option Node) (x m : Node) (rest : List Node) → (x.fold == m.fold) ≡ b
    → length (cond b (unless_alike led m) []) ≤ length (unless_alike led x ++ rest)
alike_fewer false led x m rest e = omega arith
alike_fewer true led x m rest e =
    subst (λ z. length (unless_alike led m) ≤ length (cond (has_fold led z) [] (x ∷ []) ++ rest))
    (sym (eqb-true x.fold m.fold e)) (few_more (has_fold led m.fold) x m rest)

driven_fewer : (led : Option Node) (x : Node) (follows : Option Node)
    → length (driven_out led x follows) ≤ length (brought_in led x follows)
driven_fewer led x None = omega arith
driven_fewer led x (Some m) =
    alike_fewer (x.fold == m.fold) led x m (newly_entered led (Some x) (Some m)) refl

-- so once a node goes, there is room
pub goes_kept : (u : Upkeep) (spare : ℕ) (led : Option Node) (x : Node) (follows : Option Node)
    (goes comes : List Node) → goes ≡ brought_in led x follows → comes ≡ driven_out led x follows
    → u ≡ upkeep_of spare goes comes → u ≡ Kept
goes_kept u spare led x follows goes comes brought driven is =
    let few = driven_fewer led x follows in
    let goes_are = ap (λ (ms : List Node). length ms) brought in
    let comes_are = ap (λ (ms : List Node). length ms) driven in
    is ∙ ap (λ b. cond b (Dropped (length comes) (spare + length goes)) Kept)
    (le-ltb (spare + length goes) (length comes)
    (omega (arith, few, goes_are, comes_are)))
