-- The sum over blocks.
use Rattle.std.proofs.Common.{◌++◌, ◌≢◌, sym, ◌∙◌, ◌≡◌, inl, inr, ℕ, zero, suc, ◌≤◌, ◌<◌, List, refl, ap, arith}
use Rattle.std.proofs.lemmas.Bool.{cases_lt}
use Rattle.chain_arena.specs.declared.node.Node.{Node}
use Rattle.chain_arena.specs.Bag.{count_of, SameBag}
use Rattle.chain_arena.proofs.ChainLemmas.{by_eq}
use Rattle.hash_law.specs.Sums.{AreOfBlock, IsChangeOf, BlocksChangeTogether, all_due, BlocksAddUp}
use Rattle.hash_law.proofs.BagLemmas.{count-append, length-same_bag}

-- no node of another block is among a block's own
none_of : (n : Node) (block : ℕ) (ms : List Node) → AreOfBlock block ms → n.block ≢ block
    → count_of n ms ≡ 0
none_of n block ms own other =
    by_eq (count_of n ms ≡ 0) (count_of n ms) 0 (λ e. e)
    (λ some. absurd (other (own n (omega (arith, some)))))

module _ (due : ℕ → List Node) (own : (b : ℕ) → AreOfBlock b (due b)) (n : Node) where
  -- of blocks below the node's own it is due from none
  none_below : (blocks : ℕ) → blocks ≤ n.block → count_of n (all_due due blocks) ≡ 0
  none_below zero below = omega arith
  none_below (suc b) below =
      omega (
        arith,
        count-append n (all_due due b) (due b),
        none_below b (omega (arith, below)),
        none_of n b (due b) (own b) (λ e. omega (arith, e, below)),
      )

  -- of all blocks, its own among them, it is due from its own
  own_alone : (blocks : ℕ) → n.block < blocks
      → count_of n (all_due due blocks) ≡ count_of n (due n.block)
  own_alone zero below = absurd (omega (arith, below))
  own_alone (suc b) below =
      let both = count-append n (all_due due b) (due b) in
      by_eq (count_of n (all_due due (suc b)) ≡ count_of n (due n.block)) n.block b
      (λ e. omega (
        arith,
        both,
        none_below b (omega (arith, e)),
        ap (λ z. count_of n (due z)) e,
      ))
      (λ other. omega (
        arith,
        both,
        own_alone b (omega (arith, below, other)),
        none_of n b (due b) (own b) other,
      ))

-- blocks add up
pub add_up : BlocksAddUp
add_up due blocks nodes all =
    let bag : SameBag nodes (all_due due blocks) = λ n. elim (cases_lt n.block blocks) [
      | inr e ↦ by_eq (count_of n nodes ≡ count_of n (all_due due blocks)) (count_of n nodes) 0
          (λ none. omega (arith, none, none_below due all.own n blocks e))
          (λ some. absurd (omega (arith, e, all.known n (omega (arith, some)))))
      | inl e ↦ omega (
        arith,
        all.exact n.block e n refl,
        own_alone due all.own n blocks e,
      )
    ] in
    record { bag = bag; number = length-same_bag nodes (all_due due blocks) bag }

-- another block's node neither goes nor comes
record IsAway (n : Node) (goes comes : List Node) : Type 0 where
  going : count_of n goes ≡ 0
  coming : count_of n comes ≡ 0

-- and so it is in a change of one block
stays_away : (n : Node) (block : ℕ) (due goes comes now old : List Node)
    → IsChangeOf block due goes comes now old → n.block ≢ block → IsAway n goes comes
stays_away n block due goes comes now old c other =
    let was = none_of n block due c.was_own other in
    let is = none_of n block now c.is_own other in
    record {
      going = omega (arith, was, c.change.there n);
      coming = omega (arith, was, is, c.change.counts n);
    }

-- two blocks change together
pub change_together : BlocksChangeTogether
change_together a b due goes comes now due' goes' comes' now' old differ c c' =
    let of_a : (n : Node) → n.block ≡ a → IsAway n goes' comes' =
    λ n e. stays_away n b due' goes' comes' now' old c' (λ f. differ (sym e ∙ f)) in
    let of_b : (n : Node) → n.block ≡ b → IsAway n goes comes =
    λ n e. stays_away n a due goes comes now old c (λ f. differ (sym f ∙ e)) in
    record {
      there = λ n. by_eq (count_of n (goes ++ goes') ≤ count_of n old) n.block a
          (λ e. let away = of_a n e in omega (
            arith,
            count-append n goes goes',
            away.going,
            c.exact n e,
            c.change.there n,
          ))
          (λ other. let away = stays_away n a due goes comes now old c other in
          by_eq (count_of n (goes ++ goes') ≤ count_of n old) n.block b
          (λ e. omega (
            arith,
            count-append n goes goes',
            away.going,
            c'.exact n e,
            c'.change.there n,
          ))
          (λ other'. let away' = stays_away n b due' goes' comes' now' old c' other' in
          omega (arith, count-append n goes goes', away.going, away'.going)));
      exact = λ new e. (
        λ n is. let away = of_a n is in omega (
          arith,
          e.counts n,
          count-append n goes goes',
          count-append n comes comes',
          away.going,
          away.coming,
          c.exact n is,
          c.change.counts n,
        ),
        λ n is. let away = of_b n is in omega (
          arith,
          e.counts n,
          count-append n goes goes',
          count-append n comes comes',
          away.going,
          away.coming,
          c'.exact n is,
          c'.change.counts n,
        ),
      );
      others = λ new e n other other'.
          let away = stays_away n a due goes comes now old c other in
          let away' = stays_away n b due' goes' comes' now' old c' other' in
          omega (
            arith,
            e.counts n,
            count-append n goes goes',
            count-append n comes comes',
            away.going,
            away.coming,
            away'.going,
            away'.coming,
          );
    }
