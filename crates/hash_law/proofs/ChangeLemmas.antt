-- What comes and what goes, counted and numbered.
use Rattle.std.proofs.Common.{List, ◌∷◌, ◌++◌, length, refl, arith, length-append}
use Rattle.chain_arena.specs.declared.node.Node.{Node}
use Rattle.chain_arena.specs.Bag.{count_of}
use Rattle.hash_law.specs.Entries.{representatives}
use Rattle.hash_law.specs.Changes.{leader, follower, brought_in, driven_out, tail_entries, seam, Exchanges}
use Rattle.hash_law.specs.Laws.{InsertsChangeFew, DeletesChangeFew, TailsLeave, TailsJoin}
use Rattle.hash_law.proofs.BagLemmas.{count-append}
use Rattle.hash_law.proofs.WeightLemmas.{inserts, driven_there, tails, seam_there}

-- what an exchange takes back
pub reversed : (old goes comes new : List Node) → Exchanges old goes comes new
    → Exchanges new comes goes old
reversed old goes comes new e = record {
  there = λ n. omega (arith, e.there n, e.counts n);
  counts = λ n. omega (arith, e.counts n);
  number = omega (arith, e.number);
}

-- a node that comes
pub insert_changes : InsertsChangeFew
insert_changes left before after x = record {
  there = λ n. driven_there (count_of n) refl (count-append n) left before after x;
  counts = λ n. inserts (count_of n) refl (count-append n) left before after x;
  number = inserts (λ ms. length ms) refl (λ a b. length-append a b) left before after x;
}

-- a node that goes
pub delete_changes : DeletesChangeFew
delete_changes left before after x =
    let led = leader left before after in
    let follows = follower left before after in
    reversed (representatives left (before ++ after)) (driven_out led x follows)
    (brought_in led x follows) (representatives left (before ++ x ∷ after))
    (insert_changes left before after x)

-- a tail that comes
pub tail_joins : TailsJoin
tail_joins left before tail = record {
  there = λ n. seam_there (count_of n) refl (count-append n) left before tail;
  counts = λ n. tails (count_of n) refl (count-append n) left before tail;
  number = tails (λ ms. length ms) refl (λ a b. length-append a b) left before tail;
}

-- a tail that goes
pub tail_leaves : TailsLeave
tail_leaves left before tail =
    reversed (representatives left before) (seam left before tail)
    (tail_entries left before tail) (representatives left (before ++ tail))
    (tail_joins left before tail)
