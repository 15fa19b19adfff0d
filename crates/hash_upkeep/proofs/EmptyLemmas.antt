-- Blocks whose nodes all leave, and the entries that come after them.
use Rattle.std.proofs.Common.{◌≡◌, ◌≢◌, inl, inr, ℕ, ◌<◌, ◌≤◌, Bool, true, false, cond, Option, Some, None, List, [], ◌++◌, refl, sym, ap, ◌∙◌, subst, arith, lt-ltb, le-ltb}
use Rattle.key_tuple.specs.declared.mode.Params.{Params}
use Rattle.chain_arena.specs.declared.node.Node.{Node}
use Rattle.chain_arena.specs.Bag.{count_of}
use Rattle.hash_partition.specs.Part.{Part, KeepsShape}
use Rattle.index_page.specs.Rows.{Row}
use Rattle.hash_law.specs.Entries.{NodesAt}
use Rattle.hash_law.specs.Changes.{Exchanges}
use Rattle.hash_law.specs.Sums.{AreOfBlock}
use Rattle.hash_upkeep.specs.declared.built.Build.TheVariants.{Built, ArenaFull}
use Rattle.hash_upkeep.specs.declared.hashing.Hashing.{Hashing}
use Rattle.hash_upkeep.specs.Hashing.{hashing_if, as_built, nodes_if, entries_if, row_entries}
use Rattle.hash_upkeep.specs.Cover.{count_with, AreCovered, LosesFolds, Renews, RenewsBoth}
use Rattle.hash_upkeep.specs.Build.{build_by}
use Rattle.hash_upkeep.proofs.CoverLemmas.{count_with-append}
use Rattle.hash_upkeep.proofs.KeepLemmas.{none_or_some, own_entries, exact_covers}

-- a shape that is kept twice is kept
pub keeps_on : (old mid new : Part) → KeepsShape old mid → KeepsShape mid new → KeepsShape old new
keeps_on old mid new a b = record { room = b.room ∙ a.room; stamps = b.stamps ∙ a.stamps }

-- where each node of a block has one of the folds that leave, none is left
pub empties : (block : ℕ) (ms : List Node) (old new : Part) → AreCovered block old.nodes ms
    → LosesFolds block ms old new → Renews block [] old new
empties block ms old new covered l = record {
  nodes = λ n here. elim (none_or_some (count_of n old.nodes)) [
    | inl none ↦ omega (arith, none, l.fewer n)
    | inr some ↦ l.gone n here (covered n some here)
  ];
  others = l.elsewhere;
  shape = l.shape;
}

-- the same of two blocks, from one of which rows moved
pub both_empty : (a b : ℕ) (ms moved ks : List Node) (old p q new : Part) → a ≢ b
    → AreCovered a old.nodes (ms ++ moved) → AreCovered b old.nodes ks
    → LosesFolds a ms old p → LosesFolds a moved p q → LosesFolds b ks q new
    → RenewsBoth a [] b [] old new
both_empty a b ms moved ks old p q new apart covered covered' l m k = record {
  first = λ n here. (let last = k.elsewhere n (λ e. apart (sym here ∙ e)) in
      elim (none_or_some (count_of n old.nodes)) [
        | inl none ↦ omega (arith, none, l.fewer n, m.fewer n, last)
        | inr some ↦ (elim (none_or_some (count_with n.fold ms)) [
          | inl other ↦ omega (
            arith,
            last,
            m.gone n here
                (omega (arith, other, covered n some here, count_with-append n.fold ms moved)),
          )
          | inr one ↦ omega (arith, last, m.fewer n, l.gone n here one)
        ])
      ]);
  second = λ n here. elim (none_or_some (count_of n old.nodes)) [
    | inl none ↦ omega (arith, none, l.fewer n, m.fewer n, k.fewer n)
    | inr some ↦ k.gone n here (covered' n some here)
  ];
  others = λ n other other'. omega (
    arith,
    l.elsewhere n other,
    m.elsewhere n other,
    k.elsewhere n other',
  );
  shape = keeps_on old q new (keeps_on old p q l.shape m.shape) k.shape;
}

-- none of a block's own nodes is another block's
pub none_elsewhere : (block : ℕ) (ms : List Node) (n : Node) → AreOfBlock block ms → n.block ≢ block
    → count_of n ms ≡ 0
none_elsewhere block ms n own other = elim (none_or_some (count_of n ms)) [
  | inl none ↦ none
  | inr some ↦ absurd (other (own n some))
]

-- a block that is empty and enters nodes of its own has these
pub enters : (block : ℕ) (es : List Node) (old out new : Part) → AreOfBlock block es
    → Renews block [] old out → Exchanges out.nodes [] es new.nodes → KeepsShape out new
    → Renews block es old new
enters block es old out new own r e shape = record {
  nodes = λ n here. omega (arith, e.counts n, r.nodes n here);
  others = λ n other. omega (
    arith,
    e.counts n,
    r.others n other,
    none_elsewhere block es n own other,
  );
  shape = keeps_on old out new r.shape shape;
}

-- and so do two blocks
pub both_enter : (a b : ℕ) (es ks : List Node) (old out mid new : Part) → a ≢ b
    → AreOfBlock a es → AreOfBlock b ks → RenewsBoth a [] b [] old out
    → Exchanges out.nodes [] es mid.nodes → KeepsShape out mid
    → Exchanges mid.nodes [] ks new.nodes → KeepsShape mid new
    → RenewsBoth a es b ks old new
both_enter a b es ks old out mid new apart own own' r e shape f shape' = record {
  first = λ n here. omega (
    arith,
    e.counts n,
    f.counts n,
    r.first n here,
    none_elsewhere b ks n own' (λ is. apart (sym here ∙ is)),
  );
  second = λ n here. omega (
    arith,
    e.counts n,
    f.counts n,
    r.second n here,
    none_elsewhere a es n own (λ is. apart (sym is ∙ here)),
  );
  others = λ n other other'. omega (
    arith,
    e.counts n,
    f.counts n,
    r.others n other other',
    none_elsewhere a es n own other,
    none_elsewhere b ks n own' other',
  );
  shape = keeps_on old mid new (keeps_on old out mid r.shape shape) shape';
}

-- the entries of a block that may be hashed are its own
pub own_if : (index block bits : ℕ) (built : Option Params) (rows : List Row)
    → AreOfBlock block (entries_if (hashing_if index block bits built) rows)
own_if index block bits None rows = λ n has. absurd (omega (arith, has))
own_if index block bits (Some params) rows =
    own_entries (record { index = index; block = block; params = params; bits = bits }) rows

-- and also where it counts only by a test
pub own_or_none : (b : Bool) (index block bits : ℕ) (built : Option Params) (rows : List Row)
    → AreOfBlock block (entries_if (cond b (hashing_if index block bits built) None) rows)
own_or_none true index block bits built rows = own_if index block bits built rows
own_or_none false index block bits built rows = λ n has. absurd (omega (arith, has))

-- exact nodes of a block that may be hashed have the folds of its rows
pub exact_covers_if : (index block bits : ℕ) (built : Option Params) (rows : List Row)
    (nodes : List Node) → NodesAt block nodes (entries_if (hashing_if index block bits built) rows)
    → AreCovered block nodes (nodes_if (hashing_if index block bits built) rows)
exact_covers_if index block bits None rows nodes at =
    λ n has here. absurd (omega (arith, has, at n here))
exact_covers_if index block bits (Some params) rows nodes at =
    exact_covers (record { index = index; block = block; params = params; bits = bits }) rows
    nodes at

-- a build without room, and one with room
pub full_is : (n s need spare : ℕ) → need ≡ n → spare ≡ s → spare < need
    → ArenaFull need spare ≡ build_by n s
full_is n s need spare e f low =
    sym (ap (λ b. cond b (ArenaFull need spare) (Built need)) (lt-ltb spare need low))
    ∙ (λ i. build_by (e i) (f i))

pub built_is : (n s need spare : ℕ) → need ≡ n → spare ≡ s → need ≤ spare
    → Built need ≡ build_by n s
built_is n s need spare e f room =
    sym (ap (λ b. cond b (ArenaFull need spare) (Built need)) (le-ltb spare need room))
    ∙ (λ i. build_by (e i) (f i))

-- a block that is hashed so already has its entries
pub stays_built : (how : Hashing) (built : Option Params) (rows : List Row) (part : Part)
    → built ≡ Some how.params → NodesAt how.block part.nodes (entries_if (as_built how built) rows)
    → Renews how.block (row_entries how rows) part part
stays_built how built rows part same at = record {
  nodes = subst (λ b. NodesAt how.block part.nodes (entries_if (as_built how b) rows)) same at;
  others = λ n other. refl;
  shape = record { room = refl; stamps = refl };
}
