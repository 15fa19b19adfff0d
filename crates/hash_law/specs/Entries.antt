-- The nodes that a hashed leaf has in its partition: of each run of rows with one fold the first,
-- or the last.
use Rattle.std.specs.Prelude.{ℕ, ◌≡◌, ◌==◌, Bool, true, false, if◌then◌else◌, Option, Some, None, List, [], ◌∷◌, ◌++◌}
use Rattle.std.specs.List.{AllByRecursion}
use Rattle.key_tuple.specs.Order.{FieldList}
use Rattle.index_page.specs.Rows.{Row}
use Rattle.chain_arena.specs.declared.node.Node.{Node}
use Rattle.chain_arena.specs.Bag.{count_of}

-- the node of a row of the block, by some fold of keys
abbrev pub node_of : (FieldList → ℕ) → ℕ → Row → Node
node_of fold block row = record { fold = fold row.key; block = block; place = row.place }

-- the nodes of all rows
abbrev pub nodes_of : (FieldList → ℕ) → ℕ → List Row → List Node
nodes_of fold block [] = []
nodes_of fold block (x ∷ xs) = node_of fold block x ∷ nodes_of fold block xs

-- whether there is a neighbour, and it has this fold
abbrev pub has_fold : Option Node → ℕ → Bool
has_fold None fold = false
has_fold (Some m) fold = m.fold == fold

-- the node, unless its neighbour has the same fold
abbrev pub unless_alike : Option Node → Node → List Node
unless_alike neighbour m = if has_fold neighbour m.fold then [] else m ∷ []

-- the first of some nodes, or else this one
abbrev pub first_or : Option Node → List Node → Option Node
first_or other [] = other
first_or other (m ∷ ms) = Some m

-- the last of some nodes, or else this one
abbrev pub last_or : Option Node → List Node → Option Node
last_or other [] = other
last_or other (m ∷ ms) = last_or (Some m) ms

-- the first node of each run, behind a neighbour
abbrev pub firsts : Option Node → List Node → List Node
firsts before [] = []
firsts before (m ∷ ms) = unless_alike before m ++ firsts (Some m) ms

-- the last node of each run, in front of a neighbour
abbrev pub lasts : List Node → Option Node → List Node
lasts [] after = []
lasts (m ∷ ms) after = unless_alike (first_or after ms) m ++ lasts ms after

-- one node of each run: with left its first, else its last
abbrev pub representatives : Bool → List Node → List Node
representatives true ms = firsts None ms
representatives false ms = lasts ms None

-- the nodes that a hashed block with these rows has entered
abbrev pub entries : Bool → (FieldList → ℕ) → ℕ → List Row → List Node
entries left fold block rows = representatives left (nodes_of fold block rows)

-- of the block, the nodes are those that are due, each as often
abbrev pub NodesAt : ℕ → List Node → List Node → Type 0
NodesAt block nodes due = (n : Node) → n.block ≡ block → count_of n nodes ≡ count_of n due

-- a run among others: nodes of one fold, which their neighbours on both sides don't have
pub record IsRun (before run after : List Node) : Type 0 where
  pub fold : ℕ
  pub alike : AllByRecursion (λ (m : Node). m.fold ≡ fold) run
  pub begins : has_fold (last_or None before) fold ≡ false
  pub ends : has_fold (first_or None after) fold ≡ false

-- the node by which a run is entered: with left its first, else its last
abbrev pub run_entry : Bool → Node → List Node → Node
run_entry true m ms = m
run_entry false m [] = m
run_entry false m (x ∷ ms) = run_entry false x ms
