-- What one node more or less, and a tail that comes or goes, changes among the entered nodes: two
-- short lists, of those that go and of those that come.
use Rattle.std.specs.Prelude.{◌≡◌, ◌+◌, ◌≤◌, Bool, true, false, if◌then◌else◌, Option, Some, None, List, [], ◌++◌, length}
use Rattle.chain_arena.specs.declared.node.Node.{Node}
use Rattle.chain_arena.specs.Bag.{count_of}
use Rattle.hash_law.specs.Entries.{has_fold, unless_alike, first_or, last_or, firsts, lasts}

-- of the neighbours of a gap, the one whose fold decides whether a node there is entered: with left
-- the one before it
abbrev pub leader : Bool → List Node → List Node → Option Node
leader true before after = last_or None before
leader false before after = first_or None after

-- and the other one, of which a node there decides it
abbrev pub follower : Bool → List Node → List Node → Option Node
follower true before after = first_or None after
follower false before after = last_or None before

-- the follower, if it wasn't entered beside `old` and is beside `new`
abbrev pub newly_entered : (old new : Option Node) → Option Node → List Node
newly_entered old new None = []
newly_entered old new (Some m) = if has_fold old m.fold then unless_alike new m else []

-- what a node brings in between a leader and a follower: itself, and the follower that it parts from
-- the leader's run
abbrev pub brought_in : Option Node → Node → Option Node → List Node
brought_in led x follows = unless_alike led x ++ newly_entered led (Some x) follows

-- what it drives out: the follower, whose run it now leads
abbrev pub driven_out : Option Node → Node → Option Node → List Node
driven_out led x follows = newly_entered (Some x) led follows

-- the entries that a tail has behind other nodes
abbrev pub tail_entries : Bool → (before tail : List Node) → List Node
tail_entries true before tail = firsts (last_or None before) tail
tail_entries false before tail = lasts tail None

-- the seam: the node before a tail that is entered only without the tail, since the tail goes on with
-- its run. With left there is none
abbrev pub seam : Bool → (before tail : List Node) → List Node
seam true before tail = []
seam false before tail = newly_entered (first_or None tail) None (last_or None before)

-- of a bag some nodes, which were there, go, and others come
pub record Exchanges (old goes comes new : List Node) : Type 0 where
  pub there : (n : Node) → count_of n goes ≤ count_of n old
  pub counts : (n : Node)
      → count_of n new + count_of n goes ≡ count_of n old + count_of n comes
  pub number : length new + length goes ≡ length old + length comes
