-- Rows that moved from one frame to another.
use Rattle.std.proofs.Common.{◌≡◌, ◌==◌, ◌+◌, ℕ, Bool, true, false, if◌then◌else◌, length, Option, Some, None, sym, subst, refl}
use Rattle.key_tuple.specs.declared.mode.Params.{Params}
use Rattle.index_page.specs.Page.{PageRows}
use Rattle.hash_partition.specs.Part.{Part}
use Rattle.hash_law.specs.Entries.{NodesAt}
use Rattle.hash_upkeep.specs.declared.moves.Move.{Move}
use Rattle.hash_upkeep.specs.declared.upkeep.Upkeep.{Upkeep}
use Rattle.hash_upkeep.specs.declared.upkeep.Upkeep.TheVariants.{Kept, Dropped}
use Rattle.hash_upkeep.specs.Cover.{RenewsBoth}
use Rattle.hash_upkeep.specs.Hashing.{hashing_if, entries_if}
use Rattle.hash_upkeep.specs.Laws.{EntriesAreOwed}
use Rattle.hash_upkeep.specs.Moves.{from_then, to_then, built_or}
use Rattle.hash_upkeep.specs.Upkeep.{LacksIfDropped, kept_entries}
use Rattle.forest_law.specs.declared.objects.Frame.{Frame}
use Rattle.hash_maintain.specs.Moves.{how_then, frame_hashed, IsExactOf, KeepsUpBoth}
use Rattle.hash_maintain.proofs.LeafLemmas.{nodes_exact}
use Rattle.hash_maintain.proofs.MoveStayLemmas.{both_stay}

module _ (owed : EntriesAreOwed) (index block bits : ℕ) (f : Frame) (page : PageRows)
    (paged : f.page ≡ Some page) (new : Part) where
  -- a block that is hashed so, if it is, once its partition has these entries of it
  exact_then : (built : Option Params) (answer : Upkeep)
      → NodesAt block new.nodes
      (kept_entries answer (entries_if (hashing_if index block bits built) page.rows))
      → IsExactOf index bits block new
      (frame_hashed (how_then answer (hashing_if index block bits built)) f)
  exact_then built (Dropped need spare) nodes = λ parts. record { nodes = nodes }
  exact_then None Kept nodes = λ parts. record { nodes = nodes }
  exact_then (Some params) Kept nodes = nodes_exact owed
      (record { index = index; block = block; params = params; bits = bits }) new
      (frame_hashed (hashing_if index block bits (Some params)) f) page paged
      (record { index = refl; params = refl }) nodes

  -- or that isn't, where its page is no leaf
  exact_level : (t : Bool) (built : Option Params) (answer : Upkeep)
      → NodesAt block new.nodes (kept_entries answer
      (entries_if (if t then hashing_if index block bits built else None) page.rows))
      → IsExactOf index bits block new (frame_hashed (how_then answer
      (if t then hashing_if index block bits built else None)) f)
  exact_level true built answer nodes = exact_then built answer nodes
  exact_level false built Kept nodes = λ parts. record { nodes = nodes }
  exact_level false built (Dropped need spare) nodes = λ parts. record { nodes = nodes }

-- so it is of both blocks
pub both_exact : EntriesAreOwed → (m : Move) (f g f' g' : Frame) (a b : PageRows)
    → f.page ≡ Some a → g.page ≡ Some b → (old new : Part) (answer : Upkeep)
    → f' ≡ frame_hashed (how_then answer (from_then m a.head.level)) f
    → g' ≡ frame_hashed (how_then answer (to_then m)) g
    → RenewsBoth m.from (kept_entries answer (entries_if (from_then m a.head.level) a.rows)) m.to
    (kept_entries answer (entries_if (to_then m) b.rows)) old new
    → LacksIfDropped answer new.spare (length (entries_if (from_then m a.head.level) a.rows)
    + length (entries_if (to_then m) b.rows)) → KeepsUpBoth m f' g' old new
both_exact owed m f g f' g' a b paged other old new answer from to renews room = record {
  gave = subst (IsExactOf m.index m.bits m.from new) (sym from)
      (exact_level owed m.index m.from m.bits f a paged new (a.head.level == 0) m.from_built answer
      renews.first);
  took = subst (IsExactOf m.index m.bits m.to new) (sym to)
      (exact_then owed m.index m.to m.bits g b other new (built_or m.to_built m.from_built) answer
      renews.second);
  others = renews.others;
  shape = renews.shape;
  stay = both_stay m f g f' g' a b paged other new answer from to room;
}
