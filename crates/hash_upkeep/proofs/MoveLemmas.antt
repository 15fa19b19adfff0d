-- How two blocks are hashed between which rows moved, and what both need.
use Rattle.std.proofs.Common.{◌≡◌, ℕ, ◌≤◌, ◌==◌, ◌+◌, Bool, true, false, cond, Option, Some, None, List, [], length, sym, ap, subst, ◌∙◌, refl, arith}
use Rattle.key_tuple.specs.declared.mode.Params.{Params}
use Rattle.index_page.specs.declared.head.PageHead.{PageHead}
use Rattle.index_page.specs.Page.{PageRows}
use Rattle.chain_arena.specs.declared.node.Node.{Node}
use Rattle.hash_partition.specs.Part.{Part, KeepsShape}
use Rattle.hash_law.specs.Changes.{Exchanges}
use Rattle.hash_upkeep.specs.declared.hashing.Hashing.{Hashing}
use Rattle.hash_upkeep.specs.declared.moves.Move.{Move}
use Rattle.hash_upkeep.specs.Hashing.{hashing_if, entries_if, CanHashIf}
use Rattle.hash_upkeep.specs.Moves.{from_was, from_then, to_then, built_or, CanMove}

-- a page that can be hashed can be where that counts only by a test
hashes_by : (b : Bool) (h : Option Hashing) (block : ℕ) (page : PageRows) → CanHashIf h block page
    → CanHashIf (cond b h None) block page
hashes_by true h block page can = can
hashes_by false h block page can = tt

-- a page that can be hashed as another block is, or as its own, can be hashed as either
hashes_or : (index from to bits : ℕ) (took gave : Option Params) (page : PageRows)
    → CanHashIf (hashing_if index from bits gave) from page
    → CanHashIf (hashing_if index to bits took) to page
    → CanHashIf (hashing_if index to bits (built_or took gave)) to page
hashes_or index from to bits (Some params) gave page other own = own
hashes_or index from to bits None None page other own = tt
hashes_or index from to bits None (Some params) page other own =
    (refl, record { fields = other.1.fields; some = other.1.some; fit = other.1.fit })

-- both pages can be hashed as their blocks are then
pub from_hashes : (m : Move) (from to : PageRows) (level : ℕ) (how : Option Hashing)
    → CanMove m from to → how ≡ from_then m level → CanHashIf how m.from from
from_hashes m from to level how can is =
    subst (λ h. CanHashIf h m.from from) (sym is)
    (hashes_by (level == 0) (from_was m) m.from from can.from_page)

pub to_hashes : (m : Move) (from to : PageRows) (how : Option Hashing) → CanMove m from to
    → how ≡ to_then m → CanHashIf how m.to to
to_hashes m from to how can is =
    subst (λ h. CanHashIf h m.to to) (sym is)
    (hashes_or m.index m.from m.to m.bits m.to_built m.from_built to can.moved_rows can.to_page)

-- what both blocks need then
pub move_needs : (m : Move) (from to : PageRows) (head : PageHead) (a b : Option Hashing)
    (n k : ℕ) → head ≡ from.head → a ≡ from_then m head.level → b ≡ to_then m
    → n ≡ length (entries_if a from.rows) → k ≡ length (entries_if b to.rows)
    → n + k ≡ length (entries_if (from_then m from.head.level) from.rows)
    + length (entries_if (to_then m) to.rows)
move_needs m from to head a b n k head_is a_is b_is n_is k_is =
    let first : length (entries_if a from.rows)
    ≡ length (entries_if (from_then m from.head.level) from.rows) =
    ap (λ h. length (entries_if h from.rows)) (a_is ∙ ap (λ (h : PageHead). from_then m h.level) head_is)
    in
    let second : length (entries_if b to.rows) ≡ length (entries_if (to_then m) to.rows) =
    ap (λ h. length (entries_if h to.rows)) b_is in
    omega (arith, first, second)

-- where there is room for both, there is for the first, and then for the second
pub gave_fits : (n k es spare s : ℕ) → n ≡ es → spare ≡ s → n + k ≤ spare → es ≤ s
gave_fits n k es spare s e f room = omega arith

pub took_fits : (n k : ℕ) (es ks : List Node) (spare : ℕ) (out mid : Part)
    → n ≡ length es → k ≡ length ks → spare ≡ out.spare → n + k ≤ spare
    → Exchanges out.nodes [] es mid.nodes → KeepsShape out mid → length ks ≤ mid.spare
took_fits n k es ks spare out mid n_is k_is spare_is room e shape =
    omega (arith, e.number, shape.room)
