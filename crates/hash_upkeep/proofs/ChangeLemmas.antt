-- What the row at a place brings in and drives out among the others.
use Rattle.std.proofs.Common.{◌≡◌, ℕ, Bool, true, false, cond, Option, None, List, ◌∷◌, ◌++◌, refl, sym, ap, ◌∙◌}
use Rattle.index_page.specs.Rows.{Row}
use Rattle.index_page.specs.Page.{PageRows, PlacesDiffer}
use Rattle.index_page.specs.Changes.{Deletes, IsBeside, rows_without}
use Rattle.index_page.specs.declared.head.PageHead.{PageHead}
use Rattle.index_page.proofs.WithoutLemmas.{deleted_is}
use Rattle.chain_arena.specs.declared.node.Node.{Node}
use Rattle.hash_law.specs.Entries.{first_or, last_or}
use Rattle.hash_law.specs.Changes.{leader, follower, brought_in, driven_out, Exchanges}
use Rattle.hash_law.proofs.RowChangeLemmas.{rows_change}
use Rattle.hash_upkeep.specs.declared.hashing.Hashing.{Hashing}
use Rattle.hash_upkeep.specs.declared.change.RowChange.{RowChange}
use Rattle.hash_law.specs.Blocks.{folds_of}
use Rattle.hash_upkeep.specs.Hashing.{row_node, row_nodes, row_entries}
use Rattle.hash_upkeep.specs.Change.{few_nodes, ChangesAt}
use Rattle.hash_upkeep.specs.declared.upkeep.Upkeep.{Upkeep}
use Rattle.hash_upkeep.specs.Upkeep.{IsRowAnswer}

-- the neighbour that decides of a node, and the one of which it decides
leads_is : (left : Bool) (xs ys : List Node)
    → cond left (last_or None xs) (first_or None ys) ≡ leader left xs ys
leads_is true xs ys = refl
leads_is false xs ys = refl

follows_is : (left : Bool) (xs ys : List Node)
    → cond left (first_or None ys) (last_or None xs) ≡ follower left xs ys
follows_is true xs ys = refl
follows_is false xs ys = refl

module _ (how : Hashing) (rows : List Row) (place : ℕ) (prev next : Option ℕ)
    (b : IsBeside rows place prev next) (left : Bool) (left_is : how.params.left ≡ left)
    (before after : Option Node) (node : Node) (node_is : node ≡ row_node how b.row)
    (before_is : before ≡ last_or None (row_nodes how b.left))
    (after_is : after ≡ first_or None (row_nodes how b.right)) where
  leads : cond left before after
      ≡ leader how.params.left (row_nodes how b.left) (row_nodes how b.right)
  leads = (λ i. cond left (before_is i) (after_is i))
      ∙ (leads_is left (row_nodes how b.left) (row_nodes how b.right)
      ∙ ap (λ l. leader l (row_nodes how b.left) (row_nodes how b.right)) (sym left_is))

  follows : cond left after before
      ≡ follower how.params.left (row_nodes how b.left) (row_nodes how b.right)
  follows = (λ i. cond left (after_is i) (before_is i))
      ∙ (follows_is left (row_nodes how b.left) (row_nodes how b.right)
      ∙ ap (λ l. follower l (row_nodes how b.left) (row_nodes how b.right)) (sym left_is))

  -- what a node brings in between those beside it, the row at its place does
  pub changes_at : (change : RowChange)
      → few_nodes change.brought ≡ brought_in (cond left before after) node (cond left after before)
      → few_nodes change.driven ≡ driven_out (cond left before after) node (cond left after before)
      → ChangesAt how rows place change
  changes_at change brought driven = record {
    left = b.left;
    row = b.row;
    right = b.right;
    parts = b.split;
    place_is = b.place_is;
    brought = brought ∙ (λ i. brought_in (leads i) (node_is i) (follows i));
    driven = driven ∙ (λ i. driven_out (leads i) (node_is i) (follows i));
  }

-- what a row exchanges among the entries, as it comes and as it goes
pub record RowExchange (how : Hashing) (rows : List Row) (place : ℕ)
    (change : RowChange) : Type 0 where
  pub comes : Exchanges (row_entries how (rows_without place rows)) (few_nodes change.driven)
      (few_nodes change.brought) (row_entries how rows)
  pub goes : Exchanges (row_entries how rows) (few_nodes change.brought)
      (few_nodes change.driven) (row_entries how (rows_without place rows))

some_head : PageHead
some_head = record {
  number = 0;
  index = 0;
  level = 0;
  prev = None;
  next = None;
  fields = 0;
}

-- the rows but for the one at a place
pub without_at : (how : Hashing) (rows : List Row) (place : ℕ) (change : RowChange)
    → PlacesDiffer rows → (s : ChangesAt how rows place change)
    → rows_without place rows ≡ s.left ++ s.right
without_at how rows place change differ s =
    let before : PageRows = record { head = some_head; rows = rows } in
    let after : PageRows = record { head = some_head; rows = s.left ++ s.right } in
    let gone : Deletes before after place = record {
      left = s.left;
      row = s.row;
      right = s.right;
      was = s.parts;
      place_is = s.place_is;
      is = refl;
      head = refl;
    } in
    sym (ap (λ (p : PageRows). p.rows) (deleted_is before after place differ gone))

pub row_exchange : (how : Hashing) (rows : List Row) (place : ℕ) (change : RowChange)
    → PlacesDiffer rows → ChangesAt how rows place change → RowExchange how rows place change
row_exchange how rows place change differ s =
    let law = rows_change how.params.left (folds_of how.bits how.index how.params) how.block in
    let rest : row_entries how (rows_without place rows) ≡ row_entries how (s.left ++ s.right) =
    ap (row_entries how) (without_at how rows place change differ s) in
    let all : row_entries how rows ≡ row_entries how (s.left ++ s.row ∷ s.right) =
    ap (row_entries how) s.parts in
    let come = law.row_comes s.left s.row s.right in
    let go = law.row_goes s.left s.row s.right in
    record {
      comes = moved rest s.driven s.brought all come;
      goes = moved all s.brought s.driven rest go;
    }
  where
    moved : {a a' b b' c c' d d' : List Node} → a ≡ a' → b ≡ b' → c ≡ c' → d ≡ d'
        → Exchanges a' b' c' d' → Exchanges a b c d
    moved p q r s e = rw (p, q, r, s) e

-- what a row brings in and drives out tells an answer
pub row_answer : (how : Hashing) (rows : List Row) (place : ℕ)
    (answer_of : (brought driven : List Node) → Upkeep) (change : RowChange) (answer : Upkeep)
    → ChangesAt how rows place change
    → answer ≡ answer_of (few_nodes change.brought) (few_nodes change.driven)
    → IsRowAnswer how rows place answer_of answer
row_answer how rows place answer_of change answer s is = record {
  left = s.left;
  row = s.row;
  right = s.right;
  parts = s.parts;
  place_is = s.place_is;
  is = is ∙ (λ i. answer_of (s.brought i) (s.driven i));
}
