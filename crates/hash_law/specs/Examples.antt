-- Examples: what single rows change among the entries of short leaves.
use Rattle.std.specs.Prelude.{ℕ, ◌≡◌, ◌+◌, ◌%◌, Bool, true, false, List, [], ◌∷◌, ◌++◌, map, slice_index_or}
use Rattle.key_tuple.specs.Order.{FieldList}
use Rattle.index_page.specs.Rows.{Row, Bytes}
use Rattle.chain_arena.specs.declared.node.Node.{Node}
use Rattle.hash_law.specs.Entries.{node_of, nodes_of, entries}
use Rattle.hash_law.specs.Changes.{leader, follower, brought_in, driven_out}
use Rattle.hash_law.specs.Sums.{need_of, spare_after}

-- the first byte of a key, as a fold by its first field
abbrev pub first_byte : FieldList → ℕ
first_byte key = slice_index_or (slice_index_or key 0 []) 0 0

-- the lowest bit of that, as a fold that many keys share
abbrev pub low_bit : FieldList → ℕ
low_bit key = first_byte key % 2

-- the row with a letter and a number as its key, at a place
abbrev pub letter_row : (place letter number : ℕ) → Row
letter_row place letter number =
    record { place = place; key = (letter ∷ []) ∷ (number ∷ []) ∷ []; body = Bytes [] }

-- the row (a, number), at the place of the number
abbrev pub row_a : ℕ → Row
row_a number = letter_row number 97 number

-- the row (b, number), ten places on
abbrev pub row_b : ℕ → Row
row_b number = letter_row (10 + number) 98 number

-- the row (c, number), twenty places on
abbrev pub row_c : ℕ → Row
row_c number = letter_row (20 + number) 99 number

-- the row (d, number), thirty places on
abbrev pub row_d : ℕ → Row
row_d number = letter_row (30 + number) 100 number

-- the places of some nodes
abbrev pub places_of_nodes : List Node → List ℕ
places_of_nodes ms = map (λ (m : Node). m.place) ms

-- one row between others: which places are entered with it, and without it, and which it brings in
-- and drives out
pub record ShowsRow (left : Bool) (fold : FieldList → ℕ) (before : List Row) (x : Row)
    (after : List Row) (all rest brings drives : List ℕ) : Type 0 where
  pub all_is : places_of_nodes (entries left fold 7 (before ++ x ∷ after)) ≡ all
  pub rest_is : places_of_nodes (entries left fold 7 (before ++ after)) ≡ rest
  pub brings_is : let xs = nodes_of fold 7 before in let ys = nodes_of fold 7 after in
      places_of_nodes (brought_in (leader left xs ys) (node_of fold 7 x) (follower left xs ys))
      ≡ brings
  pub drives_is : let xs = nodes_of fold 7 before in let ys = nodes_of fold 7 after in
      places_of_nodes (driven_out (leader left xs ys) (node_of fold 7 x) (follower left xs ys))
      ≡ drives

-- the need is one, and nothing is spare for it
abbrev pub LacksOne : Bool → (before : List Row) → Row → (after : List Row) → Type 0
LacksOne left before x after =
    let xs = nodes_of first_byte 7 before in let ys = nodes_of first_byte 7 after in
    let led = leader left xs ys in let follows = follower left xs ys in
    let node = node_of first_byte 7 x in
    (need_of (brought_in led node follows) ≡ 1)
    × (spare_after 0 (driven_out led node follows) ≡ 0)

-- the first row of a run goes or comes, a new run comes and finds no room, and by the low bit, which
-- (a, 1) and (c, 1) have in common, a run is cut in two by a row that comes, and two runs are one when
-- a row goes
pub record WorkedRows : Type 0 where
  pub first_goes : ShowsRow true first_byte [] (row_a 1) (row_a 2 ∷ row_b 1 ∷ [])
      (1 ∷ 11 ∷ []) (2 ∷ 11 ∷ []) (1 ∷ []) (2 ∷ [])
  pub first_comes : ShowsRow true first_byte [] (row_a 0) (row_a 1 ∷ row_a 2 ∷ row_b 1 ∷ [])
      (0 ∷ 11 ∷ []) (1 ∷ 11 ∷ []) (0 ∷ []) (1 ∷ [])
  pub run_comes : ShowsRow true first_byte (row_a 1 ∷ row_a 2 ∷ row_b 1 ∷ []) (row_c 1) []
      (1 ∷ 11 ∷ 21 ∷ []) (1 ∷ 11 ∷ []) (21 ∷ []) []
  pub run_lacks_room : LacksOne true (row_a 1 ∷ row_a 2 ∷ row_b 1 ∷ []) (row_c 1) []
  pub run_is_cut : ShowsRow true low_bit (row_a 1 ∷ []) (row_b 1) (row_c 1 ∷ [])
      (1 ∷ 11 ∷ 21 ∷ []) (1 ∷ []) (11 ∷ 21 ∷ []) []
  pub runs_join : ShowsRow true low_bit (row_b 1 ∷ []) (row_c 1) (row_d 1 ∷ [])
      (11 ∷ 21 ∷ 31 ∷ []) (11 ∷ []) (21 ∷ 31 ∷ []) []

-- the same with right, read from the end
pub record MirroredRows : Type 0 where
  pub last_goes : ShowsRow false first_byte (row_a 1 ∷ row_b 1 ∷ []) (row_b 2) []
      (1 ∷ 12 ∷ []) (1 ∷ 11 ∷ []) (12 ∷ []) (11 ∷ [])
  pub last_comes : ShowsRow false first_byte (row_a 1 ∷ row_b 1 ∷ row_b 2 ∷ []) (row_b 3) []
      (1 ∷ 13 ∷ []) (1 ∷ 12 ∷ []) (13 ∷ []) (12 ∷ [])
  pub run_comes : ShowsRow false first_byte [] (row_a 1) (row_b 1 ∷ row_c 1 ∷ row_c 2 ∷ [])
      (1 ∷ 11 ∷ 22 ∷ []) (11 ∷ 22 ∷ []) (1 ∷ []) []
  pub run_lacks_room : LacksOne false [] (row_a 1) (row_b 1 ∷ row_c 1 ∷ row_c 2 ∷ [])
  pub run_is_cut : ShowsRow false low_bit (row_a 1 ∷ []) (row_b 1) (row_c 1 ∷ [])
      (1 ∷ 11 ∷ 21 ∷ []) (21 ∷ []) (11 ∷ 1 ∷ []) []
  pub runs_join : ShowsRow false low_bit (row_b 1 ∷ []) (row_c 1) (row_d 1 ∷ [])
      (11 ∷ 21 ∷ 31 ∷ []) (31 ∷ []) (21 ∷ 11 ∷ []) []
