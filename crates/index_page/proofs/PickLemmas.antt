-- The row that a spot picks.
use Rattle.std.proofs.Common.{◌≡◌, inl, inr, ℕ, ◌==◌, Bool, true, false, cond, Option, List, [], ◌∷◌, ◌++◌, length, refl}
use Rattle.std.specs.Option.{MatchOption, is_some}
use Rattle.key_tuple.specs.Order.{FieldList}
use Rattle.key_tuple.specs.KeyPlace.{KeyPlace, above, cut_of}
use Rattle.key_tuple.specs.declared.mode.Mode.{Mode}
use Rattle.key_tuple.specs.declared.mode.Mode.TheVariants.{Le}
use Rattle.index_page.specs.declared.spot.Spot.{Spot}
use Rattle.index_page.specs.Rows.{Row, first_of_rows, last_row_after, last_of_rows, IsAt}
use Rattle.index_page.specs.Search.{AllOut, AllIn, Finds}
use Rattle.index_page.specs.Picks.{pick_of, IsPicked, SpotsPickRows}

-- between two parts of rows the last of the one or, where it has none, the first of the other
between : (p : KeyPlace → Bool) (rows left right : List Row) (before after : Option ℕ) → rows ≡ left ++ right → AllOut p left → AllIn p right → IsAt rows before (last_of_rows left) → IsAt rows after (first_of_rows right)
    → MatchOption (cond (is_some before) before after) (rows ≡ []) (IsPicked p rows)
between p rows [] [] before after split out past before_at after_at = rw (before_at, after_at) split
between p rows [] (x ∷ right) before after split out past before_at after_at = rw (before_at, after_at.0) (inr (record {
  row = x;
  rest = right;
  there = after_at.1;
  is = split;
  past = rw split past;
}))
between p rows (y ∷ left) right before after split out past before_at after_at = rw before_at.0 (inl (record {
  left = y ∷ left;
  right = right;
  row = last_row_after y left;
  there = before_at.1;
  split = split;
  last = refl;
  out = out;
  past = past;
}))

picked : (mode : Mode) (tuple : FieldList) (rows : List Row) (spot : Spot) → Finds mode tuple rows spot → MatchOption (pick_of spot) (rows ≡ []) (IsPicked (cut_of mode tuple) rows)
picked mode tuple rows spot found =
    between (cut_of mode tuple) rows found.left found.right spot.before spot.after found.split found.out found.past found.before_at found.after_at

pub spots_pick_rows : SpotsPickRows
spots_pick_rows fields mode tuple rows spot found = go (length tuple == fields) found
  where
    go : (b : Bool) → Finds (cond b Le mode) tuple rows spot → MatchOption (pick_of spot) (rows ≡ []) (IsPicked (λ (x : KeyPlace). cond b (above tuple x) (cut_of mode tuple x)) rows)
    go true f = picked Le tuple rows spot f
    go false f = picked mode tuple rows spot f
