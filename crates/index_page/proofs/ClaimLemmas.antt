-- A row that is written at the spare place, and the place claimed.
use Rattle.std.proofs.Common.{◌≡◌, ◌≤◌, ℕ, ◌++◌, ◌∷◌, [], None, List, length, set, ap, ◌∙◌, subst, arith}
use Rattle.std.proofs.lemmas.List.{length-map}
use Rattle.std.specs.List.{insert}
use Rattle.index_page.specs.Rows.{Row, placed_row, find_row}
use Rattle.index_page.specs.Store.{PlaceLists, Content, stored_row, rows_in, IsStore, IsSpare}
use Rattle.index_page.proofs.StoreLemmas.{spare_others, written_store, written_rows, claimed_store, claimed_rows, find_vacant}

module _ {slots filled : List Content} {places : PlaceLists} {place number : ℕ} {mid old : List Row} (row : Content) (store : IsStore slots places) (spare : IsSpare places place) (fill : filled ≡ set slots number row) (same : number ≡ place) (seen : rows_in slots places.live ≡ mid) (view : mid ≡ old) where
  rows : rows_in slots places.live ≡ old
  rows = seen ∙ view

  written : filled ≡ set slots place row
  written = fill ∙ ap (λ (n : ℕ). set slots n row) same

  -- as long as the place isn't claimed, there are the same rows
  pub filled_store : (new : PlaceLists) → new ≡ places → IsStore filled new
  filled_store new e = rw (written, e) (written_store slots places place row store)

  pub filled_rows : (new : PlaceLists) → new ≡ places → rows_in filled new.live ≡ old
  filled_rows new e = rw (written, e) (written_rows slots places place store spare row ∙ rows)

  -- and once it is, the row stands among them
  pub row_store : (new : PlaceLists) (at : ℕ) → at ≤ length old → new.live ≡ insert places.live at place → places.free ≡ new.free ++ place ∷ [] → IsStore filled new
  row_store new at le live free =
      let long : at ≤ length places.live = omega (arith, ap length rows, length-map places.live (stored_row slots)) in
      rw written (claimed_store slots places place store spare row new at long live free)

  pub row_rows : (new : PlaceLists) (at : ℕ) → new.live ≡ insert places.live at place → rows_in filled new.live ≡ insert old at (placed_row place row.key row.body)
  row_rows new at live =
      let claimed = claimed_rows slots places place store spare row new at live in
      rw written (claimed ∙ ap (λ (xs : List Row). insert xs at (placed_row place row.key row.body)) rows)

  -- at a place where none stood
  pub row_vacant : find_row place old ≡ None
  row_vacant = subst (λ (xs : List Row). find_row place xs ≡ None) rows (find_vacant slots place places.live (spare_others slots places place store spare))
