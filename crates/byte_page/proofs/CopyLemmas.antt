-- A row's key that is read from a copy of its record.
use Rattle.std.proofs.Common.{◌≡◌, ℕ, List, sym, ap, ◌∙◌}
use Rattle.compact_record.specs.Record.{PlacedRecord}
use Rattle.compact_record.specs.Reading.{record_at}
use Rattle.index_page.specs.Rows.{Row}

-- a record that is read with as many fields as the page's rows have gives the row's key
pub key_copied : (bytes : List ℕ) (at fields own : ℕ) (read : PlacedRecord) (row : Row)
    → read ≡ record_at bytes at own → own ≡ fields → (record_at bytes at fields).key ≡ row.key
    → row.key ≡ read.key
key_copied bytes at fields own read row is same key =
    sym (ap (λ (r : PlacedRecord). r.key) is ∙ (ap (λ n. (record_at bytes at n).key) same ∙ key))
