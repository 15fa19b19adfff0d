-- The slots of a page as its bytes tell them.
use Rattle.std.specs.Prelude.{ℕ, zero, suc, ◌+◌, List, [], ◌∷◌}
use Rattle.compact_record.specs.Bytes.{u16_at}
use Rattle.page_mirror.specs.Words.{owned_count, slot_word}

-- how many records the owners of so many slots own, from slot s on
unfoldable pub sizes_from : List ℕ → ℕ → ℕ → List ℕ
sizes_from bytes s zero = []
sizes_from bytes s (suc n) = owned_count bytes (slot_word bytes s) ∷ sizes_from bytes (s + 1) n

-- how many records the owner of each slot owns
abbrev pub sizes_in_bytes : List ℕ → List ℕ
sizes_in_bytes bytes = sizes_from bytes 0 (u16_at bytes 38)
