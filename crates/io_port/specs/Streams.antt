-- What is told of a reader that is read to its end, and of a writer that is given bytes.
use Rattle.std.specs.Prelude.{◌≡◌, ℕ, ◌<◌, List, length, take, Option, IfSome, ⊤}
use Rattle.std.specs.Io.KnownBytes.{Appends}
use Rattle.io_port.specs.declared.shelf.ShelfError.{ShelfError}
use Rattle.io_port.specs.declared.shelf.ShelfError.TheVariants.{Failed, TooLong, NoMemory}

-- these are all the bytes that the reader had, where they are known
abbrev pub IsAllOf : Option (List ℕ) → List ℕ → Type 0
IsAllOf known bytes = IfSome known (λ all. bytes ≡ all)

-- the reader had more bytes than the limit, where they are known
abbrev pub HasMore : Option (List ℕ) → ℕ → Type 0
HasMore known limit = IfSome known (λ all. limit < length all)

-- the error that there are too many bytes names the limit, which the reader's bytes exceed
abbrev pub ReadsTooMany : Option (List ℕ) → ℕ → ShelfError → Type 0
ReadsTooMany known limit Failed = ⊤
ReadsTooMany known limit (TooLong n) = (n ≡ limit) × HasMore known limit
ReadsTooMany known limit NoMemory = ⊤

-- the writer has some first part of the bytes more, where what it has is known
abbrev pub AppendsSome : Option (List ℕ) → Option (List ℕ) → List ℕ → Type 0
AppendsSome old new bytes = (n : ℕ) × Appends old new (take n bytes)
