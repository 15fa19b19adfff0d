use Rattle.std.proofs.Common.{◌≡◌}
use Rattle.page_tests.proofs.dumps.page_with_eight.Given as goal

-- the page stays a leaf for keys of one field
abbrev pub invariant-loop-byte : goal.invariant-loop-byte
invariant-loop-byte g l = record { fields : l.page.page.head.fields ≡ 1; level : l.page.page.head.level ≡ 0 }
