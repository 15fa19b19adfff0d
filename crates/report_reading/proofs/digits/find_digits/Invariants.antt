-- The value so far, and the digits that are left, are the word's number.
use Rattle.std.proofs.Common.{◌≡◌, ◌<◌, ◌^◌, drop}
use Rattle.script.specs.Grammar.{decimal_from}
use Rattle.report_reading.proofs.digits.find_digits.Given as goal

abbrev pub invariant-loop-byte : goal.invariant-loop-byte
invariant-loop-byte l = record {
  told : decimal_from l.value (drop l.byte-index l.word) ≡ decimal_from 0 l.word;
  small : l.value < 2 ^ 64;
}
