-- A digit more is read, or no more, and too large a value stays too large.
use Rattle.std.proofs.Common.{ℕ, ◌+◌, ◌-◌, ◌*◌, get_or, drop, refl, sym, ap, ◌∙◌, arith}
use Rattle.script.proofs.Decimals.{digit_more}
use Rattle.report_reading.proofs.DigitLemmas.{digits_there, too_large}
use Rattle.report_reading.proofs.digits.find_digits.Goals as goal

pub returns-then-from-value : goal.returns-then-from-value
returns-then-from-value c =
    let next = c.loop-byte.value * 10 + (get_or c.args.word.now c.loop-byte.byte-index 0 - 48) in
    sym (too_large c.args.word.now (drop (c.loop-byte.byte-index + 1) c.args.word.now) next (digit_more c.args.word.now c.loop-byte.value c.loop-byte.byte-index next c.loop-byte.invariant.told (omega arith) refl) (omega arith))

pub loop-byte-preserved : goal.loop-byte-preserved
loop-byte-preserved c =
    let next = ap (λ (digit : ℕ). c.loop-byte.value * 10 + digit) (c.from.ensures ∙ c.saturating_sub.ensures) in
    record {
      told = digit_more c.args.word.now c.loop-byte.value c.loop-byte.byte-index (c.loop-byte.value * 10 + c.from.result) c.loop-byte.invariant.told c.loop-byte-test.true next;
      small = omega (arith, c.if-from-value.false, c.from-in-loop-byte.ensures);
    }

pub returns : goal.returns
returns c = digits_there c.args.word.now c.loop-byte.value c.loop-byte.byte-index c.loop-byte.invariant.told c.loop-byte-test.false c.loop-byte.invariant.small
