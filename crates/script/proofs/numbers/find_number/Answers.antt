-- A digit more is read, or no more, and too large a value stays too large.
use Rattle.std.proofs.Common.{ℕ, ◌+◌, ◌-◌, ◌*◌, get_or, refl, sym, ap, ◌∙◌, arith}
use Rattle.script.proofs.Decimals.{digit_more, number_there, too_big}
use Rattle.script.proofs.numbers.find_number.Goals as goal

pub returns-then-from-value : goal.returns-then-from-value
returns-then-from-value c =
    sym (too_big c.args.word.now c.loop-byte.value c.loop-byte.byte-index (c.loop-byte.value * 10 + (get_or c.args.word.now c.loop-byte.byte-index 0 - 48))
    c.loop-byte.invariant.told (omega arith) refl (omega arith))

pub loop-byte-preserved : goal.loop-byte-preserved
loop-byte-preserved c =
    let next = ap (λ (digit : ℕ). c.loop-byte.value * 10 + digit) (c.from.ensures ∙ c.saturating_sub.ensures) in
    record {
      told = digit_more c.args.word.now c.loop-byte.value c.loop-byte.byte-index (c.loop-byte.value * 10 + c.from.result) c.loop-byte.invariant.told c.loop-byte-test.true next;
      small = omega (arith, c.if-from-value.false, c.from-in-loop-byte.ensures);
    }

pub returns : goal.returns
returns c = number_there c.args.word.now c.loop-byte.value c.loop-byte.byte-index c.if-not-has_number_form.ensures c.loop-byte.invariant.told c.loop-byte-test.false c.loop-byte.invariant.small
