-- No offset lies behind the bytes.
use Rattle.std.proofs.Common.{length, arith, ◌≡◌, ℕ, ◌<◌, ◌≤◌, List, [], ◌∷◌, ◌++◌, get_or, take, sym, ap, subst, ◌∙◌}
use Rattle.key_tuple.proofs.PartsLemmas.{range_of_part}
use Rattle.std.proofs.lemmas.List.{take_all, take_more, take_more_set}
use Rattle.std.proofs.Math.ListN.{length-set}
use Rattle.key_tuple.specs.Parts.{parts, RiseTo}
use Rattle.key_tuple.proofs.buffer.FieldBuffer.from_parts.Goals as goal

pub overflow_cast-offsets : goal.overflow_cast-offsets
overflow_cast-offsets c =
    let range = range_of_part 0 c.args.ends.now (length c.args.bytes.items) c.loop-i.i c.requires.rise c.loop-i-test.true in
    omega (arith, c.requires.short)

-- once all offsets are there, they are those that were given
all_offsets : (offsets ends : List ℕ) (i : ℕ) → i ≤ length ends → length ends ≤ i → take i offsets ≡ take i ends
    → take (length ends) offsets ≡ ends
all_offsets offsets ends i most all same = let end : length ends ≡ i = omega arith in
    ap (λ (n : ℕ). take n offsets) end ∙ same ∙ take_all i ends all

pub loop-i-preserved : goal.loop-i-preserved
loop-i-preserved c = let offsets = c.loop-i.offsets in let ends = c.args.ends.now in let end = get_or ends c.loop-i.i 0 in
    let below : c.loop-i.i < length offsets = omega (arith, c.loop-i.invariant.room, c.requires.few, c.loop-i-test.true) in
    record {
      room = length-set offsets c.loop-i.i end ∙ c.loop-i.invariant.room;
      same = take_more_set offsets c.loop-i.i end below ∙ (λ j. c.loop-i.invariant.same j ++ end ∷ [])
          ∙ sym (take_more ends c.loop-i.i 0 c.loop-i-test.true);
    }

pub invariant_of-result : goal.invariant_of-result
invariant_of-result c = let all = all_offsets c.loop-i.offsets c.args.ends.now c.loop-i.i c.loop-i.auto.i-end c.loop-i-test.false c.loop-i.invariant.same in record {
  offsets = c.loop-i.invariant.room;
  few = c.requires.few;
  short = c.requires.short;
  rise = subst (λ (ends : List ℕ). RiseTo 0 ends (length c.args.bytes.items)) (sym all) c.requires.rise;
}

pub returns : goal.returns
returns c = ap (parts c.args.bytes.items 0)
    (all_offsets c.loop-i.offsets c.args.ends.now c.loop-i.i c.loop-i.auto.i-end c.loop-i-test.false c.loop-i.invariant.same)
