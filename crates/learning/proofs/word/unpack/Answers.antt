use Rattle.std.proofs.Common.{◌%◌, ◌/◌, arith}
use Rattle.learning.proofs.WordLemmas.{bit_below, bit_of_test, same_info}
use Rattle.learning.proofs.word.unpack.Goals as goal

pub returns : goal.returns
returns c info f e =
    let last = bit_below info.last in
    let left = bit_below info.params.left in
    same_info _ info record {
      last = omega (arith, e, bit_of_test (c.args.word / 1 % 2));
      left = omega (arith, e, bit_of_test (c.args.word / 2 % 2));
      potential = omega (arith, e);
      analysis = omega (arith, e);
      fields = omega (arith, e);
      bytes = omega (arith, e);
      events = omega (arith, e);
    }
