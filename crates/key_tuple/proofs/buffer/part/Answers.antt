use Rattle.std.proofs.Common.{length, arith, sym, drop, ◌-◌}
use Rattle.key_tuple.proofs.PartsLemmas.{range_of_part, get_or-parts}
use Rattle.std.proofs.lemmas.List.{length-take, length-drop}
use Rattle.key_tuple.proofs.buffer.part.Goals as goal

pub slice_bounds-result-count : goal.slice_bounds-result-count
slice_bounds-result-count c = let range = range_of_part 0 c.args.ends.now (length c.args.bytes.now) c.args.i c.requires.rise c.requires.at in omega (arith, range.rises)

pub slice_bounds-result-start : goal.slice_bounds-result-start
slice_bounds-result-start c = let range = range_of_part 0 c.args.ends.now (length c.args.bytes.now) c.args.i c.requires.rise c.requires.at in omega (arith, range.rises)

pub slice_bounds-result-end : goal.slice_bounds-result-end
slice_bounds-result-end c = let range = range_of_part 0 c.args.ends.now (length c.args.bytes.now) c.args.i c.requires.rise c.requires.at in omega (arith, range.fits)

pub returns-clause-bytes : goal.returns-clause-bytes
returns-clause-bytes c = rw (c.start_of-start.ensures, c.from-end.ensures) (sym (get_or-parts c.args.bytes.now 0 c.args.ends.now c.args.i c.requires.at))

pub returns-clause-within : goal.returns-clause-within
returns-clause-within c = let rest = drop c.start_of-start.result c.args.bytes.now in
    omega (arith, length-take (c.from-end.result - c.start_of-start.result) rest, length-drop c.start_of-start.result c.args.bytes.now)
