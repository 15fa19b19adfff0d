use Rattle.std.proofs.Common.{length, sym, arith}
use Rattle.key_tuple.proofs.PartsLemmas.{range_of_part, get_or-parts}
use Rattle.report_text.proofs.texts.part.Goals as goal

pub slice_bounds-result-count : goal.slice_bounds-result-count
slice_bounds-result-count c = let range = range_of_part 0 c.args.ends.now (length c.args.bytes.now) c.args.i c.requires.rise c.requires.at in omega (arith, range.rises)

pub slice_bounds-result-start : goal.slice_bounds-result-start
slice_bounds-result-start c = let range = range_of_part 0 c.args.ends.now (length c.args.bytes.now) c.args.i c.requires.rise c.requires.at in omega (arith, range.rises)

pub slice_bounds-result-end : goal.slice_bounds-result-end
slice_bounds-result-end c = let range = range_of_part 0 c.args.ends.now (length c.args.bytes.now) c.args.i c.requires.rise c.requires.at in omega (arith, range.fits)

pub returns : goal.returns
returns c = rw c.start_of-start.ensures (sym (get_or-parts c.args.bytes.now 0 c.args.ends.now c.args.i c.requires.at))
