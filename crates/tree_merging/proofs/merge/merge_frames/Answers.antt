use Rattle.std.proofs.Common.{◌∙◌, None}
use Rattle.tree_merging.proofs.FrameLemmas.{merges_under}
use Rattle.tree_merging.proofs.merge.merge_frames.Goals as goal

pub returns-clause-ok : goal.returns-clause-ok
returns-clause-ok c = merges_under c.args.left.now c.merge_in.new.left c.rise.new.frame
    c.args.right.now c.merge_in.new.right c.rise-2.new.frame c.args.parent.now
    c.take_pointer.new.parent c.rise-3.new.frame c.requires c.in_ok-merge_in.ensures.ok
    c.take_pointer.ensures
    (c.rise.ensures.kept ∙ (λ i. (let l = c.merge_in.new.left in record l {
      high = c.take.ensures.value i;
      clock = c.rise.new.frame.clock;
    })))
    (c.rise-2.ensures.kept ∙ (λ i. (let r = c.merge_in.new.right in record r {
      low = None;
      high = c.take.ensures.after i;
      clock = c.rise-2.new.frame.clock;
    }))) c.rise-3.ensures.kept c.rise.ensures.rises c.rise-2.ensures.rises c.rise-3.ensures.rises
