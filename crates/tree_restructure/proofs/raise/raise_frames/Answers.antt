use Rattle.std.proofs.Common.{◌∙◌}
use Rattle.tree_restructure.proofs.FrameCutLemmas.{raises_frame}
use Rattle.tree_restructure.proofs.raise.raise_frames.Goals as goal

pub returns-clause-ok : goal.returns-clause-ok
returns-clause-ok c = raises_frame c.args.root.now c.raise_in.new.root c.rise.new.frame
    c.args.below.now c.raise_in.new.below c.rise-2.new.frame c.in_ok-raise_in.ensures.ok
    c.rise.ensures.kept c.rise-2.ensures.kept c.rise.ensures.rises c.rise-2.ensures.rises

pub returns-clause-hash : goal.returns-clause-hash
returns-clause-hash c = let hash = c.in_ok-raise_in.ensures.hash in (
  record {
    figures = (λ i. (c.rise.ensures.kept i).figures) ∙ hash.0.figures;
    hashed = (λ i. (c.rise.ensures.kept i).hashed) ∙ hash.0.hashed;
  },
  record {
    figures = (λ i. (c.rise-2.ensures.kept i).figures) ∙ hash.1.figures;
    hashed = (λ i. (c.rise-2.ensures.kept i).hashed) ∙ hash.1.hashed;
  },
)
