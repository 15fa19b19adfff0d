use Rattle.std.proofs.Common.{◌∙◌, ℕ, Some, ap, subst}
use Rattle.std.proofs.lemmas.Result.{IfOk-from_err}
use Rattle.clock_law.specs.ModifyClock.{ClockRises}
use Rattle.forest_law.specs.declared.objects.Frame.{Frame}
use Rattle.forest_law.specs.State.{bound}
use Rattle.tree_restructure.proofs.OutcomeLemmas.{on_err}
use Rattle.tree_restructure.proofs.cut.cut_frame.Goals as goal

pub returns-clause-ok : goal.returns-clause-ok
returns-clause-ok c =
    let cut = c.in_ok-cut_in.ensures.ok in let left = c.rise.ensures in let right = c.rise-2.ensures in
    let l = c.rise.new.frame in let r = c.rise-2.new.frame in
    let of_left = λ (f : Frame). record f { page = l.page; high = l.high; clock = l.clock; figures = l.figures; hashed = l.hashed } in
    let of_right = λ (f : Frame). record f { page = r.page; low = r.low; high = r.high; clock = r.clock; figures = r.figures; hashed = r.hashed } in
    record {
      page = cut.page;
      stays = cut.stays;
      fresh = cut.fresh;
      new = cut.new;
      had = cut.had;
      has = (λ i. (left.kept i).page) ∙ (λ i. (cut.left i).page);
      had_fresh = cut.had_fresh;
      has_new = (λ i. (right.kept i).page) ∙ (λ i. (cut.right i).page);
      blank = cut.blank;
      cuts = cut.cuts;
      ends = (λ i. bound (left.kept i).high) ∙ ap Some c.in_ok-high.ensures.cases.0;
      begins = (λ i. bound (right.kept i).low);
      reaches = (λ i. (right.kept i).high) ∙ c.take.ensures.value ∙ (λ i. (cut.left i).high);
      rises = subst (λ (n : ℕ). ClockRises n l.clock) (λ i. (cut.left i).clock) left.rises;
      right_rises = subst (λ (n : ℕ). ClockRises n r.clock) (λ i. (cut.right i).clock) right.rises;
      left = ap of_left left.kept ∙ ap of_left cut.left;
      right = ap of_right right.kept ∙ ap of_right cut.right;
    }

pub returns-clause-hash : goal.returns-clause-hash
returns-clause-hash c = let hash = c.in_ok-cut_in.ensures.hash in (
  record {
    figures = (λ i. (c.rise.ensures.kept i).figures) ∙ hash.0.figures;
    hashed = (λ i. (c.rise.ensures.kept i).hashed) ∙ hash.0.hashed;
  },
  record {
    figures = (λ i. (c.rise-2.ensures.kept i).figures) ∙ hash.1.figures;
    hashed = (λ i. (c.rise-2.ensures.kept i).hashed) ∙ hash.1.hashed;
  },
)

pub returns-in_err-cut_in-clause-hash : goal.returns-in_err-cut_in-clause-hash
returns-in_err-cut_in-clause-hash c = c.cut_in.ensures.hash

pub returns-in_err-cut_in-clause-right_err : goal.returns-in_err-cut_in-clause-right_err
returns-in_err-cut_in-clause-right_err c = on_err c.from_residual-in_err-cut_in.result
    c.in_err-cut_in.ensures.right_err

pub returns-in_err-cut_in-clause-err : goal.returns-in_err-cut_in-clause-err
returns-in_err-cut_in-clause-err c = on_err c.from_residual-in_err-cut_in.result
    c.in_err-cut_in.ensures.err

pub returns-in_err-cut_in-clause-ok : goal.returns-in_err-cut_in-clause-ok
returns-in_err-cut_in-clause-ok c =
    IfOk-from_err c.from_residual-in_err-cut_in.result _ c.from_residual-in_err-cut_in.ensures.0
