use Rattle.std.proofs.Common.{◌≡◌, inl, inr, sym, ap, subst, ◌∙◌, Some, None, Option}
use Rattle.index_page.specs.declared.error.PageError.{PageError}
use Rattle.tree_restructure.specs.SplitCalls.{SuitsSplit, split_refusal}
use Rattle.tree_smo.specs.declared.halves.SplitHands.{SplitHands}
use Rattle.tree_smo.proofs.HalvesLemmas.{halves_split, halves_kept}
use Rattle.tree_smo.proofs.halves.change_halves.Goals as goal

pub split_frames-outcome-requires : goal.split_frames-outcome-requires
split_frames-outcome-requires c = let suits = c.requires.suits in
    let cut = c.args.cut in
    subst (λ (h : SplitHands). SuitsSplit h.left h.right h.up cut.place cut.key.tuple)
    (sym (c.halves_out-hands.ensures.out.out suits.held.was suits.held.has).1) suits.suits

pub halves_back-requires-clause-out : goal.halves_back-requires-clause-out
halves_back-requires-clause-out c = let held = c.requires.suits.held in record {
  three = held.three;
  was = held.was;
  out = (c.halves_out-hands.ensures.out.out held.was held.has).0;
}

-- what is refused for nothing but memory
not_refused : (o : Option PageError) (e : PageError) → o ≡ None → o ≡ Some e
    → e ≡ PageError.NoMemory
not_refused o e none some = absurd cc

pub want_of_memory-requires : goal.want_of_memory-requires
want_of_memory-requires c = let held = c.requires.suits.held in
    let same = (c.halves_out-hands.ensures.out.out held.was held.has).1 in
    elim c.in-Err.ensures.cause [
      | inl e ↦ e
      | inr e ↦ not_refused _ c.in-Err.e
          (ap (λ (h : SplitHands). split_refusal h.up h.right c.args.cut.key.tuple) same
          ∙ c.requires.suits.taken) e
    ]

pub returns-in-Ok-clause-ok : goal.returns-in-Ok-clause-ok
returns-in-Ok-clause-ok c =
    let new : SplitHands = record {
      left = c.split_frames-outcome.new.left;
      right = c.split_frames-outcome.new.right;
      up = c.split_frames-outcome.new.parent;
    } in
    halves_split c.args.at c.args.pass.now c.halves_out-hands.new.pass c.halves_back.new.pass
    c.halves_out-hands.result new c.halves_out-hands.ensures.out c.halves_back.ensures.back
    c.args.cut.key.tuple c.in-Ok.ensures.ok c.split_frames-outcome.ensures.hash

pub returns-in-Err-clause-err : goal.returns-in-Err-clause-err
returns-in-Err-clause-err c =
    let new : SplitHands = record {
      left = c.split_frames-outcome.new.left;
      right = c.split_frames-outcome.new.right;
      up = c.split_frames-outcome.new.parent;
    } in
    let e = c.in-Err.ensures.err in
    halves_kept c.args.at c.args.pass.now c.halves_out-hands.new.pass c.halves_back.new.pass
    c.halves_out-hands.result new c.halves_out-hands.ensures.out c.halves_back.ensures.back
    c.requires.known c.requires.suits.held (λ i. record { left = e.0 i; right = e.1 i; up = e.2 i })
