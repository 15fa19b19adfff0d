use Rattle.std.proofs.Common.{◌<◌, ◌^◌, sym, subst, ◌≡◌, ◌∙◌}
use Rattle.std.proofs.lemmas.Result.{on_ok_weaker, on_err_weaker}
use Rattle.buffer_pool.proofs.CallLemmas.{frame_has}
use Rattle.buffer_pool.proofs.SpaceLemmas.{objects_of}
use Rattle.latch_law.specs.declared.knows.Terms.{Terms}
use Rattle.index_law.specs.Shape.{Shape}
use Rattle.buffer_pool.proofs.AgainLemmas.{passes_both}
use Rattle.tree_shrinking.proofs.InTreesLemmas.{pair_inside, behind_inside}
use Rattle.tree_shrinking.proofs.MergeNextLemmas.{right_page, next_read, pair_last, next_live, next_other, NextTaken, merge_held, next_held, parts_took, nothing_around, pair_around}
use Rattle.tree_shrinking.proofs.merging.merge_pair.Given as given
use Rattle.tree_shrinking.proofs.merging.merge_pair.Goals as goal
use Rattle.tree_shrinking.proofs.merging.merge_pair.Goals.{After-head_of, After-page_in-behind}

pub frame-requires-clause-held : goal.frame-requires-clause-held
frame-requires-clause-held g c = (
  c.requires.held.upper,
  c.requires.held.upper,
  frame_has c.args.pass.now c.requires.known c.args.at.right c.requires.held.upper
      c.requires.held.knows_right,
)

pub head_of-requires : goal.head_of-requires
head_of-requires g c = right_page c.args.pass.now c.requires.known c.requires.held
    c.frame.result.now c.frame.ensures

-- the number behind is that in the right page's head
next_is : (g : given.Over) (c : After-head_of g)
    → c.requires.held.is_right.page.head.next ≡ c.head_of.result.next
next_is g c = next_read c.args.pass.now c.requires.known c.requires.held c.frame.result.now
    c.frame.ensures c.head_of.result c.head_of.ensures.head

-- the page behind is held besides
taken : (g : given.Over) (c : After-page_in-behind g)
    → c.requires.held.is_right.page.head.next ≡ c.head_of.result.next
    → NextTaken c.args.pass.now c.args.at c.args.index c.in-Some.next c.page_in-behind.result
    c.page_in-behind.new.pass
taken g c next = record {
  can = c.requires.held;
  next = next ∙ c.in-Some.is;
  took = c.page_in-behind.ensures.took;
  fitted = c.page_in-behind.ensures.fits;
}

pub merge_hashed-requires-clause-held : goal.merge_hashed-requires-clause-held
merge_hashed-requires-clause-held g c = record {
  can = c.requires.held;
  behind =
      next_is g (goal.at.merge_hashed-requires-clause-held g c).After-head_of ∙ c.in-None.is;
}

pub merge_hashed-requires-clause-inside : goal.merge_hashed-requires-clause-inside
merge_hashed-requires-clause-inside g c = let p = c.args.pass.now in
    pair_inside p c.requires.held (objects_of c.args.space.now p c.requires.own.0 c.requires.own.1)
    c.requires.frames

pub merge_hashed-requires-clause-parts : goal.merge_hashed-requires-clause-parts
merge_hashed-requires-clause-parts g c = c.requires.tables.parts

pub page_in-behind-requires-clause-live : goal.page_in-behind-requires-clause-live
page_in-behind-requires-clause-live g c =
    next_live c.args.pass.now c.requires.held
    (next_is g (goal.at.page_in-behind-requires-clause-live g c).After-head_of ∙ c.in-Some.is)

pub page_in-behind-requires-clause-others : goal.page_in-behind-requires-clause-others
page_in-behind-requires-clause-others g c = let p = c.args.pass.now in
    next_other p c.requires.held
    (next_is g (goal.at.page_in-behind-requires-clause-others g c).After-head_of ∙ c.in-Some.is)
    c.fits.ensures (objects_of c.args.space.now p c.requires.own.0 c.requires.own.1)
    c.requires.frames

pub merge_hashed-made-requires-clause-held : goal.merge_hashed-made-requires-clause-held
merge_hashed-made-requires-clause-held g c =
    let at = goal.at.merge_hashed-made-requires-clause-held g c in
    merge_held (taken g at.After-page_in-behind (next_is g at.After-head_of))

pub merge_hashed-made-requires-clause-inside : goal.merge_hashed-made-requires-clause-inside
merge_hashed-made-requires-clause-inside g c =
    let at = goal.at.merge_hashed-made-requires-clause-inside g c in
    behind_inside c.page_in-behind.ensures.took
    (merge_held (taken g at.After-page_in-behind (next_is g at.After-head_of))).can
    (objects_of c.args.space.now c.page_in-behind.new.pass c.requires.own.0
    c.page_in-behind.ensures.own.1) c.requires.frames

pub merge_hashed-made-requires-clause-parts : goal.merge_hashed-made-requires-clause-parts
merge_hashed-made-requires-clause-parts g c =
    parts_took c.page_in-behind.ensures.took c.requires.tables

pub give_back-requires-clause-held : goal.give_back-requires-clause-held
give_back-requires-clause-held g c = let at = goal.at.give_back-requires-clause-held g c in
    let made = c.merge_hashed-made in
    next_held (taken g at.After-page_in-behind (next_is g at.After-head_of)) made.new.pass
    made.result made.ensures.ok made.ensures.err

pub returns-in-None-clause-ok : goal.returns-in-None-clause-ok
returns-in-None-clause-ok g c =
    on_ok_weaker c.merge_hashed.result pair_last c.merge_hashed.ensures.ok

pub returns-in-Some-clause-ok : goal.returns-in-Some-clause-ok
returns-in-Some-clause-ok g c = let at = goal.at.returns-in-Some-clause-ok g c in
    let made = c.merge_hashed-made in
    on_ok_weaker made.result
    (pair_around (taken g at.After-page_in-behind (next_is g at.After-head_of)) made.new.pass
    c.give_back.new.pass c.give_back.ensures.gave) made.ensures.ok

pub returns-in-Some-clause-memory : goal.returns-in-Some-clause-memory
returns-in-Some-clause-memory g c = let at = goal.at.returns-in-Some-clause-memory g c in
    let made = c.merge_hashed-made in
    on_err_weaker made.result
    (nothing_around (taken g at.After-page_in-behind (next_is g at.After-head_of)) made.new.pass
    c.give_back.new.pass c.give_back.ensures.gave) made.ensures.err

pub merge_hashed-made-requires-clause-few : goal.merge_hashed-made-requires-clause-few
merge_hashed-made-requires-clause-few g c = subst (λ (t : Terms Shape). t.shape.pages < 2 ^ 32)
    (c.requires.own.1.1 ∙ sym c.page_in-behind.ensures.own.1.1) c.requires.few

pub returns-in-Some-clause-own : goal.returns-in-Some-clause-own
returns-in-Some-clause-own g c = (
  passes_both c.args.pass.now c.page_in-behind.new.pass c.give_back.new.pass
      c.page_in-behind.ensures.own.0 (passes_both c.page_in-behind.new.pass
      c.merge_hashed-made.new.pass c.give_back.new.pass c.merge_hashed-made.ensures.own.0
      c.give_back.ensures.own.0),
  c.give_back.ensures.own.1,
)
