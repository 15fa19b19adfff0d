use Rattle.std.proofs.Common.{◌≢◌, ℕ, Option, ◌≡◌, sym, subst, arith}
use Rattle.index_page.specs.declared.TheConstants.{NO_PAGE}
use Rattle.latch_space.specs.Passes.{view}
use Rattle.buffer_pool.specs.Forests.{IsFittedTree}
use Rattle.buffer_pool.proofs.AgainLemmas.{passes_both}
use Rattle.tree_smo.specs.PartHeld.{HoldsPartFor}
use Rattle.tree_smo.specs.Plans.{RelinksBehind}
use Rattle.tree_smo.proofs.ChangedLemmas.{SplitsKept, suits_halves, moved_rows, in_place, same_count, splits_kept, next_in_hand}
use Rattle.tree_smo.proofs.PlanLemmas.{SplitCall, split_call, right_number, right_frame, right_page, number_read}
use Rattle.tree_smo.proofs.SplitLemmas.{whole, follows, makes_split}
use Rattle.tree_smo.proofs.settling.make_split.Given as given
use Rattle.tree_smo.proofs.settling.make_split.Goals as goal
use Rattle.tree_smo.proofs.settling.make_split.Goals.{After-laws_of_moves, After-head_of-number, After-keep_up_between, After-relink_behind}

-- the call, as lemmas know it, with this partition
call : (g : given.Over) (c : After-laws_of_moves g)
    → (part : Option ℕ) × HoldsPartFor (view c.args.pass.now) c.args.plan.child part
    → SplitCall c.args.pass.now c.args.plan c.args.right
call g c part = split_call c.args.pass.now c.args.plan c.args.right c.requires.known c.fits.ensures
    c.requires.held c.requires.blank part

pub frame-requires-clause-held : goal.frame-requires-clause-held
frame-requires-clause-held g c = right_frame c.args.pass.now c.args.plan c.args.right
    (call g (goal.at.frame-requires-clause-held g c).After-laws_of_moves c.requires.part)

pub head_of-number-requires : goal.head_of-number-requires
head_of-number-requires g c = right_page c.args.pass.now c.args.plan c.args.right
    (call g (goal.at.head_of-number-requires g c).After-laws_of_moves c.requires.part)
    c.frame.result.now c.frame.ensures

pub change_halves-requires-clause-suits : goal.change_halves-requires-clause-suits
change_halves-requires-clause-suits g c = suits_halves c.args.pass.now c.args.plan c.args.right
    (call g (goal.at.change_halves-requires-clause-suits g c).After-laws_of_moves c.requires.part)
    c.requires.few

pub returns-in_err-change_halves-clause-fits : goal.returns-in_err-change_halves-clause-fits
returns-in_err-change_halves-clause-fits g c =
    subst IsFittedTree (sym c.in_err-change_halves.ensures.err.same_view) c.fits.ensures

pub keep_up_between-requires-clause-moved : goal.keep_up_between-requires-clause-moved
keep_up_between-requires-clause-moved g c = moved_rows c.args.pass.now c.args.plan c.args.right
    (call g (goal.at.keep_up_between-requires-clause-moved g c).After-laws_of_moves c.requires.part)
    c.laws_of_moves.ensures c.change_halves.new.pass c.in_ok-change_halves.ensures.ok

pub keep_up_between-requires-clause-room : goal.keep_up_between-requires-clause-room
keep_up_between-requires-clause-room g c =
    let at = goal.at.keep_up_between-requires-clause-room g c in
    let same = same_count c.args.pass.now c.args.plan c.args.right
    (call g at.After-laws_of_moves c.requires.part) c.laws_of_moves.ensures
    c.change_halves.new.pass c.in_ok-change_halves.ensures.ok in
    let room = c.requires.room in omega (arith, same, room)

pub keep_up_between-requires-clause-place : goal.keep_up_between-requires-clause-place
keep_up_between-requires-clause-place g c = in_place c.args.pass.now c.args.plan c.args.right
    (call g (goal.at.keep_up_between-requires-clause-place g c).After-laws_of_moves c.requires.part)
    c.laws_of_moves.ensures c.change_halves.new.pass c.in_ok-change_halves.ensures.ok

-- the split is in hand, and the partition kept up with it
halved : (g : given.Over) (c : After-keep_up_between g)
    (call : SplitCall c.args.pass.now c.args.plan c.args.right)
    → SplitsKept c.args.pass.now c.args.plan c.args.right call c.keep_up_between.new.pass
halved g c call = splits_kept c.args.pass.now c.args.plan c.args.right call
    c.laws_of_moves.ensures c.change_halves.new.pass c.in_ok-change_halves.ensures.ok
    c.keep_up_between.new.pass c.keep_up_between.ensures.kept

pub relink_behind-requires-clause-held : goal.relink_behind-requires-clause-held
relink_behind-requires-clause-held g c =
    let at = goal.at.relink_behind-requires-clause-held g c in
    let call = call g at.After-laws_of_moves c.requires.part in
    next_in_hand c.args.pass.now c.args.plan c.args.right call c.keep_up_between.new.pass
    (halved g at.After-keep_up_between call)

-- the number that was read is the right half's
number_is : (g : given.Over) (c : After-head_of-number g)
    (call : SplitCall c.args.pass.now c.args.plan c.args.right)
    → c.head_of-number.result.number ≡ call.number
number_is g c call = number_read c.args.pass.now c.args.plan c.args.right call c.frame.result.now
    c.frame.ensures c.head_of-number.result c.head_of-number.ensures.head

pub relink_behind-requires-clause-right : goal.relink_behind-requires-clause-right
relink_behind-requires-clause-right g c =
    let at = goal.at.relink_behind-requires-clause-right g c in
    let call = call g at.After-laws_of_moves c.requires.part in
    subst (λ n. n ≢ NO_PAGE) (sym (number_is g at.After-head_of-number call))
    (right_number c.args.pass.now c.args.plan c.args.right call c.requires.few)

-- the page behind has that number as its left neighbour
linked : (g : given.Over) (c : After-relink_behind g)
    (call : SplitCall c.args.pass.now c.args.plan c.args.right)
    → c.head_of-number.result.number ≡ call.number
    → RelinksBehind c.keep_up_between.new.pass c.args.plan.next call.number
    c.relink_behind.new.pass
linked g c call is = subst
    (λ n. RelinksBehind c.keep_up_between.new.pass c.args.plan.next n c.relink_behind.new.pass)
    is c.relink_behind.ensures.relinks

pub settle-requires-clause-whole : goal.settle-requires-clause-whole
settle-requires-clause-whole g c = let at = goal.at.settle-requires-clause-whole g c in
    let call = call g at.After-laws_of_moves c.requires.part in
    whole c.laws_of_moves.ensures c.args.pass.now c.args.plan c.args.right call
    c.keep_up_between.new.pass (halved g at.After-keep_up_between call) c.relink_behind.new.pass
    (linked g at.After-relink_behind call (number_is g at.After-head_of-number call))

pub settle-requires-clause-rule : goal.settle-requires-clause-rule
settle-requires-clause-rule g c = let at = goal.at.settle-requires-clause-rule g c in
    let call = call g at.After-laws_of_moves c.requires.part in
    follows c.laws_of_moves.ensures c.args.pass.now c.args.plan c.args.right call
    c.keep_up_between.new.pass (halved g at.After-keep_up_between call) c.relink_behind.new.pass
    (linked g at.After-relink_behind call (number_is g at.After-head_of-number call))

pub returns-clause-own : goal.returns-clause-own
returns-clause-own g c = let p = c.args.pass.now in let changed = c.change_halves.new.pass in
    let kept = c.keep_up_between.new.pass in let linked = c.relink_behind.new.pass in
    let settled = c.settle.new.pass in (
      passes_both p changed settled c.change_halves.ensures.own.0
          (passes_both changed kept settled c.keep_up_between.ensures.own.0
          (passes_both kept linked settled c.relink_behind.ensures.own.0 c.settle.ensures.own.0)),
      c.settle.ensures.own.1,
    )

pub returns-clause-ok : goal.returns-clause-ok
unfolding call
returns-clause-ok g c = λ part holds. let at = goal.at.returns-clause-ok g c in
    let call = call g at.After-laws_of_moves (part, holds) in
    makes_split c.laws_of_moves.ensures c.args.pass.now c.args.plan c.args.right call
    c.keep_up_between.new.pass (halved g at.After-keep_up_between call) c.relink_behind.new.pass
    (linked g at.After-relink_behind call (number_is g at.After-head_of-number call))
    c.settle.new.pass c.settle.ensures.did
