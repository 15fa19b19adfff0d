use Rattle.std.proofs.Common.{◌≡◌, ◌≢◌, None, ap, sym, subst, arith}
use Rattle.latch_space.specs.Passes.{view}
use Rattle.index_page.specs.declared.TheConstants.{NO_PAGE}
use Rattle.buffer_pool.specs.Forests.{IsFittedTree}
use Rattle.buffer_pool.proofs.AgainLemmas.{passes_both}
use Rattle.index_page.specs.declared.head.PageHead.{PageHead}
use Rattle.tree_smo.specs.Plans.{RelinksBehind}
use Rattle.buffer_pool.proofs.CallLemmas.{frame_has}
use Rattle.tree_shrinking.specs.Merging.{CanMerge}
use Rattle.tree_smo.proofs.LawfulLemmas.{page_number}
use Rattle.tree_shrinking.proofs.FamilyLemmas.{read_page}
use Rattle.tree_shrinking.proofs.MergePlanLemmas.{MergeCall}
use Rattle.tree_shrinking.proofs.MergedLemmas.{suits_taken, rows_moved, MergeInHand, merge_kept, next_in_hand, MergeLinked, merge_linked}
use Rattle.tree_shrinking.proofs.MergeStepLemmas.{whole, follows, makes_merge}
use Rattle.tree_shrinking.proofs.KeptPairLemmas.{in_place, moved_rows}
use Rattle.tree_shrinking.proofs.settling.make_merge.Given as given
use Rattle.tree_shrinking.proofs.settling.make_merge.Goals as goal
use Rattle.tree_shrinking.proofs.settling.make_merge.Goals.{After-laws_of_moves, After-head_of-left, After-keep_up_between, After-relink_behind}

pub head_of-left-requires : goal.head_of-left-requires
head_of-left-requires g c = let can = c.requires.held.can in record {
  page = can.is_left.page;
  has = read_page c.args.pass.now c.requires.known c.args.at.child can.lower c.frame.result.now
      can.knows_left c.frame.ensures can.is_left.page can.is_left.paged;
}

-- the number that was read is the left page's
left_number : (g : given.Over) (c : After-head_of-left g)
    → (can : CanMerge (view c.args.pass.now) c.args.at.parent c.args.at.child c.args.at.right
    c.args.index) → c.head_of-left.result.number ≡ can.is_left.page.head.number
left_number g c can = ap (λ (h : PageHead). h.number) (c.head_of-left.ensures.head can.is_left.page
    (read_page c.args.pass.now c.requires.known c.args.at.child can.lower c.frame.result.now
    can.knows_left c.frame.ensures can.is_left.page can.is_left.paged))

-- the call, as lemmas know it
call : (g : given.Over) (c : After-laws_of_moves g)
    → MergeCall c.args.pass.now c.args.at c.args.index c.args.next
call g c = record {
  known = c.requires.known;
  fitted = c.fits.ensures;
  held = c.requires.held;
  inside = c.requires.inside;
  hash = c.requires.hash;
  few = c.requires.few;
  laws = c.laws_of_moves.ensures;
}

pub join_halves-requires-clause-suits : goal.join_halves-requires-clause-suits
join_halves-requires-clause-suits g c =
    suits_taken (call g (goal.at.join_halves-requires-clause-suits g c).After-laws_of_moves)

pub returns-in_err-join_halves-clause-fits : goal.returns-in_err-join_halves-clause-fits
returns-in_err-join_halves-clause-fits g c =
    subst IsFittedTree (sym c.in_err-join_halves.ensures.err.same_view) c.fits.ensures

pub keep_up_between-requires : goal.keep_up_between-requires
keep_up_between-requires g c =
    let moves = rows_moved (call g (goal.at.keep_up_between-requires g c).After-laws_of_moves)
    c.join_halves.new.pass c.in_ok-join_halves.ensures.ok in
    record {
      own = (c.requires.own.0, c.join_halves.ensures.own.1);
      moved = moved_rows moves;
      place = in_place moves;
      room = (let same = moves.remakes.same_count in let room = c.requires.room in
          omega (arith, same, room));
    }

-- the merge is in hand, and the partition kept up with it
merged : (g : given.Over) (c : After-keep_up_between g)
    → MergeCall c.args.pass.now c.args.at c.args.index c.args.next
    → MergeInHand c.args.pass.now c.args.at c.args.index c.args.next None
    c.keep_up_between.new.pass
merged g c call = merge_kept call c.join_halves.new.pass c.keep_up_between.new.pass
    c.in_ok-join_halves.ensures.ok c.keep_up_between.ensures.kept

pub relink_behind-requires : goal.relink_behind-requires
relink_behind-requires g c = let can = c.requires.held.can in let f = c.fits.ensures in
    let at = goal.at.relink_behind-requires g c in
    record {
      own = (c.requires.own.0, c.keep_up_between.ensures.own.1);
      held = next_in_hand (merged g at.After-keep_up_between (call g at.After-laws_of_moves));
      right = subst (λ n. n ≢ NO_PAGE) (sym (left_number g at.After-head_of-left can))
          (page_number f.whole f.is_lawful (view c.args.pass.now) f.fits c.args.at.child can.lower
          can.is_left.page can.knows_left can.is_left.paged c.requires.few);
    }

-- all is in hand that is to be settled
linked : (g : given.Over) (c : After-relink_behind g)
    (made : MergeInHand c.args.pass.now c.args.at c.args.index c.args.next None
    c.keep_up_between.new.pass)
    → c.head_of-left.result.number ≡ made.call.held.can.is_left.page.head.number
    → MergeLinked c.args.pass.now c.args.at c.args.index c.args.next c.args.next
    c.relink_behind.new.pass
linked g c made number = merge_linked made c.relink_behind.new.pass (subst
    (λ n. RelinksBehind c.keep_up_between.new.pass c.args.next n c.relink_behind.new.pass) number
    c.relink_behind.ensures.relinks)

pub settle-requires : goal.settle-requires
settle-requires g c = let at = goal.at.settle-requires g c in
    let made = merged g at.After-keep_up_between (call g at.After-laws_of_moves) in
    let all = linked g at.After-relink_behind made
    (left_number g at.After-head_of-left made.call.held.can) in
    record { own = c.relink_behind.ensures.own.1; whole = whole all; rule = follows all }

pub returns-clause-own : goal.returns-clause-own
returns-clause-own g c = let p = c.args.pass.now in let joined = c.join_halves.new.pass in
    let kept = c.keep_up_between.new.pass in let linked = c.relink_behind.new.pass in
    let settled = c.settle.new.pass in (
      passes_both p joined settled c.join_halves.ensures.own.0
          (passes_both joined kept settled c.keep_up_between.ensures.own.0
          (passes_both kept linked settled c.relink_behind.ensures.own.0 c.settle.ensures.own.0)),
      c.settle.ensures.own.1,
    )

pub returns-clause-ok : goal.returns-clause-ok
returns-clause-ok g c = let at = goal.at.returns-clause-ok g c in
    let made = merged g at.After-keep_up_between (call g at.After-laws_of_moves) in
    makes_merge (linked g at.After-relink_behind made
    (left_number g at.After-head_of-left made.call.held.can)) c.settle.new.pass c.settle.ensures.did

pub frame-requires-clause-held : goal.frame-requires-clause-held
frame-requires-clause-held g c = let can = c.requires.held.can in
    (can.lower, can.lower, frame_has c.args.pass.now c.requires.known c.args.at.child can.lower can.knows_left)
