-- One empty list more, within the room.
use Rattle.std.proofs.Common.{◌≡◌, ℕ, List, [], replicate, sym, ap, subst, ◌<◌, ◌∙◌, arith}
use Rattle.change_log.specs.Log.{ChangeNote}
use Rattle.change_log.proofs.SpreadLemmas.{empty_more, lists_below}
use Rattle.change_log.proofs.merging.empty_lists.Goals as goal

pub loop-preserved : goal.loop-preserved
loop-preserved c = (
  empty_more c.loop.counter c.loop.lists.items c.push_reserved.new.self.items c.new.result c.push_reserved.ensures.items c.new.ensures.items c.loop.invariant.0,
  c.push_reserved.ensures.capacity ∙ c.loop.invariant.1,
)

pub push_reserved-requires : goal.push_reserved-requires
push_reserved-requires c = lists_below c.loop.lists c.loop.counter _ c.loop.invariant.0 (subst (λ (n : ℕ). c.loop.counter < n) (sym c.loop.invariant.1) c.loop-test.true)

pub returns : goal.returns
returns c =
    let all : c.loop.counter ≡ c.args.count = omega (arith, c.loop.auto.counter-end, c.loop-test.false) in
    let none : List ChangeNote = [] in
    c.loop.invariant.0 ∙ ap (λ (n : ℕ). replicate n none) all
