use Rattle.std.proofs.Common.{◌≡◌, ◌+◌, ◌==◌, [], length, ap, ◌∙◌, subst}
use Rattle.hash_law.specs.Changes.{Exchanges}
use Rattle.index_page.specs.declared.head.PageHead.{PageHead}
use Rattle.hash_upkeep.specs.Hashing.{entries_if}
use Rattle.hash_upkeep.specs.Moves.{from_then, to_then, built_or}
use Rattle.hash_upkeep.proofs.EmptyLemmas.{both_enter, own_if, own_or_none}
use Rattle.hash_upkeep.proofs.SwapLemmas.{kept_is, dropped_is, spare_lacks}
use Rattle.hash_upkeep.proofs.MoveLemmas.{from_hashes, to_hashes, move_needs, gave_fits, took_fits}
use Rattle.hash_upkeep.proofs.moves.on_move.Goals as goal
use Rattle.hash_upkeep.proofs.moves.on_move.Goals.{After-count_if-2}

-- what both blocks need, counted
needs : (c : After-count_if-2) → c.count_if.result + c.count_if-2.result
    ≡ length (entries_if (from_then c.args.blocks.now c.args.from.now.head.level) c.args.from.now.rows)
    + length (entries_if (to_then c.args.blocks.now) c.args.to.now.rows)
needs c = move_needs c.args.blocks.now c.args.from.now c.args.to.now c.head.result.now
    c.from_then-from_how.result c.to_then-to_how.result c.count_if.result c.count_if-2.result
    c.head.ensures c.from_then-from_how.ensures c.to_then-to_how.ensures c.count_if.ensures.number
    c.count_if-2.ensures.number

pub leave_both-requires-clause-hash : goal.leave_both-requires-clause-hash
leave_both-requires-clause-hash c = c.requires.hash

pub leave_both-requires-clause-covered : goal.leave_both-requires-clause-covered
leave_both-requires-clause-covered c = c.requires.covered

pub count_if-requires : goal.count_if-requires
count_if-requires c = record {
  hash = from_hashes c.args.blocks.now c.args.from.now c.args.to.now c.head.result.now.level
      c.from_then-from_how.result c.requires.hash c.from_then-from_how.ensures;
}

pub count_if-requires-2 : goal.count_if-requires-2
count_if-requires-2 c = record {
  hash = to_hashes c.args.blocks.now c.args.from.now c.args.to.now c.to_then-to_how.result
      c.requires.hash c.to_then-to_how.ensures;
}

pub returns-then-spare-need-clause-answer : goal.returns-then-spare-need-clause-answer
returns-then-spare-need-clause-answer c = record {
  out = c.leave_both.new.part;
  empties = c.leave_both.ensures;
  is = dropped_is _ _ _ _ (needs (goal.at.returns-then-spare-need-clause-answer c).After-count_if-2)
      c.spare-spare.ensures c.if-spare-need.true;
}

pub returns-then-spare-need-clause-room : goal.returns-then-spare-need-clause-room
returns-then-spare-need-clause-room c =
    spare_lacks _ _ _ _ (needs (goal.at.returns-then-spare-need-clause-room c).After-count_if-2)
    c.spare-spare.ensures c.if-spare-need.true

pub returns-then-spare-need-clause-part : goal.returns-then-spare-need-clause-part
returns-then-spare-need-clause-part c = c.leave_both.ensures

pub enter_if_hashed-requires-clause-hash : goal.enter_if_hashed-requires-clause-hash
enter_if_hashed-requires-clause-hash c =
    from_hashes c.args.blocks.now c.args.from.now c.args.to.now c.head.result.now.level
    c.from_then-from_how.result c.requires.hash c.from_then-from_how.ensures

pub enter_if_hashed-requires-clause-room : goal.enter_if_hashed-requires-clause-room
enter_if_hashed-requires-clause-room c =
    gave_fits c.count_if.result c.count_if-2.result
    (length (entries_if c.from_then-from_how.result c.args.from.now.rows)) c.spare-spare.result
    c.leave_both.new.part.spare c.count_if.ensures.number c.spare-spare.ensures
    c.if-spare-need.false

pub enter_if_hashed-requires-2-clause-hash : goal.enter_if_hashed-requires-2-clause-hash
enter_if_hashed-requires-2-clause-hash c =
    to_hashes c.args.blocks.now c.args.from.now c.args.to.now c.to_then-to_how.result
    c.requires.hash c.to_then-to_how.ensures

pub enter_if_hashed-requires-2-clause-room : goal.enter_if_hashed-requires-2-clause-room
enter_if_hashed-requires-2-clause-room c =
    took_fits c.count_if.result c.count_if-2.result
    (entries_if c.from_then-from_how.result c.args.from.now.rows)
    (entries_if c.to_then-to_how.result c.args.to.now.rows) c.spare-spare.result
    c.leave_both.new.part c.enter_if_hashed.new.part c.count_if.ensures.number
    c.count_if-2.ensures.number c.spare-spare.ensures c.if-spare-need.false
    c.enter_if_hashed.ensures.nodes c.enter_if_hashed.ensures.shape

pub returns-clause-answer : goal.returns-clause-answer
returns-clause-answer c = record {
  out = c.leave_both.new.part;
  empties = c.leave_both.ensures;
  is = kept_is _ _ _ _ (needs (goal.at.returns-clause-answer c).After-count_if-2)
      c.spare-spare.ensures c.if-spare-need.false;
}

pub returns-clause-part : goal.returns-clause-part
returns-clause-part c = let m = c.args.blocks.now in let from = c.args.from.now in
    let to = c.args.to.now.rows in
    let old = c.args.part.now in let out = c.leave_both.new.part in
    let mid = c.enter_if_hashed.new.part in let new = c.enter_if_hashed-2.new.part in
    let is : c.from_then-from_how.result ≡ from_then m from.head.level =
    c.from_then-from_how.ensures ∙ ap (λ (h : PageHead). from_then m h.level) c.head.ensures in
    both_enter m.from m.to (entries_if (from_then m from.head.level) from.rows)
    (entries_if (to_then m) to) old out mid new c.requires.apart
    (own_or_none (from.head.level == 0) m.index m.from m.bits m.from_built from.rows)
    (own_if m.index m.to m.bits (built_or m.to_built m.from_built) to) c.leave_both.ensures
    (subst (λ h. Exchanges out.nodes [] (entries_if h from.rows) mid.nodes) is
    c.enter_if_hashed.ensures.nodes)
    c.enter_if_hashed.ensures.shape
    (subst (λ h. Exchanges mid.nodes [] (entries_if h to) new.nodes) c.to_then-to_how.ensures
    c.enter_if_hashed-2.ensures.nodes)
    c.enter_if_hashed-2.ensures.shape
