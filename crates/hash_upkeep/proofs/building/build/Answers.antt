use Rattle.std.proofs.Common.{◌≡◌, Some, [], length, subst, sym, rules}
use Rattle.hash_upkeep.specs.Hashing.{CanHashIf, hashing_if, nodes_if, row_entries}
use Rattle.hash_upkeep.specs.Cover.{LosesFolds, Renews}
use Rattle.hash_upkeep.proofs.KeepLemmas.{own_entries}
use Rattle.hash_upkeep.proofs.EmptyLemmas.{empties, enters, exact_covers_if, full_is, built_is, stays_built}
use Rattle.hash_upkeep.proofs.SwapLemmas.{spare_lacks, spare_has}
use Rattle.hash_upkeep.proofs.building.build.Goals as goal
use Rattle.hash_upkeep.proofs.building.build.Goals.{After-leave_if, Then-eq}

-- the block is hashed so already
same : (c : Then-eq) → c.args.built ≡ Some c.args.how.now.params
same c = search rules

pub returns-then-eq-clause-anew : goal.returns-then-eq-clause-anew
returns-then-eq-clause-anew c other = absurd (other (same c))

pub returns-then-eq-clause-part : goal.returns-then-eq-clause-part
returns-then-eq-clause-part c =
    stays_built c.args.how.now c.args.built c.args.page.now.rows c.args.part.now (same c)
    c.requires.exact

pub leave_if-requires : goal.leave_if-requires
leave_if-requires c = record {
  hash = subst (λ h. CanHashIf h c.args.how.now.block c.args.page.now)
      (sym c.hashing_if-was.ensures) c.requires.was;
}

emptied : (c : After-leave_if)
    → Renews c.args.how.now.block [] c.args.part.now c.leave_if.new.part
emptied c = let how = c.args.how.now in let rows = c.args.page.now.rows in
    let was = hashing_if how.index how.block how.bits c.args.built in
    empties how.block (nodes_if was rows) c.args.part.now c.leave_if.new.part
    (exact_covers_if how.index how.block how.bits c.args.built rows c.args.part.now.nodes
    c.requires.exact)
    (subst (λ h. LosesFolds how.block (nodes_if h rows) c.args.part.now c.leave_if.new.part)
    c.hashing_if-was.ensures c.leave_if.ensures)

pub returns-then-spare-need-clause-anew : goal.returns-then-spare-need-clause-anew
returns-then-spare-need-clause-anew c other = record {
  out = c.leave_if.new.part;
  empties = emptied (goal.at.returns-then-spare-need-clause-anew c).After-leave_if;
  is =
      full_is _ _ _ _ c.requires.need c.spare-spare.ensures
      c.if-spare-need.true;
}

pub returns-then-spare-need-clause-room : goal.returns-then-spare-need-clause-room
returns-then-spare-need-clause-room c =
    spare_lacks (length (row_entries c.args.how.now c.args.page.now.rows)) c.leave_if.new.part.spare
    c.args.need c.spare-spare.result c.requires.need c.spare-spare.ensures c.if-spare-need.true

pub returns-then-spare-need-clause-part : goal.returns-then-spare-need-clause-part
returns-then-spare-need-clause-part c =
    emptied (goal.at.returns-then-spare-need-clause-part c).After-leave_if

pub enter_all-requires-clause-hash : goal.enter_all-requires-clause-hash
enter_all-requires-clause-hash c = c.requires.hash

pub enter_all-requires-clause-room : goal.enter_all-requires-clause-room
enter_all-requires-clause-room c =
    spare_has (length (row_entries c.args.how.now c.args.page.now.rows)) c.leave_if.new.part.spare
    c.args.need c.spare-spare.result c.requires.need c.spare-spare.ensures c.if-spare-need.false

pub returns-clause-anew : goal.returns-clause-anew
returns-clause-anew c other = record {
  out = c.leave_if.new.part;
  empties = emptied (goal.at.returns-clause-anew c).After-leave_if;
  is =
      built_is _ _ _ _ c.requires.need c.spare-spare.ensures
      c.if-spare-need.false;
}

pub returns-clause-part : goal.returns-clause-part
returns-clause-part c = let how = c.args.how.now in let rows = c.args.page.now.rows in
    enters how.block (row_entries how rows) c.args.part.now c.leave_if.new.part c.enter_all.new.part
    (own_entries how rows) (emptied (goal.at.returns-clause-part c).After-leave_if)
    c.enter_all.ensures.nodes c.enter_all.ensures.shape
