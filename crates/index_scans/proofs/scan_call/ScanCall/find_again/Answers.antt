use Rattle.std.proofs.Common.{inr, refl, subst}
use Rattle.tree_cursor.specs.Restoring.{Restores}
use Rattle.index_scans.proofs.AgainLemmas.{clock_stands, search_stands}
use Rattle.index_scans.proofs.scan_call.ScanCall.find_again.Goals as goal

pub returns-in-ByClock-clause-stand : goal.returns-in-ByClock-clause-stand
returns-in-ByClock-clause-stand g c =
    let p = c.args.pass.now in let q = c.restore.new.pass in let cursor = c.args.cursor.now in
    clock_stands p q c.args.self.now.index cursor c.in-ByClock.block c.requires.from
    (subst (λ z. Restores p cursor z q) c.in-ByClock.is c.restore.ensures.told)

pub returns-in-BySearch-clause-finds : goal.returns-in-BySearch-clause-finds
returns-in-BySearch-clause-finds g c =
    let p = c.args.pass.now in let r = c.restore.new.pass in let cursor = c.args.cursor.now in
    inr (record {
      between = r;
      cause = c.in-BySearch.cause;
      restored = subst (λ z. Restores p cursor z r) c.in-BySearch.is c.restore.ensures.told;
      way = c.descend-leaf.result;
      went = c.descend-leaf.ensures.went;
      block_is = refl;
      how_is = c.how_of_stale.ensures;
    })

pub returns-in-BySearch-clause-stand : goal.returns-in-BySearch-clause-stand
returns-in-BySearch-clause-stand g c =
    let p = c.args.pass.now in let r = c.restore.new.pass in let cursor = c.args.cursor.now in
    search_stands p r c.descend-leaf.new.pass c.args.self.now.index cursor c.in-BySearch.cause
    c.descend-leaf.result c.requires.from
    (subst (λ z. Restores p cursor z r) c.in-BySearch.is c.restore.ensures.told)
    c.descend-leaf.ensures.went c.descend-leaf.ensures.fits
