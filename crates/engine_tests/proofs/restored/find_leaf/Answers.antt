use Rattle.std.proofs.Common.{◌≡◌, ℕ, ◌∷◌, [], sym, subst, ◌∙◌, arith}
use Rattle.latch_space.specs.Passes.{view}
use Rattle.tree_descent.specs.Ways.{HoldsPage}
use Rattle.tree_neighbours.specs.LeafHands.{HoldsLeavesAlone}
use Rattle.tree_cursor.specs.Pieces.{HoldsStand}
use Rattle.tree_cursor.specs.Starts.{place_of}
use Rattle.engine_tests.proofs.EmptyLemmas.{none_has_frame}
use Rattle.engine_tests.proofs.MarkLemmas.{room_stays}
use Rattle.engine_tests.proofs.StandLemmas.{none_held, again_alone, stands_again}
use Rattle.engine_tests.proofs.restored.find_leaf.Goals as goal

pub restore-told-requires-clause-frames : goal.restore-told-requires-clause-frames
restore-told-requires-clause-frames g c = let site = c.args.site.now in
    none_has_frame site.space c.args.pass.now site.forest c.requires.own c.requires.nothing

pub index_of-index-requires-clause-held : goal.index_of-index-requires-clause-held
index_of-index-requires-clause-held g c = let told = c.in-ByClock.ensures.told in
    let referred = c.requires.marked.referred in (
      referred.has.page.index,
      subst (λ n. HoldsPage (view c.restore-told.new.pass) n referred.has.page.index 0) (sym told.0)
          (told.2.again referred).holds,
    )

pub returns-in-ByClock-clause-only : goal.returns-in-ByClock-clause-only
returns-in-ByClock-clause-only g c = let told = c.in-ByClock.ensures.told in
    let site = c.args.site.now in let p = c.args.pass.now in
    subst (λ n. HoldsLeavesAlone c.restore-told.new.pass (n ∷ [])) (sym told.0)
    (again_alone p c.args.cursor.now c.restore-told.new.pass told.2
    (none_held site.space p site.forest c.requires.own c.requires.nothing))

pub returns-in-ByClock-clause-stand : goal.returns-in-ByClock-clause-stand
returns-in-ByClock-clause-stand g c = let told = c.in-ByClock.ensures.told in
    let q = c.restore-told.new.pass in let cursor = c.args.cursor.now in
    let referred = c.requires.marked.referred in let found = told.2.again referred in
    let named = c.index_of-index.ensures referred.has.page.index
    (subst (λ n. HoldsPage (view q) n referred.has.page.index 0) (sym told.0) found.holds) in
    let claimed = c.ensure.ensures in
    let first : referred.has.page.index ≡ 0 = grind (arith, named, claimed) in
    subst (λ n. HoldsStand (view q) n 0 cursor (place_of cursor)) (sym told.0)
    (stands_again (view q) cursor referred.has.page found first
    (room_stays (view c.args.pass.now) (view q) cursor told.2.does.adds.numbers.terms
    c.requires.marked.fits))
