use Rattle.latch_space.specs.Passes.{view}
use Rattle.engine_tests.proofs.EmptyLemmas.{none_has_frame}
use Rattle.engine_tests.proofs.MarkLemmas.{marks_stay, marks_given}
use Rattle.engine_tests.proofs.StandLemmas.{again_back}
use Rattle.engine_tests.proofs.restored.told_alone.Goals as goal

pub restore-requires-clause-frames : goal.restore-requires-clause-frames
restore-requires-clause-frames c = let site = c.args.site.now in
    none_has_frame site.space c.args.pass.now site.forest c.requires.own c.requires.nothing

pub give_back-requires-clause-held : goal.give_back-requires-clause-held
give_back-requires-clause-held c = let told = c.in-ByClock.ensures.told in
    again_back c.args.pass.now c.args.cursor.now c.restore.new.pass told.2
    c.requires.marked.referred c.in-ByClock.block told.0

pub returns-in-ByClock-clause-marked : goal.returns-in-ByClock-clause-marked
returns-in-ByClock-clause-marked c = let told = c.in-ByClock.ensures.told in
    let p = c.args.pass.now in let q = c.restore.new.pass in let cursor = c.args.cursor.now in
    marks_given q c.give_back.new.pass c.in-ByClock.block cursor c.give_back.ensures.gave
    (marks_stay (view p) (view q) _ cursor told.2.does.adds c.requires.marked)

pub returns-in-BySearch-clause-marked : goal.returns-in-BySearch-clause-marked
returns-in-BySearch-clause-marked c = let told = c.in-BySearch.ensures.told in
    marks_stay (view c.args.pass.now) (view c.restore.new.pass) told.0.got.silently.added
    c.args.cursor.now told.0.got.silently.does.adds c.requires.marked
