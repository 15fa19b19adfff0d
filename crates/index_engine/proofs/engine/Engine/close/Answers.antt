use Rattle.std.proofs.Common.{subst}
use Rattle.latch_law.specs.Fitting.{ClosesWith}
use Rattle.latch_space.specs.Passes.{view}
use Rattle.index_law.specs.Rightness.{IsRight}
use Rattle.forest_law.specs.Law.{IsLawful}
use Rattle.forest_law.specs.References.{IsReference}
use Rattle.index_engine.specs.Engines.{known}
use Rattle.index_engine.proofs.ClosingLemmas.{closed_hashed}
use Rattle.index_engine.proofs.engine.Engine.close.Goals as goal

pub returns-clause-closed : goal.returns-clause-closed
returns-clause-closed c =
    subst (λ world. ClosesWith IsLawful IsRight IsReference (view world) c.in-Ok.objects.items)
    c.into_parts-world.ensures.0 c.in-Ok.ensures

pub returns-clause-hashed : goal.returns-clause-hashed
returns-clause-hashed c = closed_hashed (known c.args.pass) c.in-Ok.objects.items
    (subst (λ world. ClosesWith IsLawful IsRight IsReference (view world) c.in-Ok.objects.items)
    c.into_parts-world.ensures.0 c.in-Ok.ensures)
