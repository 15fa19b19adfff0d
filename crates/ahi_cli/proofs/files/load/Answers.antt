use Rattle.std.proofs.Common.{refl, subst}
use Rattle.io_port.specs.Shelf.{IsTooLong}
use Rattle.ahi_cli.proofs.FileLemmas.{of_failed}
use Rattle.ahi_cli.proofs.files.load.Goals as goal

pub returns-in-Err-Failed-clause-err : goal.returns-in-Err-Failed-clause-err
returns-in-Err-Failed-clause-err g c =
    (refl, of_failed (g.F.Shelf.faults c.args.shelf.now) (g.F.Shelf.faults c.load.new.self) (g.F.Shelf.failed c.load.new.self) c.args.name.now c.in-Err-Failed.field-0 c.in-Err-Failed.field-0-is c.in-Err-Failed.ensures.failed)

pub returns-in-Err-TooLong-clause-err : goal.returns-in-Err-TooLong-clause-err
returns-in-Err-TooLong-clause-err g c =
    (refl, (subst (IsTooLong (g.F.Shelf.holds c.args.shelf.now) c.args.name.now c.args.limit) c.in-Err-TooLong.field-0-is c.in-Err-TooLong.ensures.too_long).1)
