use Rattle.io_port.proofs.RealFiles.{IsTooLong-untold, loads_all, loads_more}
use Rattle.io_port.proofs.file_shelf.load_file.Goals as goal

pub returns-clause-more : goal.returns-clause-more
returns-clause-more g c = loads_more g.R.File.Read.remaining c.in-Ok.file c.args.limit _ c.read_within.ensures.too_long

pub returns-clause-too_long : goal.returns-clause-too_long
returns-clause-too_long g c = IsTooLong-untold (g.R.File.Read.remaining c.in-Ok.file) c.args.name.now c.args.limit _ c.read_within.ensures.too_long

pub returns-clause-read : goal.returns-clause-read
returns-clause-read g c = loads_all g.R.File.Read.remaining c.in-Ok.file _ c.read_within.ensures.ok

pub returns-clause-within : goal.returns-clause-within
returns-clause-within g c = c.read_within.ensures.within
