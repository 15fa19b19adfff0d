use Rattle.std.proofs.lemmas.Result.{err_from_is_err_and}
use Rattle.ahi_cli.specs.Stops.{stop_text}
use Rattle.ahi_cli.proofs.EndsLemmas.{lacked_prints}
use Rattle.ahi_cli.proofs.run.put_stop.Goals as goal

pub returns-in_err-put_text : goal.returns-in_err-put_text
returns-in_err-put_text g c =
    let p = err_from_is_err_and c.from_residual.result c.from_residual.ensures.1 in
    lacked_prints (g.K.Sink.written c.args.sink.now) (g.K.Sink.faults c.args.sink.now) (stop_text c.args.stop.now) c.from_residual.result p.0 p.1 p.2
