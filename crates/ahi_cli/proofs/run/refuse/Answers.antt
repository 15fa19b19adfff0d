use Rattle.std.proofs.Common.{◌≡◌, ap, ◌∙◌, sym, subst}
use Rattle.ahi_cli.specs.Prints.{EndsRefusedAt, ended}
use Rattle.ahi_cli.specs.Stops.{status_of}
use Rattle.ahi_cli.proofs.EndsLemmas.{refusal_ends, refused_other}
use Rattle.ahi_cli.proofs.run.refuse.Goals as goal

pub returns : goal.returns
returns g c =
    let old = c.args.sink.now in
    let new = c.put_stop.new.sink in
    let is : c.end.result ≡ ended c.put_stop.result (status_of c.args.stop) = c.end.ensures ∙ ap (ended c.put_stop.result) c.status.ensures in
    let line = refusal_ends (g.K.Sink.written old) (g.K.Sink.written new) (g.K.Sink.faults old) (g.K.Sink.faults new) c.args.stop c.in_default.not-NoMemory c.put_stop.result c.put_stop.ensures in
    record {
      ends = subst (EndsRefusedAt g.K.Sink old new c.args.stop) (sym is) line;
      other = λ done. refused_other c.put_stop.result c.args.stop (sym is ∙ done);
    }
