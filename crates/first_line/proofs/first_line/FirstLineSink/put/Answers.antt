use Rattle.std.proofs.Common.{◌≡◌, ap, subst}
use Rattle.std.specs.Result.{OnOk}
use Rattle.io_port.specs.Sink.{Puts}
use Rattle.first_line.proofs.first_line.FirstLineSink.put.Goals.{then-not-self, else-not-self}
use Rattle.first_line.proofs.first_line.FirstLineSink.put.Goals as goal

pub returns-clause-ok : goal.returns-clause-ok
returns-clause-ok g c =
    let same : c.if-not-self.self.sink ≡ c.args.self.now.sink = elim c.if-not-self.branch [ then-not-self w ↦ ap (λ s. s.sink) w.self-is | else-not-self w ↦ ap (λ s. s.sink) w.self-is ] in
    subst (λ sink. OnOk c.put.result (Puts (g.K.Sink.written sink) (g.K.Sink.written c.put.new.self) c.args.bytes.now)) same c.put.ensures.ok
