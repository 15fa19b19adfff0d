use Rattle.std.proofs.Common.{◌≡◌, ◌∙◌, sym, arith}
use Rattle.clock_law.specs.ModifyClock.{raised}
use Rattle.buffer_pool.proofs.turning.unload.Goals as goal

pub returns : goal.returns
returns c =
    let f = c.args.frame.now in let raise = c.raise_clock.ensures in
    let clock : c.raise_clock.new.self.clock ≡ raised f.clock = (λ i. (raise i).clock) in
    record {
      page = sym c.take.ensures.value ∙ c.in-Some.is;
      low = sym c.take-low.ensures.value;
      high = sym c.take-high.ensures.value;
      empty = raise ∙ (λ i. record f {
        page = c.take.ensures.after i;
        low = c.take-low.ensures.after i;
        high = c.take-high.ensures.after i;
        clock = raised f.clock;
      });
      clock = record { clock = omega (arith, clock); stays_last = λ stays. omega (arith, clock, stays) };
    }
