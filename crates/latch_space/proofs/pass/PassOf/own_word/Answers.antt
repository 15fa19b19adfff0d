use Rattle.std.proofs.Common.{arith, sym, ◌∙◌, vec_len}
use Rattle.std.proofs.lemmas.Bool.{eqb-false}
use Rattle.atomic_table.proofs.Lists.{at_index}
use Rattle.latch_space.proofs.InHand.{in_space}
use Rattle.latch_space.proofs.pass.PassOf.own_word.Goals as goal

pub returns : goal.returns
returns g c = let p = c.args.self.now in let all = p.all in let ok = p.hand.ok.0 in let differs = eqb-false (vec_len p.hand) 0 (sym c.is_empty.ensures ∙ c.if-is_empty.false) in
    let within = in_space p.seat.me.0.held p.hand.items p.holding 0 c.index.result.now (at_index p.hand.items 0 c.index.result.now (omega (arith, differs, ok)) c.index.ensures) in omega (arith, all.0, within)
