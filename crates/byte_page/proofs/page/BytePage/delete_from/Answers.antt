use Rattle.std.proofs.Common.{◌∷◌, ◌∙◌, length, length-append, refl, sym, ap, arith}
use Rattle.byte_page.proofs.TailLemmas.{has_rows, pops_first, pops_other}
use Rattle.byte_page.proofs.page.BytePage.delete_from.Goals as goal

pub loop-init : goal.loop-init
loop-init c = λ left row right was is. record { rest = right; rows = was; head = refl; counted = omega arith }

pub pop-requires : goal.pop-requires
pop-requires c =
    let r = c.requires in
    has_rows (c.loop.invariant r.0 r.1 r.2 r.3 r.4)

pub returns-then-pop-first : goal.returns-then-pop-first
returns-then-pop-first c = λ left row right was is.
    pops_first (c.loop.invariant left row right was is) c.pop.ensures (is ∙ sym c.if-pop-first.true)

pub loop-preserved : goal.loop-preserved
loop-preserved c = λ left row right was is.
    pops_other (c.loop.invariant left row right was is) c.pop.ensures (λ e. c.if-pop-first.false (sym e ∙ is))

pub returns : goal.returns
returns c = λ left row right was is.
    let i = c.loop.invariant left row right was is in
    absurd (omega (arith, c.count-end.ensures, i.counted, ap length was, length-append left (row ∷ right)))
