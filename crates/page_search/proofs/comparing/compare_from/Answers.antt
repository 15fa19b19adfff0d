use Rattle.std.proofs.Common.{◌≡◌, ◌∙◌, [], ◌<◌, length, get_or, sym, arith}
use Rattle.std.specs.Ordering.{nat_cmp}
use Rattle.std.specs.Cmp.Lexicographic.{slice_cmp}
use Rattle.key_tuple.specs.Figures.{equal_bytes}
use Rattle.page_search.proofs.AgreeLemmas.{begin_at, next_at, differ_at, figures_at, figures_end, upto_end, all_equal, not_tied, is_tied}
use Rattle.page_search.proofs.comparing.compare_from.Goals as goal

pub loop-i-init : goal.loop-i-init
loop-i-init g c = (begin_at (g.A.Fields.fields_of c.args.tuple.now) (g.B.Fields.fields_of c.args.key.now) c.args.from.fields c.requires.agrees.fields, c.requires.agrees.bytes)

pub returns-then-ne-clause-figures : goal.returns-then-ne-clause-figures
returns-then-ne-clause-figures g c =
    let t = g.A.Fields.fields_of c.args.tuple.now in
    let k = g.B.Fields.fields_of c.args.key.now in
    let i = c.loop-i.i in
    let in_t : i < length t = omega (arith, c.count-i-end.ensures, c.loop-i-test.true) in
    let in_k : i < length k = omega (arith, c.count-i-end.ensures, c.loop-i-test.true, c.requires.long) in
    let here : c.order_from-found.result.order ≡ slice_cmp nat_cmp (get_or t i []) (get_or k i []) = c.order_from-found.ensures.order ∙ (λ j. slice_cmp nat_cmp (c.field-left.ensures.bytes j) (c.field-right.ensures.bytes j)) in
    let bytes : c.order_from-found.result.equal ≡ equal_bytes (get_or t i []) (get_or k i []) = c.order_from-found.ensures.equal ∙ (λ j. equal_bytes (c.field-left.ensures.bytes j) (c.field-right.ensures.bytes j)) in
    figures_at t k i c.order_from-found.result.equal (differ_at i c.order_from-found.result.order c.loop-i.invariant.0 in_t in_k here (not_tied c.order_from-found.result.order c.if-ne.ensures)).1 bytes

pub returns-then-ne-clause-order : goal.returns-then-ne-clause-order
returns-then-ne-clause-order g c =
    let t = g.A.Fields.fields_of c.args.tuple.now in
    let k = g.B.Fields.fields_of c.args.key.now in
    let i = c.loop-i.i in
    let in_t : i < length t = omega (arith, c.count-i-end.ensures, c.loop-i-test.true) in
    let in_k : i < length k = omega (arith, c.count-i-end.ensures, c.loop-i-test.true, c.requires.long) in
    let here : c.order_from-found.result.order ≡ slice_cmp nat_cmp (get_or t i []) (get_or k i []) = c.order_from-found.ensures.order ∙ (λ j. slice_cmp nat_cmp (c.field-left.ensures.bytes j) (c.field-right.ensures.bytes j)) in
    (differ_at i c.order_from-found.result.order c.loop-i.invariant.0 in_t in_k here (not_tied c.order_from-found.result.order c.if-ne.ensures)).0

pub loop-i-preserved : goal.loop-i-preserved
loop-i-preserved g c =
    let t = g.A.Fields.fields_of c.args.tuple.now in
    let k = g.B.Fields.fields_of c.args.key.now in
    let i = c.loop-i.i in
    let in_t : i < length t = omega (arith, c.count-i-end.ensures, c.loop-i-test.true) in
    let in_k : i < length k = omega (arith, c.count-i-end.ensures, c.loop-i-test.true, c.requires.long) in
    let here : c.order_from-found.result.order ≡ slice_cmp nat_cmp (get_or t i []) (get_or k i []) = c.order_from-found.ensures.order ∙ (λ j. slice_cmp nat_cmp (c.field-left.ensures.bytes j) (c.field-right.ensures.bytes j)) in
    (next_at i c.loop-i.invariant.0 in_t in_k (sym here ∙ is_tied c.order_from-found.result.order c.if-ne.ensures), omega arith)

pub returns-clause-order : goal.returns-clause-order
returns-clause-order g c =
    sym (all_equal (upto_end c.loop-i.invariant.0 (omega (arith, c.count-i-end.ensures, c.loop-i-test.false)))).0

pub returns-clause-figures : goal.returns-clause-figures
returns-clause-figures g c = figures_end c.count.result (upto_end c.loop-i.invariant.0 (omega (arith, c.count-i-end.ensures, c.loop-i-test.false))) c.count.ensures

pub order_from-found-requires-clause-short : goal.order_from-found-requires-clause-short
order_from-found-requires-clause-short g c = c.field-left.ensures.fits
