use Rattle.std.proofs.Common.{◌≡◌, drop, refl, sym, ◌∙◌, subst, arith, ap, length, take, List, ℕ}
use Rattle.std.proofs.lemmas.List.{length-take-le, length-drop}
use Rattle.std.specs.List.{insert}
use Rattle.index_page.specs.Rows.{placed_row, Row}
use Rattle.index_page.specs.Store.{beside_by, Appends}
use Rattle.index_page.proofs.AppendLemmas.{appends_long, appends_more, get-drop, appends_back}
use Rattle.list_facts.proofs.Each.{each_get}
use Rattle.key_tuple.specs.Limits.{IsWithinLimits}
use Rattle.index_page.proofs.heap.Heap.append.Goals as goal

-- the first rows of what was appended to are those that were there
back : (old now others inserted kept : List Row) (count : ℕ) → Appends old now others → count ≡ length old → inserted ≡ now → kept ≡ take count inserted → kept ≡ old
back old now others inserted kept count a long same e = e ∙ ap (take count) same ∙ ap (λ (n : ℕ). take n now) long ∙ appends_back old now others a

pub insert_at-requires-clause-room : goal.insert_at-requires-clause-room
insert_at-requires-clause-room c =
    omega (arith, appends_long c.args.self.now c.loop-i.self _ c.loop-i.invariant, length-take-le c.loop-i.i (drop c.args.first c.args.others.now), c.requires.room, c.loop-i-test.true, c.len.ensures, length-drop c.args.first c.args.others.now, c.loop-i.auto.i-end)

pub loop-i-preserved : goal.loop-i-preserved
loop-i-preserved c =
    let rest = drop c.args.first c.args.others.now in
    let x = placed_row c.stored.result.0 c.stored.result.1.key c.stored.result.1.body in
    let y = placed_row c.in_default.field-0 c.stored.result.1.key (beside_by c.beside.result) in
    let there = get-drop c.args.others.now c.args.first c.loop-i.i ∙ c.stored.ensures in
    let behind = subst (λ n. c.insert_at.new.self ≡ insert c.loop-i.self n y) c.len-in-loop-i.ensures c.in_default.ensures.ok in
    appends_more c.args.self.now c.loop-i.self c.insert_at.new.self rest c.loop-i.i x y c.loop-i.invariant behind there refl (sym c.beside.ensures) c.in_default.ensures.differ

pub insert_at-requires-clause-key : goal.insert_at-requires-clause-key
insert_at-requires-clause-key c =
    each_get (λ (x : Row). IsWithinLimits x.key) c.args.others.now _ _ c.requires.keys c.stored.ensures

pub keep_first-requires : goal.keep_first-requires
keep_first-requires c =
    omega (arith, ap length c.in-Err.ensures.err, appends_long c.args.self.now c.loop-i.self _ c.loop-i.invariant, c.len-count.ensures)

pub returns-in-Err-clause-err : goal.returns-in-Err-clause-err
returns-in-Err-clause-err c =
    back c.args.self.now c.loop-i.self _ c.insert_at.new.self c.keep_first.new.self c.len-count.result c.loop-i.invariant c.len-count.ensures c.in-Err.ensures.err c.keep_first.ensures
