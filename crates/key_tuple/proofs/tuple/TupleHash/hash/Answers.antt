use Rattle.std.proofs.Common.{◌<◌, ◌≤◌, ℕ, [], length, fold, flat_map, sym, ap, ◌∙◌, arith}
use Rattle.std.proofs.lemmas.List.{take_all}
use Rattle.std.specs.Hash.{slice, u8, le_bytes}
use Rattle.key_tuple.proofs.FoldLemmas.{fold_flat_more}
use Rattle.key_tuple.proofs.tuple.TupleHash.hash.Goals as goal

pub loop-i-preserved : goal.loop-i-preserved
loop-i-preserved g c =
    let fields = c.args.self.now.fields in
    let below : c.loop-i.i < length fields = omega (arith, c.loop-i-test.true, c.count-i-end.ensures) in
    c.hash.ensures ∙ (λ j. fold g.H.Hasher.write (c.loop-i.invariant j) (slice u8 (c.field.ensures.bytes j)))
    ∙ sym (fold_flat_more g.H.Hasher.write (slice u8) c.write_usize.new.self fields c.loop-i.i [] below)

pub returns : goal.returns
returns g c =
    let fields = c.args.self.now.fields in
    let all : length fields ≤ c.loop-i.i = omega (arith, c.loop-i-test.false, c.count-i-end.ensures) in
    let started = c.write_usize.ensures ∙ ap (λ (n : ℕ). g.H.Hasher.write c.args.state.now (le_bytes 8 n)) (c.from.ensures ∙ c.count.ensures) in
    let whole = take_all c.loop-i.i fields all in
    c.loop-i.invariant ∙ (λ j. fold g.H.Hasher.write (started j) (flat_map (slice u8) (whole j)))
