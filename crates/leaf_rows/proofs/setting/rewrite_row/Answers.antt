use Rattle.std.proofs.Common.{◌≢◌, length, sym, ap, ◌∙◌}
use Rattle.leaf_rows.proofs.SetLemmas.{no_longer_there, rewritten_frame, clock_as_long, clock_shorter}
use Rattle.leaf_rows.proofs.setting.rewrite_row.Goals as goal

pub rewrite-requires-clause-no_longer : goal.rewrite-requires-clause-no_longer
rewrite-requires-clause-no_longer c = no_longer_there c.args.frame.now c.args.place
    c.args.value.now c.in-Some.page c.in-Some.is c.requires.there c.requires.no_longer

pub returns-then-not-as_long : goal.returns-then-not-as_long
returns-then-not-as_long c = λ key has.
    let other : length c.args.value.now ≢ length has.has.value = λ e. c.if-not-as_long.true
    (ap length c.as_bytes.ensures.bytes ∙ e ∙ sym (c.value_len.ensures key has)) in
    c.raise_clock.ensures ∙ rewritten_frame c.args.frame.now c.args.place c.args.value.now
    c.in-Some.page c.in-Some.is c.rewrite.new.page _ _ c.rewrite.ensures
    (clock_shorter (length c.args.value.now) (length has.has.value) c.args.frame.now.clock other)

pub returns-else-not-as_long : goal.returns-else-not-as_long
returns-else-not-as_long c = λ key has.
    let same = sym (ap length c.as_bytes.ensures.bytes) ∙ c.if-not-as_long.false
    ∙ c.value_len.ensures key has in
    rewritten_frame c.args.frame.now c.args.place c.args.value.now c.in-Some.page c.in-Some.is
    c.rewrite.new.page _ _ c.rewrite.ensures
    (clock_as_long (length c.args.value.now) (length has.has.value) c.args.frame.now.clock same)
