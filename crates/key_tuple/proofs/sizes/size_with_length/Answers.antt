use Rattle.std.proofs.Common.{◌≡◌, ℕ, ◌+◌, length, refl, ap, ◌∙◌}
use Rattle.std.proofs.lemmas.Bool.{cond_below, cond_above}
use Rattle.key_tuple.specs.Sizes.{length_size}
use Rattle.key_tuple.proofs.sizes.size_with_length.Goals as goal
use Rattle.key_tuple.proofs.sizes.size_with_length.Goals.{then-len-gt-SHORT_LENGTH, else-len-gt-SHORT_LENGTH}

pub returns : goal.returns
returns c =
    let len = length c.args.bytes.now in
    let size : c.if-len-gt-SHORT_LENGTH.length_size ≡ length_size len = elim c.if-len-gt-SHORT_LENGTH.branch [
      | then-len-gt-SHORT_LENGTH w ↦ w.length_size-is ∙ cond_below 127 len 2 1 w.if-len-gt-SHORT_LENGTH.true
      | else-len-gt-SHORT_LENGTH w ↦ w.length_size-is ∙ cond_above 127 len 2 1 1 w.if-len-gt-SHORT_LENGTH.false refl
    ] in
    ap (λ (n : ℕ). n + len) size
