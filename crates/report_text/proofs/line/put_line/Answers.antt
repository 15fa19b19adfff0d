-- What was there before the line stays.
use Rattle.std.proofs.Common.{ℕ, take, ap, ◌∙◌}
use Rattle.report_text.proofs.line.put_line.Goals as goal

pub returns-in-Err-clause-err : goal.returns-in-Err-clause-err
returns-in-Err-clause-err g c =
    let size = c.len-start.ensures ∙ c.args.out.now.ok.0 in
    c.truncate.ensures.items ∙ ap (λ (n : ℕ). take n c.put_words.new.out.items) size ∙ c.in-Err.ensures.err
