use Rattle.std.proofs.Common.{refl, List, [], ℕ}
use Rattle.map_history.specs.Statistics.{statistics}
use Rattle.report_text.specs.Words.{count_text}
use Rattle.report_text.proofs.LineLemmas.{Extends-at_exit, Extends-at_second_exit, joined_more}
use Rattle.report_text.proofs.StatisticsLemmas.{statistic_at}
use Rattle.report_text.proofs.statistics.put_counts.Goals as goal

pub returns-in_err-put_separator-clause-err : goal.returns-in_err-put_separator-clause-err
returns-in_err-put_separator-clause-err c =
    Extends-at_exit _ _ _ _ _ c.loop-place.invariant c.in_err-put_separator.ensures.err

pub returns-in_err-put_count-clause-err : goal.returns-in_err-put_count-clause-err
returns-in_err-put_count-clause-err c =
    Extends-at_second_exit _ _ _ _ _ _ _ c.loop-place.invariant c.in_ok-put_separator.ensures.ok c.in_err-put_count.ensures.err

pub loop-place-preserved : goal.loop-place-preserved
loop-place-preserved c =
    let place = c.loop-place.place in
    let below = c.loop-place-test.true in
    joined_more 32 (λ (s : List ℕ × ℕ). count_text s.0 s.1) (statistics c.args.counts.now) place place ([], 0) _ _ _ _ _ below refl
    (statistic_at _ c.counted_words-words.result c.args.counts.now.numbers place _ ([], 0) c.counted_words-words.ensures below)
    c.loop-place.invariant c.in_ok-put_separator.ensures.ok c.in_ok-put_count.ensures.ok
