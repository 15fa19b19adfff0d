use Rattle.reply_counts.proofs.ReplyLemmas.{counts_follow}
use Rattle.reply_counts.proofs.laws.counts_follow_answers.Goals as goal

pub returns : goal.returns
returns c answers line ask told row answer e = counts_follow answers line ask told row answer e
