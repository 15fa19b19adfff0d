use Rattle.reply_counts.proofs.ReplyLemmas.{all_counted}
use Rattle.reply_counts.proofs.laws.replies_are_all.Goals as goal

pub returns : goal.returns
returns c answers all = all_counted answers all
