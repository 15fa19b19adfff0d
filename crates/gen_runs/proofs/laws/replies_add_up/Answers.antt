use Rattle.gen_runs.proofs.ReplyLemmas.{all_add_up}
use Rattle.gen_runs.proofs.laws.replies_add_up.Goals as goal

pub returns : goal.returns
returns c number lanes lines report few legal = all_add_up number lanes lines report few legal
