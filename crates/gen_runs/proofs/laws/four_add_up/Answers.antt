use Rattle.gen_runs.proofs.ReplyLemmas.{all_four}
use Rattle.gen_runs.proofs.laws.four_add_up.Goals as goal

pub returns : goal.returns
returns c number lanes lines report few enough legal = all_four number lanes lines report few enough legal
