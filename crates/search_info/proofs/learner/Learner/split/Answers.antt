use Rattle.std.proofs.Common.{arith}
use Rattle.search_info.proofs.PartLemmas.{splits}
use Rattle.search_info.proofs.learner.Learner.split.Goals as goal

pub split_seat-seat-requires : goal.split_seat-seat-requires
split_seat-seat-requires c = let words = c.args.self.now.words in (c.requires.own.0, omega (arith, words), splits _ _ _ c.requires.two)
