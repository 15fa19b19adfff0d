use Rattle.std.proofs.Common.{◌≡◌, map, take}
use Rattle.learning.specs.Word.{word_of}
use Rattle.search_info.specs.History.{Start}
use Rattle.search_info.proofs.opens.first_words_of.Given as goal

abbrev pub invariant-loop-info : goal.invariant-loop-info
invariant-loop-info l = l.words.items ≡ map (λ (s : Start). word_of s.0) (take l.info-index l.starts)
