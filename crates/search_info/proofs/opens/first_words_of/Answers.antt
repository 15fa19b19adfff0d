use Rattle.std.proofs.Common.{◌∙◌, ◌++◌, ◌∷◌, [], ℕ, map, sym, ap}
use Rattle.std.proofs.lemmas.List.{map_more, take_all}
use Rattle.learning.specs.Word.{word_of}
use Rattle.search_info.specs.History.{Start}
use Rattle.search_info.proofs.OpeningLemmas.{start_fits}
use Rattle.search_info.proofs.opens.first_words_of.Goals as goal

pub pack-requires : goal.pack-requires
pack-requires c = start_fits c.args.starts.now c.loop-info.info-index _ c.requires c.loop-info-test.true

pub loop-info-init : goal.loop-info-init
loop-info-init c = c.new-words.ensures.items

pub loop-info-preserved : goal.loop-info-preserved
loop-info-preserved c = let word : Start → ℕ = λ s. word_of s.0 in
    c.in_ok-push.ensures.items
    ∙ (λ k. c.loop-info.invariant k ++ c.pack.ensures k ∷ [])
    ∙ sym (map_more word c.args.starts.now c.loop-info.info-index _ c.loop-info-test.true)

pub returns : goal.returns
returns c = let word : Start → ℕ = λ s. word_of s.0 in
    c.in_ok-push-2.ensures.items
    ∙ ap (λ ws. ws ++ 0 ∷ []) (c.loop-info.invariant
    ∙ ap (map word) (take_all c.loop-info.info-index c.args.starts.now c.loop-info-test.false))
