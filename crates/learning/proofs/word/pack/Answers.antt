use Rattle.std.proofs.Common.{◌≡◌, ◌∙◌, ◌+◌, ◌*◌, ◌<◌, ◌≤◌, ℕ, sym, subst}
use Rattle.learning.specs.Word.{bit_of}
use Rattle.learning.proofs.WordLemmas.{bit_below, byte_is_bit, SumsFit, sums_fit}
use Rattle.learning.proofs.word.pack.Goals as goal

last_is : (c : goal.After-from-7) → c.from.result ≡ bit_of c.args.info.now.last
last_is c = c.from.ensures ∙ byte_is_bit c.args.info.now.last

left_is : (c : goal.After-from-7) → c.from-2.result ≡ bit_of c.args.info.now.params.left
left_is c = c.from-2.ensures ∙ byte_is_bit c.args.info.now.params.left

sums : (c : goal.After-from-7)
    → SumsFit c.from.result c.from-2.result c.from-3.result c.from-4.result c.from-5.result c.from-6.result c.from-7.result
sums c = sums_fit _ _ _ _ _ _ _
    (subst (λ (n : ℕ). n ≤ 1) (sym (last_is c)) (bit_below c.args.info.now.last))
    (subst (λ (n : ℕ). n ≤ 1) (sym (left_is c)) (bit_below c.args.info.now.params.left))
    (subst (λ (n : ℕ). n < 128) (sym c.from-3.ensures) c.requires.potential)
    (subst (λ (n : ℕ). n < 32) (sym c.from-4.ensures) c.requires.analysis)
    (subst (λ (n : ℕ). n < 8) (sym c.from-5.ensures) c.requires.fields)
    (subst (λ (n : ℕ). n < 1024) (sym c.from-6.ensures) c.requires.bytes)
    (subst (λ (n : ℕ). n < 4294967296) (sym c.from-7.ensures) c.requires.events)

pub returns : goal.returns
returns c = λ i. last_is c i * 1 + left_is c i * 2 + c.from-3.ensures i * 4 + c.from-4.ensures i * 512
    + c.from-5.ensures i * 16384 + c.from-6.ensures i * 131072 + c.from-7.ensures i * 4294967296

pub overflow_add-result-6 : goal.overflow_add-result-6
overflow_add-result-6 c = record { fits = (sums c).all }

pub overflow_add-result-5 : goal.overflow_add-result-5
overflow_add-result-5 c = record { fits = (sums c).six }

pub overflow_add-result-4 : goal.overflow_add-result-4
overflow_add-result-4 c = record { fits = (sums c).five }

pub overflow_add-result-3 : goal.overflow_add-result-3
overflow_add-result-3 c = record { fits = (sums c).four }

pub overflow_add-result-2 : goal.overflow_add-result-2
overflow_add-result-2 c = record { fits = (sums c).three }
