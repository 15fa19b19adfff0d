use Rattle.std.proofs.Common.{ℕ, ◌+◌, ◌-◌, ◌<◌, ◌≤◌, ◌∙◌, length, sym, arith}
use Rattle.page_search.proofs.WordLemmas.{told_at, same_at}
use Rattle.page_search.proofs.words.first_apart.Goals as goal

not_below_itself : (n : ℕ) → n < n → ⊥
not_below_itself n less = omega arith

inside : (at last long : ℕ) → at < last → last + 8 ≤ long → at + 8 ≤ long
inside at last long less here = omega arith

within : (at last : ℕ) → at < last → at ≤ last
within at last less = omega arith

nearer : (at last : ℕ) → at < last → last - (at + 8) < last - at
nearer at last less = omega arith

pub loop-at-preserved : goal.loop-at-preserved
loop-at-preserved c =
    let at = c.loop-at.at in
    let told = told_at c.args.left.now c.args.right.now at c.word.ensures.bytes c.word-in-loop-at.ensures.bytes
    (inside at c.args.last (length c.args.left.now) c.loop-at-test.true c.requires.left) (inside at c.args.last (length c.args.right.now) c.loop-at-test.true c.requires.right) in
    same_at c.args.left.now c.args.right.now at c.loop-at.invariant told (sym c.word.ensures.number ∙ c.if-word.false ∙ c.word-in-loop-at.ensures.number)

pub returns-then-word-clause-apart : goal.returns-then-word-clause-apart
returns-then-word-clause-apart c = λ less same. c.if-word.true (c.word.ensures.number ∙ same ∙ sym c.word-in-loop-at.ensures.number)

pub returns-clause-apart : goal.returns-clause-apart
returns-clause-apart c = λ less same. not_below_itself c.args.last less

pub returns-then-word-clause-within : goal.returns-then-word-clause-within
returns-then-word-clause-within c = within c.loop-at.at c.args.last c.loop-at-test.true

pub returns-then-word-clause-equal : goal.returns-then-word-clause-equal
returns-then-word-clause-equal c = c.loop-at.invariant

pub loop-at-smaller : goal.loop-at-smaller
loop-at-smaller c = nearer c.loop-at.at c.args.last c.loop-at-test.true

pub word-requires-in-loop-at : goal.word-requires-in-loop-at
word-requires-in-loop-at c = inside c.loop-at.at c.args.last (length c.args.right.now) c.loop-at-test.true c.requires.right
