use Rattle.std.proofs.Common.{◌≡◌, ◌+◌, ◌<◌, ◌≤◌, ℕ, true, false, length, arith}
use Rattle.page_search.proofs.FourLemmas.{four_equal}
use Rattle.page_search.proofs.comparing.has_four.Goals as goal

never : false ≡ true → ⊥
never e = absurd cc

third_inside : (at long : ℕ) → at + 4 ≤ long → at + 2 < long
third_inside at long within = omega arith

fourth_inside : (at long : ℕ) → at + 4 ≤ long → at + 3 < long
fourth_inside at long within = omega arith

pub returns : goal.returns
returns c = λ last. four_equal c.args.left.now c.args.right.now c.args.at c.requires.left c.requires.right c.if-left-at.false c.if-left-at-2.false c.if-left-at-3.false last

pub returns-then-left-at : goal.returns-then-left-at
returns-then-left-at c = λ e. absurd (never e)

pub returns-then-left-at-2 : goal.returns-then-left-at-2
returns-then-left-at-2 c = λ e. absurd (never e)

pub returns-then-left-at-3 : goal.returns-then-left-at-3
returns-then-left-at-3 c = λ e. absurd (never e)

pub bounds-left-at-3 : goal.bounds-left-at-3
bounds-left-at-3 c = third_inside c.args.at (length c.args.left.now) c.requires.left

pub bounds-right-at-3 : goal.bounds-right-at-3
bounds-right-at-3 c = third_inside c.args.at (length c.args.right.now) c.requires.right

pub bounds-left-at-4 : goal.bounds-left-at-4
bounds-left-at-4 c = fourth_inside c.args.at (length c.args.left.now) c.requires.left

pub bounds-right-at-4 : goal.bounds-right-at-4
bounds-right-at-4 c = fourth_inside c.args.at (length c.args.right.now) c.requires.right
