-- Over the parts of a call a pass keeps its numbers and its terms.
use Rattle.std.proofs.Common.{inl, inr, ℕ, List, None, sym, ap, subst, Result, Ok, Err, IfOk, OnErr}
use Rattle.key_tuple.specs.Order.{FieldList}
use Rattle.key_tuple.specs.declared.error.NoMemory.{NoMemory}
use Rattle.latch_space.specs.Passes.{view}
use Rattle.map_history.specs.declared.reply.Told.{Told}
use Rattle.map_history.specs.Map.{Pair}
use Rattle.map_history.specs.Operation.{Ask}
use Rattle.index_law.specs.Meanings.{lent_row}
use Rattle.forest_world.specs.Held.{TreePass}
use Rattle.call_law.specs.Spoken.{View}
use Rattle.call_law.specs.Trace.{SameNumbers}
use Rattle.call_law.proofs.TraceLemmas.{same_numbers}
use Rattle.buffer_pool.specs.Frames.{GivesFrame}
use Rattle.leaf_changes.specs.Says.{AnswersAndLeaves}
use Rattle.index_engine.specs.Leaving.{LooksAndLeaves, AnswersDel}
use Rattle.index_engine.specs.Writes.{AnswersWrite, LeavesUnanswered}

-- a frame was given back
gave_numbers : (p : TreePass) (b : ℕ) (q : TreePass) → GivesFrame p b q
    → SameNumbers (view p) (view q)
gave_numbers p b q gave = record {
  low = ap (λ (v : View). v.low) gave.view;
  end = ap (λ (v : View). v.end) gave.view;
  terms = ap (λ (v : View). v.terms) gave.view;
}

-- it was answered, and the leaf given back
pub answers_numbers : (p : TreePass) (b i : ℕ) (ask : Ask) (told : Told) (row : Pair)
    (q : TreePass) → AnswersAndLeaves p b i ask told row q → SameNumbers (view p) (view q)
answers_numbers p b i ask told row q answers =
    same_numbers (view p) (view answers.between) (view q) answers.says.once.adds.numbers
    (gave_numbers answers.between b q answers.gave)

-- nothing was answered, and the leaf given back
looks_numbers : (p : TreePass) (b i : ℕ) (q : TreePass) → LooksAndLeaves p b i q
    → SameNumbers (view p) (view q)
looks_numbers p b i q left =
    same_numbers (view p) (view left.between) (view q) left.looks.quiet.adds.numbers
    (gave_numbers left.between b q left.gave)

-- a write was answered, or given up
pub write_numbers : (p q : TreePass) (b i : ℕ) (key : FieldList) (value : List ℕ) (ask : Ask)
    (result : Result Told NoMemory)
    → IfOk result (λ told. AnswersWrite p b i key value ask told q)
    → OnErr result (LeavesUnanswered p b i key value q) → SameNumbers (view p) (view q)
write_numbers p q b i key value ask (Ok told) (inl answers) err =
    answers_numbers p b i ask told (lent_row None) q answers
write_numbers p q b i key value ask (Ok told) (inr later) err =
    same_numbers (view p) (view later.between) (view q)
    (looks_numbers p b i later.between later.left.left) later.again.tells.once.adds.numbers
write_numbers p q b i key value ask (Err e) ok left = elim left.after [
  | inl same ↦ subst (λ (z : TreePass). SameNumbers (view p) (view z)) (sym same)
      (looks_numbers p b i left.between left.left)
  | inr later ↦ same_numbers (view p) (view left.between) (view q)
      (looks_numbers p b i left.between left.left) later.1.adds.numbers
]

-- a del was answered
pub del_numbers : (p q : TreePass) (b i : ℕ) (key : FieldList) (told : Told)
    → AnswersDel p b i key told q → SameNumbers (view p) (view q)
del_numbers p q b i key told did =
    let answered = answers_numbers p b i _ told (lent_row None) did.between did.answers in
    elim did.after [
      | inl same ↦ subst (λ (z : TreePass). SameNumbers (view p) (view z)) (sym same) answered
      | inr merges ↦ same_numbers (view p) (view did.between) (view q) answered
          merges.merged.grows.adds.numbers
    ]
