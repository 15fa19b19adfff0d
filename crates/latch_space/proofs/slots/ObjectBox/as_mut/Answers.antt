use Rattle.latch_space.proofs.slots.ObjectBox.as_mut.Goals as goal

pub invariant_of-self-lent : goal.invariant_of-self-lent
invariant_of-self-lent g c = λ _. (λ _. tt, tt)
