use Rattle.latch_space.proofs.opening.made_of.Goals as goal

pub returns-clause-words : goal.returns-clause-words
returns-clause-words g c = c.in-Ok.ensures.items_if_clones_equal (λ y same. same)

pub returns-clause-hand : goal.returns-clause-hand
returns-clause-hand g c = let e = c.in-Ok-with_capacity.ensures in (e.items, e.capacity)
