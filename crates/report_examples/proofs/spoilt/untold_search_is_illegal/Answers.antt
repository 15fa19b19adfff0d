use Rattle.report_examples.proofs.spoilt.untold_search_is_illegal.Goals as goal

pub returns : goal.returns
returns c = λ sizes legal. absurd (cc (legal.form.lanes.0.1.0.form))
