use Rattle.std.proofs.Common.{◌≡◌, List, ℕ, Result, Ok, Err, IfOk, sym, subst, ◌∙◌, ap, length, replicate}
use Rattle.std.specs.List.{zip}
use Rattle.key_tuple.specs.declared.error.NoMemory.{NoMemory}
use Rattle.learning.specs.declared.info.Info.{Info}
use Rattle.learning.specs.Opening.{opening_info}
use Rattle.search_info.specs.declared.learner.Learner.{Learner}
use Rattle.search_info.specs.declared.pass.LearnPass.{LearnPass}
use Rattle.search_info.specs.History.{AreStarts}
use Rattle.search_info.specs.Passes.{knowledge, opening, opened_with, first_knows}
use Rattle.index_engine.specs.Learners.{nothing_learnt}
use Rattle.index_engine.proofs.LearnerLemmas.{starts_all}
use Rattle.index_engine.proofs.opening.open_learner.Goals as goal

-- what a learner was opened with, when it was opened with what is first known
module _ (fields : List ℕ) (passes : ℕ) (infos : List Info)
    (first : infos ≡ replicate (length fields) opening_info) where
  as_opened : (o : Result (Learner × LearnPass) NoMemory)
      → IfOk o (λ r. opening r.0 ≡ opened_with infos fields passes)
      → IfOk o (λ r. opening r.0 ≡ (nothing_learnt fields passes).opening)
  as_opened (Ok r) is = is ∙ ap (λ z. opened_with z fields passes) first
  as_opened (Err e) is = tt

  as_untaught : (o : Result (Learner × LearnPass) NoMemory)
      → IfOk o (λ r. opening r.0 ≡ opened_with infos fields passes)
      → IfOk o (λ r. knowledge r.1 ≡ first_knows (opening r.0))
      → IfOk o (λ r. knowledge r.1 ≡ nothing_learnt fields passes)
  as_untaught (Ok r) is knows =
      knows ∙ (ap first_knows is ∙ ap (λ z. first_knows (opened_with z fields passes)) first)
  as_untaught (Err e) is knows = tt

-- a list of what is first known is that
first_known : (xs items : List Info) (n : ℕ) (info : Info) → xs ≡ items
    → items ≡ replicate n info → info ≡ opening_info → xs ≡ replicate n opening_info
first_known xs items n info is items_are known = is ∙ (items_are ∙ ap (replicate n) known)

pub open-requires-clause-starts : goal.open-requires-clause-starts
open-requires-clause-starts c = let fields = c.args.fields.now in
    subst (λ xs. AreStarts (zip xs fields)) (sym (first_known c.as_slice.result.now
    c.in_ok-first.first.items (length fields) c.opening.result c.as_slice.ensures.value
    (c.in_ok-first.ensures.items_if_clones_equal (λ y same. same)) c.opening.ensures))
    (starts_all fields c.requires.keyed)

pub returns-clause-opening : goal.returns-clause-opening
returns-clause-opening c = let fields = c.args.fields.now in
    as_opened fields c.args.passes c.as_slice.result.now (first_known c.as_slice.result.now
    c.in_ok-first.first.items (length fields) c.opening.result c.as_slice.ensures.value
    (c.in_ok-first.ensures.items_if_clones_equal (λ y same. same)) c.opening.ensures)
    c.open.result c.open.ensures.opening

pub returns-clause-untaught : goal.returns-clause-untaught
returns-clause-untaught c = let fields = c.args.fields.now in
    as_untaught fields c.args.passes c.as_slice.result.now (first_known c.as_slice.result.now
    c.in_ok-first.first.items (length fields) c.opening.result c.as_slice.ensures.value
    (c.in_ok-first.ensures.items_if_clones_equal (λ y same. same)) c.opening.ensures)
    c.open.result c.open.ensures.opening c.open.ensures.pass
