use Rattle.std.proofs.Common.{◌≡◌, ℕ, List, Vec, Result, Ok, Err, Some, ⊎_elim, Contains, ap, ◌∙◌, refl, arith, inl, inr, rules, sym}
use Rattle.std.specs.declared.alloc.Global.{Global}
use Rattle.io_port.specs.Faults.{next_count}
use Rattle.io_port.specs.MemoryShelf.{IsAnswer, IsWithin, ShelfState, after_load}
use Rattle.io_port.specs.Shelf.{OnFailed, files_of}
use Rattle.io_port.specs.declared.shelf.ShelfError.{ShelfError}
use Rattle.io_port.specs.declared.shelf.ShelfError.TheVariants.{Failed, NoMemory, TooLong}
use Rattle.io_port.proofs.RealFiles.{UnlessFailed-always}
use Rattle.io_port.proofs.memory_shelf.MemoryShelfShelf.load.Goals as goal
use Rattle.io_port.proofs.memory_shelf.MemoryShelfShelf.load.Goals.{in_default-via-in-Some+else-not-contains, in_default-via-in_default}

-- a load that raised only the count of calls
counted : (before after shelf : ShelfState) → before ≡ shelf → after ≡ record before { calls = after.calls } → after.calls ≡ next_count before.calls → after ≡ after_load shelf
counted before after shelf same others calls = others ∙ ap (λ (n : ℕ). record before { calls = n }) calls ∙ ap after_load same

-- a copy that only lacks memory or room isn't a failure
never_failed : (P : Type 0) (bytes : List ℕ) (limit : ℕ) (result : Result (Vec ℕ Global) ShelfError) → IsWithin bytes limit result → OnFailed result P
never_failed P bytes limit (Ok copy) within = tt
never_failed P bytes limit (Err Failed) within = absurd within
never_failed P bytes limit (Err (TooLong n)) within = tt
never_failed P bytes limit (Err NoMemory) within = tt

-- a load that isn't due to fail answers with what was copied
answered : (shelf : ShelfState) (name bytes : List ℕ) (limit : ℕ) (result : Result (Vec ℕ Global) ShelfError) → (Contains shelf.fail shelf.calls → ⊥) → files_of shelf.files name ≡ Some bytes
    → IsWithin bytes limit result → IsAnswer shelf name limit result
answered shelf name bytes limit (Ok copy) unlisted held within = (⊎_elim unlisted (λ none. absurd (cc none)), bytes, held, within)
answered shelf name bytes limit (Err Failed) unlisted held within = absurd within
answered shelf name bytes limit (Err (TooLong n)) unlisted held within = (⊎_elim unlisted (λ none. absurd (cc none)), bytes, held, within)
answered shelf name bytes limit (Err NoMemory) unlisted held within = tt

pub returns-in_default-clause-answer : goal.returns-in_default-clause-answer
returns-in_default-clause-answer c = elim c.in_default.branch [
  | in_default-via-in-Some+else-not-contains w ↦ inl (search rules)
  | in_default-via-in_default w ↦ inr (rw (← c.self.view_is) (rw (← c.deref.ensures.value) (sym w.in_default.ensures)))
]

pub returns-in-Some-clause-answer : goal.returns-in-Some-clause-answer
returns-in-Some-clause-answer c =
    let held : files_of c.args.self.now.files c.args.name.now ≡ Some c.in-Some.bytes.now = rw (← c.self.view_is) (rw (← c.deref.ensures.value) (sym c.in-Some.ensures)) in
    answered c.args.self.now c.args.name.now c.in-Some.bytes.now c.args.limit c.copy_within.result (search rules) held c.copy_within.ensures

pub returns-in-Some-clause-others : goal.returns-in-Some-clause-others
returns-in-Some-clause-others c = UnlessFailed-always _ (counted _ _ _ c.self.view_is refl c.saturating_add-self-inside.ensures)

pub returns-in-Some-clause-kept : goal.returns-in-Some-clause-kept
returns-in-Some-clause-kept c = omega (arith, ap (λ (s : ShelfState). s.faults) c.self.view_is)

pub returns-in-Some-clause-failed : goal.returns-in-Some-clause-failed
returns-in-Some-clause-failed c = never_failed _ _ _ _ c.copy_within.ensures

pub returns-in_err-name_copy-clause-others : goal.returns-in_err-name_copy-clause-others
returns-in_err-name_copy-clause-others c = UnlessFailed-always _ (counted _ _ _ c.self.view_is refl c.saturating_add-self-inside.ensures)

pub returns-in_err-name_copy-clause-kept : goal.returns-in_err-name_copy-clause-kept
returns-in_err-name_copy-clause-kept c = omega (arith, ap (λ (s : ShelfState). s.faults) c.self.view_is)
