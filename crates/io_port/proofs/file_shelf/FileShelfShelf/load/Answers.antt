use Rattle.std.proofs.Common.{Some, ap, ◌∙◌, arith, refl, rules}
use Rattle.io_port.specs.Faults.{next_count}
use Rattle.io_port.proofs.RealFiles.{OnFailed-always, UnlessFailed-always, no_memory}
use Rattle.io_port.proofs.file_shelf.FileShelfShelf.load.Goals as goal
use Rattle.io_port.proofs.file_shelf.FileShelfShelf.load.Goals.{in-Err-Failed, in_default}

pub returns-clause-failed : goal.returns-clause-failed
returns-clause-failed g c = elim c.match-loaded.branch [
  | in-Err-Failed w ↦
      let count = w.saturating_add-self-inside.ensures ∙ ap (λ s. next_count s.faults) c.self.view_is in
      OnFailed-always _ (w.self-is ∙ (λ i. record { faults = count i; failed = Some (c.in_ok-name_copy.ensures.ok i) }))
  | in_default w ↦ search rules
]

pub returns-clause-others : goal.returns-clause-others
returns-clause-others g c = elim c.match-loaded.branch [
  | in-Err-Failed w ↦ search rules
  | in_default w ↦ UnlessFailed-always _ w.self-is
]

pub returns-in_err-name_copy-clause-failed : goal.returns-in_err-name_copy-clause-failed
returns-in_err-name_copy-clause-failed g c = rw (no_memory _ c.from_residual.ensures.1) tt

pub returns-in_err-name_copy-clause-others : goal.returns-in_err-name_copy-clause-others
returns-in_err-name_copy-clause-others g c = UnlessFailed-always _ refl

pub returns-in_err-name_copy-clause-too_long : goal.returns-in_err-name_copy-clause-too_long
returns-in_err-name_copy-clause-too_long g c = rw (no_memory _ c.from_residual.ensures.1) tt

pub returns-in_err-name_copy-clause-more : goal.returns-in_err-name_copy-clause-more
returns-in_err-name_copy-clause-more g c = rw (no_memory _ c.from_residual.ensures.1) tt

pub returns-in_err-name_copy-clause-kept : goal.returns-in_err-name_copy-clause-kept
returns-in_err-name_copy-clause-kept g c = omega arith

pub returns-in_err-name_copy-clause-within : goal.returns-in_err-name_copy-clause-within
returns-in_err-name_copy-clause-within g c = rw (no_memory _ c.from_residual.ensures.1) tt

pub returns-in_err-name_copy-clause-read : goal.returns-in_err-name_copy-clause-read
returns-in_err-name_copy-clause-read g c = rw (no_memory _ c.from_residual.ensures.1) tt

pub returns-clause-too_long : goal.returns-clause-too_long
returns-clause-too_long g c = c.load_file-loaded.ensures.too_long

pub returns-clause-within : goal.returns-clause-within
returns-clause-within g c = c.load_file-loaded.ensures.within

pub returns-clause-more : goal.returns-clause-more
returns-clause-more g c = c.load_file-loaded.ensures.more

pub returns-clause-read : goal.returns-clause-read
returns-clause-read g c = c.load_file-loaded.ensures.read
