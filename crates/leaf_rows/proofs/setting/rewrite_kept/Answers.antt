use Rattle.std.proofs.Common.{◌≡◌, Option, None, subst}
use Rattle.std.specs.Prelude.{IfSome}
use Rattle.index_page.specs.declared.error.PageError.{PageError}
use Rattle.leaf_rows.proofs.setting.rewrite_kept.Goals as goal

-- what is so of each refusal is so where there is none
of_no_refusal : (P : PageError → Type 0) (o : Option PageError) → None ≡ o → IfSome o P
of_no_refusal P o none = subst (λ (z : Option PageError). IfSome z P) none tt

pub returns-in-Ok-set-clause-refused : goal.returns-in-Ok-set-clause-refused
returns-in-Ok-set-clause-refused c = of_no_refusal _ _ c.in_default.ensures

pub returns-in-Err-clause-refused : goal.returns-in-Err-clause-refused
returns-in-Err-clause-refused c = of_no_refusal _ _ c.in_default.ensures

pub returns-in_default-save-clause-refused : goal.returns-in_default-save-clause-refused
returns-in_default-save-clause-refused c = of_no_refusal _ _ c.in_default.ensures

pub returns-in_default-new-clause-refused : goal.returns-in_default-new-clause-refused
returns-in_default-new-clause-refused c = of_no_refusal _ _ c.in_default.ensures
