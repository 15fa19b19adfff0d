use Rattle.std.proofs.Common.{◌≡◌, ℕ, List, Option, Some, None, Result, Ok, Err, sym, ap, ◌∙◌, subst}
use Rattle.std.specs.Prelude.{IfSome, option_and_then}
use Rattle.index_page.specs.Page.{PageRows}
use Rattle.index_page.specs.Refusals.{set_refusal}
use Rattle.index_page.specs.declared.error.PageError.{PageError}
use Rattle.forest_law.specs.declared.objects.Frame.{Frame}
use Rattle.leaf_rows.specs.Setting.{SetsValue, MovesRowTo, frame_before, value_refusal}
use Rattle.leaf_rows.proofs.SetLemmas.{grown_sets, grown_moves, before_is}
use Rattle.leaf_rows.proofs.setting.grow_value.Goals as goal

-- what isn't refused with one answer isn't with another
not_refused_too : {T U : Type 0} (o : Option PageError) (x : T) (y : U)
    → IfSome o (λ e. ◌≡◌ {A = Result T PageError} (Ok x) (Err e))
    → IfSome o (λ e. ◌≡◌ {A = Result U PageError} (Ok y) (Err e))
not_refused_too None x y none = tt
not_refused_too (Some e) x y is = absurd cc

-- the frame's value is refused as its page's is
refused_of_frame : {T : Type 0} (f : Frame) (page : PageRows) (place : ℕ) (value : List ℕ)
    (r : Result T PageError) → f.page ≡ Some page
    → IfSome (set_refusal page place value) (λ e. r ≡ Err e)
    → IfSome (value_refusal f place value) (λ e. r ≡ Err e)
refused_of_frame f page place value r is refused = subst (λ (o : Option PageRows).
    IfSome (option_and_then (λ (z : PageRows). set_refusal z place value) o) (λ e. r ≡ Err e))
    (sym is) refused

pub returns-clause-ok : goal.returns-clause-ok
returns-clause-ok c = λ key has.
    let f = c.args.frame.now in let made = c.in_ok-other in
    subst (λ (g : Frame). SetsValue f g key c.args.value.now) (sym c.raise_clock.ensures)
    (grown_sets f c.in-Some.page c.rewrite_kept.new.page c.args.place c.args.value.now
    c.in-Some.is made.ensures.old_order made.ensures.new_order made.other made.ensures.ok
    c.has_clock.ensures c.requires.longer key has)

pub returns-clause-moves : goal.returns-clause-moves
returns-clause-moves c =
    let f = c.args.frame.now in let made = c.in_ok-other in
    subst (λ (g : Frame). MovesRowTo f g c.args.place made.other) (sym c.raise_clock.ensures)
    (grown_moves f c.in-Some.page c.rewrite_kept.new.page c.args.place c.args.value.now
    c.in-Some.is made.ensures.old_order made.ensures.new_order made.other made.ensures.ok)

pub returns-clause-before : goal.returns-clause-before
returns-clause-before c =
    ap (frame_before _) c.raise_clock.ensures
    ∙ before_is c.args.frame.now c.in-Some.page c.rewrite_kept.new.page c.args.place
    c.args.value.now c.in-Some.is _ c.in_ok-other.ensures.kept

pub returns-clause-refused : goal.returns-clause-refused
returns-clause-refused c = let made = c.in_ok-other in
    refused_of_frame c.args.frame.now c.in-Some.page c.args.place c.args.value.now _ c.in-Some.is
    (not_refused_too (set_refusal c.in-Some.page c.args.place c.args.value.now)
    (made.other, made.copy) _ made.ensures.refused)
