use Rattle.index_page.specs.Loads.{load_of}
use Rattle.std.proofs.Common.{◌≡◌, ◌≤◌, ℕ, true, false, Some, List, length, is_ok, sym, ap, ◌∙◌, subst, arith}
use Rattle.index_page.specs.Rows.{find_row}
use Rattle.index_page.specs.Page.{PageRows, IsPageInOrder}
use Rattle.index_page.specs.Search.{IsPosition}
use Rattle.index_page.specs.Store.{Rewrites}
use Rattle.index_page.proofs.SetLemmas.{value_at, value_of, rewritten_order, sets}
use Rattle.index_page.proofs.RewriteLemmas.{new_load-is, new_load-fits}
use Rattle.index_page.proofs.page.Page.rewrite.Goals as goal

no_longer : (bytes value old before : List ℕ) → bytes ≡ value → old ≡ before → length value ≤ length before → length bytes ≤ length old
no_longer bytes value old before same was long = omega (arith, ap length same, ap length was, long)

never : true ≡ false → ⊥
never e = absurd cc

pub rewrite_at-requires : goal.rewrite_at-requires
rewrite_at-requires c =
    let position = subst (λ (p : PageRows). IsPosition p.rows c.args.place c.position-at.result) (sym c.self.view_is) c.position-at.ensures.row in
    value_at c.self.inside.head c.self.inside.rows c.args.place c.position-at.result c.self.invariant position (ap (λ (p : PageRows). p.head.level) c.self.view_is ∙ c.requires.level)

pub returns-in_err-rewrite_at-clause-no_longer : goal.returns-in_err-rewrite_at-clause-no_longer
returns-in_err-rewrite_at-clause-no_longer c =
    let position = subst (λ (p : PageRows). IsPosition p.rows c.args.place c.position-at.result) (sym c.self.view_is) c.position-at.ensures.row in
    λ row before found is long.
    let here = subst (λ (p : PageRows). find_row c.args.place p.rows ≡ Some row) (sym c.self.view_is) found in
    let has = value_of c.self.inside.rows c.args.place c.position-at.result row before c.self.invariant.places position here is in
    let ok = c.rewrite_at.ensures.in_place has.0 (no_longer c.as_bytes.result.now c.args.value.now has.0.value before c.as_bytes.ensures.bytes has.1 long) in
    absurd (never (sym ok ∙ ap is_ok c.in_err-rewrite_at.was))

pub invariant_of-self-2 : goal.invariant_of-self-2
invariant_of-self-2 c =
    let put = subst (λ (b : List ℕ). Rewrites c.self.inside.rows c.rewrite_at.new.self c.position-at.result b) c.as_bytes.ensures.bytes c.in_ok-rewrite_at.ensures.ok in
    let put_here = subst (λ (p : PageRows). Rewrites p.rows c.rewrite_at.new.self c.position-at.result c.args.value.now) c.self.view_is put in
    let order = subst IsPageInOrder c.self.view_is c.self.invariant in
    let fits = new_load-fits c.args.self.now c.rewrite_at.new.self c.args.place c.position-at.result c.args.value.now order c.position-at.ensures.row put_here c.requires.level c.requires.room in
    rewritten_order c.self.inside.head c.self.inside.rows c.rewrite_at.new.self c.position-at.result c.args.value.now c.self.invariant put (ap (λ (p : PageRows). p.head.level) c.self.view_is ∙ c.requires.level) c.as_bytes.ensures.short fits

pub invariant_of-self-inside-2 : goal.invariant_of-self-inside-2
invariant_of-self-inside-2 c =
    let put = subst (λ (b : List ℕ). Rewrites c.self.inside.rows c.rewrite_at.new.self c.position-at.result b) c.as_bytes.ensures.bytes c.in_ok-rewrite_at.ensures.ok in
    let put_here = subst (λ (p : PageRows). Rewrites p.rows c.rewrite_at.new.self c.position-at.result c.args.value.now) c.self.view_is put in
    let order = subst IsPageInOrder c.self.view_is c.self.invariant in
    (new_load-is c.args.self.now c.rewrite_at.new.self c.args.place c.position-at.result c.args.value.now order c.position-at.ensures.row put_here c.load_with-load.result c.load_with-load.ensures, tt)

pub returns-clause-ok : goal.returns-clause-ok
returns-clause-ok c =
    let put = subst (λ (b : List ℕ). Rewrites c.self.inside.rows c.rewrite_at.new.self c.position-at.result b) c.as_bytes.ensures.bytes c.in_ok-rewrite_at.ensures.ok in
    let put_here = subst (λ (p : PageRows). Rewrites p.rows c.rewrite_at.new.self c.position-at.result c.args.value.now) c.self.view_is put in
    sets c.args.self.now _ c.args.place c.position-at.result c.args.value.now c.position-at.ensures.row put_here (invariant_of-self-2 c) (ap (λ (p : PageRows). p.head) c.self.view_is)

pub invariant_of-self : goal.invariant_of-self
invariant_of-self c = rw c.in_err-rewrite_at.ensures.err c.self.invariant

pub invariant_of-self-inside : goal.invariant_of-self-inside
invariant_of-self-inside c = (c.self.inside.charged ∙ ap load_of (sym c.in_err-rewrite_at.ensures.err), tt)
