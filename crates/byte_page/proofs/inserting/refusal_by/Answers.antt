use Rattle.std.proofs.Common.{◌≡◌, ℕ, ◌-◌, ◌≤◌, Bool, true, false, cond, Some, None, sym, ap, ◌∙◌, le-ltb}
use Rattle.index_page.specs.declared.error.PageError.TheVariants.{PageFull, Scattered}
use Rattle.index_page.specs.declared.room.Gaps.{Gaps}
use Rattle.index_page.specs.Refusals.{room_refusal, takes}
use Rattle.byte_page.proofs.inserting.refusal_by.Goals as goal

-- a row that needs no more than is free is refused where no gap takes its record
by_gaps : (need free : ℕ) (gaps : Gaps) → need ≤ free → (taken : Bool) → taken ≡ takes gaps (need - 1) → cond taken None (Some (Scattered need gaps.rest)) ≡ room_refusal need free gaps
by_gaps need free gaps room taken is =
    let rest = cond (takes gaps (need - 1)) None (Some (Scattered need gaps.rest)) in
    ap (λ b. cond b None (Some (Scattered need gaps.rest))) is ∙ ap (λ b. cond b (Some (PageFull need free)) rest) (sym (le-ltb free need room))

pub returns-then-takes_record : goal.returns-then-takes_record
returns-then-takes_record c = by_gaps c.args.need c.args.free c.args.gaps c.if-need-free.false true (sym c.if-takes_record.true ∙ c.takes_record.ensures)

pub returns : goal.returns
returns c = by_gaps c.args.need c.args.free c.args.gaps c.if-need-free.false false (sym c.if-takes_record.false ∙ c.takes_record.ensures)
