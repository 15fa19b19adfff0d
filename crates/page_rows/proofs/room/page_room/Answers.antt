use Rattle.std.proofs.Common.{◌≡◌, ◌∙◌, ◌+◌, ◌-◌, ℕ, sym, ap, ap₂, arith}
use Rattle.compact_record.specs.Bytes.{u16_at}
use Rattle.index_page.specs.declared.room.Gaps.{Gaps}
use Rattle.page_rows.specs.Inserting.{gaps_in_bytes, head_gap, head_start}
use Rattle.page_rows.proofs.room.page_room.Goals as goal

pub returns-clause-gaps : goal.returns-clause-gaps
returns-clause-gaps c =
    let is = c.requires.spells.page.is in
    let bytes = c.args.page.now in
    let free = c.free_extent-free in
    let at = c.first_free.ensures c.requires.parts.mirror is ∙ sym is.head.first_free in
    let long : free.result.end ≡ free.result.start + head_gap bytes c.args.fields (u16_at bytes 44) =
    free.ensures.size ∙ ap (λ (x : ℕ). free.result.start + head_gap bytes c.args.fields x) at in
    let head : free.result.end - free.result.start ≡ (gaps_in_bytes bytes c.args.fields).head = omega (arith, long) in
    let gaps : ℕ → ℕ → Gaps = λ h r. record { head = h; rest = r } in
    ap₂ gaps head (c.page_rest.ensures c.args.fields c.requires)

pub returns-clause-start : goal.returns-clause-start
returns-clause-start c =
    let is = c.requires.spells.page.is in
    c.free_extent-free.ensures.start ∙ ap (head_start c.args.page.now c.args.fields) (c.first_free.ensures c.requires.parts.mirror is ∙ sym is.head.first_free)

pub free_extent-free-requires-clause-head : goal.free_extent-free-requires-clause-head
free_extent-free-requires-clause-head c = λ p. c.first_free.ensures p.parts.mirror p.spells.page.is
