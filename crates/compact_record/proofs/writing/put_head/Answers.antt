use Rattle.std.proofs.Common.{◌≡◌, ℕ, ◌+◌, ◌*◌, ◌/◌, ◌%◌, ◌≤◌, List, length, set, inl, ap, ◌∙◌, arith}
use Rattle.std.proofs.lemmas.List.{length-set}
use Rattle.compact_record.specs.declared.TheConstants.{HEAD_BYTES}
use Rattle.compact_record.specs.Bytes.{SameOutside}
use Rattle.compact_record.proofs.BytesLemmas.{u16_kept}
use Rattle.compact_record.proofs.WritingLemmas.{HeadWritten, head_written}
use Rattle.compact_record.proofs.writing.put_head.Goals as goal
use Rattle.compact_record.proofs.writing.put_head.Goals.{After-put_u16-2}

head : (c : After-put_u16-2) → HeadWritten c.args.page.now c.put_u16-2.new.bytes c.args.at (16 * c.info.result)
head c = head_written c.args.page.now c.args.at (16 * c.info.result) c.requires.room c.put_u16.ensures.kept c.put_u16-2.ensures.kept

high_bits : (n : ℕ) → 16 * n / 16 ≡ n
high_bits n = omega arith

low_bits : (n : ℕ) → 16 * n % 16 ≡ 0
low_bits n = omega arith

room_for_next : {b : List ℕ} (old : List ℕ) (at x : ℕ) → at + HEAD_BYTES ≤ length old → SameOutside (set old at x) b (at + 1) (at + 1 + 2) → at + 3 + 2 ≤ length b
room_for_next old at x room same = omega (arith, same.len, length-set old at x)

pub returns-clause-number : goal.returns-clause-number
returns-clause-number c =
    u16_kept c.put_u16-2.ensures.kept (c.args.at + 1) (inl (omega arith)) ∙ c.put_u16.ensures.value ∙ ap (λ (n : ℕ). c.args.head.heap_number * 8 + n) c.status.ensures

pub returns-clause-next : goal.returns-clause-next
returns-clause-next c = c.put_u16-2.ensures.value

pub returns-clause-kept : goal.returns-clause-kept
returns-clause-kept c = (head (goal.at.returns-clause-kept c).After-put_u16-2).kept

pub returns-clause-info : goal.returns-clause-info
returns-clause-info c = ap (λ (n : ℕ). n / 16) (head (goal.at.returns-clause-info c).After-put_u16-2).byte ∙ high_bits c.info.result ∙ c.info.ensures

pub returns-clause-owned : goal.returns-clause-owned
returns-clause-owned c = ap (λ (n : ℕ). n % 16) (head (goal.at.returns-clause-owned c).After-put_u16-2).byte ∙ low_bits c.info.result

pub put_u16-requires-2 : goal.put_u16-requires-2
put_u16-requires-2 c = room_for_next c.args.page.now c.args.at (16 * c.info.result) c.requires.room c.put_u16.ensures.kept
