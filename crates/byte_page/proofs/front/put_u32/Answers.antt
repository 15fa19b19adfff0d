use Rattle.std.proofs.Common.{◌≡◌, ℕ, ◌+◌, ◌*◌, ◌/◌, ◌%◌, List, inl, ap₂, ◌∙◌, arith}
use Rattle.compact_record.specs.Bytes.{SameOutside}
use Rattle.compact_record.proofs.BytesLemmas.{u16_kept, outside-then}
use Rattle.byte_page.proofs.front.put_u32.Goals as goal

both_written : {a b c : List ℕ} (at : ℕ) → SameOutside a b at (at + 2) → SameOutside b c (at + 2) (at + 2 + 2) → SameOutside a c at (at + 4)
both_written at high low = outside-then {from' = at + 2} (omega arith) (omega arith) (omega arith) high low

both_halves : (n : ℕ) → n / 65536 * 65536 + n % 65536 ≡ n
both_halves n = omega arith

pub returns-clause-kept : goal.returns-clause-kept
returns-clause-kept c = both_written c.args.at c.put_u16.ensures.kept c.put_u16-2.ensures.kept

pub returns-clause-value : goal.returns-clause-value
returns-clause-value c =
    let high = u16_kept c.put_u16-2.ensures.kept c.args.at (inl (omega arith)) ∙ c.put_u16.ensures.value in
    ap₂ (λ (m n : ℕ). m * 65536 + n) high c.put_u16-2.ensures.value ∙ both_halves c.args.value
