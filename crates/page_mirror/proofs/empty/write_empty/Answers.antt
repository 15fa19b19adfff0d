use Rattle.std.proofs.Common.{arith, ◌∙◌, inl, inr}
use Rattle.compact_record.proofs.BytesLemmas.{spells_kept, u16_kept}
use Rattle.page_mirror.specs.Empty.{empty_numbers, end_records}
use Rattle.page_mirror.proofs.EmptyLemmas.{empty_page}
use Rattle.page_mirror.proofs.empty.write_empty.Goals as goal

pub returns : goal.returns
returns c =
    let s1 = c.put_bytes.ensures.kept in
    let s2 = c.put_u16.ensures.kept in
    let s3 = c.put_bytes-2.ensures.kept in
    let s4 = c.clear.ensures.kept in
    let s5 = c.put_u16-2.ensures.kept in
    let s6 = c.put_u16-3.ensures.kept in
    empty_page c.args.page.now c.put_u16-3.new.bytes
    (s6.len ∙ s5.len ∙ s4.len ∙ s3.len ∙ s2.len ∙ s1.len ∙ c.requires)
    (spells_kept s6 38 empty_numbers (inl (omega arith)) (spells_kept s5 38 empty_numbers (inl (omega arith)) (spells_kept s4 38 empty_numbers (inl (omega arith))
    (spells_kept s3 38 empty_numbers (inl (omega arith)) (spells_kept s2 38 empty_numbers (inl (omega arith)) c.put_bytes.ensures.spells)))))
    (u16_kept s6 54 (inl (omega arith)) ∙ u16_kept s5 54 (inl (omega arith)) ∙ u16_kept s4 54 (inl (omega arith)) ∙ u16_kept s3 54 (inl (omega arith)) ∙ c.put_u16.ensures.value)
    (spells_kept s6 94 end_records (inl (omega arith)) (spells_kept s5 94 end_records (inl (omega arith)) (spells_kept s4 94 end_records (inl (omega arith)) c.put_bytes-2.ensures.spells)))
    (λ k g w. s6.below k (omega arith) ∙ s5.below k (omega arith) ∙ c.clear.ensures.zero k g (omega arith))
    (u16_kept s6 16374 (inr (omega arith)) ∙ c.put_u16-2.ensures.value)
    c.put_u16-3.ensures.value
    (record {
      front = λ k h. s6.below k (omega arith) ∙ s5.below k (omega arith) ∙ s4.below k (omega arith) ∙ s3.below k (omega arith) ∙ s2.below k (omega arith) ∙ s1.below k (omega arith);
      middle = λ k g h. s6.below k (omega arith) ∙ s5.below k (omega arith) ∙ s4.below k (omega arith) ∙ s3.below k (omega arith) ∙ s2.below k (omega arith) ∙ s1.above k (omega arith);
      back = λ k g h. s6.below k (omega arith) ∙ s5.below k (omega arith) ∙ s4.below k (omega arith) ∙ s3.below k (omega arith) ∙ s2.above k (omega arith) ∙ s1.above k (omega arith);
      end = λ k h. s6.above k (omega arith) ∙ s5.above k (omega arith) ∙ s4.above k (omega arith) ∙ s3.above k (omega arith) ∙ s2.above k (omega arith) ∙ s1.above k (omega arith);
    })
