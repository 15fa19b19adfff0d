use Rattle.std.proofs.Common.{◌∙◌, arith, inl, inr}
use Rattle.compact_record.proofs.BytesLemmas.{u16_kept}
use Rattle.page_mirror.proofs.HeadLemmas.{number_written}
use Rattle.page_mirror.proofs.numbers.set_garbage.Goals as goal

pub returns : goal.returns
returns c = λ m r.
    let same = c.put_u16.ensures.kept in
    number_written 46 m.free c.args.bytes m.rows r same (inl (omega arith, omega arith)) (record {
      dir_slots = u16_kept same 38 (inl (omega arith)) ∙ r.head.dir_slots;
      heap_top = u16_kept same 40 (inl (omega arith)) ∙ r.head.heap_top;
      n_heap = u16_kept same 42 (inl (omega arith)) ∙ r.head.n_heap;
      first_free = u16_kept same 44 (inl (omega arith)) ∙ r.head.first_free;
      garbage = c.put_u16.ensures.value;
      n_recs = u16_kept same 54 (inr (omega arith)) ∙ r.head.n_recs;
    })
