use Rattle.std.proofs.Common.{◌∙◌, arith, refl, inl, inr}
use Rattle.compact_record.proofs.BytesLemmas.{u16_kept}
use Rattle.page_mirror.proofs.HeadLemmas.{number_written}
use Rattle.page_mirror.proofs.numbers.set_row_count.Goals as goal

pub returns : goal.returns
returns c = λ m r.
    let same = c.put_u16.ensures.kept in
    number_written 54 m.free m.garbage c.args.count r same (inr refl) (record {
      dir_slots = u16_kept same 38 (inl (omega arith)) ∙ r.head.dir_slots;
      heap_top = u16_kept same 40 (inl (omega arith)) ∙ r.head.heap_top;
      n_heap = u16_kept same 42 (inl (omega arith)) ∙ r.head.n_heap;
      first_free = u16_kept same 44 (inl (omega arith)) ∙ r.head.first_free;
      garbage = u16_kept same 46 (inl (omega arith)) ∙ r.head.garbage;
      n_recs = c.put_u16.ensures.value;
    })
