-- The slots after a write to them.
use Rattle.std.proofs.Common.{◌≡◌, ℕ, ◌+◌, ◌-◌, ◌*◌, ◌<◌, ◌≤◌, List, length, set, slice_index, insert, refl, sym, ap, ◌∙◌, arith, inl, inr, length-set, get_or-set_same, get_or-set_other}
use Rattle.std.proofs.lemmas.List.Edits.{length-insert, length-remove, get_or-insert_below, get_or-insert_at, get_or-insert_above, get_or-remove_below, get_or-remove_above}
use Rattle.std.proofs.lemmas.Bool.{cases_lt, cases_eq}
use Rattle.std.specs.List.{remove}
use Rattle.compact_record.specs.Bytes.{u16_at, SameOutside}
use Rattle.compact_record.proofs.BytesLemmas.{u16_kept}
use Rattle.page_mirror.specs.Words.{slot_word}
use Rattle.page_mirror.specs.Mirror.{Mirror, Mirrors, origin_of}
use Rattle.page_mirror.specs.Steps.{naming}
use Rattle.page_mirror.specs.Slots.{OpensSlot, ClosesSlot}
use Rattle.page_mirror.proofs.KeptLemmas.{top_above, starts_above, cell_kept, head_kept, fixed_kept}

-- slot s names record h
pub record Names (bytes : List ℕ) (m : Mirror) (s h : ℕ) : Type 0 where
  pub is : slot_word bytes s ≡ origin_of m h
  pub within : h < m.count

-- other slots, and then their number
pub slots_written : {b0 b1 b2 : List ℕ} {m : Mirror} (slots : List ℕ) (from : ℕ) → Mirrors b0 m → SameOutside b0 b1 from 16376 → m.top ≤ from
    → SameOutside b1 b2 38 40 → u16_at b2 38 ≡ length slots → m.top + 2 * length slots ≤ 16376
    → ((s : ℕ) → s < length slots → Names b1 m s (slice_index slots s))
    → ((k : ℕ) → m.top ≤ k → k + 2 * length slots < 16376 → slice_index b1 k ≡ 0) → Mirrors b2 (naming m slots)
slots_written {m = m} slots from r same above head value room names unused =
    let begins = top_above r.heap in
    let numbers = head_kept same (omega arith) r.head in
    let around = fixed_kept same (omega arith) (omega arith) r.fixed in
    record {
      len = head.len ∙ same.len ∙ r.len;
      heap = r.heap;
      head = record {
        dir_slots = value;
        heap_top = u16_kept head 40 (inr (omega arith)) ∙ numbers.heap_top;
        n_heap = u16_kept head 42 (inr (omega arith)) ∙ numbers.n_heap;
        first_free = u16_kept head 44 (inr (omega arith)) ∙ numbers.first_free;
        garbage = u16_kept head 46 (inr (omega arith)) ∙ numbers.garbage;
        n_recs = u16_kept head 54 (inr (omega arith)) ∙ numbers.n_recs;
      };
      fixed = record {
        front = λ k h. head.below k (omega arith) ∙ around.front k h;
        middle = λ k g h. head.above k (omega arith) ∙ around.middle k g h;
        back = λ k g h. head.above k (omega arith) ∙ around.back k g h;
        end = λ k h. head.above k (omega arith) ∙ around.end k h;
      };
      leads = r.leads;
      cells = λ h w.
          let low = starts_above r.heap h w in
          let high = r.heap.high h w in
          cell_kept (m.cell h) head (inr (omega arith)) (cell_kept (m.cell h) same (inl (omega arith)) (r.cells h w));
      names = λ s w. (names s w).within;
      slots = λ s w. u16_kept head (16374 - 2 * s) (inr (omega arith)) ∙ (names s w).is;
      room = room;
      unused = λ k g w. head.above k (omega arith) ∙ unused k g w;
    }

-- behind the records there is room for fewer slots than this
pub slots_few : {bytes : List ℕ} {m : Mirror} → Mirrors bytes m → length m.slots < 8149
slots_few r =
    let begins = top_above r.heap in
    let room = r.room in
    omega arith

-- one slot more
pub slot_opened : {b0 b1 b2 : List ℕ} {m : Mirror} (s h : ℕ) → Mirrors b0 m → s ≤ length m.slots → h < m.count
    → m.top + 2 * length m.slots + 2 ≤ 16376 → OpensSlot b0 b1 (length m.slots) s (origin_of m h)
    → SameOutside b1 b2 38 40 → u16_at b2 38 ≡ length m.slots + 1 → Mirrors b2 (naming m (insert m.slots s h))
slot_opened {b0} {b1} {b2} {m} s h r low within room opens head value =
    let kept = opens.kept in
    let size : length (insert m.slots s h) ≡ length m.slots + 1 = length-insert m.slots s h low in
    let wide : SameOutside b0 b1 (16374 - 2 * length m.slots) 16376 = record {
      len = kept.len;
      below = kept.below;
      above = λ k g. kept.above k (omega arith);
    } in
    slots_written (insert m.slots s h) (16374 - 2 * length m.slots) r wide (omega arith) head (value ∙ sym size) (omega (arith, size))
    (λ k w. elim (cases_lt k s) [
      | inl below ↦ rw (get_or-insert_below m.slots s h 0 k below low) (record {
        is = u16_kept kept (16374 - 2 * k) (inr (omega arith)) ∙ r.slots k (omega arith);
        within = r.names k (omega arith);
      })
      | inr not_below ↦ elim (cases_eq k s) [
        | inl is ↦ rw (is, get_or-insert_at m.slots s h 0 low) (record { is = opens.here; within = within })
        | inr other ↦
            let j = k - 1 in
            let up : k ≡ j + 1 = omega (arith, other) in
            rw (up, get_or-insert_above m.slots s h 0 j (omega (arith, other)) low) (record {
              is = opens.moved j (omega (arith, other)) (omega (arith, size)) ∙ r.slots j (omega (arith, size));
              within = r.names j (omega (arith, size));
            })
      ]
    ])
    (λ k g w. kept.below k (omega (arith, size)) ∙ r.unused k g (omega (arith, size)))

-- one slot less
pub slot_closed : {b0 b1 b2 : List ℕ} {m : Mirror} (s : ℕ) → Mirrors b0 m → s < length m.slots
    → ClosesSlot b0 b1 (length m.slots) s → SameOutside b1 b2 38 40 → u16_at b2 38 ≡ length m.slots - 1
    → Mirrors b2 (naming m (remove m.slots s))
slot_closed {b0} {b1} {b2} {m} s r low closes head value =
    let kept = closes.kept in
    let room = r.room in
    let size : length (remove m.slots s) + 1 ≡ length m.slots = length-remove m.slots s low in
    let wide : SameOutside b0 b1 (16376 - 2 * length m.slots) 16376 = record {
      len = kept.len;
      below = kept.below;
      above = λ k g. kept.above k (omega arith);
    } in
    slots_written (remove m.slots s) (16376 - 2 * length m.slots) r wide (omega arith) head (value ∙ omega (arith, size)) (omega (arith, size))
    (λ k w. elim (cases_lt k s) [
      | inl below ↦ rw (get_or-remove_below m.slots s 0 k below low) (record {
        is = u16_kept kept (16374 - 2 * k) (inr (omega arith)) ∙ r.slots k (omega arith);
        within = r.names k (omega arith);
      })
      | inr not_below ↦ rw (get_or-remove_above m.slots s 0 k (omega arith) low) (record {
        is = closes.moved k (omega arith) (omega (arith, size)) ∙ r.slots (k + 1) (omega (arith, size));
        within = r.names (k + 1) (omega (arith, size));
      })
    ])
    (λ k g w. elim (cases_lt (k + 2 * length m.slots) 16376) [
      | inl unused ↦ kept.below k (omega arith) ∙ r.unused k g unused
      | inr behind ↦ elim (cases_eq k (16376 - 2 * length m.slots)) [
        | inl is ↦
            let there : 16374 - 2 * (length m.slots - 1) ≡ k = omega (arith, size) in
            let gone : u16_at b1 k ≡ 0 = rw there at closes.gone in
            omega arith
        | inr other ↦
            let there : 16374 - 2 * (length m.slots - 1) ≡ k - 1 = omega (arith, size, other) in
            let gone : u16_at b1 (k - 1) ≡ 0 = rw there at closes.gone in
            let up : k - 1 + 1 ≡ k = omega (arith, other) in
            let here : slice_index b1 (k - 1 + 1) ≡ 0 = omega arith in
            ap (slice_index b1) (sym up) ∙ here
      ]
    ])

-- another record in a slot
pub slot_renamed : {b0 b1 : List ℕ} {m : Mirror} (s h : ℕ) → Mirrors b0 m → s < length m.slots → h < m.count
    → SameOutside b0 b1 (16374 - 2 * s) (16376 - 2 * s) → slot_word b1 s ≡ origin_of m h → Mirrors b1 (naming m (set m.slots s h))
slot_renamed {b0} {b1} {m} s h r low within same value =
    let room = r.room in
    let begins = top_above r.heap in
    let size : length (set m.slots s h) ≡ length m.slots = length-set m.slots s h in
    let wide : SameOutside b0 b1 (16374 - 2 * s) 16376 = record {
      len = same.len;
      below = same.below;
      above = λ k g. same.above k (omega arith);
    } in
    let still : SameOutside b1 b1 38 40 = record { len = refl; below = λ k g. refl; above = λ k g. refl } in
    slots_written (set m.slots s h) (16374 - 2 * s) r wide (omega arith) still
    (u16_kept same 38 (inl (omega arith)) ∙ r.head.dir_slots ∙ sym size) (omega (arith, size))
    (λ k w. elim (cases_eq k s) [
      | inl is ↦ rw (is, get_or-set_same m.slots s h 0 low) (record { is = value; within = within })
      | inr other ↦ rw (get_or-set_other m.slots s k h 0 other) (record {
        is = elim (cases_lt k s) [
          | inl below ↦ u16_kept same (16374 - 2 * k) (inr (omega arith)) ∙ r.slots k (omega (arith, size))
          | inr not_below ↦ u16_kept same (16374 - 2 * k) (inl (omega (arith, other, size))) ∙ r.slots k (omega (arith, size))
        ];
        within = r.names k (omega (arith, size));
      })
    ])
    (λ k g w. same.below k (omega (arith, size)) ∙ r.unused k g (omega (arith, size)))
