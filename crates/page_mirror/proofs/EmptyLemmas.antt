-- The page without rows.
use Rattle.std.proofs.Common.{◌≡◌, ℕ, zero, suc, ◌+◌, ◌*◌, ◌/◌, ◌%◌, ◌<◌, ◌≤◌, List, length, slice_index, take, drop, refl, sym, ap, subst, ◌∙◌, arith, length-take-le, length-drop}
use Rattle.std.proofs.lemmas.List.{get_or-take, get_or-drop}
use Rattle.compact_record.specs.Bytes.{u16_at, SpellsAt}
use Rattle.page_mirror.specs.Cells.{end_in}
use Rattle.page_mirror.specs.Words.{slot_word}
use Rattle.page_mirror.specs.Mirror.{Mirrors, HasFixed, HasCell, origin_of}
use Rattle.page_mirror.specs.Empty.{empty_mirror, empty_numbers, end_records}

below_two : (P : ℕ → Type 0) → P 0 → P 1 → (h : ℕ) → h < 2 → P h
below_two P a b zero w = a
below_two P a b (suc zero) w = b
below_two P a b (suc (suc h)) w = absurd (omega arith)

-- two bytes of a string
two_at : {b : List ℕ} (at : ℕ) (part : List ℕ) → SpellsAt b at part → (k : ℕ) → k + 1 < length part
    → u16_at b (at + k) ≡ slice_index part k * 256 + slice_index part (k + 1)
two_at {b} at part s k h =
    let up : at + k + 1 ≡ at + (k + 1) = omega arith in
    rw (s.each k (omega arith), up, s.each (k + 1) h) refl

-- a part of a string
part_of : (b : List ℕ) (at : ℕ) (xs : List ℕ) (i n : ℕ) → i + n ≤ length xs → SpellsAt b at xs → SpellsAt b (at + i) (take n (drop i xs))
part_of b at xs i n fits s = record {
  each = λ k h.
      let size = length-take-le n (drop i xs) (omega (arith, length-drop i xs)) in
      let up : at + i + k ≡ at + (i + k) = omega arith in
      ap (slice_index b) up ∙ s.each (i + k) (omega (arith, size)) ∙ sym (get_or-take n (drop i xs) k 0 (omega (arith, size)) ∙ get_or-drop i xs k 0);
}

pub empty_page : (old b : List ℕ) → length b ≡ 16384 → SpellsAt b 38 empty_numbers → u16_at b 54 ≡ 0 → SpellsAt b 94 end_records
    → ((k : ℕ) → 120 ≤ k → k < 16372 → slice_index b k ≡ 0) → slot_word b 0 ≡ 99 → slot_word b 1 ≡ 112
    → HasFixed b (λ k. slice_index old k) → Mirrors b (empty_mirror old)
empty_page old b len numbers rows ends zeros first last fixed =
    let m = empty_mirror old in
    record {
      len = len;
      heap = record {
        some = omega arith;
        first = refl;
        second = refl;
        numbered = below_two (λ h. (m.cell h).number / 8 ≡ h) refl refl;
        apart = λ h k b w. subst (λ i. end_in (m.cell h) ≤ (m.cell i).start) (let e : 1 ≡ k = omega arith in e)
            (subst (λ i. end_in (m.cell i) ≤ (m.cell 1).start) (let e : 0 ≡ h = omega arith in e) (omega arith));
        high = below_two (λ h. end_in (m.cell h) ≤ 120) (omega arith) (omega arith);
      };
      head = record {
        dir_slots = two_at 38 empty_numbers numbers 0 (omega arith);
        heap_top = two_at 38 empty_numbers numbers 2 (omega arith);
        n_heap = two_at 38 empty_numbers numbers 4 (omega arith);
        first_free = two_at 38 empty_numbers numbers 6 (omega arith);
        garbage = two_at 38 empty_numbers numbers 8 (omega arith);
        n_recs = rows;
      };
      fixed = fixed;
      leads = λ h w. omega arith;
      cells = below_two (λ h. HasCell b (m.cell h) (origin_of m 1) 1)
          (record {
            stands = record {
              fits = omega arith;
              lengths = record { each = λ k h. absurd (omega arith) };
              info = ap (λ (x : ℕ). x / 16) (ends.each 0 (omega arith));
              number = two_at 94 end_records ends 1 (omega arith);
              body = part_of b 94 end_records 5 8 (omega arith) ends;
            };
            leads = ap (λ (x : ℕ). (99 + x) % 65536) (two_at 94 end_records ends 3 (omega arith));
            owns = ap (λ (x : ℕ). x % 16) (ends.each 0 (omega arith));
          })
          (record {
            stands = record {
              fits = omega arith;
              lengths = record { each = λ k h. absurd (omega arith) };
              info = ap (λ (x : ℕ). x / 16) (ends.each 13 (omega arith));
              number = two_at 94 end_records ends 14 (omega arith);
              body = part_of b 94 end_records 18 8 (omega arith) ends;
            };
            leads = ap (λ (x : ℕ). (112 + x) % 65536) (two_at 94 end_records ends 16 (omega arith));
            owns = ap (λ (x : ℕ). x % 16) (ends.each 13 (omega arith));
          });
      names = below_two (λ k. slice_index m.slots k < 2) (omega arith) (omega arith);
      slots = below_two (λ k. slot_word b k ≡ origin_of m (slice_index m.slots k)) first last;
      room = omega arith;
      unused = λ k g w. zeros k g (omega arith);
    }
