-- Records that are put once more behind others.
use Rattle.std.proofs.Common.{◌≡◌, ℕ, ◌+◌, ◌-◌, ◌≤◌, List, ◌++◌, take, drop, length, refl, sym, ap, ◌∙◌, arith, length-take, length-drop, append_assoc}
use Rattle.std.proofs.lemmas.List.{take-append-drop, take-take, drop-take, drop-drop, length-append}
use Rattle.std.specs.List.{slice_range}
use Rattle.key_tuple.specs.Parts.{RiseTo}
use Rattle.key_tuple.proofs.PartsLemmas.{length-view, byte_count-view}
use Rattle.index_page.specs.declared.slot.Slot.{Slot}
use Rattle.index_page.specs.Store.{body_from}
use Rattle.index_page.specs.Slots.{content_in, IsSlotIn, GrewFrom, PutsRecord}
use Rattle.index_page.proofs.SlotLemmas.{puts_row}

-- what grew twice grew
pub grew_twice : {old mid new : List ℕ} (first second : List ℕ) → mid ≡ old ++ first → new ≡ mid ++ second → GrewFrom old new
grew_twice {old} {mid} {new} first second e f = record {
  more = first ++ second;
  items = f ∙ ap (λ (xs : List ℕ). xs ++ second) e ∙ append_assoc old first second;
}

-- a part of a list is two parts of it, one behind the other
range_parts : (xs : List ℕ) (from middle to : ℕ) → from ≤ middle → middle ≤ to → slice_range xs from to ≡ slice_range xs from middle ++ slice_range xs middle to
range_parts xs from middle to low high =
    let m = middle - from in
    let n = to - middle in
    let rest = drop from xs in
    let first = take-take m (m + n) rest (omega arith) in
    let second : drop m (take (m + n) rest) ≡ take n (drop middle xs) = drop-take m n rest ∙ ap (take n) (drop-drop m from xs ∙ ap (λ (k : ℕ). drop k xs) (omega arith)) in
    ap (λ (k : ℕ). take k rest) (omega arith) ∙ sym (take-append-drop m (take (m + n) rest)) ∙ cc (first, second)

-- how long such a part is
length-range : (xs : List ℕ) (from to : ℕ) → from ≤ to → to ≤ length xs → length (slice_range xs from to) ≡ to - from
length-range xs from to low fits = length-take (to - from) (drop from xs) ∙ omega (arith, length-drop from xs)

-- a record's key and another value, one behind the other, are a record
pub puts_again : (old mid new from value : List ℕ) (slot : Slot) (start middle stop : ℕ) → IsSlotIn from slot → mid ≡ old ++ slice_range from slot.start slot.middle → new ≡ mid ++ value → start ≡ length old → middle ≡ length mid → stop ≡ length new → PutsRecord old new (record { start = start; middle = middle; stop = stop; child = slot.child; ends = slot.ends; count = slot.count }) (record { key = (content_in from slot).key; body = body_from value slot.child })
puts_again old mid new from value slot start middle stop is behind more at between end =
    let key = slice_range from slot.start slot.middle in
    let long : length key ≡ slot.middle - slot.start = length-range from slot.start slot.middle is.key (omega (arith, is.value, is.within)) in
    let count = length-view key slot.ends slot.count (omega (arith, is.few, is.offsets)) in
    let rise : RiseTo 0 (take slot.count slot.ends) (length key) = rw long is.rise in
    let size = byte_count-view key slot.ends slot.count rise in
    puts_row old mid new (record { start = start; middle = middle; stop = stop; child = slot.child; ends = slot.ends; count = slot.count }) (content_in from slot).key (body_from value slot.child) (record { added = key; items = behind; offsets = is.offsets; rise = rw count rise; says = rw count refl }) (record { added = value; items = more; says = refl }) at between end (sym count) (omega (arith, count, is.few)) (omega (arith, size, long, is.short))

-- and so is the whole of it
pub puts_copy : (old new from : List ℕ) (slot : Slot) (start middle stop : ℕ) → IsSlotIn from slot → new ≡ old ++ slice_range from slot.start slot.stop → start ≡ length old → middle ≡ start + (slot.middle - slot.start) → stop ≡ length new → PutsRecord old new (record { start = start; middle = middle; stop = stop; child = slot.child; ends = slot.ends; count = slot.count }) (content_in from slot)
puts_copy old new from slot start middle stop is behind at between end =
    let key = slice_range from slot.start slot.middle in
    let value = slice_range from slot.middle slot.stop in
    let long = length-range from slot.start slot.middle is.key (omega (arith, is.value, is.within)) in
    let parts = ap (λ (xs : List ℕ). old ++ xs) (range_parts from slot.start slot.middle slot.stop is.key is.value) ∙ sym (append_assoc old key value) in
    puts_again old (old ++ key) new from value slot start middle stop is refl (behind ∙ parts) at (between ∙ omega (arith, at, long, length-append old key)) end
