-- Records in one run of bytes: what stays, what comes behind, and what is written over.
use Rattle.std.proofs.Common.{◌≡◌, ℕ, zero, suc, ◌+◌, ◌-◌, ◌<◌, ◌≤◌, Some, None, Option, List, [], ◌∷◌, ◌++◌, length, take, drop, map, set, refl, sym, ap, ◌∙◌, subst, arith, inl, inr, ⊎_elim, get_or, length-append, length-take, length-drop, append_assoc, Result, Ok, Err, IfOk}
use Rattle.std.proofs.lemmas.List.{map-append, map-set, take-append-drop, length_push, length-set, length-map, map_more}
use Rattle.std.proofs.lemmas.List.Sums.{sum_by-cons}
use Rattle.std.specs.List.{AllByRecursion, slice_get, slice_range}
use Rattle.key_tuple.specs.Parts.{parts}
use Rattle.key_tuple.specs.declared.TheConstants.{FIELD_ROOM}
use Rattle.key_tuple.specs.Order.{FieldList, byte_count}
use Rattle.key_tuple.proofs.PartsLemmas.{range_kept, range_added, rises_after, parts_after, byte_count-view}
use Rattle.index_page.specs.declared.slot.Slot.{Slot}
use Rattle.index_page.specs.Rows.{RowBody, Bytes}
use Rattle.index_page.specs.Store.{Content, body_from}
use Rattle.index_page.specs.Slots.{content_in, IsSlotIn, LieApart, AllApart, AreSlots, GrewFrom, PutsFields, PutsBeside, PutsRecord, CarriesAt}
use Rattle.list_facts.proofs.Places.{same_some}
use Rattle.list_facts.proofs.Elements.{map_get}
use Rattle.index_page.proofs.RowLemmas.{get_below}
use Rattle.list_facts.proofs.Each.{each_left, each_append, each_weaker, each_get, each_all}

-- a record is as it was where more came behind
kept : (bytes more : List ℕ) (slot : Slot) → IsSlotIn bytes slot → content_in (bytes ++ more) slot ≡ content_in bytes slot
kept bytes more slot is =
    let key = range_kept bytes more slot.start slot.middle is.key (omega (arith, is.value, is.within)) in
    let value = range_kept bytes more slot.middle slot.stop is.value is.within in
    cc (key, value)

longer : (bytes more : List ℕ) (slot : Slot) → IsSlotIn bytes slot → IsSlotIn (bytes ++ more) slot
longer bytes more slot is = record {
  key = is.key;
  value = is.value;
  offsets = is.offsets;
  few = is.few;
  short = is.short;
  rise = is.rise;
  within = omega (arith, is.within, length-append bytes more);
}

all_kept : (bytes more : List ℕ) (slots : List Slot) → AllByRecursion (IsSlotIn bytes) slots → map (content_in (bytes ++ more)) slots ≡ map (content_in bytes) slots
all_kept bytes more [] a = refl
all_kept bytes more (x ∷ xs) a =
    let here = kept bytes more x a.0 in
    let rest = all_kept bytes more xs a.1 in
    cc (here, rest)

pub same_contents : (old new : List ℕ) (slots : List Slot) → GrewFrom old new → AllByRecursion (IsSlotIn old) slots → map (content_in new) slots ≡ map (content_in old) slots
same_contents old new slots grew each = rw grew.items (all_kept old grew.more slots each)

each_longer : (old new : List ℕ) (slots : List Slot) → GrewFrom old new → AllByRecursion (IsSlotIn old) slots → AllByRecursion (IsSlotIn new) slots
each_longer old new slots grew each = rw grew.items (each_weaker (IsSlotIn old) (IsSlotIn (old ++ grew.more)) (λ x is. longer old grew.more x is) slots each)

pub same_slots : (old new : List ℕ) (slots : List Slot) → GrewFrom old new → AreSlots old slots → AreSlots new slots
same_slots old new slots grew are = record { each = each_longer old new slots grew are.each; apart = are.apart }

pub put_grew : (old new : List ℕ) (slot : Slot) (content : Content) → PutsRecord old new slot content → GrewFrom old new
put_grew old new slot content put = record { more = put.more; items = put.items }

-- what is set in a list has what each has
pub each_set : {A : Type 0} (P : A → Type 0) (xs : List A) (i : ℕ) (x : A) → AllByRecursion P xs → P x → AllByRecursion P (set xs i x)
each_set P [] i x a p = tt
each_set P (y ∷ ys) zero x a p = (p, a.1)
each_set P (y ∷ ys) (suc i) x a p = (a.0, each_set P ys i x a.1 p)

flip : (x y : Slot) → LieApart x y → LieApart y x
flip x y = ⊎_elim (λ (e : x.stop ≤ y.start). inr e) (λ (e : y.stop ≤ x.start). inl e)

apart_set : (xs : List Slot) (i : ℕ) (x : Slot) → AllApart xs → AllByRecursion (LieApart x) xs → AllApart (set xs i x)
apart_set [] i x a h = tt
apart_set (y ∷ ys) zero x a h = (h.1, a.1)
apart_set (y ∷ ys) (suc i) x a h = (each_set (LieApart y) ys i x a.0 (flip x y h.0), apart_set ys i x a.1 h.1)

apart_push : (xs : List Slot) (x : Slot) → AllApart xs → AllByRecursion (λ y. LieApart y x) xs → AllApart (xs ++ x ∷ [])
apart_push [] x a h = (tt, tt)
apart_push (y ∷ ys) x a h = (each_append (LieApart y) ys (x ∷ []) a.0 (h.0, tt), apart_push ys x a.1 h.1)

-- a record that came behind lies apart from each that was there
module _ (old new : List ℕ) (slots : List Slot) (slot : Slot) (content : Content) (are : AreSlots old slots) (put : PutsRecord old new slot content) where
  before : AllByRecursion (λ y. LieApart y slot) slots
  before = each_weaker (IsSlotIn old) (λ y. LieApart y slot) (λ y is. inl (omega (arith, is.within, put.from))) slots are.each

  pub put_slots : (i : ℕ) → AreSlots new (set slots i slot)
  put_slots i = record {
    each = each_set (IsSlotIn new) slots i slot (each_longer old new slots (put_grew old new slot content put) are.each) put.is;
    apart = apart_set slots i slot are.apart (each_weaker (λ y. LieApart y slot) (LieApart slot) (λ y h. flip y slot h) slots before);
  }

  pub put_contents : (i : ℕ) → map (content_in new) (set slots i slot) ≡ set (map (content_in old) slots) i content
  put_contents i =
      let others = same_contents old new slots (put_grew old new slot content put) are.each in
      let here = put.says in
      map-set (content_in new) slots i slot ∙ cc (others, here)

  pub push_slots : AreSlots new (slots ++ slot ∷ [])
  push_slots = record {
    each = each_append (IsSlotIn new) slots (slot ∷ []) (each_longer old new slots (put_grew old new slot content put) are.each) (put.is, tt);
    apart = apart_push slots slot are.apart before;
  }

  pub push_contents : map (content_in new) (slots ++ slot ∷ []) ≡ map (content_in old) slots ++ content ∷ []
  push_contents =
      let others = same_contents old new slots (put_grew old new slot content put) are.each in
      let here = put.says in
      map-append (content_in new) slots (slot ∷ []) ∙ cc (others, here)

-- a record without bytes lies apart from each
module _ (bytes : List ℕ) (slots : List Slot) (slot : Slot) (are : AreSlots bytes slots) (is : IsSlotIn bytes slot) (nowhere : slot.stop ≡ 0) where
  pub blank_pushed : AreSlots bytes (slots ++ slot ∷ [])
  blank_pushed = record {
    each = each_append (IsSlotIn bytes) slots (slot ∷ []) are.each (is, tt);
    apart = apart_push slots slot are.apart (each_all (λ y. LieApart y slot) (λ y. inr (omega (arith, nowhere))) slots);
  }

  pub blank_put : (i : ℕ) → AreSlots bytes (set slots i slot)
  blank_put i = record {
    each = each_set (IsSlotIn bytes) slots i slot are.each is;
    apart = apart_set slots i slot are.apart (each_all (LieApart slot) (λ y. inl (omega (arith, nowhere))) slots);
  }

-- the records but the last one
first_apart : (xs : List Slot) (ys : List Slot) → AllApart (xs ++ ys) → AllApart xs
first_apart [] ys a = tt
first_apart (x ∷ xs) ys a = (each_left (LieApart x) xs ys a.0, first_apart xs ys a.1)

pub first_slots : (bytes : List ℕ) (all slots more : List Slot) → all ≡ slots ++ more → AreSlots bytes all → AreSlots bytes slots
first_slots bytes all slots more e are =
    let both = subst (AreSlots bytes) e are in
    record { each = each_left (IsSlotIn bytes) slots more both.each; apart = first_apart slots more both.apart }

-- a value is written over another that is no shorter
narrow_apart : (slots : List Slot) (i : ℕ) (old new : Slot) → slice_get slots i ≡ Some old → old.start ≤ new.start → new.stop ≤ old.stop → AllApart slots → AllApart (set slots i new)
narrow_apart [] i old new e low high a = tt
narrow_apart (y ∷ ys) zero old new e low high a =
    let is : y ≡ old = cc in
    (each_weaker (LieApart y) (LieApart new) (λ x h. ⊎_elim (λ (l : y.stop ≤ x.start). inl (omega (arith, ap (λ (s : Slot). s.stop) is))) (λ (l : x.stop ≤ y.start). inr (omega (arith, ap (λ (s : Slot). s.start) is))) h) ys a.0, a.1)
narrow_apart (y ∷ ys) (suc i) old new e low high a =
    let there = each_get (LieApart y) ys i old a.0 e in
    let here : LieApart y new = ⊎_elim (λ (l : y.stop ≤ old.start). inl (omega arith)) (λ (l : old.stop ≤ y.start). inr (omega arith)) there in
    (each_set (LieApart y) ys i new a.0 here, narrow_apart ys i old new e low high a.1)

-- bytes between which others were written, cut out before and behind these
cut_before : (bytes part rest : List ℕ) (at from to : ℕ) → from ≤ to → to ≤ at → at ≤ length bytes → slice_range (take at bytes ++ (part ++ rest)) from to ≡ slice_range bytes from to
cut_before bytes part rest at from to rises low fits =
    let long : length (take at bytes) ≡ at = length-take at bytes ∙ omega arith in
    let new = range_kept (take at bytes) (part ++ rest) from to rises (omega (arith, long)) in
    let old = range_kept (take at bytes) (drop at bytes) from to rises (omega (arith, long)) in
    new ∙ sym old ∙ ap (λ (xs : List ℕ). slice_range xs from to) (take-append-drop at bytes)

drop-behind : (xs ys : List ℕ) (n : ℕ) → drop (length xs + n) (xs ++ ys) ≡ drop n ys
drop-behind [] ys n = ap (λ (k : ℕ). drop k ys) (omega arith)
drop-behind (x ∷ xs) ys n =
    let more : length (x ∷ xs) + n ≡ suc (length xs + n) = omega arith in
    ap (λ (k : ℕ). drop k (x ∷ xs ++ ys)) more ∙ drop-behind xs ys n

cut_behind : (bytes part : List ℕ) (at from to : ℕ) → at + length part ≤ from → from ≤ to → at + length part ≤ length bytes → slice_range (take at bytes ++ (part ++ drop (at + length part) bytes)) from to ≡ slice_range bytes from to
cut_behind bytes part at from to low rises fits =
    let rest = drop (at + length part) bytes in
    let gap = from - (at + length part) in
    let long : length (take at bytes ++ part) ≡ at + length part = length-append (take at bytes) part ∙ omega (arith, length-take at bytes) in
    let same : length (take (at + length part) bytes) ≡ at + length part = length-take (at + length part) bytes ∙ omega arith in
    let new : drop from ((take at bytes ++ part) ++ rest) ≡ drop gap rest = ap (λ (k : ℕ). drop k ((take at bytes ++ part) ++ rest)) (omega (arith, long)) ∙ drop-behind (take at bytes ++ part) rest gap in
    let old : drop from (take (at + length part) bytes ++ rest) ≡ drop gap rest = ap (λ (k : ℕ). drop k (take (at + length part) bytes ++ rest)) (omega (arith, same)) ∙ drop-behind (take (at + length part) bytes) rest gap in
    let whole = take-append-drop (at + length part) bytes in
    ap (λ (xs : List ℕ). take (to - from) (drop from xs)) (sym (append_assoc (take at bytes) part rest)) ∙ ap (take (to - from)) (new ∙ sym old ∙ ap (drop from) whole)

-- a value that is written over the one of a record, no longer than that
module _ (bytes part : List ℕ) (old : Slot) (is : IsSlotIn bytes old) (fits : length part ≤ old.stop - old.middle) where
  abbrev pub over : List ℕ
  over = take old.middle bytes ++ (part ++ drop (old.middle + length part) bytes)

  abbrev pub cut_slot : Slot
  cut_slot = record { start = old.start; middle = old.middle; stop = old.middle + length part; child = old.child; ends = old.ends; count = old.count }

  over_long : length over ≡ length bytes
  over_long = length-append (take old.middle bytes) (part ++ drop (old.middle + length part) bytes) ∙ omega (arith, is.value, is.within, length-take old.middle bytes, length-append part (drop (old.middle + length part) bytes), length-drop (old.middle + length part) bytes)

  others_keep : (y : Slot) → IsSlotIn bytes y → LieApart old y → content_in over y ≡ content_in bytes y
  others_keep y its = ⊎_elim
      (λ (h : old.stop ≤ y.start).
      let key = cut_behind bytes part old.middle y.start y.middle (omega (arith, is.value)) its.key (omega (arith, is.value, is.within)) in
      let value = cut_behind bytes part old.middle y.middle y.stop (omega (arith, is.value, its.key)) its.value (omega (arith, is.value, is.within)) in
      cc (key, value))
      (λ (h : y.stop ≤ old.start).
      let rest = drop (old.middle + length part) bytes in
      let key = cut_before bytes part rest old.middle y.start y.middle its.key (omega (arith, is.key, its.value)) (omega (arith, is.value, is.within)) in
      let value = cut_before bytes part rest old.middle y.middle y.stop its.value (omega (arith, is.key)) (omega (arith, is.value, is.within)) in
      cc (key, value))

  still : (y : Slot) → IsSlotIn bytes y → IsSlotIn over y
  still y its = record { key = its.key; value = its.value; offsets = its.offsets; few = its.few; short = its.short; rise = its.rise; within = omega (arith, its.within, over_long) }

  its_slot : IsSlotIn over cut_slot
  its_slot = record { key = is.key; value = omega arith; offsets = is.offsets; few = is.few; short = is.short; rise = is.rise; within = omega (arith, is.value, is.within, over_long) }

  its_content : content_in over cut_slot ≡ record { key = (content_in bytes old).key; body = body_from part old.child }
  its_content =
      let rest = drop (old.middle + length part) bytes in
      let low : length (take old.middle bytes) ≡ old.middle = length-take old.middle bytes ∙ omega (arith, is.value, is.within) in
      let key = cut_before bytes part rest old.middle old.start old.middle is.key (omega arith) (omega (arith, is.value, is.within)) in
      let front : length (take old.middle bytes ++ part) ≡ old.middle + length part = length-append (take old.middle bytes) part ∙ omega (arith, low) in
      let kept = range_kept (take old.middle bytes ++ part) rest old.middle (old.middle + length part) (omega arith) (omega (arith, front)) in
      let added = range_added (take old.middle bytes) part old.middle (old.middle + length part) (sym low) (omega (arith, low)) in
      let value : slice_range over old.middle (old.middle + length part) ≡ part = ap (λ (xs : List ℕ). slice_range xs old.middle (old.middle + length part)) (sym (append_assoc (take old.middle bytes) part rest)) ∙ kept ∙ added in
      cc (key, value)

  keep_all : (xs : List Slot) → AllByRecursion (IsSlotIn bytes) xs → AllByRecursion (LieApart old) xs → map (content_in over) xs ≡ map (content_in bytes) xs
  keep_all [] a h = refl
  keep_all (x ∷ xs) a h =
      let here = others_keep x a.0 h.0 in
      let rest = keep_all xs a.1 h.1 in
      cc (here, rest)

  pub over_contents : (slots : List Slot) (i : ℕ) → slice_get slots i ≡ Some old → AllByRecursion (IsSlotIn bytes) slots → AllApart slots → map (content_in over) (set slots i cut_slot) ≡ set (map (content_in bytes) slots) i (record { key = (content_in bytes old).key; body = body_from part old.child })
  over_contents [] i e a h = refl
  over_contents (y ∷ ys) zero e a h =
      let same : y ≡ old = cc in
      let rest = keep_all ys a.1 (subst (λ (s : Slot). AllByRecursion (LieApart s) ys) same h.0) in
      let here = its_content in
      cc (here, rest)
  over_contents (y ∷ ys) (suc i) e a h =
      let apart = flip y old (each_get (LieApart y) ys i old h.0 e) in
      let here = others_keep y a.0 apart in
      let rest = over_contents ys i e a.1 h.1 in
      cc (here, rest)

  pub over_slots : (slots : List Slot) (i : ℕ) → slice_get slots i ≡ Some old → AreSlots bytes slots → AreSlots over (set slots i cut_slot)
  over_slots slots i e are = record {
    each = each_set (IsSlotIn over) slots i cut_slot (each_weaker (IsSlotIn bytes) (IsSlotIn over) still slots are.each) its_slot;
    apart = narrow_apart slots i old cut_slot e (omega arith) (omega (arith, is.value)) are.apart;
  }

-- what a slot says whose record carries a value
pub record Carries (bytes : List ℕ) (slot : Slot) (key : FieldList) (value : List ℕ) : Type 0 where
  pub its_key : (content_in bytes slot).key ≡ key
  pub childless : slot.child ≡ None
  pub long : length value ≡ slot.stop - slot.middle

pub carries_by : (bytes : List ℕ) (slot : Slot) (key : FieldList) (value : List ℕ) → IsSlotIn bytes slot → content_in bytes slot ≡ record { key = key; body = Bytes value } → Carries bytes slot key value
carries_by bytes slot key value is e = go slot.child refl
  where
    go : (child : Option ℕ) → slot.child ≡ child → Carries bytes slot key value
    go (Some n) was = absurd (let body : body_from (slice_range bytes slot.middle slot.stop) slot.child ≡ Bytes value = ap (λ (x : Content). x.body) e in cc)
    go None was =
        let body : body_from (slice_range bytes slot.middle slot.stop) slot.child ≡ Bytes value = ap (λ (x : Content). x.body) e in
        let same : slice_range bytes slot.middle slot.stop ≡ value = cc in
        record {
          its_key = ap (λ (x : Content). x.key) e;
          childless = was;
          long = ap length (sym same) ∙ length-take (slot.stop - slot.middle) (drop slot.middle bytes) ∙ omega (arith, is.value, is.within, length-drop slot.middle bytes);
        }

-- the slot with a number, and what it says
pub got : {A : Type 0} (xs : List A) (i : ℕ) (x : A) → i < length xs → x ≡ get_or xs i x → slice_get xs i ≡ Some x
got [] i x below e = absurd (omega arith)
got (y ∷ ys) zero x below e = ap Some (sym e)
got (y ∷ ys) (suc i) x below e = got ys i x (omega arith) e

-- one field more
pub puts_more : (old now new : List ℕ) (fields : FieldList) (ends field : List ℕ) (to : ℕ) (p : PutsFields old now fields ends) → length fields < FIELD_ROOM → new ≡ now ++ field → to ≡ length p.added + length field → PutsFields old new (fields ++ field ∷ []) (set ends (length fields) to)
puts_more old now new fields ends field to p few e long =
    let count : length (fields ++ field ∷ []) ≡ length fields + 1 = length_push fields field in
    let below : length fields < length ends = omega (arith, p.offsets) in
    let total : length (p.added ++ field) ≡ to = length-append p.added field ∙ sym long in
    record {
      added = p.added ++ field;
      items = e ∙ ap (λ (xs : List ℕ). xs ++ field) p.items ∙ append_assoc old p.added field;
      offsets = length-set ends (length fields) to ∙ p.offsets;
      rise = rw (count, total) (rises_after p.added field ends (length fields) to below long p.rise);
      says = rw count (parts_after p.added field ends (length fields) to below long p.rise ∙ ap (λ (xs : FieldList). xs ++ field ∷ []) p.says);
    }

-- all fields together are no shorter than the first ones and the next
pub first_fields : (fields : FieldList) (i : ℕ) → i < length fields → byte_count (take i fields) + length (get_or fields i []) ≤ byte_count fields
first_fields [] i below = absurd (omega arith)
first_fields (x ∷ xs) zero below = omega (arith, sum_by-cons length x xs)
first_fields (x ∷ xs) (suc i) below =
    let rest = first_fields xs i (omega arith) in
    let whole : byte_count (x ∷ xs) ≡ length x + byte_count xs = sum_by-cons length x xs in
    let part : byte_count (take (suc i) (x ∷ xs)) ≡ length x + byte_count (take i xs) = sum_by-cons length x (take i xs) in
    omega arith

-- what was put has the bytes of its fields
pub added_long : (old new : List ℕ) (fields : FieldList) (ends : List ℕ) (p : PutsFields old new fields ends) → length p.added ≡ byte_count fields
added_long old new fields ends p = sym (byte_count-view p.added ends (length fields) p.rise) ∙ ap byte_count p.says

-- a key and what stands beside it, one behind another, are a record
pub puts_row : (old mid new : List ℕ) (slot : Slot) (fields : FieldList) (body : RowBody) (a : PutsFields old mid fields slot.ends) (b : PutsBeside mid new slot.child body) → slot.start ≡ length old → slot.middle ≡ length mid → slot.stop ≡ length new → slot.count ≡ length fields → length fields ≤ FIELD_ROOM → byte_count fields < 65536 → PutsRecord old new slot (record { key = fields; body = body })
puts_row old mid new slot fields body a b start middle stop count few short =
    let first : length mid ≡ length old + length a.added = ap length a.items ∙ length-append old a.added in
    let whole : length new ≡ length mid + length b.added = ap length b.items ∙ length-append mid b.added in
    let its = added_long old mid fields slot.ends a in
    let wide : slot.middle - slot.start ≡ length a.added = omega arith in
    let cut = ap (λ (xs : List ℕ). slice_range xs slot.start slot.middle) b.items ∙ range_kept mid b.added slot.start slot.middle (omega arith) (omega arith) ∙ ap (λ (xs : List ℕ). slice_range xs slot.start slot.middle) a.items ∙ range_added old a.added slot.start slot.middle start (omega arith) in
    let rest = ap (λ (xs : List ℕ). slice_range xs slot.middle slot.stop) b.items ∙ range_added mid b.added slot.middle slot.stop middle (omega arith) in
    let key : parts (slice_range new slot.start slot.middle) 0 (take slot.count slot.ends) ≡ fields = rw (cut, count) a.says in
    let value : body_from (slice_range new slot.middle slot.stop) slot.child ≡ body = rw rest b.says in
    record {
      more = a.added ++ b.added;
      items = b.items ∙ ap (λ (xs : List ℕ). xs ++ b.added) a.items ∙ append_assoc old a.added b.added;
      from = start;
      is = record { key = omega arith; value = omega arith; within = omega arith; offsets = a.offsets; few = omega arith; short = omega arith; rise = rw (count, wide) a.rise };
      says = cc (key, value);
    }

-- the slot of a record that carries a value
pub record Stands (bytes : List ℕ) (slots : List Slot) (number : ℕ) (slot : Slot) (key : FieldList) (value : List ℕ) : Type 0 where
  pub below : number < length slots
  pub there : slice_get slots number ≡ Some slot
  pub is : IsSlotIn bytes slot
  pub carries : Carries bytes slot key value

pub stands : (bytes : List ℕ) (slots : List Slot) (contents : List Content) (number : ℕ) (slot : Slot) → AreSlots bytes slots → map (content_in bytes) slots ≡ contents → slot ≡ get_or slots number slot → (c : CarriesAt contents number) → Stands bytes slots number slot c.key c.value
stands bytes slots contents number slot are view read c =
    let below : number < length slots = omega (arith, get_below contents number _ c.there, ap length view, length-map slots (content_in bytes)) in
    let there = got slots number slot below read in
    let is = each_get (IsSlotIn bytes) slots number slot are.each there in
    let says = map_get (content_in bytes) slots number slot there in
    let same = same_some _ _ (sym says ∙ ap (λ (xs : List Content). slice_get xs number) view ∙ c.there) in
    record { below = below; there = there; is = is; carries = carries_by bytes slot c.key c.value is same }

-- one record more is copied
pub copied_more : (bytes lent : List ℕ) (slots : List Slot) (number : ℕ) (d : Slot) (now new : List Content) → number < length slots → now ≡ map (content_in bytes) (take number slots) → lent ≡ bytes → new ≡ now ++ content_in lent (get_or slots number d) ∷ [] → new ≡ map (content_in bytes) (take (number + 1) slots)
copied_more bytes lent slots number d now new below before same e = e ∙ cc (before, same) ∙ sym (map_more (content_in bytes) slots number d below)

-- its key with another value
pub with_value : (bytes : List ℕ) (slot : Slot) (key : FieldList) (value part : List ℕ) (now contents : List Content) (number : ℕ) → now ≡ contents → Carries bytes slot key value → set now number (record { key = (content_in bytes slot).key; body = body_from part slot.child }) ≡ set contents number (record { key = key; body = Bytes part })
with_value bytes slot key value part now contents number view c =
    let same = c.its_key in
    let none = c.childless in
    cc (same, none, view)

-- what a slot that was made has, one with the same parts has
pub slot_made : {E : Type 0} (r : Result Slot E) (made : Slot) (P : Slot → Type 0) → P made → IfOk r (λ slot. slot ≡ made) → IfOk r P
slot_made (Ok slot) made P p is = subst P (sym is) p
slot_made (Err e) made P p is = tt
