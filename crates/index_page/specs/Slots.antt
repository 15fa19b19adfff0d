-- Records that lie one behind another in one run of bytes.
use Rattle.std.specs.Prelude.{ℕ, ◌≡◌, ◌≤◌, ◌<◌, ◌⊎◌, ◌-◌, ◌++◌, Option, Some, List, [], ◌∷◌, length, take, slice_get, slice_range}
use Rattle.std.specs.List.{AllByRecursion}
use Rattle.key_tuple.specs.declared.TheConstants.{FIELD_ROOM}
use Rattle.key_tuple.specs.Order.{FieldList}
use Rattle.key_tuple.specs.Parts.{parts, RiseTo}
use Rattle.index_page.specs.declared.slot.Slot.{Slot}
use Rattle.index_page.specs.Rows.{RowBody, Bytes}
use Rattle.index_page.specs.Store.{Content, body_from}

-- what these bytes say by a slot
abbrev pub content_in : List ℕ → Slot → Content
content_in bytes slot = record {
  key = parts (slice_range bytes slot.start slot.middle) 0 (take slot.count slot.ends);
  body = body_from (slice_range bytes slot.middle slot.stop) slot.child;
}

-- what a record says that has nothing in it
abbrev pub no_content : Content
no_content = record { key = []; body = Bytes [] }

-- a slot names a key within these bytes, and a value behind it
pub record IsSlotIn (bytes : List ℕ) (slot : Slot) : Type 0 where
  pub key : slot.start ≤ slot.middle
  pub value : slot.middle ≤ slot.stop
  pub within : slot.stop ≤ length bytes
  pub offsets : length slot.ends ≡ FIELD_ROOM
  pub few : slot.count ≤ FIELD_ROOM
  pub short : slot.middle - slot.start < 65536
  pub rise : RiseTo 0 (take slot.count slot.ends) (slot.middle - slot.start)

-- one lies before the other
abbrev pub LieApart : Slot → Slot → Type 0
LieApart x y = (x.stop ≤ y.start) ⊎ (y.stop ≤ x.start)

-- each lies apart from those after it
abbrev pub AllApart : List Slot → Type 0
AllApart [] = Unit {0}
AllApart (x ∷ xs) = AllByRecursion (LieApart x) xs × AllApart xs

-- each slot names a record within the bytes, and no two have a byte in common
pub record AreSlots (bytes : List ℕ) (slots : List Slot) : Type 0 where
  pub each : AllByRecursion (IsSlotIn bytes) slots
  pub apart : AllApart slots

-- something may have come behind what was there
pub record GrewFrom (old new : List ℕ) : Type 0 where
  pub more : List ℕ
  pub items : new ≡ old ++ more

-- these fields came behind what was there, and end at these offsets from there
pub record PutsFields (old new : List ℕ) (fields : FieldList) (ends : List ℕ) : Type 0 where
  pub added : List ℕ
  pub items : new ≡ old ++ added
  pub offsets : length ends ≡ FIELD_ROOM
  pub rise : RiseTo 0 (take (length fields) ends) (length added)
  pub says : parts added 0 (take (length fields) ends) ≡ fields

-- and this beside them
pub record PutsBeside (old new : List ℕ) (child : Option ℕ) (body : RowBody) : Type 0 where
  pub added : List ℕ
  pub items : new ≡ old ++ added
  pub says : body_from added child ≡ body

-- a record came behind what was there, where its slot tells
pub record PutsRecord (old new : List ℕ) (slot : Slot) (content : Content) : Type 0 where
  pub more : List ℕ
  pub items : new ≡ old ++ more
  pub from : slot.start ≡ length old
  pub is : IsSlotIn new slot
  pub says : content_in new slot ≡ content

-- the record with this number carries a value
pub record CarriesAt (contents : List Content) (number : ℕ) : Type 0 where
  pub key : FieldList
  pub value : List ℕ
  pub there : slice_get contents number ≡ Some (record { key = key; body = Bytes value })
