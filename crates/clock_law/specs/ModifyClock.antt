-- What a modify clock guards, and when a frame is a later one of what it was.
use Rattle.std.specs.Prelude.{ℕ, ◌≡◌, ◌+◌, ◌-◌, ◌^◌, ◌≤◌, ◌<◌, min, Option, Some, None, List}
use Rattle.key_tuple.specs.Order.{FieldList}
use Rattle.index_page.specs.Rows.{Row}
use Rattle.tree_law.specs.TreeShape.{In}
use Rattle.tree_law.specs.Pages.{Page, is_own}

-- the last value of a clock, at which it guards nothing
abbrev pub last_clock : ℕ
last_clock = 2 ^ 64 - 1

-- the clock one higher, or still at its last value
abbrev pub raised : ℕ → ℕ
raised n = min (n + 1) last_clock

-- a page with its number
pub record NumberedPage : Type 0 where
  pub number : ℕ
  pub page : Page

-- what a reference to a frame looks at: its clock, and its page, if it has one
pub record ClockMark : Type 0 where
  pub clock : ℕ
  pub guards : Option NumberedPage

-- some row has this key at this place
pub record HasKeyAt (rows : List Row) (place : ℕ) (key : FieldList) : Type 0 where
  pub row : Row
  pub among : In row rows
  pub place_is : row.place ≡ place
  pub key_is : row.key ≡ key

-- each row's key stays at its place; others may come, and what rows carry may change
abbrev pub KeysStay : List Row → List Row → Type 0
KeysStay xs ys = (x : Row) → In x xs → HasKeyAt ys x.place x.key

-- the page stays that of its number, index and level, within its bounds, with each key at its
-- place; its neighbours may change, but a page of the trees stays one, and one outside stays so
pub record PageStays (old new : NumberedPage) : Type 0 where
  pub number : new.number ≡ old.number
  pub index : new.page.index ≡ old.page.index
  pub level : new.page.level ≡ old.page.level
  pub fields : new.page.fields ≡ old.page.fields
  pub low : new.page.low ≡ old.page.low
  pub high : new.page.high ≡ old.page.high
  pub own : is_own new.number new.page.prev ≡ is_own old.number old.page.prev
  pub rows : KeysStay old.page.rows new.page.rows

-- what is guarded stays; a page may come where there is none, and none goes
abbrev pub GuardStays : Option NumberedPage → Option NumberedPage → Type 0
GuardStays None y = Unit {0}
GuardStays (Some x) None = ⊥
GuardStays (Some x) (Some y) = PageStays x y

-- a later mark: the clock doesn't fall, and while it is the same and below the last, what it guards
-- stays
pub record IsLater (old new : ClockMark) : Type 0 where
  pub clock : old.clock ≤ new.clock
  pub kept : new.clock ≡ old.clock → old.clock < last_clock → GuardStays old.guards new.guards

-- the clock rises, or stays at its last value
pub record ClockRises (old new : ℕ) : Type 0 where
  pub clock : old ≤ new
  pub stays_last : new ≡ old → last_clock ≤ old
