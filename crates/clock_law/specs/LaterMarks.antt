-- Laws of later marks.
use Rattle.std.specs.Prelude.{ℕ, ◌≡◌, ◌≤◌, ◌<◌, false, Option, Some, List, ◌∷◌, ◌++◌}
use Rattle.index_page.specs.Rows.{Row}
use Rattle.tree_law.specs.TreeShape.{In}
use Rattle.tree_law.specs.Pages.{Page, is_own}
use Rattle.clock_law.specs.ModifyClock.{last_clock, raised, NumberedPage, ClockMark, HasKeyAt, KeysStay, PageStays, IsLater, ClockRises}

-- each mark is a later one of itself, and a later one of a later one is a later one
pub record LaterIsAnOrder : Type 0 where
  pub itself : (m : ClockMark) → IsLater m m
  pub through : (l m n : ClockMark) → IsLater l m → IsLater m n → IsLater l n

-- a clock over a page of this number
abbrev pub mark_over : ℕ → ℕ → Page → ClockMark
mark_over clock n page =
    record { clock = clock; guards = Some (record { number = n; page = page }) }

-- what makes a later mark
pub record ChangesAreLater : Type 0 where
  -- one step of the clock is a rise
  pub one_step : (c : ℕ) → c ≤ last_clock → ClockRises c (raised c)
  -- whatever becomes of the page while the clock rises
  pub rises : (m n : ClockMark) → ClockRises m.clock n.clock → IsLater m n
  -- the page with some rows more
  pub rows_come : (n c c' : ℕ) (page : Page) (rows : List Row) → c ≤ c' → KeysStay page.rows rows
      → IsLater (mark_over c n page) (mark_over c' n (record page { rows = rows }))
  -- one row more between others
  pub row_between : (xs ys : List Row) (x : Row) → KeysStay (xs ++ ys) (xs ++ x ∷ ys)
  -- the page with another left neighbour, which isn't itself
  pub neighbour : (n c c' : ℕ) (page : Page) (p q : Option ℕ) → c ≤ c' → is_own n p ≡ false
      → is_own n q ≡ false
      → IsLater (mark_over c n (record page { prev = p }))
      (mark_over c' n (record page { prev = q }))

-- the mark guards a page that is the one it was, with each key at its place
pub record StillGuards (x : NumberedPage) (m : ClockMark) : Type 0 where
  pub now : NumberedPage
  pub guards : m.guards ≡ Some now
  pub keeps : PageStays x now

-- while the clock is the same and below the last, the page is there with each key at its place
abbrev pub EqualClocksKeepPlaces : Type 0
EqualClocksKeepPlaces =
    (old new : ClockMark) (x : NumberedPage) → IsLater old new → old.guards ≡ Some x
    → new.clock ≡ old.clock → old.clock < last_clock → StillGuards x new

-- where a row's key is gone from its place, the clock has risen
abbrev pub LostRowsRaise : Type 0
LostRowsRaise =
    (old new : ClockMark) (x y : NumberedPage) (row : Row) → IsLater old new
    → old.guards ≡ Some x → new.guards ≡ Some y → In row x.page.rows
    → (HasKeyAt y.page.rows row.place row.key → ⊥) → old.clock < last_clock
    → old.clock < new.clock
