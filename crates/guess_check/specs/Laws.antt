-- The check as a test, and as the law of trees has it.
use Rattle.std.specs.Prelude.{◌≡◌, Bool, true, Option, Some, None, List}
use Rattle.std.specs.declared.cmp.Ordering.TheVariants.{Equal}
use Rattle.key_tuple.specs.Order.{FieldList, tuple_cmp}
use Rattle.key_tuple.specs.declared.mode.Mode.{Mode}
use Rattle.index_page.specs.Page.{PageRows}
use Rattle.index_page.specs.Rows.{Row}
use Rattle.tree_law.specs.Pages.{Page}
use Rattle.tree_law.specs.GuessCheck.{PassesCheck}
use Rattle.guess_check.specs.Check.{told_of}

-- the page within some bounds, as the law of trees sees it
abbrev pub page_between : PageRows → (low high : Option FieldList) → Page
page_between page low high = record {
  index = page.head.index;
  level = page.head.level;
  fields = page.head.fields;
  prev = page.head.prev;
  next = page.head.next;
  low = low;
  high = high;
  rows = page.rows;
}

-- a row of which something is told passes the check, and where nothing is told it doesn't; what is
-- told is whether the tuple's fields are those of its key
pub record CheckedRowsPass : Type 0 where
  pub told : (mode : Mode) (tuple : FieldList) (page : PageRows) (low high : Option FieldList)
      (left : List Row) (row : Row) (right : List Row) (found : Bool)
      → told_of mode tuple page.head left row right ≡ Some found
      → PassesCheck mode tuple (page_between page low high) left row right
  pub untold : (mode : Mode) (tuple : FieldList) (page : PageRows) (low high : Option FieldList)
      (left : List Row) (row : Row) (right : List Row)
      → told_of mode tuple page.head left row right ≡ None
      → PassesCheck mode tuple (page_between page low high) left row right → ⊥
  pub found : (mode : Mode) (tuple : FieldList) (page : PageRows) (left : List Row) (row : Row)
      (right : List Row) → told_of mode tuple page.head left row right ≡ Some true
      → tuple_cmp tuple row.key ≡ Equal
