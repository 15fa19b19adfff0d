-- The pages of a state, and the trees that they form.
use Rattle.std.specs.Prelude.{ℕ, ◌≡◌, ◌==◌, nat_lt, Bool, true, false, if◌then◌else◌, Option, Some, None, List, [], ◌∷◌, length}
use Rattle.std.specs.List.{AllByRecursion}
use Rattle.key_tuple.specs.Order.{FieldList}
use Rattle.key_tuple.specs.KeyPlace.{KeyPlace, Start, At, End}
use Rattle.map_history.specs.Map.{Map}
use Rattle.index_page.specs.Rows.{RowBody, Bytes, Child, Row}
use Rattle.index_page.specs.Page.{PlacesDiffer, FitsLevel}
use Rattle.tree_law.specs.TreeShape.{Pointer, Outline, Forest, IsTreeShaped, pointer_to}
use Rattle.tree_law.specs.Contents.{HoldsMaps}

-- a page with the bounds that its frame keeps for it, and its rows by ascending keys
pub record Page : Type 0 where
  pub index : ℕ
  pub level : ℕ
  pub fields : ℕ
  pub prev : Option ℕ
  pub next : Option ℕ
  pub low : Option FieldList
  pub high : Option FieldList
  pub rows : List Row

-- the pages of a state by their numbers
abbrev pub Pages : Type 0
Pages = ℕ → Option Page

-- a page with no low key begins at the start of all keys
abbrev pub low_place : Option FieldList → KeyPlace
low_place None = Start
low_place (Some k) = At k

-- a page with no high key ends at the end of all keys
abbrev pub high_place : Option FieldList → KeyPlace
high_place None = End
high_place (Some k) = At k

-- all fields of the key are empty
abbrev pub is_empty : FieldList → Bool
is_empty [] = true
is_empty ([] ∷ fields) = is_empty fields
is_empty ((b ∷ bs) ∷ fields) = false

-- where a pointer's child begins: a key of empty fields is that of the leftmost pointer of a level
abbrev pub from_place : FieldList → KeyPlace
from_place k = if is_empty k then Start else At k

-- a row's pointer, put before others
abbrev pub pointer_of : FieldList → RowBody → List Pointer → List Pointer
pointer_of k (Bytes v) xs = xs
pointer_of k (Child n) xs = pointer_to (from_place k) n ∷ xs

-- the pointers of a page's rows
abbrev pub pointers_of : List Row → List Pointer
pointers_of [] = []
pointers_of (x ∷ xs) = pointer_of x.key x.body (pointers_of xs)

-- a row's row, put before others
abbrev pub with_pair : FieldList → RowBody → Map → Map
with_pair k (Bytes v) xs = record { key = k; value = v } ∷ xs
with_pair k (Child m) xs = xs

-- the rows of a page's rows
abbrev pub row_pairs : List Row → Map
row_pairs [] = []
row_pairs (x ∷ xs) = with_pair x.key x.body (row_pairs xs)

-- a page as a page of a tree
abbrev pub outline : Page → Outline
outline p = record {
  index = p.index;
  level = p.level;
  prev = p.prev;
  next = p.next;
  low = low_place p.low;
  high = high_place p.high;
  pointers = pointers_of p.rows;
}

-- a page outside the trees has itself as its left neighbour
abbrev pub is_own : ℕ → Option ℕ → Bool
is_own n None = false
is_own n (Some m) = m == n

-- the page under a number, if it is in a tree
abbrev pub tree_page : ℕ → Option Page → Option Outline
tree_page n None = None
tree_page n (Some p) = if is_own n p.prev then None else Some (outline p)

-- the trees that the pages form
abbrev pub forest : Pages → Forest
forest pages n = tree_page n (pages n)

-- the rows of a page, none where there is no page
abbrev pub page_pairs : Option Page → Map
page_pairs None = []
page_pairs (Some p) = row_pairs p.rows

-- the rows under each number
abbrev pub pairs_at : Pages → ℕ → Map
pairs_at pages n = page_pairs (pages n)

-- a bound, if there is one, has so many fields
abbrev pub HasFields : ℕ → Option FieldList → Type 0
HasFields n None = Unit {0}
HasFields n (Some k) = length k ≡ n

-- what a page shows by itself: it, its keys and its bounds have its index's number of fields, each
-- row carries what the level asks for, and the places differ
pub record IsOrderly (fields_of : ℕ → ℕ) (page : Page) : Type 0 where
  pub fields : page.fields ≡ fields_of page.index
  pub keys : AllByRecursion (λ (x : Row). length x.key ≡ page.fields) page.rows
  pub low : HasFields page.fields page.low
  pub high : HasFields page.fields page.high
  pub bodies : AllByRecursion (λ (x : Row). FitsLevel page.level x.body) page.rows
  pub places : PlacesDiffer page.rows

-- the law of the pages: they form the trees, the leaves hold the maps, a page outside the trees has
-- no rows, and each page is in order by itself
pub record AreLawfulPages (indexes : ℕ) (fields_of heights : ℕ → ℕ) (maps : ℕ → Map)
    (pages : Pages) : Type 0 where
  pub shape : IsTreeShaped indexes heights (forest pages)
  pub contents : HoldsMaps (forest pages) (pairs_at pages) maps
  pub outside : (n : ℕ) (page : Page) → pages n ≡ Some page → page.prev ≡ Some n → page.rows ≡ []
  pub orderly : (n : ℕ) (page : Page) → pages n ≡ Some page → IsOrderly fields_of page

-- an empty leaf with all keys of an index
abbrev pub first_page : (ℕ → ℕ) → ℕ → Page
first_page fields_of i = record {
  index = i;
  level = 0;
  fields = fields_of i;
  prev = None;
  next = None;
  low = None;
  high = None;
  rows = [];
}

-- the pages when a space opens: an empty leaf for each index
abbrev pub first_pages : (ℕ → ℕ) → ℕ → Pages
first_pages fields_of indexes n = if nat_lt n indexes then Some (first_page fields_of n) else None
