-- Which answers are right at a point of a list.
use Rattle.std.specs.Prelude.{ℕ, ◌≡◌, ◌≢◌, ◌≤◌, ◌+◌, ◌*◌, Bool, true, false, length, take}
use Rattle.std.specs.List.{AllByRecursion}
use mathlib.Core.Option.{some}
use lib.ListN.{get_elem?}
use Rattle.latch_law.specs.Whole.{Whole}
use Rattle.map_history.specs.Map.{Map, MapChange, is_allowed, map_after, slice, writes}
use Rattle.map_history.specs.Operation.{Ask, Make}
use Rattle.map_history.specs.Reply.{MapReply, Done, reply_of}
use Rattle.map_history.specs.LegalReport.{may_reply}
use Rattle.index_law.specs.Answers.{MadeChange, Word, Gives, LogFull, SpaceFull, Where, Free, InFrame, Image, Saying, Replies, Piece, Full, Look, speaks_at}
use Rattle.index_law.specs.Shape.{Shape}
use Rattle.index_law.specs.State.{Entries, changes, written_in_all}

-- the map after the first p changes of a list
abbrev pub map_at : Entries → ℕ → Map
map_at xs p = map_after (take p (changes xs))

-- a change is asked for, and the map allows it
pub record IsAllowed (m : Map) (ask : Ask) : Type 0 where
  pub change : MapChange
  pub asked : ask ≡ Make change
  pub allowed : is_allowed m change ≡ true

-- a change is asked for that writes a row
pub record AsksToWrite (ask : Ask) : Type 0 where
  pub change : MapChange
  pub asked : ask ≡ Make change
  pub row : writes change ≡ true

-- the reply is one that the operation may have, is the map's, and isn't `ok`, which a change
-- alone says
pub record IsReply (m : Map) (ask : Ask) (reply : MapReply) : Type 0 where
  pub form : may_reply ask reply ≡ true
  pub is : reply_of m ask ≡ reply
  pub changes_nothing : reply ≢ Done

-- a page has this place
abbrev pub is_used : Where → Bool
is_used Free = false
is_used (InFrame block) = true
is_used Image = true

module _ {O : Type 0} where
  -- there are so few pages that the trees may need them all: two for each index, each put and each
  -- set, and one for each pass
  abbrev pub IsShort : Whole Shape O MadeChange → Type 0
  IsShort w = w.shape.pages ≤ 2 * (w.shape.indexes + written_in_all w.lists) + w.passes

  -- the word is right: the map's reply; a full list's refusal of what the map allows; or, of an
  -- operation that writes a row, that there is no page for it, of so few
  abbrev pub IsWord : Whole Shape O MadeChange → Entries → ℕ → Ask → Word → Type 0
  IsWord w xs p ask (Gives reply) = IsReply (map_at xs p) ask reply
  IsWord w xs p ask LogFull = (p ≡ w.max_changes) × IsAllowed (map_at xs p) ask
  IsWord w xs p ask SpaceFull = AsksToWrite ask × IsShort w

  -- what is said is right at the point p of the list: a reply, and a piece that has just the map's
  -- rows of its range, each where it speaks; and a full that names as many places as there are
  -- pages, each one used, where these are so few
  abbrev pub IsSaid : Whole Shape O MadeChange → Entries → ℕ → Saying → Type 0
  IsSaid w xs p (Replies ask word bound columns) = speaks_at bound p ≡ true → IsWord w xs p ask word
  IsSaid w xs p (Piece ask low high rows bound columns) =
      speaks_at bound p ≡ true → rows ≡ slice low high (map_at xs p)
  IsSaid w xs p (Full places) =
      (length places ≡ w.shape.pages) × AllByRecursion (λ (x : Where). is_used x ≡ true) places
      × IsShort w
  IsSaid w xs p Look = Unit {0}

  -- the index has a list with that point, and what is said is right there
  pub record IsRight (w : Whole Shape O MadeChange) (i p : ℕ) (a : Saying) : Type 0 where
    pub list : Entries
    pub there : get_elem? w.lists i ≡ some list
    pub point : p ≤ length list
    pub said : IsSaid w list p a
