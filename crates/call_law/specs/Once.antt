-- When a call answers its operation once, and when it answers nothing.
use Rattle.std.specs.Prelude.{ℕ, ◌≡◌, ◌+◌, ◌-◌, ◌≤◌, true, List, [], ◌∷◌, length, Contains}
use mathlib.Core.Option.{some}
use lib.ListN.{get_elem?}
use Rattle.map_history.specs.Map.{map_after}
use Rattle.map_history.specs.Operation.{Ask}
use Rattle.map_history.specs.Reply.{reply_of}
use Rattle.map_history.specs.Report.{Answer, Replied, LogFull, SpaceFull, Scanned}
use Rattle.map_history.specs.LegalReport.{Mark, marks_of, is_done, has_form, ScansFor}
use Rattle.index_law.specs.Answers.{Where}
use Rattle.index_law.specs.State.{Entries, changes}
use Rattle.index_law.specs.Rightness.{IsAllowed, AsksToWrite, map_at}
use Rattle.call_law.specs.Spoken.{View, spoken, sayings}
use Rattle.call_law.specs.Trace.{Added, Adds, AreGivenAt, fulls}

-- nothing was answered: looks alone were said
pub record IsQuiet (v v' : View) (i : ℕ) : Type 0 where
  pub added : Added
  pub adds : Adds v v' added
  pub given : AreGivenAt i v.low added.said
  pub said : spoken added.said ≡ []
  pub fulls : fulls added.said ≡ []

-- an answer for want of a page comes with one full, and no other answer with any
abbrev pub HasFulls : Answer → List (List Where) → Type 0
HasFulls (SpaceFull columns) told = (places : List Where) × (told ≡ places ∷ [])
HasFulls answer told = told ≡ []

-- The answer is right by a list that was seen: a reply is that of the map at its point, which
-- for a change that was made is the point before; log-full comes where the list is full and its
-- map allows the change; space-full of an operation that writes a row; and the pieces of a scan
-- are what an ordered map answers.
abbrev pub IsRightBy : ℕ → Entries → Ask → Answer → Type 0
IsRightBy most xs ask (Replied reply point columns) =
    reply_of (map_at xs (point - is_done reply)) ask ≡ reply
IsRightBy most xs ask (LogFull n columns) =
    (n ≡ most) × (n ≡ length xs) × IsAllowed (map_after (changes xs)) ask
IsRightBy most xs ask (SpaceFull columns) = AsksToWrite ask
IsRightBy most xs ask (Scanned pieces) = ScansFor ask (changes xs) pieces

-- The operation of the index i was answered once: this alone was said, at that index and by the
-- pass's name, and it has a form of the operation. Its point is no less than what was seen of
-- the list, for a change more; afterwards the list is seen up to there, and the answer is right
-- by it.
pub record AnswersOnce (v v' : View) (i : ℕ) (ask : Ask) (answer : Answer) : Type 0 where
  pub added : Added
  pub adds : Adds v v' added
  pub given : AreGivenAt i v.low added.said
  pub said : spoken added.said ≡ sayings i v.low ask answer
  pub fulls : HasFulls answer (fulls added.said)
  pub form : has_form ask answer ≡ true
  pub least : (m : Mark) (ys : Entries) → Contains (marks_of answer) m
      → get_elem? v.seen i ≡ some ys → length ys + m.grows ≤ m.point
  pub most : (m : Mark) (zs : Entries) → Contains (marks_of answer) m
      → get_elem? v'.seen i ≡ some zs → m.point ≤ length zs
  pub right : (zs : Entries) → get_elem? v'.seen i ≡ some zs
      → IsRightBy v.terms.max_changes zs ask answer
