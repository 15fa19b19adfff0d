-- What the joined pass says, and what it means that it is so.
use Rattle.std.proofs.Common.{◌≡◌, ◌≢◌, ◌⊎◌, ℕ, zero, suc, ◌+◌, ◌-◌, ◌<◌, ◌≤◌, Bool, true, false, cond, Option, Some, List, [], ◌∷◌, length, refl, sym, subst, inl, inr, ⊎_elim, arith}
use Rattle.std.proofs.lemmas.List.Elements.{Contains-append_left, Contains-append_right, Contains-append_cases}
use Rattle.std.specs.List.{slice_get, Contains, zip}
use mathlib.Core.Option.{some, some-injective, some-ne-none}
use lib.ListN.{get_elem?}
use Rattle.latch_law.specs.declared.knows.Statement as what
use Rattle.latch_law.specs.Rule.{IsSo}
use Rattle.latch_law.specs.Whole.{IsEntry}
use Rattle.list_facts.proofs.Places.{same_some}
use Rattle.map_history.specs.Operation.{Ask, Make}
use Rattle.map_history.specs.Reply.{MapReply, Done, reply_of}
use Rattle.map_history.specs.Report.{Columns, ScanPiece, Answer, Replied, LogFull, SpaceFull, Scanned, AnswerLine}
use Rattle.map_history.specs.LegalReport.{Line}
use Rattle.index_law.specs.Answers.{MadeChange, Word, Gives, Saying, Replies, Piece, Full, Look, speaks_at}
use Rattle.index_law.specs.Answers as word
use Rattle.forest_law.specs.State.{ForestState}
use Rattle.index_law.specs.State.{Entries}
use Rattle.index_law.specs.Rightness.{map_at, IsAllowed, AsksToWrite, IsShort, IsRight}
use Rattle.call_law.specs.Spoken.{OwnAnswer, Spoken, spoken, spoken_at, spoken_saying, spoken_piece, printed_word, sayings}
use Rattle.lane_law.specs.Worked.{lane_sayings}
use Rattle.lane_law.specs.Runs.{all_sayings}
use Rattle.list_facts.proofs.Elements.{contains_none, contains_one, contains_head, flat_contains, zip_get}

-- a change that is asked for is the entry before the point of its list, made by the number
pub record IsMadeAt (w : ForestState) (i point by : ℕ) (ask : Ask) : Type 0 where
  pub deed : MadeChange
  pub asked : ask ≡ Make deed.change
  pub above : 0 < point
  pub entry : IsEntry w i (point - 1) (record { change = deed; by = by })

-- the list has the point, and its map replies so there
pub record IsRepliedAt (w : ForestState) (i point : ℕ) (ask : Ask) (reply : MapReply) : Type 0 where
  pub list : Entries
  pub there : get_elem? w.lists i ≡ some list
  pub within : point ≤ length list
  pub reply_is : reply_of (map_at list point) ask ≡ reply

-- the list has the point, which is the largest that there may be, and its map allows there what is asked
pub record IsFullAt (w : ForestState) (i point : ℕ) (ask : Ask) : Type 0 where
  pub list : Entries
  pub there : get_elem? w.lists i ≡ some list
  pub within : point ≤ length list
  pub is_most : point ≡ w.max_changes
  pub allowed : IsAllowed (map_at list point) ask

-- what it means that the number was answered so; of scans nothing is meant here
abbrev pub IsAnswerSo : ForestState → ℕ → ℕ → Ask → Answer → Type 0
IsAnswerSo w i by ask (Replied reply point columns) = ((reply ≡ Done) × IsMadeAt w i point by ask) ⊎ ((reply ≢ Done) × IsRepliedAt w i point ask reply)
IsAnswerSo w i by ask (LogFull n columns) = IsFullAt w i n ask
IsAnswerSo w i by ask (SpaceFull columns) = AsksToWrite ask × IsShort w
IsAnswerSo w i by ask (Scanned pieces) = Unit {0}

abbrev IsSpokenSo : ForestState → Spoken → Type 0
IsSpokenSo w s = IsAnswerSo w s.index s.by s.ask s.answer

-- a right word that is spoken is so
word_so : (w : ForestState) (i p n : ℕ) (ask : Ask) (w' : Word) (bound : Option ℕ) (columns : Columns) → IsRight w i p (Replies ask w' bound columns) → speaks_at bound p ≡ true → IsAnswerSo w i n ask (printed_word w' p columns)
word_so w i p n ask (Gives reply) bound columns right speaks = let so = right.said speaks in inr (so.changes_nothing, record { list = right.list; there = right.there; within = right.point; reply_is = so.is })
word_so w i p n ask word.LogFull bound columns right speaks = let so = right.said speaks in record { list = right.list; there = right.there; within = right.point; is_most = so.0; allowed = so.1 }
word_so w i p n ask word.SpaceFull bound columns right speaks = right.said speaks

saying_so : (w : ForestState) (i p n : ℕ) (a : Saying) (s : Spoken) → IsRight w i p a → Contains (spoken_saying i p n a) s → IsSpokenSo w s
saying_so w i p n (Replies ask w' bound columns) s right c = pick (speaks_at bound p) refl c
  where
    pick : (b : Bool) → speaks_at bound p ≡ b → Contains (cond b (record { index = i; by = n; ask = ask; answer = printed_word w' p columns } ∷ []) []) s → IsSpokenSo w s
    pick true speaks c' = subst (IsSpokenSo w) (contains_one (record { index = i; by = n; ask = ask; answer = printed_word w' p columns }) s c') (word_so w i p n ask w' bound columns right speaks)
    pick false speaks c' = absurd (contains_none s c')
saying_so w i p n (Piece ask low high rows bound columns) s right c = pick (speaks_at bound p) c
  where
    pick : (b : Bool) → Contains (cond b (spoken_piece i p n ask columns ∷ []) []) s → IsSpokenSo w s
    pick true c' = subst (IsSpokenSo w) (contains_one (spoken_piece i p n ask columns) s c') tt
    pick false c' = absurd (contains_none s c')
saying_so w i p n (Full places) s right c = absurd (contains_none s c)
saying_so w i p n Look s right c = absurd (contains_none s c)

-- what an own answer says is so
pub spoken_so : (w : ForestState) (q : OwnAnswer) (s : Spoken) → IsSo IsRight w q.index q.point q.by q.what → Contains (spoken_at q) s → IsSpokenSo w s
spoken_so w q s so c = by_kind q.what so c
  where
    by_kind : (kind : what.Statement MadeChange Saying) → IsSo IsRight w q.index q.point q.by kind → Contains (spoken_at (record { index = q.index; point = q.point; by = q.by; what = kind })) s → IsSpokenSo w s
    by_kind (what.TheVariants.Change deed) so c = subst (IsSpokenSo w) (contains_one (record { index = q.index; by = q.by; ask = Make deed.change; answer = Replied Done q.point deed.columns }) s c) (inl (refl, record { deed = deed; asked = refl; above = so.0; entry = so.1 }))
    by_kind (what.TheVariants.Answer a) so c = saying_so w q.index q.point q.by a s so c

-- what is spoken comes from an own answer
pub spoken_from : (qs : List OwnAnswer) (s : Spoken) → Contains (spoken qs) s → (j : ℕ) × (q : OwnAnswer) × (get_elem? qs j ≡ some q) × Contains (spoken_at q) s
spoken_from [] s c = absurd (contains_none s c)
spoken_from (q ∷ qs) s c = ⊎_elim
    (λ (l : Contains (spoken_at q) s). (0, q, refl, l))
    (λ (r : Contains (spoken qs) s). let h = spoken_from qs s r in (suc h.0, h.1, h.2, h.3))
    (Contains-append_cases (spoken_at q) (spoken qs) s c)

pub spoken_contains : (qs : List OwnAnswer) (j : ℕ) (q : OwnAnswer) (s : Spoken) → get_elem? qs j ≡ some q → Contains (spoken_at q) s → Contains (spoken qs) s
spoken_contains [] j q s e c = absurd (some-ne-none q (sym e))
spoken_contains (x ∷ qs) zero q s e c = Contains-append_left (spoken_at x) (spoken qs) s (subst (λ z. Contains (spoken_at z) s) (sym (some-injective x q e)) c)
spoken_contains (x ∷ qs) (suc j) q s e c = Contains-append_right (spoken_at x) (spoken qs) s (spoken_contains qs j q s e c)

-- what a lane says is among what all lanes say
pub all_contains : (m n : ℕ) (lanes : List (List Line)) (told : List (List AnswerLine)) (k : ℕ) (lines : List Line) (answers : List AnswerLine) (s : Spoken) → m ≡ n + k → slice_get lanes k ≡ Some lines → slice_get told k ≡ Some answers → Contains (lane_sayings m lines answers) s → Contains (all_sayings n lanes told) s
all_contains m n [] told k lines answers s by e f c = absurd cc
all_contains m n (x ∷ lanes) [] k lines answers s by e f c = absurd cc
all_contains m n (x ∷ lanes) (y ∷ told) zero lines answers s by e f c = Contains-append_left (lane_sayings n x y) (all_sayings (n + 1) lanes told) s
    (subst (λ (z : ℕ × List Line × List AnswerLine). Contains (lane_sayings z.0 z.1 z.2) s) (λ i. (at i, same_some lines x (sym e) i, same_some answers y (sym f) i)) c)
  where
    at : m ≡ n
    at = omega arith
all_contains m n (x ∷ lanes) (y ∷ told) (suc k) lines answers s by e f c = Contains-append_right (lane_sayings n x y) (all_sayings (n + 1) lanes told) s (all_contains m (n + 1) lanes told k lines answers s (omega arith) e f c)

-- an answer that is no scan's is said as it is
said_plain : (i n : ℕ) (ask : Ask) (answer : Answer) → ((pieces : List ScanPiece) → answer ≢ Scanned pieces) → Contains (sayings i n ask answer) (record { index = i; by = n; ask = ask; answer = answer })
said_plain i n ask (Replied reply point columns) other = contains_head (record { index = i; by = n; ask = ask; answer = Replied reply point columns }) []
said_plain i n ask (LogFull k columns) other = contains_head (record { index = i; by = n; ask = ask; answer = LogFull k columns }) []
said_plain i n ask (SpaceFull columns) other = contains_head (record { index = i; by = n; ask = ask; answer = SpaceFull columns }) []
said_plain i n ask (Scanned pieces) other = absurd (other pieces refl)

pub lane_said : (n : ℕ) (lines : List Line) (answers : List AnswerLine) (place : ℕ) (line : Line) (answer : AnswerLine) → slice_get lines place ≡ Some line → slice_get answers place ≡ Some answer → ((pieces : List ScanPiece) → answer.answer ≢ Scanned pieces)
    → Contains (lane_sayings n lines answers) (record { index = line.op.index; by = n; ask = line.op.ask; answer = answer.answer })
lane_said n lines answers place line answer e f other = flat_contains (λ (x : Line × AnswerLine). sayings x.0.op.index n x.0.op.ask x.1.answer) (zip lines answers) place (line, answer) (record { index = line.op.index; by = n; ask = line.op.ask; answer = answer.answer }) (zip_get lines answers place line answer e f) (said_plain line.op.index n line.op.ask answer.answer other)
