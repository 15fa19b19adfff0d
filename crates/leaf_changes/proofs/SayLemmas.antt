-- An answer that is said while the leaf is held is the one that is told.
use Rattle.std.proofs.Common.{◌≡◌, ◌≢◌, ℕ, true, ◌&&◌, [], ◌∷◌, length, length-append, set, sym, ap, subst, ◌∙◌, arith, refl, Option, Some, None, Contains}
use Rattle.key_tuple.specs.Order.{FieldList}
use Rattle.latch_law.specs.Fitting.{DidRead}
use Rattle.latch_law.specs.Views.{answer_said, reading}
use Rattle.list_facts.proofs.Places.{same_some}
use Rattle.latch_space.specs.Passes.{view}
use Rattle.map_history.specs.declared.reply.Reply.{Reply}
use Rattle.map_history.specs.declared.reply.Reply.TheVariants as words
use Rattle.map_history.specs.Map.{Pair, Map, map_after}
use Rattle.map_history.specs.Operation.{Ask}
use Rattle.map_history.specs.Reply.{MapReply, Value, Row, Done, Absent, Duplicate, reply_of}
use Rattle.map_history.specs.Report.{Columns, Answer, Replied}
use Rattle.map_history.specs.Report as answers
use Rattle.map_history.specs.LegalReport.{Mark, marks_of, is_done, has_form, may_reply}
use Rattle.map_history.specs.Told as tells
use Rattle.tree_law.specs.Pages.{row_pairs}
use Rattle.index_law.specs.Answers.{Word, Gives, LogFull, SpaceFull, Replies}
use Rattle.index_law.specs.Meanings.{reply_word, gives, said_word}
use Rattle.index_law.specs.Rightness.{IsRight, map_at}
use Rattle.index_law.specs.State.{changes}
use Rattle.forest_law.specs.Law.{IsLawful}
use Rattle.forest_law.specs.Objects.{IsFrameOf}
use Rattle.forest_law.specs.References.{IsReference}
use Rattle.forest_world.specs.Held.{TreePass}
use Rattle.call_law.specs.Hands.{KnowsFrame}
use Rattle.call_law.specs.Once.{HasFulls, IsRightBy, AnswersOnce}
use Rattle.call_law.specs.Spoken.{View, OwnAnswer, printed_word, sayings}
use Rattle.buffer_pool.proofs.AddedLemmas.{only_said, read_adds}
use Rattle.engine_law.specs.declared.found.Found.{Found}
use Rattle.engine_law.specs.Says.{SeesFull, SaysOnce, columns_by}
use Rattle.leaf_changes.specs.Says.{MaySay, TellsMost, CanSay}
use Rattle.engine_law.specs.Tells.{TellsPoint}
use Rattle.leaf_changes.proofs.HoldLemmas.{frame_there}
use Rattle.engine_law.proofs.SeenLemmas.{one_mark, extends_length, now_seen}
use Rattle.engine_law.proofs.WordLemmas.{map_at_end}
use Rattle.leaf_changes.proofs.RightLemmas.{reply_here, allowed_here}

-- a reply that changes nothing
no_change : (r : MapReply) → r ≢ Done → is_done r ≡ 0
no_change (Value v) apart = refl
no_change (Row k v) apart = refl
no_change Done apart = absurd (apart refl)
no_change Absent apart = refl
no_change Duplicate apart = refl

-- the words of a map's reply print as that reply
printed_reply : (columns : Columns) (point : ℕ) (o : Option MapReply) (word : Word)
    → gives o ≡ Some word
    → tells.replied_at o (Some point) columns ≡ Some (printed_word word point columns)
printed_reply columns point None word e = absurd cc
printed_reply columns point (Some r) word e =
    ap (λ w. Some (printed_word w point columns)) (same_some (Gives r) word e)

-- a word is one answer
one_saying : (columns : Columns) (i n : ℕ) (ask : Ask) (word : Word) (point : ℕ)
    → sayings i n ask (printed_word word point columns)
    ≡ record { index = i; by = n; ask = ask; answer = printed_word word point columns } ∷ []
one_saying columns i n ask (Gives r) point = refl
one_saying columns i n ask LogFull point = refl
one_saying columns i n ask SpaceFull point = refl

module _ (p : TreePass) (i : ℕ) (key : FieldList) (ask : Ask) (reply : Reply) (row : Pair)
    (can : CanSay p i key ask reply row) (found : Found) where
  abbrev columns : Columns
  columns = columns_by found

  abbrev rows : Map
  rows = row_pairs can.holds.leaf.page.is.page.rows

  module _ (q : TreePass) (point : ℕ)
      (did : DidRead IsLawful IsRight IsReference (view p) i
      (said_word ask (reply_word ask reply row) None columns) point (view q)) where
    abbrev most : ℕ
    most = (view p).terms.max_changes

    view_is : view q ≡ reading (view p) i did.list (Replies ask can.word None columns)
    view_is = did.view
        ∙ ap (λ o. reading (view p) i did.list (said_word ask o None columns)) can.is_word

    seen_is : (view q).seen ≡ set (view p).seen i did.list
    seen_is = ap (λ (z : View). z.seen) view_is

    then_at : IsFrameOf did.stands.whole.shape did.stands.whole.objects can.block can.frame
    then_at = frame_there (view q) can.block can.frame
        (subst (λ (z : View). KnowsFrame z can.block can.frame) (sym view_is) can.holds.has.held)
        did.stands.whole did.stands.fits

    reply_then : reply_of (map_after (changes did.list)) ask ≡ reply_of rows ask
    reply_then = sym (reply_here p i key ask reply row can did.stands.whole did.stands.is_lawful then_at did.list
        did.stands.list)

    -- at a list that was seen full the point is the most
    full_point : SeesFull (view p) i → point ≡ most
    full_point full = let more = did.extends full.list full.seen in
        let whole = ap length more.1 in
        let within = did.stands.fits.bounded i did.list did.stands.list in
        let terms = did.stands.fits.max_changes
        ∙ ap (λ (z : View). z.terms.max_changes) view_is in
        let at = did.point in let seen = full.full in
        omega (arith, whole, length-append full.list more.0, within, terms, at, seen)

    answer_is : (r : Reply) (word : Word) → reply_word ask r row ≡ Some word
        → MaySay (view p) i rows ask word → TellsMost r most
        → tells.answer_of ask
        (record { reply = r; point = Some point; how = found.how; note = found.note }) row
        ≡ Some (printed_word word point columns)
    answer_is words.Found word e may tell =
        printed_reply columns point (tells.said ask words.Found row) word e
    answer_is words.Absent word e may tell =
        printed_reply columns point (tells.said ask words.Absent row) word e
    answer_is words.Ok word e may tell = printed_reply columns point (tells.said ask words.Ok row) word e
    answer_is words.Duplicate word e may tell =
        printed_reply columns point (tells.said ask words.Duplicate row) word e
    answer_is words.SpaceFull word e may tell =
        absurd (subst (MaySay (view p) i rows ask) (sym (same_some SpaceFull word e)) may)
    answer_is (words.LogFull n) word e may tell =
        let full = subst (MaySay (view p) i rows ask) (sym (same_some LogFull word e)) may in
        ap (λ k. Some (answers.LogFull k columns)) (tell ∙ sym (full_point full.0))
        ∙ ap (λ w. Some (printed_word w point columns)) (same_some LogFull word e)

    form_is : (word : Word) → MaySay (view p) i rows ask word
        → has_form ask (printed_word word point columns) ≡ true
    form_is (Gives r) may = ap (λ b. b && may_reply ask r) found.stands ∙ may.form
    form_is LogFull may =
        ap (λ a. has_form a (answers.LogFull point columns)) may.1.asked ∙ found.stands
    form_is SpaceFull may = absurd may

    mark_is : (word : Word) (m : Mark) → MaySay (view p) i rows ask word
        → Contains (marks_of (printed_word word point columns)) m
        → (m.point ≡ point) × (m.grows ≡ 0)
    mark_is (Gives r) m may among =
        let same = one_mark (record { point = point; grows = is_done r }) m among in (
          ap (λ (z : Mark). z.point) (sym same),
          ap (λ (z : Mark). z.grows) (sym same) ∙ no_change r may.changes_nothing,
        )
    mark_is LogFull m may among =
        let same = one_mark (record { point = point; grows = 0 }) m among in
        (ap (λ (z : Mark). z.point) (sym same), ap (λ (z : Mark). z.grows) (sym same))
    mark_is SpaceFull m may among = absurd may

    right_by : (word : Word) → MaySay (view p) i rows ask word
        → IsRightBy most did.list ask (printed_word word point columns)
    right_by (Gives r) may = let none = no_change r may.changes_nothing in
        let at = did.point in
        ap (λ n. reply_of (map_at did.list n) ask) (omega (arith, none, at))
        ∙ (ap (λ m. reply_of m ask) (map_at_end did.list) ∙ (reply_then ∙ may.is))
    right_by LogFull may = (
      full_point may.0,
      did.point,
      allowed_here p i key ask reply row can did.stands.whole did.stands.is_lawful then_at did.list did.stands.list may.1,
    )
    right_by SpaceFull may = absurd may

    -- at a full list the point is its length
    point_is : (r : Reply) (word : Word) → reply_word ask r row ≡ Some word
        → MaySay (view p) i rows ask word → TellsMost r most → TellsPoint r (Some point)
    point_is words.Found word e may tell = refl
    point_is words.Absent word e may tell = refl
    point_is words.Ok word e may tell = refl
    point_is words.Duplicate word e may tell = refl
    point_is words.SpaceFull word e may tell =
        absurd (subst (MaySay (view p) i rows ask) (sym (same_some SpaceFull word e)) may)
    point_is (words.LogFull n) word e may tell =
        ap Some (full_point (subst (MaySay (view p) i rows ask)
        (sym (same_some LogFull word e)) may).0 ∙ sym tell)

    -- nothing is told space-full
    has_page : reply ≢ words.SpaceFull
    has_page full = subst (MaySay (view p) i rows ask)
        (sym (same_some SpaceFull can.word
        (ap (λ r. reply_word ask r row) (sym full) ∙ can.is_word))) can.may

    -- and no answer comes with a full
    fulls_are : (word : Word) → MaySay (view p) i rows ask word
        → HasFulls (printed_word word point columns) []
    fulls_are (Gives r) may = refl
    fulls_are LogFull may = refl
    fulls_are SpaceFull may = absurd may

    -- what was said
    abbrev answered : OwnAnswer
    answered = answer_said (view p) i did.list (Replies ask can.word None columns)

    once : AnswersOnce (view p) (view q) i ask (printed_word can.word point columns)
    once = record {
      added = only_said answered;
      adds = read_adds (view p) (view q) i did.list (Replies ask can.word None columns)
          did.extends view_is;
      given = ((refl, refl), tt);
      said = ap (λ n. record {
        index = i;
        by = (view p).low;
        ask = ask;
        answer = printed_word can.word n columns;
      } ∷ []) (sym did.point) ∙ sym (one_saying columns i (view p).low ask can.word point);
      fulls = fulls_are can.word can.may;
      form = form_is can.word can.may;
      least = λ m ys among seen. (let mark = mark_is can.word m can.may among in
          let long = extends_length (view p) i did.list did.extends (view q).seen seen_is ys seen in
          let at = did.point in omega (arith, mark.0, mark.1, long, at));
      most = λ m zs among seen. (let mark = mark_is can.word m can.may among in
          let same = ap length (now_seen (view p) i did.list did.extends (view q).seen seen_is zs
          seen) in
          let at = did.point in omega (arith, mark.0, same, at));
      right = λ zs seen. subst
          (λ z. IsRightBy most z ask (printed_word can.word point columns))
          (now_seen (view p) i did.list did.extends (view q).seen seen_is zs seen)
          (right_by can.word can.may);
    }

    -- what is told is the one answer
    pub says_once : SaysOnce (view p) (view q) i ask
        (record { reply = reply; point = Some point; how = found.how; note = found.note }) row
    unfolding once
    says_once = record {
      answer = printed_word can.word point columns;
      is_told = record {
        is = answer_is reply can.word can.is_word can.may can.most;
        point = point_is reply can.word can.is_word can.may can.most;
        key = can.row_key;
        stands = found.stands;
      };
      once = once;
      only = record { refused = refl; references = refl };
      placed = has_page;
    }
