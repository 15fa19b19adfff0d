-- A seek's reply is the one that is told, where it speaks.
use Rattle.std.proofs.Common.{◌≡◌, ◌≢◌, ℕ, true, false, ◌&&◌, cond, [], ◌∷◌, ◌++◌, ◌-◌, length, set, sym, ap, subst, ◌∙◌, arith, refl, Option, Some, None, Contains}
use Rattle.key_tuple.specs.Order.{FieldList}
use Rattle.key_tuple.specs.declared.mode.Mode.{Mode}
use Rattle.latch_law.specs.declared.knows.Statement.TheVariants as what
use Rattle.latch_law.specs.Fitting.{DidRead, MayAnswer}
use Rattle.latch_law.specs.Views.{answer_said, reading}
use Rattle.list_facts.proofs.Places.{same_some}
use Rattle.map_history.specs.declared.reply.Reply.{Reply}
use Rattle.map_history.specs.declared.reply.Reply.TheVariants as words
use Rattle.map_history.specs.Map.{Pair, Map, map_after}
use Rattle.map_history.specs.Operation.{Ask, Seek}
use Rattle.map_history.specs.Reply.{MapReply, Done, row_reply, sought, reply_of}
use Rattle.map_history.specs.Report.{Columns, Replied}
use Rattle.map_history.specs.LegalReport.{Mark, is_done, may_reply}
use Rattle.map_history.specs.Told as tells
use Rattle.index_law.specs.Answers.{Word, Gives, Saying, Replies, speaks_at}
use Rattle.index_law.specs.Meanings.{reply_word, said_word}
use Rattle.index_law.specs.Rightness.{IsRight, IsSaid, IsWord, map_at}
use Rattle.index_law.specs.State.{Entries, changes}
use Rattle.forest_law.specs.Law.{IsLawful}
use Rattle.forest_law.specs.References.{IsReference}
use Rattle.forest_law.specs.State.{ForestState}
use Rattle.call_law.specs.Once.{IsRightBy, AnswersOnce}
use Rattle.call_law.specs.Spoken.{View, OwnAnswer, printed_word, spoken_saying}
use Rattle.call_law.specs.Trace.{full_places}
use Rattle.buffer_pool.proofs.AddedLemmas.{only_said, read_adds}
use Rattle.engine_law.specs.declared.found.Found.{Found}
use Rattle.engine_law.specs.Says.{SaysOnce, OnlyLooks, columns_by}
use Rattle.index_seeks.specs.Seeks.{CanTell}
use Rattle.engine_law.specs.Tells.{TellsPoint}
use Rattle.engine_law.proofs.WordLemmas.{says_word}
use Rattle.engine_law.proofs.WordLemmas.{map_at_end}
use Rattle.index_seeks.proofs.SawLemmas.{fits_known, known_before}
use Rattle.engine_law.proofs.SeenLemmas.{one_mark, extends_length, now_seen}

-- a row or none is what a seek may be replied, and changes nothing
row_form : (mode : Mode) (tuple : FieldList) (o : Option Pair)
    → may_reply (Seek mode tuple) (row_reply o) ≡ true
row_form mode tuple None = refl
row_form mode tuple (Some row) = refl

row_plain : (o : Option Pair) → row_reply o ≢ Done
row_plain None e = cc
row_plain (Some row) e = cc

row_undone : (o : Option Pair) → is_done (row_reply o) ≡ 0
row_undone None = refl
row_undone (Some row) = refl

-- what a word says is right if the word is, where it speaks
said_right : (columns : Columns) (w : ForestState) (xs : Entries) (ask : Ask) (o : Option Word)
    (bound : Option ℕ)
    → (speaks_at bound (length xs) ≡ true → (word : Word) → o ≡ Some word
    → IsWord w xs (length xs) ask word)
    → IsSaid w xs (length xs) (said_word ask o bound columns)
said_right columns w xs ask None bound right = tt
said_right columns w xs ask (Some word) bound right = λ speaks. right speaks word refl

-- at a point where a reply doesn't speak, nothing is printed of it
silent_saying : (columns : Columns) (i point n : ℕ) (ask : Ask) (o : Option Word) (bound : Option ℕ)
    → speaks_at bound point ≡ false
    → spoken_saying i point n (said_word ask o bound columns) ≡ []
silent_saying columns i point n ask None bound silent = refl
silent_saying columns i point n ask (Some word) bound silent =
    ap (λ b. cond b (record {
      index = i;
      by = n;
      ask = ask;
      answer = printed_word word point columns;
    } ∷ []) []) silent

-- and no reply comes with a full
no_full : (columns : Columns) (ask : Ask) (o : Option Word) (bound : Option ℕ)
    → full_places (what.Answer (said_word ask o bound columns)) ≡ []
no_full columns ask None bound = refl
no_full columns ask (Some word) bound = refl

-- what is said is the answer that is told
answer_is : (found : Found) (ask : Ask) (r : Reply) (row : Pair) (point : ℕ) (reply : MapReply)
    → tells.said ask r row ≡ Some reply
    → tells.answer_of ask
    (record { reply = r; point = Some point; how = found.how; note = found.note }) row
    ≡ Some (Replied reply point (columns_by found))
answer_is found ask words.Found row point reply says =
    ap (λ o. tells.replied_at o (Some point) (columns_by found)) says
answer_is found ask words.Absent row point reply says =
    ap (λ o. tells.replied_at o (Some point) (columns_by found)) says
answer_is found ask words.Ok row point reply says =
    ap (λ o. tells.replied_at o (Some point) (columns_by found)) says
answer_is found ask words.Duplicate row point reply says =
    ap (λ o. tells.replied_at o (Some point) (columns_by found)) says
answer_is found ask words.SpaceFull row point reply says = absurd cc
answer_is found ask (words.LogFull n) row point reply says = absurd cc

point_is : (ask : Ask) (r : Reply) (row : Pair) (point : ℕ) (reply : MapReply)
    → tells.said ask r row ≡ Some reply → TellsPoint r (Some point)
point_is ask words.Found row point reply says = refl
point_is ask words.Absent row point reply says = refl
point_is ask words.Ok row point reply says = refl
point_is ask words.Duplicate row point reply says = refl
point_is ask words.SpaceFull row point reply says = absurd cc
point_is ask (words.LogFull n) row point reply says = absurd cc

has_page : (ask : Ask) (r : Reply) (row : Pair) (reply : MapReply)
    → tells.said ask r row ≡ Some reply → r ≢ words.SpaceFull
has_page ask words.Found row reply says e = cc
has_page ask words.Absent row reply says e = cc
has_page ask words.Ok row reply says e = cc
has_page ask words.Duplicate row reply says e = cc
has_page ask words.SpaceFull row reply says e = absurd cc
has_page ask (words.LogFull n) row reply says e = absurd cc

module _ (v : View) (i : ℕ) (mode : Mode) (tuple : FieldList) (bound : Option ℕ) (reply : Reply)
    (row : Pair) (can : CanTell v i mode tuple bound reply row) (found : Found) where
  abbrev columns : Columns
  columns = columns_by found

  abbrev ask : Ask
  ask = Seek mode tuple

  abbrev said : Saying
  said = said_word ask (reply_word ask reply row) bound columns

  -- the reply may be given
  pub may_tell : MayAnswer IsLawful IsRight IsReference v i said
  may_tell w law fits xs listed = record {
    list = xs;
    there = listed;
    point = omega arith;
    said = said_right columns w xs ask (reply_word ask reply row) bound (λ speaks word is.
        (let map = map_after (changes xs) in
        let says = can w law (fits_known w v fits) xs listed speaks in
        subst (IsWord w xs (length xs) ask)
        (same_some (Gives (reply_of map ask)) word
        (sym (says_word map ask reply row says) ∙ is))
        (record {
          form = row_form mode tuple (sought mode tuple map);
          is = ap (λ m. reply_of m ask) (map_at_end xs);
          changes_nothing = row_plain (sought mode tuple map);
        })));
  }

  module _ (v' : View) (point : ℕ)
      (did : DidRead IsLawful IsRight IsReference v i said point v') where
    abbrev answered : OwnAnswer
    answered = answer_said v i did.list said

    -- where it doesn't speak it was a look
    pub tells_nothing : speaks_at bound point ≡ false → OnlyLooks v v' i
    tells_nothing silent = record {
      quiet = record {
        added = only_said answered;
        adds = read_adds v v' i did.list said did.extends did.view;
        given = ((refl, refl), tt);
        said = ap (λ z. z ++ [])
            (silent_saying columns i (length did.list) v.low ask (reply_word ask reply row) bound
            (ap (speaks_at bound) (sym did.point) ∙ silent));
        fulls = ap (λ z. z ++ []) (no_full columns ask (reply_word ask reply row) bound);
      };
      only = record { refused = refl; references = refl };
    }

    -- and where it does it was the one answer
    module _ (speaks : speaks_at bound point ≡ true) where
      abbrev map : Map
      map = map_after (changes did.list)

      abbrev answer : MapReply
      answer = row_reply (sought mode tuple map)

      at_end : speaks_at bound (length did.list) ≡ true
      at_end = ap (speaks_at bound) (sym did.point) ∙ speaks

      says : tells.Says map ask reply row
      says = can did.stands.whole did.stands.is_lawful
          (known_before v v' i said point did did.stands.whole
          (fits_known did.stands.whole v' did.stands.fits)) did.list did.stands.list at_end

      abbrev replies : Saying
      replies = Replies ask (Gives answer) bound columns

      view_is : v' ≡ reading v i did.list replies
      view_is = did.view ∙ ap (λ o. reading v i did.list (said_word ask o bound columns))
          (says_word map ask reply row says)

      seen_is : v'.seen ≡ set v.seen i did.list
      seen_is = ap (λ (z : View). z.seen) view_is

      mark_is : (m : Mark) → Contains (record { point = point; grows = is_done answer } ∷ []) m
          → (m.point ≡ point) × (m.grows ≡ 0)
      mark_is m among =
          let same = one_mark (record { point = point; grows = is_done answer }) m among in (
            ap (λ (z : Mark). z.point) (sym same),
            ap (λ (z : Mark). z.grows) (sym same) ∙ row_undone (sought mode tuple map),
          )

      right_here : reply_of (map_at did.list (point - is_done answer)) ask ≡ answer
      right_here = let none = row_undone (sought mode tuple map) in let at = did.point in
          ap (λ n. reply_of (map_at did.list n) ask) (omega (arith, none, at))
          ∙ ap (λ m. reply_of m ask) (map_at_end did.list)

      once : AnswersOnce v v' i ask (Replied answer point columns)
      once = record {
        added = only_said (answer_said v i did.list replies);
        adds = read_adds v v' i did.list replies did.extends view_is;
        given = ((refl, refl), tt);
        said = ap (λ b. cond b (record {
          index = i;
          by = v.low;
          ask = ask;
          answer = Replied answer (length did.list) columns;
        } ∷ []) [] ++ []) at_end
            ∙ ap (λ n. record {
              index = i;
              by = v.low;
              ask = ask;
              answer = Replied answer n columns;
            } ∷ []) (sym did.point);
        fulls = refl;
        form = ap (λ b. b && may_reply ask answer) found.stands
            ∙ row_form mode tuple (sought mode tuple map);
        least = λ m ys among seen. (let mark = mark_is m among in
            let long = extends_length v i did.list did.extends v'.seen seen_is ys seen in
            let at = did.point in omega (arith, mark.0, mark.1, long, at));
        most = λ m zs among seen. (let mark = mark_is m among in
            let same = ap length (now_seen v i did.list did.extends v'.seen seen_is zs seen) in
            let at = did.point in omega (arith, mark.0, same, at));
        right = λ zs seen. subst
            (λ z. IsRightBy v.terms.max_changes z ask (Replied answer point columns))
            (now_seen v i did.list did.extends v'.seen seen_is zs seen) right_here;
      }

      pub tells_answer : SaysOnce v v' i ask
          (record { reply = reply; point = Some point; how = found.how; note = found.note }) row
      unfolding once
      tells_answer = record {
        answer = Replied answer point columns;
        is_told = record {
          is = answer_is found ask reply row point answer says;
          point = point_is ask reply row point answer says;
          key = tt;
          stands = found.stands;
        };
        once = once;
        only = record { refused = refl; references = refl };
        placed = has_page ask reply row answer says;
      }
