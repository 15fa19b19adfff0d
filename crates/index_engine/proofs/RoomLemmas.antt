-- A write is told that there is no page for its row.
use Rattle.std.proofs.Common.{◌≡◌, ℕ, suc, true, List, [], ◌∷◌, ◌++◌, sym, arith, ap, subst, ◌∙◌, refl, None}
use Rattle.key_tuple.specs.Order.{FieldList}
use mathlib.Core.Option.{some}
use lib.ListN.{get_elem?}
use Rattle.list_facts.proofs.Places.{at_further}
use Rattle.latch_law.specs.declared.knows.Statement.{Statement}
use Rattle.latch_law.specs.declared.knows.Statement.TheVariants as what
use Rattle.latch_law.specs.Fitting.{DidRead, MayAnswer}
use Rattle.latch_law.specs.Rule.{IsSo}
use Rattle.latch_space.specs.Passes.{view}
use Rattle.map_history.specs.declared.reply.Reply.TheVariants as words
use Rattle.map_history.specs.declared.reply.Told.{Told}
use Rattle.map_history.specs.Map.{Put, Set}
use Rattle.map_history.specs.Operation.{Ask}
use Rattle.map_history.specs.Report.{Columns, SpaceFull}
use Rattle.map_history.specs.LegalReport.{has_form}
use Rattle.index_law.specs.Answers.{MadeChange, Where, Saying, Replies, Piece, Full, Look}
use Rattle.index_law.specs.Answers as answers
use Rattle.index_law.specs.Meanings.{lent_row}
use Rattle.index_law.specs.Rightness.{IsRight, AsksToWrite}
use Rattle.forest_law.specs.Law.{IsLawful}
use Rattle.forest_law.specs.References.{IsReference}
use Rattle.forest_world.specs.Held.{TreePass}
use Rattle.call_law.specs.Spoken.{OwnAnswer, sayings}
use Rattle.call_law.specs.Trace.{AreGivenAt, full_places, fulls}
use Rattle.call_law.proofs.TraceLemmas.{full_then_word}
use Rattle.latch_law.specs.Views.{answer_said}
use Rattle.buffer_pool.proofs.AddedLemmas.{only_said, read_adds}
use Rattle.tree_growth.specs.Growing.{FindsNoRoom}
use Rattle.index_engine.specs.declared.write.Write.{Write}
use Rattle.index_engine.specs.declared.write.Write.TheVariants as write
use Rattle.index_engine.specs.Writes.{write_asked, KnowsShort, SaysNoRoom, LacksPage}
use Rattle.engine_law.specs.declared.found.Found.{Found}
use Rattle.engine_law.specs.Says.{columns_by}
use Rattle.leaf_changes.specs.Says.{told_space_full}
use Rattle.engine_law.specs.Tells.{HasKeyOf}

module _ (p q : TreePass) (i point : ℕ) (ask : Ask) (columns : Columns)
    (did : DidRead IsLawful IsRight IsReference (view p) i
    (Replies ask answers.SpaceFull None columns) point (view q)) where
  -- the word
  abbrev said_full : OwnAnswer
  said_full = answer_said (view p) i did.list (Replies ask answers.SpaceFull None columns)

  -- it was said, and nothing else
  pub says_no_room : SaysNoRoom (view p) (view q) i ask columns
  says_no_room = record {
    added = only_said said_full;
    adds = read_adds (view p) (view q) i did.list (Replies ask answers.SpaceFull None columns)
        did.extends did.view;
    given = ((refl, refl), tt);
    said = refl;
    fulls = refl;
  }

-- a row is to be written, and it may be told that there is no page for it
pub record AsksForRoom (ask : Ask) : Type 0 where
  pub writes : AsksToWrite ask
  pub form : (found : Found) → has_form ask (SpaceFull (columns_by found)) ≡ true
  pub key : HasKeyOf ask words.SpaceFull (lent_row None)

-- no number was free, and the write was told so
pub room_then_word : (p q r : TreePass) (i : ℕ) (ask : Ask) (found : Found) (told : Told)
    → AsksForRoom ask → FindsNoRoom p i q
    → SaysNoRoom (view q) (view r) i ask (columns_by found)
    → told ≡ told_space_full found → LacksPage (view p) (view r) i ask told
room_then_word p q r i ask found told asks none word is =
    let columns = columns_by found in
    let low = none.grows.adds.numbers.low in
    let once = full_then_word (view p) (view q) (view r) i ask columns none.places none.added
    word.added none.grows.adds word.adds none.given
    (subst (λ n. AreGivenAt i n word.added.said) low word.given) none.silent none.full
    (word.said ∙ ap (λ n. sayings i n ask (SpaceFull columns)) low) word.fulls (asks.form found)
    asks.writes in
    subst (LacksPage (view p) (view r) i ask) (sym is) (record {
      tells = record {
        answer = SpaceFull columns;
        is_told = record { is = refl; point = refl; key = asks.key; stands = found.stands };
        once = once;
      };
      full = refl;
    })

-- so a write asks
pub write_asks : (w : Write) (key : FieldList) (value : List ℕ)
    → AsksForRoom (write_asked w key value)
write_asks write.Put key value = record {
  writes = record { change = Put key value; asked = refl; row = refl };
  form = λ found. found.stands;
  key = tt;
}
write_asks write.Set key value = record {
  writes = record { change = Set key value; asked = refl; row = refl };
  form = λ found. found.stands;
  key = tt;
}

-- a full that names these places is among what was said
record HasFullAmong (qs : List OwnAnswer) (places : List Where) : Type 0 where
  place : ℕ
  answer : OwnAnswer
  there : get_elem? qs place ≡ some answer
  is : answer.what ≡ what.Answer (Full places)

-- so it is where one answer more was said before
said_before : (q : OwnAnswer) (qs : List OwnAnswer) (places : List Where) → HasFullAmong qs places
    → HasFullAmong (q ∷ qs) places
said_before q qs places full = record {
  place = suc full.place;
  answer = full.answer;
  there = full.there;
  is = full.is;
}

-- the first answer says the full, or those after it have it
said_first : (said : Statement MadeChange Saying) (q : OwnAnswer) (qs : List OwnAnswer)
    (places : List Where) → q.what ≡ said → full_places said ++ fulls qs ≡ places ∷ []
    → (fulls qs ≡ places ∷ [] → HasFullAmong qs places) → HasFullAmong (q ∷ qs) places
said_first (what.Change deed) q qs places is one later = said_before q qs places (later one)
said_first (what.Answer (Replies ask word bound columns)) q qs places is one later =
    said_before q qs places (later one)
said_first (what.Answer (Piece ask low high rows bound columns)) q qs places is one later =
    said_before q qs places (later one)
said_first (what.Answer Look) q qs places is one later = said_before q qs places (later one)
said_first (what.Answer (Full named)) q qs places is one later =
    let same : named ≡ places = cc in record {
      place = 0;
      answer = q;
      there = refl;
      is = is ∙ ap (λ z. what.Answer (Full z)) same;
    }

-- what has one full has an answer that says it
full_said : (qs : List OwnAnswer) (places : List Where) → fulls qs ≡ places ∷ []
    → HasFullAmong qs places
full_said [] places one = absurd cc
full_said (q ∷ qs) places one = said_first q.what q qs places refl one (full_said qs places)

-- who was told that no number is free knows that the pages are few
pub knows_short : (p q : TreePass) (i : ℕ) → FindsNoRoom p i q → KnowsShort (view q)
knows_short p q i none w law fits =
    let full = full_said none.added.said none.places none.full in
    let at = at_further (view p).said none.added.said full.place full.answer full.there in
    let so = fits.so at.0 full.answer
    (ap (λ qs. get_elem? qs at.0) none.grows.adds.said ∙ at.1) in
    let right : IsRight w full.answer.index full.answer.point (Full none.places) =
    subst (IsSo IsRight w full.answer.index full.answer.point full.answer.by) full.is so in
    right.said.2

-- and may tell a write so
pub may_say_full : (p : TreePass) (i : ℕ) (ask : Ask) (columns : Columns) → KnowsShort (view p)
    → AsksToWrite ask → MayAnswer IsLawful IsRight IsReference (view p) i
    (Replies ask answers.SpaceFull None columns)
may_say_full p i ask columns short writes w law fits xs listed = record {
  list = xs;
  there = listed;
  point = omega arith;
  said = λ speaks. (writes, short w law fits);
}
