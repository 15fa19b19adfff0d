-- What the rows of the held leaf make right is right by the list of its index.
use Rattle.std.proofs.Common.{◌≡◌, ℕ, true, cond, ◌++◌, length, length-append, sym, ap, subst, ◌∙◌, arith, None}
use Rattle.std.proofs.lemmas.List.{length-map, take_all}
use mathlib.Core.Option.{some, some-injective}
use lib.ListN.{get_elem?}
use Rattle.key_tuple.specs.Order.{FieldList}
use Rattle.key_tuple.specs.KeyPlace.{At, within}
use Rattle.latch_law.specs.declared.knows.Entry.{Entry}
use Rattle.latch_law.specs.Fitting.{MayAnswer}
use Rattle.latch_space.specs.Passes.{view}
use Rattle.map_history.specs.declared.reply.Reply.{Reply}
use Rattle.map_history.specs.Map.{Pair, Map, MapChange, key_of, value_at, is_allowed, map_after}
use Rattle.map_history.specs.Operation.{Ask, Get, Make, Seek, Scan}
use Rattle.map_history.specs.Reply.{Done, value_reply, refusal, reply_of}
use Rattle.map_history.specs.Report.{Columns}
use Rattle.index_page.specs.Page.{PageRows}
use Rattle.tree_law.specs.Pages.{row_pairs}
use Rattle.index_law.specs.Answers.{MadeChange, Word, Gives, LogFull, SpaceFull}
use Rattle.index_law.specs.Meanings.{reply_word, said_word}
use Rattle.index_law.specs.Rightness.{IsRight, IsWord, IsAllowed, map_at}
use Rattle.index_law.specs.State.{Entries, changes}
use Rattle.forest_law.specs.declared.objects.Frame.{Frame}
use Rattle.forest_law.specs.Law.{IsLawful}
use Rattle.forest_law.specs.Objects.{IsFrameOf}
use Rattle.forest_law.specs.References.{IsReference}
use Rattle.forest_law.specs.State.{ForestState}
use Rattle.forest_world.specs.Held.{TreePass}
use Rattle.buffer_pool.specs.Forests.{FitsTrees}
use Rattle.tree_facts.specs.Leaves.{TellsMap}
use Rattle.tree_facts.specs.TreeFrames.{low_of, high_of}
use Rattle.tree_facts.proofs.LeafLemmas.{leaves_tell_maps}
use Rattle.engine_law.specs.Says.{SeesFull}
use Rattle.engine_law.proofs.WordLemmas.{map_at_end}
use Rattle.leaf_changes.specs.Says.{MaySay, AsksOf, CanSay}
use Rattle.leaf_changes.proofs.HoldLemmas.{frame_there}

-- the key is in the bounds of the frame
abbrev IsInside : Frame → FieldList → Type 0
IsInside f key = within (low_of f) (high_of f) (At key) ≡ true

-- what is asked of a key is replied by rows that have the map's value there as by the map
same_reply : (key : FieldList) (ask : Ask) (rows m : Map) → AsksOf key ask
    → ((k : FieldList) → k ≡ key → value_at k rows ≡ value_at k m)
    → ((c : MapChange) → key_of c ≡ key → is_allowed rows c ≡ is_allowed m c)
    → reply_of rows ask ≡ reply_of m ask
same_reply key (Get k) rows m about values allows = ap value_reply (values k about)
same_reply key (Make c) rows m about values allows =
    ap (λ b. cond b Done (refusal c)) (allows c about)
same_reply key (Seek mode tuple) rows m about values allows = absurd about
same_reply key (Scan from to limit) rows m about values allows = absurd about

module _ (p : TreePass) (i : ℕ) (key : FieldList) (ask : Ask) (reply : Reply) (row : Pair)
    (can : CanSay p i key ask reply row) where
  abbrev pub page : PageRows
  page = can.holds.leaf.page.is.page

  abbrev pub rows : Map
  rows = row_pairs page.rows

  module _ (w : ForestState) (law : IsLawful w)
      (at : IsFrameOf w.shape w.objects can.block can.frame) (xs : Entries)
      (listed : get_elem? w.lists i ≡ some xs) where
    tells_here : TellsMap can.frame page xs
    tells_here = let is = can.holds.leaf.page.is in
        leaves_tell_maps w law can.block can.frame page
        (record { at = at; paged = is.paged; tree = is.tree }) is.at_level xs
        (ap (get_elem? w.lists) is.index ∙ listed)

    pub reply_here : reply_of rows ask ≡ reply_of (map_after (changes xs)) ask
    reply_here = let t = tells_here in let inside = can.holds.leaf.inside in
        same_reply key ask rows (map_after (changes xs)) can.about
        (λ k e. t.values k (subst (IsInside can.frame) (sym e) inside))
        (λ c e. t.allows c (subst (IsInside can.frame) (sym e) inside))

    pub allowed_here : IsAllowed rows ask → IsAllowed (map_after (changes xs)) ask
    allowed_here so = record {
      change = so.change;
      asked = so.asked;
      allowed = sym (tells_here.allows so.change
          (subst (IsInside can.frame) (sym (subst (AsksOf key) so.asked can.about))
          can.holds.leaf.inside)) ∙ so.allowed;
    }

  module _ (w : ForestState) (law : IsLawful w) (fits : FitsTrees w (view p)) (xs : Entries)
      (listed : get_elem? w.lists i ≡ some xs) where
    held_at : IsFrameOf w.shape w.objects can.block can.frame
    held_at = frame_there (view p) can.block can.frame can.holds.has.held w fits

    -- a list that was seen full is at its end
    full_here : SeesFull (view p) i → length xs ≡ w.max_changes
    full_here full = let more = fits.seen i full.list full.seen in
        let same : full.list ++ more.0 ≡ xs =
        some-injective (full.list ++ more.0) xs (sym more.1 ∙ listed) in
        let whole = ap length same in let most = fits.bounded i xs listed in
        let seen = full.full in let terms = fits.max_changes in
        omega (arith, whole, length-append full.list more.0, most, seen, terms)

    word_right : (word : Word) → MaySay (view p) i rows ask word
        → IsWord w xs (length xs) ask word
    word_right (Gives r) may = record {
      form = may.form;
      is = ap (λ m. reply_of m ask) (map_at_end xs)
          ∙ (sym (reply_here w law held_at xs listed) ∙ may.is);
      changes_nothing = may.changes_nothing;
    }
    word_right LogFull may = (
      full_here may.0,
      subst (λ m. IsAllowed m ask) (sym (map_at_end xs))
          (allowed_here w law held_at xs listed may.1),
    )
    word_right SpaceFull may = absurd may

  -- the answer may be given
  pub may_answer : (columns : Columns) → MayAnswer IsLawful IsRight IsReference (view p) i
      (said_word ask (reply_word ask reply row) None columns)
  may_answer columns w law fits xs listed =
      subst (λ o. IsRight w i (length xs) (said_word ask o None columns)) (sym can.is_word)
      (record {
        list = xs;
        there = listed;
        point = omega arith;
        said = λ speaks. word_right w law fits xs listed can.word can.may;
      })
