-- What a del leaves behind, with merges after its answer or without.
use Rattle.std.proofs.Common.{◌≡◌, inl, inr, ℕ, zero, ◌-◌, ◌≤◌, Option, Some, None, [], ◌++◌, append-nil, length, length-append, take, sym, ap, subst, ◌∙◌, refl, arith, Contains}
use Rattle.std.proofs.lemmas.List.{length-map}
use mathlib.Core.List.{map-append}
use mathlib.Core.Option.{some}
use lib.ListN.{get_elem?}
use Rattle.key_tuple.specs.Order.{FieldList}
use Rattle.list_facts.proofs.Places.{one_value}
use Rattle.latch_law.specs.declared.knows.Entry.{Entry}
use Rattle.latch_space.specs.Passes.{view}
use Rattle.map_history.specs.declared.columns.How.{How}
use Rattle.map_history.specs.declared.reply.Reply.{Reply}
use Rattle.map_history.specs.declared.reply.Reply.TheVariants as words
use Rattle.map_history.specs.declared.reply.Told.{Told}
use Rattle.map_history.specs.LegalReport.{Mark, marks_of, is_done}
use Rattle.map_history.specs.Map.{Pair, Del, map_after}
use Rattle.map_history.specs.Operation.{Ask, Make}
use Rattle.map_history.specs.Reply.{MapReply, Done, reply_of}
use Rattle.map_history.specs.Report.{Answer, Replied, Columns}
use Rattle.map_history.specs.Told.{answer_of, columns_told}
use Rattle.map_history.proofs.HistoryLemmas.{reply_of-stays}
use Rattle.index_law.specs.Answers.{MadeChange}
use Rattle.index_law.specs.Meanings.{lent_row}
use Rattle.index_law.specs.State.{Entries, changes}
use Rattle.call_law.specs.Once.{AnswersOnce, IsRightBy, HasFulls}
use Rattle.call_law.specs.Spoken.{View, spoken}
use Rattle.call_law.specs.Trace.{Added, Adds, AreGivenAt, fulls}
use Rattle.call_law.proofs.TraceLemmas.{both_added, adds_both, given_both}
use Rattle.forest_world.specs.Held.{TreePass, shape_of_pass}
use Rattle.tree_descent.specs.declared.descending.Leaf.{Leaf}
use Rattle.leaf_changes.specs.Says.{AnswersAndLeaves}
use Rattle.index_engine.specs.Leaving.{ComesToLeaf, AnswersDel, MergesLater}
use Rattle.index_engine.specs.Traces.{IsFoundBy, TellsOfDel, HasLightPage}
use Rattle.index_engine.proofs.FoundLemmas.{TellsFound, tells_found}
use Rattle.index_engine.proofs.WayLemmas.{ends_told}

-- the answer to a word that a change was made
pub answer_done : (ask : Ask) (told : Told) (row : Pair) (answer : Answer)
    → told.reply ≡ words.Ok → answer_of ask told row ≡ Some answer
    → (point : ℕ) × (answer ≡ Replied Done point (columns_told told))
answer_done ask told row answer ok is = go told.reply told.point ok is
  where
    go : (reply : Reply) (point : Option ℕ) → reply ≡ words.Ok
        → answer_of ask (record told { reply = reply; point = point }) row ≡ Some answer
        → (point : ℕ) × (answer ≡ Replied Done point (columns_told told))
    go words.Ok (Some n) ok is = (n, cc)
    go words.Ok None ok is = absurd cc
    go words.Found point ok is = absurd cc
    go words.Absent point ok is = absurd cc
    go words.Duplicate point ok is = absurd cc
    go words.SpaceFull point ok is = absurd cc
    go (words.LogFull n) point ok is = absurd cc

-- an operation was answered with a reply, and then nothing was said; more of the lists may be seen
module _ (v v0 v1 : View) (i : ℕ) (ask : Ask) (answer : Answer) (reply : MapReply) (point : ℕ)
    (columns : Columns) (is : answer ≡ Replied reply point columns) (b : Added)
    (once : AnswersOnce v v0 i ask answer) (adds : Adds v0 v1 b) (silent : b.said ≡ [])
    (ys : Entries) (at : get_elem? v0.seen i ≡ some ys) where
  -- what is seen then
  pub more : (zs : Entries) → get_elem? v1.seen i ≡ some zs → ys ++ (adds.seen i ys at).0 ≡ zs
  more zs here = one_value v1.seen i _ zs (adds.seen i ys at).1 here

  -- the answer's one mark lay within what was seen
  within : point ≤ length ys
  within = let m : Mark = record { point = point; grows = is_done reply } in
      once.most m ys (subst (λ (a : Answer). Contains (marks_of a) m) (sym is)
      (zero, omega arith, refl)) at

  pub right_still : (zs : Entries) → get_elem? v1.seen i ≡ some zs
      → IsRightBy v.terms.max_changes zs ask answer
  right_still zs here = subst (λ (a : Answer). IsRightBy v.terms.max_changes zs ask a) (sym is)
      (subst (λ (xs : Entries). IsRightBy v.terms.max_changes xs ask (Replied reply point columns))
      (more zs here) (after ∙ before))
    where
      rest : Entries
      rest = (adds.seen i ys at).0

      before : IsRightBy v.terms.max_changes ys ask (Replied reply point columns)
      before = subst (λ (a : Answer). IsRightBy v.terms.max_changes ys ask a) is
          (once.right ys at)

      at_most : point - is_done reply ≤ length (changes ys)
      at_most = let same : length (changes ys) ≡ length ys =
          length-map ys (λ (e : Entry MadeChange). e.change.change) in
          omega (arith, within, same)

      after : reply_of (map_after (take (point - is_done reply) (changes (ys ++ rest)))) ask
          ≡ reply_of (map_after (take (point - is_done reply) (changes ys))) ask
      after = ap (λ cs. reply_of (map_after (take (point - is_done reply) cs)) ask)
          (map-append (λ (e : Entry MadeChange). e.change.change) ys rest)
          ∙ reply_of-stays (changes ys) (changes rest) (point - is_done reply) ask at_most

  unfoldable pub once_then_more : AnswersOnce v v1 i ask answer
  once_then_more =
      let no_more = ap (λ z. once.added.said ++ z) silent ∙ append-nil once.added.said in record {
        added = both_added once.added b;
        adds = adds_both v v0 v1 once.added b once.adds adds;
        given = given_both i v.low once.added.said b.said once.given
            (subst (AreGivenAt i v.low) (sym silent) tt);
        said = ap spoken no_more ∙ once.said;
        fulls = subst (λ z. HasFulls answer (fulls z)) (sym no_more) once.fulls;
        form = once.form;
        least = once.least;
        most = λ m zs among here. (let less = once.most m ys among at in
            let long = ap length (more zs here) in
            omega (arith, less, long, length-append ys (adds.seen i ys at).0));
        right = right_still;
      }

-- a del of a leaf that a search found
module _ (p p0 q : TreePass) (i : ℕ) (key : FieldList) (leaf : Leaf) (how : How)
    (went : ComesToLeaf (IsFoundBy (shape_of_pass p) i key how) p i key leaf p0) (told : Told)
    (by : told.how ≡ how) where
  abbrev ask : Ask
  ask = Make (Del key)

  tells_first : (between : TreePass)
      → (answers : AnswersAndLeaves p0 leaf.block i ask told (lent_row None) between)
      → TellsFound (IsFoundBy (shape_of_pass p) i key how) (view p) (view between) i ask told
      (lent_row None) answers.gave.taken answers.gave.frame
  tells_first between answers = tells_found (IsFoundBy (shape_of_pass p) i key how) p p0 between i key
      leaf went ask told (lent_row None) answers

  -- after its answer nothing was done
  del_ends : AnswersAndLeaves p0 leaf.block i ask told (lent_row None) q
      → TellsOfDel (view p) (view q) i key told
  del_ends answers = let tells = tells_first q answers in record {
    tells = tells.tells;
    way = tells.tells.once.added.references;
    later = [];
    added = sym (append-nil tells.tells.once.added.references);
    ends = (ends_told (shape_of_pass p) i key told.how how by tells.tells.once.added.references
        tells.ends).0;
    trees = inl (refl, tells.spares);
  }

  -- or light pages were merged
  del_merges : (between : TreePass)
      → (answers : AnswersAndLeaves p0 leaf.block i ask told (lent_row None) between)
      → MergesLater answers.gave.frame i told between q → TellsOfDel (view p) (view q) i key told
  unfolding once_then_more
  del_merges between answers merges =
      let tells = tells_first between answers in let merged = merges.merged in
      let done = answer_done ask told (lent_row None) tells.tells.answer merges.took
      tells.tells.is_told.is in
      let ends = ends_told (shape_of_pass p) i key told.how how by
      tells.tells.once.added.references tells.ends in
      record {
        tells = record {
          answer = tells.tells.answer;
          is_told = tells.tells.is_told;
          once = once_then_more (view p) (view between) (view q) i ask tells.tells.answer Done done.0
              (columns_told told) done.1 merged.added tells.tells.once merged.grows.adds
              merged.silent merges.seen.0 merges.seen.1;
        };
        way = tells.tells.once.added.references;
        later = merged.added.references;
        added = refl;
        ends = ends.0;
        trees = inr (subst HasLightPage (tells.leaf_is ∙ ends.1) merges.light);
      }

  pub search_then_del : AnswersDel p0 leaf.block i key told q
      → TellsOfDel (view p) (view q) i key told
  search_then_del did = elim did.after [
    | inl same ↦ del_ends (subst
        (λ (z : TreePass). AnswersAndLeaves p0 leaf.block i ask told (lent_row None) z) (sym same)
        did.answers)
    | inr merges ↦ del_merges did.between did.answers merges
  ]
