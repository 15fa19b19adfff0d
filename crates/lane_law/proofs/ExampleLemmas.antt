-- The worked example is met.
use Rattle.std.proofs.Common.{◌≡◌, ℕ, zero, suc, ◌+◌, ◌<◌, ◌≤◌, Bool, true, false, cond, eqb, Some, None, [], ◌∷◌, ◌++◌, length, refl, ap, sym, ◌∙◌, subst, arith}
use Rattle.std.proofs.lemmas.List.{length-replicate}
use Rattle.std.proofs.lemmas.List.Sorted.{IsPermutation-refl, IsNonDecreasingBy-short}
use Rattle.std.specs.List.{slice_get, AllPairs}
use mathlib.Core.Option.{some, some-injective, some-ne-none}
use lib.ListN.{get_elem?}
use Rattle.latch_law.specs.declared.knows.Entry.{Entry}
use Rattle.latch_law.specs.declared.knows.Holding.{Holding}
use Rattle.latch_law.specs.declared.knows.Statement as what
use Rattle.latch_law.specs.Rule.{IsSo, Fits, Holds}
use Rattle.list_facts.proofs.Places.{none_is_not, replicate_is, same_some}
use Rattle.change_log.specs.Log.{ChangeNote}
use Rattle.change_log.specs.Entries.{ArePrinted}
use Rattle.map_history.specs.declared.sizes.Sizes.{Sizes}
use Rattle.map_history.specs.Operation.{Get}
use Rattle.map_history.specs.Reply.{Value}
use Rattle.map_history.specs.Report.{IndexPart, unlearnt}
use Rattle.map_history.specs.Statistics.{counts_of}
use Rattle.map_history.specs.LegalReport.{Mark, Precedes, columns_at}
use Rattle.forest_law.specs.declared.objects.Object.{Object}
use Rattle.index_law.specs.Answers.{MadeChange, Saying, Gives, Replies}
use Rattle.forest_law.specs.State.{ForestState}
use Rattle.index_law.specs.State.{Entries}
use Rattle.index_law.specs.Rightness.{IsRight}
use Rattle.forest_law.specs.References.{IsReference}
use Rattle.call_law.specs.Spoken.{OwnAnswer}
use Rattle.lane_law.specs.Runs.{HasNoScan, RunsAll, AreEntries}
use Rattle.lane_law.specs.Merged.{note_at, HasMerged}
use Rattle.lane_law.specs.Example.{row_made, key, value, line_of_put, example_run, example_report, example_logs, example_view, IsExample, IsMet}
use Rattle.lane_law.proofs.PairLemmas.{all_pairs_none, all_pairs_one}
use Rattle.lane_law.proofs.LegalLemmas.{legal}
use Rattle.lane_law.proofs.TrailLemmas.{trail}
use Rattle.lane_law.proofs.MergedLemmas.{are_entries}

-- the one place of a list of one element
one_place : {X : Type 0} (x y : X) (i : ℕ) → get_elem? (x ∷ []) i ≡ some y → (i ≡ 0) × (x ≡ y)
one_place x y zero e = (refl, some-injective x y e)
one_place x y (suc i) e = absurd (some-ne-none y (sym e))

one_mark : (b : Bool) (m : Mark) → AllPairs Precedes (cond b (m ∷ []) [] ++ [])
one_mark true m = all_pairs_one Precedes m
one_mark false m = all_pairs_none Precedes

-- what the get found, as it is said
abbrev found : what.Statement MadeChange Saying
found = what.TheVariants.Answer (Replies (Get key) (Gives (Value value)) None unlearnt)

-- the entry of the list
abbrev made : Entry MadeChange
made = record { change = row_made; by = 0 }

module _ (sizes : Sizes) (w : ForestState) (is : IsExample sizes w) where
  list_is : (i : ℕ) (xs : Entries) → get_elem? w.lists i ≡ some xs → (i ≡ 0) × (made ∷ [] ≡ xs)
  list_is i xs at = one_place (made ∷ []) xs i (ap (λ z. get_elem? z i) (sym is.lists) ∙ at)

  list_at : get_elem? w.lists 0 ≡ some (made ∷ [])
  list_at = ap (λ z. get_elem? z 0) is.lists

  entry_is : (i n : ℕ) (e : Entry MadeChange) (xs : Entries) → get_elem? w.lists i ≡ some xs → get_elem? xs n ≡ some e → (i ≡ 0) × (n ≡ 0) × (made ≡ e)
  entry_is i n e xs at at_n =
      let list = list_is i xs at in
      let one = one_place made e n (ap (λ z. get_elem? z n) list.1 ∙ at_n) in
      (list.0, one.0, one.1)

  nothing_held : (k : ℕ) (h : Holding Object) → Holds (example_view w) k h → ⊥
  nothing_held k h at = none_is_not h (ap some (replicate_is (length w.objects) k None (Some h) at))

  -- what is so of both own answers is so of each
  each_said : (P : OwnAnswer → Type 0) → P (record { index = 0; point = 1; by = 0; what = what.TheVariants.Change row_made }) → P (record { index = 0; point = 1; by = 1; what = found }) → (j : ℕ) (q : OwnAnswer) → get_elem? (example_view w).said j ≡ some q → P q
  each_said P first second zero q e = subst P (some-injective (record { index = 0; point = 1; by = 0; what = what.TheVariants.Change row_made }) q e) first
  each_said P first second (suc zero) q e = subst P (some-injective (record { index = 0; point = 1; by = 1; what = found }) q e) second
  each_said P first second (suc (suc j)) q e = absurd (some-ne-none q (sym e))

  -- the change stands at the first place alone
  first_alone : (q : OwnAnswer) (c : MadeChange) → q.what ≡ what.TheVariants.Change c → (j : ℕ) → get_elem? (example_view w).said j ≡ some q → j ≡ 0
  first_alone q c is zero at = refl
  first_alone q c is (suc zero) at =
      let same : record { index = 0; point = 1; by = 1; what = found } ≡ q = some-injective (record { index = 0; point = 1; by = 1; what = found }) q at in
      let other : found ≡ what.TheVariants.Change c = ap (λ (z : OwnAnswer). z.what) same ∙ is in
      absurd cc
  first_alone q c is (suc (suc j)) at = absurd (some-ne-none q (sym at))

  fits : Fits IsRight IsReference w (example_view w)
  fits = record {
    shape = refl;
    max_changes = refl;
    passes = is.passes;
    counted = (refl, ap length is.latches ∙ length-replicate (length w.objects) 0, ap length is.lists, length-replicate (length w.objects) None, refl);
    bounded = λ i xs at. subst (λ (z : Entries). length z ≤ w.max_changes) (list_is i xs at).1 is.room;
    makers = λ i n e h. subst (λ (z : Entry MadeChange). z.by < w.passes) (entry_is i n e h.0 h.1 h.2).2 (omega (arith, is.passes));
    numbers = omega arith;
    named = λ k h at. absurd (nothing_held k h at);
    latched = λ k h at. absurd (nothing_held k h at);
    known = λ k h at. absurd (nothing_held k h at);
    only = λ k low at. absurd (let zero_is = replicate_is (length w.objects) k 0 1 (ap (λ z. get_elem? z k) (sym is.latches) ∙ at) in omega arith);
    seen = λ i xs at. let one = one_place [] xs i at in (made ∷ [], subst (λ (z : ℕ × Entries). get_elem? w.lists z.0 ≡ some (z.1 ++ made ∷ [])) (λ k. (sym one.0 k, one.1 k)) list_at);
    signed = each_said (λ q. (0 ≤ q.by) × (q.by < 2)) (omega arith, omega arith) (omega arith, omega arith);
    within = each_said (λ q. (xs : Entries) × (get_elem? w.lists q.index ≡ some xs) × (q.point ≤ length xs)) (made ∷ [], list_at, omega arith) (made ∷ [], list_at, omega arith);
    so = each_said (λ q. IsSo IsRight w q.index q.point q.by q.what) (omega arith, (made ∷ [], list_at, refl)) (record { list = made ∷ []; there = list_at; point = omega arith; said = λ speaks. record { form = refl; is = refl; changes_nothing = λ e. cc } });
    own = λ i n e h low high. let one = entry_is i n e h.0 h.1 h.2 in (0, λ k. some (record { index = sym one.0 k; point = sym one.1 k + 1; by = (one.2 k).by; what = what.TheVariants.Change (one.2 k).change }));
    once = λ q c is i j at_i at_j. first_alone q c is i at_i ∙ sym (first_alone q c is j at_j);
    refers_to = λ j q at. absurd (some-ne-none q (sym at));
    holds_to = λ k h at. absurd (nothing_held k h at);
  }

  runs : RunsAll (example_run sizes) example_report w (example_view w)
  runs = record {
    lawful = is.lawful;
    fits = fits;
    low = refl;
    end = refl;
    passes = is.passes;
    max_changes = is.max_changes;
    indexes = is.indexes;
    pages = is.pages;
    said = refl;
    lanes = (
      record { form = (record { same_line = refl; form = refl }, tt); order = λ i. one_mark (eqb 0 i) (record { point = 1; grows = 1 }) },
      (record { form = (record { same_line = refl; form = refl }, tt); order = λ i. one_mark (eqb 0 i) (record { point = 1; grows = 0 }) }, tt),
    );
    names = refl;
    counts = counts;
  }
    where
      counts : (i : ℕ) (part : IndexPart) → slice_get example_report.indexes i ≡ Some part → part.counts ≡ counts_of (columns_at (example_run sizes) example_report i)
      counts zero part e = ap (λ (z : IndexPart). z.counts) (sym (same_some _ part e))
      counts (suc i) part e = absurd cc

  merges : HasMerged example_report example_logs
  merges zero part e = (
    note_at 0 line_of_put 1 ∷ [],
    record { same = IsPermutation-refl (note_at 0 line_of_put 1 ∷ []); ascending = IsNonDecreasingBy-short (λ (z : ChangeNote). z.number) (note_at 0 line_of_put 1 ∷ []) (omega arith) },
    subst (λ (z : IndexPart). ArePrinted (note_at 0 line_of_put 1 ∷ []) z.entries) (same_some _ part e) refl,
  )
  merges (suc i) part e = absurd cc

  -- all that is asked for holds
  pub met : IsMet sizes w
  met =
      let plain : HasNoScan (example_run sizes) = ((refl, tt), ((refl, tt), tt)) in
      let entries : AreEntries (example_run sizes) example_report w = are_entries (example_run sizes) example_report w (example_view w) example_logs runs refl merges in
      record {
        plain = plain;
        runs = runs;
        notes = refl;
        merged = merges;
        legal = legal (example_run sizes) example_report w (example_view w) plain runs entries;
        trail = trail (example_run sizes) example_report w (example_view w) runs entries;
      }
