-- What is known of lanes that worked together, once their passes are joined.
use Rattle.std.proofs.Common.{◌≡◌, ℕ, suc, ◌+◌, ◌<◌, List, [], ◌∷◌, length, map, replicate, sym, ap, ◌∙◌, refl, subst, arith}
use Rattle.std.proofs.lemmas.List.{length-map}
use Rattle.std.specs.List.{AllByRecursion, AllZip, zip}
use Rattle.std.specs.Prelude.{Vec}
use Rattle.std.specs.declared.alloc.Global.{Global}
use mathlib.Core.Option.{some}
use lib.ListN.{get_elem?}
use Rattle.change_log.specs.Log.{Log}
use Rattle.column_counts.specs.Counted.{AreCounts}
use Rattle.column_counts.specs.Sums.{all_sums, count_lists}
use Rattle.column_counts.proofs.SumLemmas.{all_counted}
use Rattle.latch_law.specs.declared.knows.Terms.{Terms}
use Rattle.latch_law.specs.Fitting.{IsFitted}
use Rattle.latch_law.specs.Rule.{first_view}
use Rattle.map_history.specs.declared.counts.Counts.{Counts}
use Rattle.map_history.specs.declared.sizes.Sizes.{Sizes}
use Rattle.map_history.specs.Report.{AnswerLine}
use Rattle.map_history.specs.Statistics.{counts_of}
use Rattle.map_history.specs.LegalReport as legal
use Rattle.map_history.specs.declared.line.Line.{Line}
use Rattle.map_history.specs.Lines.{line_texts}
use Rattle.forest_law.specs.Law.{IsLawful}
use Rattle.forest_law.specs.References.{IsReference}
use Rattle.index_law.specs.Rightness.{IsRight}
use Rattle.index_law.specs.Shape.{Shape}
use Rattle.call_law.specs.Spoken.{View}
use Rattle.search_info.specs.Passes.{opening}
use Rattle.search_info.specs.declared.knows.Knows.{Knows}
use Rattle.lane_law.specs.Taught.{told_try}
use Rattle.lane_threads.specs.Engine.{Engine, EnginePass, known, lessons_of, nothing_learnt, IsOf, indexes_of}
use Rattle.forest_world.specs.Opening.{forest_terms}
use Rattle.lane_threads.specs.Dealt.{AreLanes, AreDealt, AreFresh}
use Rattle.lane_threads.specs.Gathered.{Gathers}
use Rattle.lane_threads.proofs.SayLemmas.{all_gathered}
use Rattle.lane_threads.specs.declared.doer.DoneLane.{DoneLane}
use Rattle.lane_threads.specs.declared.doer.LaneDoer.{LaneDoer}
use Rattle.lane_threads.specs.Doing.{WorkedOnce, AreReadyFor, AreParts}
use Rattle.lane_threads.specs.Together.{lane_texts, columns_among, RanTogether}
use Rattle.lane_threads.proofs.RanLemmas.{HaveSizes, AreRan, AreTold, ran_all, told}

-- a list that isn't empty has a first and a last place
first_place : {X : Type 0} (xs : List X) → 0 < length xs → (x : X) × (get_elem? xs 0 ≡ some x)
first_place [] some_there = absurd (omega arith)
first_place (x ∷ xs) some_there = (x, refl)

last_place : {X : Type 0} (xs : List X) → 0 < length xs → (k : ℕ) × (x : X) × (get_elem? xs k ≡ some x) × (length xs ≡ k + 1)
last_place [] some_there = absurd (omega arith)
last_place (x ∷ []) some_there = (0, x, refl, refl)
last_place (x ∷ y ∷ xs) some_there = let rest = last_place (y ∷ xs) (omega arith) in let long = rest.3 in (suc rest.0, rest.1, rest.2, omega (arith, long))

module _ (engine : Engine) (sizes : Sizes) (fields : List ℕ) (lanes : List (List legal.Line)) (done : List DoneLane) (whole : EnginePass)
    (opened : engine.space.terms ≡ forest_terms sizes fields (length lanes)) (learns : opening engine.learner ≡ (nothing_learnt fields (length lanes)).opening) (some_lanes : 0 < length lanes)
    (ran : AreRan engine sizes 0 lanes done) (gathers : Gathers engine (map (λ (d : DoneLane). d.pass) done) whole) (fitted : IsFitted IsLawful IsRight IsReference (known whole)) where
  all_told : AreTold engine sizes 0 lanes done
  all_told = told engine sizes 0 lanes done ran

  abbrev passes : List EnginePass
  passes = map (λ (d : DoneLane). d.pass) done

  as_many : length passes ≡ length lanes
  as_many = length-map done (λ (d : DoneLane). d.pass) ∙ all_told.long

  abbrev sums : List Counts
  sums = all_sums (replicate (length fields) (counts_of [])) (map (λ (d : DoneLane). d.work.counts.items) done)

  counted : AreCounts (length fields) (columns_among lanes all_told.answers) sums
  counted =
      let same : indexes_of engine ≡ length fields = ap (λ (t : Terms Shape). t.indexes) opened in
      subst (λ (n : ℕ). AreCounts n (columns_among lanes all_told.answers) (all_sums (replicate n (counts_of [])) (map (λ (d : DoneLane). d.work.counts.items) done))) same
      (all_counted (indexes_of engine) (λ (i : ℕ) (x : List legal.Line × List AnswerLine). legal.columns_in i (zip x.0 x.1)) (zip lanes all_told.answers) (map (λ (d : DoneLane). d.work.counts.items) done) all_told.counted)

  -- all that is known of these lanes, whose passes are joined
  joined : RanTogether sizes fields lanes (map (λ (d : DoneLane). d.work.answers) done) (map (λ (d : DoneLane). d.work.log) done) sums whole
  joined =
      let first = first_place passes (omega (arith, as_many)) in
      let last = last_place passes (omega (arith, as_many)) in
      let end = gathers.end last.0 last.1 last.2 last.3 ∙ (all_told.own last.0 last.1 last.2).end in
      let long = last.3 in
      record {
        answers = all_told.answers;
        printed = all_told.printed;
        noted = logs_noted done ∙ all_told.noted;
        counted = counted;
        in_order = all_told.in_order;
        said = all_gathered engine 0 passes whole lanes all_told.answers gathers all_told.says;
        opening = gathers.own.1.1 ∙ learns;
        tries = ap (map told_try) gathers.tries ∙ all_told.tried;
        low = gathers.low first.0 first.1 ∙ (all_told.own 0 first.0 first.1).low;
        end = omega (arith, end, long, as_many);
        terms = gathers.own.0.1 ∙ opened;
        sizes_are = gathers.sizes first.0 first.1 ∙ all_told.sizes_are 0 first.0 first.1;
        fitted = fitted;
      }
    where
      logs_noted : (ds : List DoneLane) → map (λ (log : Log). log.noted) (map (λ (d : DoneLane). d.work.log) ds) ≡ map (λ (d : DoneLane). d.work.log.noted) ds
      logs_noted [] = refl
      logs_noted (d ∷ ds) = ap (λ s. d.work.log.noted ∷ s) (logs_noted ds)

-- the counts of the lanes as lists
lists_are : (done : List DoneLane) → count_lists (map (λ (d : DoneLane). d.work.counts) done) ≡ map (λ (d : DoneLane). d.work.counts.items) done
lists_are [] = refl
lists_are (d ∷ done) = ap (λ (ls : List (List Counts)). d.work.counts.items ∷ ls) (lists_are done)

-- an engine was opened, its pass dealt, the lanes made ready, worked and taken apart
module _ (engine : Engine) (sizes : Sizes) (fields : List ℕ) (lanes : List (Vec Line Global)) (first : EnginePass)
    (opened : IsOf engine first × (first.sizes ≡ sizes) × (known first ≡ first_view (forest_terms sizes fields (length lanes)))) (untaught : lessons_of first ≡ nothing_learnt fields (length lanes)) where
  -- so these are its terms
  pub terms_are : engine.space.terms ≡ forest_terms sizes fields (length lanes)
  terms_are = sym opened.0.0.1 ∙ ap (λ (v : View). v.terms) opened.2

  pub first_fresh : (known first).said ≡ []
  first_fresh = ap (λ (v : View). v.said) opened.2

  pub first_untaught : (lessons_of first).tries ≡ []
  first_untaught = ap (λ (m : Knows). m.tries) untaught

  -- and its indexes had learnt nothing
  learns_nothing : opening engine.learner ≡ (nothing_learnt fields (length lanes)).opening
  learns_nothing = sym opened.0.1.1 ∙ ap (λ (m : Knows). m.opening) untaught

  module _ (dealt : List EnginePass) (deal : AreDealt engine first dealt) where
    -- a pass for each lane, from 0 on
    pub lanes_dealt : AreLanes engine 0 dealt
    lanes_dealt = subst (λ (n : ℕ). AreLanes engine n dealt) (ap (λ (v : View). v.low) opened.2) deal.lanes

    pub as_many_dealt : length dealt ≡ length lanes
    as_many_dealt =
        let low : (known first).low ≡ 0 = ap (λ (v : View). v.low) opened.2 in
        let end : (known first).end ≡ length lanes = ap (λ (v : View). v.end) opened.2 in
        let long = deal.long in
        omega (arith, low, end, long)

    module _ (fresh : AreFresh dealt) (doers doers' : List LaneDoer) (passes : List EnginePass) (texts : List (List (List ℕ))) (logs : List Log) (lists : List (Vec Counts Global))
        (ready : AreReadyFor engine dealt lanes doers) (worked : AllZip WorkedOnce doers doers') (parts : AreParts doers' passes texts logs lists) where
      have_sizes : HaveSizes sizes dealt
      have_sizes k p e = (deal.shares k p e).sizes ∙ opened.1

      ran : AreRan engine sizes 0 (lane_texts lanes) parts.done
      ran = ran_all engine sizes 0 dealt lanes doers doers' parts.done as_many_dealt lanes_dealt fresh have_sizes ready worked parts.all_done

      all_lanes_told : AreTold engine sizes 0 (lane_texts lanes) parts.done
      all_lanes_told = told engine sizes 0 (lane_texts lanes) parts.done ran

      -- the passes have one number each, from 0 on, after they worked
      pub lanes_worked : AreLanes engine 0 passes
      lanes_worked = subst (λ (ps : List EnginePass). AreLanes engine 0 ps) (sym parts.passes_are) all_lanes_told.own

      texts_long : length (lane_texts lanes) ≡ length lanes
      texts_long = length-map lanes (λ (lines : Vec Line Global). line_texts lines.items)

      -- there are counts for each index in each lane
      pub counts_long : AllByRecursion (λ (list : Vec Counts Global). length list.items ≡ length fields) lists
      counts_long = subst (AllByRecursion (λ (list : Vec Counts Global). length list.items ≡ length fields)) (sym parts.counts_are) (each (lane_texts lanes) all_lanes_told.answers parts.done all_lanes_told.counted)
        where
          same : indexes_of engine ≡ length fields
          same = ap (λ (t : Terms Shape). t.indexes) terms_are

          each : (ls : List (List legal.Line)) (told : List (List AnswerLine)) (done : List DoneLane) → AllZip (λ (x : List legal.Line × List AnswerLine) (counts : List Counts). AreCounts (indexes_of engine) (λ i. legal.columns_in i (zip x.0 x.1)) counts) (zip ls told) (map (λ (d : DoneLane). d.work.counts.items) done)
              → AllByRecursion (λ (list : Vec Counts Global). length list.items ≡ length fields) (map (λ (d : DoneLane). d.work.counts) done)
          each ls told [] all = tt
          each [] told (d ∷ done) all = absurd all
          each (l ∷ ls) [] (d ∷ done) all = absurd all
          each (l ∷ ls) (t ∷ told) (d ∷ done) all = (all.0.long ∙ same, each ls told done all.1)

      -- there is a pass
      pub not_empty : 0 < length lanes → passes ≡ [] → ⊥
      not_empty some_lanes none =
          let gone : length (map (λ (d : DoneLane). d.pass) parts.done) ≡ 0 = ap length (sym parts.passes_are ∙ none) in
          let long = length-map parts.done (λ (d : DoneLane). d.pass) in
          let done = all_lanes_told.long in
          absurd (omega (arith, gone, long, done, texts_long))

      -- and this is known of the joined one
      pub together : (whole : EnginePass) (counts : List Counts) → 0 < length lanes → counts ≡ all_sums (replicate (length fields) (counts_of [])) (count_lists lists) → Gathers engine passes whole → IsFitted IsLawful IsRight IsReference (known whole) → RanTogether sizes fields (lane_texts lanes) texts logs counts whole
      together whole counts some_lanes added gathers fitted =
          let terms : engine.space.terms ≡ forest_terms sizes fields (length (lane_texts lanes)) = terms_are ∙ ap (λ (n : ℕ). forest_terms sizes fields n) (sym texts_long) in
          let those = joined engine sizes fields (lane_texts lanes) parts.done whole terms (learns_nothing ∙ ap (λ (n : ℕ). (nothing_learnt fields n).opening) (sym texts_long)) (omega (arith, some_lanes, texts_long)) ran (subst (λ (ps : List EnginePass). Gathers engine ps whole) parts.passes_are gathers) fitted in
          let sums : counts ≡ all_sums (replicate (length fields) (counts_of [])) (map (λ (d : DoneLane). d.work.counts.items) parts.done) =
          added ∙ ap (all_sums (replicate (length fields) (counts_of []))) (ap count_lists parts.counts_are ∙ lists_are parts.done) in
          subst (λ (z : List (List (List ℕ)) × (List Log × List Counts)). RanTogether sizes fields (lane_texts lanes) z.0 z.1.0 z.1.1 whole) (λ i. (sym parts.texts_are i, (sym parts.logs_are i, sym sums i))) those
