-- What lanes that worked told, noted and said, lane by lane.
use Rattle.std.proofs.Common.{◌≡◌, ℕ, zero, suc, ◌+◌, Some, Option, IfSome, List, [], ◌∷◌, ◌++◌, length, map, refl, ap, ap₂, sym, ◌∙◌, subst, arith}
use Rattle.std.proofs.lemmas.List.{map-append}
use Rattle.std.specs.List.{AllZip, enumerate_from, zip}
use Rattle.std.specs.Prelude.{Vec}
use Rattle.std.specs.declared.alloc.Global.{Global}
use mathlib.Core.Option.{some, some-injective, some-ne-none}
use lib.ListN.{get_elem?}
use Rattle.latch_law.specs.declared.knows.Terms.{Terms}
use Rattle.column_counts.specs.Counted.{AreCounts}
use Rattle.map_history.specs.declared.counts.Counts.{Counts}
use Rattle.map_history.specs.declared.sizes.Sizes.{Sizes}
use Rattle.map_history.specs.LegalReport as legal
use Rattle.map_history.specs.Report.{AnswerLine}
use Rattle.map_history.specs.declared.line.Line.{Line}
use Rattle.map_history.specs.Lines.{line_texts}
use Rattle.index_law.specs.Shape.{Shape}
use Rattle.call_law.specs.Spoken.{Spoken, OwnAnswer, spoken}
use Rattle.lane_threads.specs.Engine.{Engine, EnginePass, known, lessons_of, IsOf, indexes_of}
use Rattle.report_text.specs.Texts.{answer_line_text}
use Rattle.lane_law.specs.Merged.{lane_notes, all_notes}
use Rattle.lane_law.specs.Taught.{told_try, lane_tries, all_tries}
use Rattle.lane_law.specs.Worked.{AreInOrder, lane_sayings}
use Rattle.search_info.specs.declared.knows.Try.{Try}
use Rattle.lane_threads.specs.Works.{Works}
use Rattle.lane_threads.specs.Dealt.{IsLane, AreLanes, AreFresh}
use Rattle.lane_threads.specs.Gathered.{all_tried}
use Rattle.lane_threads.specs.Said.{SayLanes}
use Rattle.lane_threads.specs.Together.{lane_texts}
use Rattle.lane_threads.specs.declared.doer.DoneLane.{DoneLane}
use Rattle.lane_threads.specs.declared.doer.LaneDoer.{LaneDoer}
use Rattle.lane_threads.specs.declared.doer.ReadyLane.{ReadyLane}
use Rattle.lane_threads.specs.Doing.{DoesLane, WorkedOnce, IsReadyFor, AreReadyFor}

-- each pass has these sizes
abbrev pub HaveSizes : Sizes → List EnginePass → Type 0
HaveSizes sizes passes = (k : ℕ) (p : EnginePass) → get_elem? passes k ≡ some p → p.sizes ≡ sizes

-- the lane n, which had said and tried nothing, worked these lines
pub record IsRan (engine : Engine) (sizes : Sizes) (numbered : ℕ × List legal.Line) (done : DoneLane) : Type 0 where
  pub first : EnginePass
  pub fresh : (known first).said ≡ []
  pub untaught : (lessons_of first).tries ≡ []
  pub low : (known first).low ≡ numbered.0
  pub works : Works first done.pass numbered.1 done.work.answers done.work.log done.work.counts.items
  pub one : IsLane engine numbered.0 done.pass
  pub sizes_are : done.pass.sizes ≡ sizes

-- each lane did, from n on
abbrev pub AreRan : Engine → Sizes → ℕ → List (List legal.Line) → List DoneLane → Type 0
AreRan engine sizes n lanes done = AllZip (IsRan engine sizes) (enumerate_from n lanes) done

-- the passes behind the first have the numbers after its own
lanes_rest : (engine : Engine) (n : ℕ) (p : EnginePass) (ps : List EnginePass) → AreLanes engine n (p ∷ ps) → AreLanes engine (n + 1) ps
lanes_rest engine n p ps all k q e = let same : n + suc k ≡ (n + 1) + k = omega arith in subst (λ (m : ℕ). IsLane engine m q) same (all (suc k) q e)

-- a fact of what an option has
if_some : {X : Type 0} (P : X → Type 0) (o : Option X) (x : X) → o ≡ Some x → IfSome o P → P x
if_some P o x is h = subst (λ (z : Option _). IfSome z P) is h

module _ (engine : Engine) (sizes : Sizes) where
  -- a lane that was ready and is done
  ran_one : (n : ℕ) (p : EnginePass) (lines : List Line) (doer doer' : LaneDoer) (done : DoneLane) → IsReadyFor engine p lines doer → WorkedOnce doer doer' → doer'.done ≡ Some done → IsLane engine n p → ((known p).said ≡ []) × ((lessons_of p).tries ≡ []) → p.sizes ≡ sizes
      → IsRan engine sizes (n, line_texts lines) done
  ran_one n p lines doer doer' done ready worked is one fresh same =
      let lane = ready.lane in
      let does : DoesLane lane done = if_some (DoesLane lane) doer'.done done is (if_some (λ (l : ReadyLane). IfSome doer'.done (DoesLane l)) doer.ready lane ready.ready worked) in
      let pass_is = ready.pass_is in
      let low : (known lane.pass).low ≡ n = ap (λ (q : EnginePass). (known q).low) pass_is ∙ one.low in
      record {
        first = lane.pass;
        fresh = ap (λ (q : EnginePass). (known q).said) pass_is ∙ fresh.0;
        untaught = ap (λ (q : EnginePass). (lessons_of q).tries) pass_is ∙ fresh.1;
        low = low;
        works = subst (λ (ls : List Line). Works lane.pass done.pass (line_texts ls) done.work.answers done.work.log done.work.counts.items) ready.lines_are does.works;
        one = record {
          own = subst (λ (e : Engine). IsOf e done.pass) ready.engine_is does.own;
          low = does.works.worked.numbers.low ∙ low;
          end = does.works.worked.numbers.end ∙ (ap (λ (q : EnginePass). (known q).end) pass_is ∙ one.end);
        };
        sizes_are = does.same.sizes ∙ (ap (λ (q : EnginePass). q.sizes) pass_is ∙ same);
      }

  -- all lanes that were ready and are done
  pub ran_all : (n : ℕ) (passes : List EnginePass) (lanes : List (Vec Line Global)) (doers doers' : List LaneDoer) (done : List DoneLane)
      → length passes ≡ length lanes → AreLanes engine n passes → AreFresh passes → HaveSizes sizes passes
      → AreReadyFor engine passes lanes doers → AllZip WorkedOnce doers doers' → map (λ (d : LaneDoer). d.done) doers' ≡ map Some done
      → AreRan engine sizes n (lane_texts lanes) done
  ran_all n [] [] [] [] [] long own fresh same ready worked all = tt
  ran_all n [] [] [] [] (d ∷ done) long own fresh same ready worked all = absurd cc
  ran_all n [] [] [] (y ∷ doers') done long own fresh same ready worked all = absurd worked
  ran_all n [] [] (x ∷ doers) doers' done long own fresh same ready worked all = absurd ready
  ran_all n [] (l ∷ lanes) doers doers' done long own fresh same ready worked all = absurd (omega arith)
  ran_all n (p ∷ passes) [] doers doers' done long own fresh same ready worked all = absurd (omega arith)
  ran_all n (p ∷ passes) (l ∷ lanes) [] doers' done long own fresh same ready worked all = absurd ready
  ran_all n (p ∷ passes) (l ∷ lanes) (x ∷ doers) [] done long own fresh same ready worked all = absurd worked
  ran_all n (p ∷ passes) (l ∷ lanes) (x ∷ doers) (y ∷ doers') [] long own fresh same ready worked all = absurd cc
  ran_all n (p ∷ passes) (l ∷ lanes) (x ∷ doers) (y ∷ doers') (d ∷ done) long own fresh same ready worked all =
      let first : y.done ≡ Some d = cc in
      let others : map (λ (z : LaneDoer). z.done) doers' ≡ map Some done = cc in
      let zeroth : n + 0 ≡ n = omega arith in (
        ran_one n p l.items x y d ready.0 worked.0 first (subst (λ (m : ℕ). IsLane engine m p) zeroth (own 0 p refl)) (fresh 0 p refl) (same 0 p refl),
        ran_all (n + 1) passes lanes doers doers' done (omega arith) (lanes_rest engine n p passes own) (λ k q e. fresh (suc k) q e) (λ k q e. same (suc k) q e) ready.1 worked.1 others,
      )

  -- what these lanes were told, with all that is known of it
  pub record AreTold (n : ℕ) (lanes : List (List legal.Line)) (done : List DoneLane) : Type 0 where
    pub answers : List (List AnswerLine)
    pub long : length done ≡ length lanes
    pub printed : map (λ (d : DoneLane). d.work.answers) done ≡ map (λ (told : List AnswerLine). map answer_line_text told) answers
    pub noted : map (λ (d : DoneLane). d.work.log.noted) done ≡ all_notes n lanes answers
    pub counted : AllZip (λ (x : List legal.Line × List AnswerLine) (counts : List Counts). AreCounts (indexes_of engine) (λ i. legal.columns_in i (zip x.0 x.1)) counts) (zip lanes answers) (map (λ (d : DoneLane). d.work.counts.items) done)
    pub in_order : AllZip AreInOrder lanes answers
    pub says : SayLanes n (map (λ (d : DoneLane). d.pass) done) lanes answers
    pub tried : map told_try (all_tried (map (λ (d : DoneLane). d.pass) done)) ≡ all_tries n lanes answers
    pub own : AreLanes engine n (map (λ (d : DoneLane). d.pass) done)
    pub sizes_are : HaveSizes sizes (map (λ (d : DoneLane). d.pass) done)

  says_more : (n : ℕ) (l : List legal.Line) (t : List AnswerLine) (p : EnginePass) (lanes : List (List legal.Line)) (told : List (List AnswerLine)) (passes : List EnginePass)
      → spoken (known p).said ≡ lane_sayings n l t → SayLanes (n + 1) passes lanes told → SayLanes n (p ∷ passes) (l ∷ lanes) (t ∷ told)
  says_more n l t p lanes told passes first rest = record { lanes_long = ap suc rest.lanes_long; told_long = ap suc rest.told_long; each = each }
    where
      each : (k : ℕ) (q : EnginePass) (lines : List legal.Line) (answers : List AnswerLine) → get_elem? (p ∷ passes) k ≡ some q → get_elem? (l ∷ lanes) k ≡ some lines → get_elem? (t ∷ told) k ≡ some answers → spoken (known q).said ≡ lane_sayings (n + k) lines answers
      each zero q lines answers a b c = let same : n ≡ n + 0 = omega arith in
          ap (λ (z : EnginePass). spoken (known z).said) (sym (some-injective p q a)) ∙ (first ∙ (λ i. lane_sayings (same i) (some-injective l lines b i) (some-injective t answers c i)))
      each (suc k) q lines answers a b c = let same : (n + 1) + k ≡ n + suc k = omega arith in
          subst (λ (m : ℕ). spoken (known q).said ≡ lane_sayings m lines answers) same (rest.each k q lines answers a b c)

  own_more : (n : ℕ) (p : EnginePass) (passes : List EnginePass) → IsLane engine n p → AreLanes engine (n + 1) passes → AreLanes engine n (p ∷ passes)
  own_more n p passes one rest zero q e = let same : n ≡ n + 0 = omega arith in subst (IsLane engine (n + 0)) (some-injective p q e) (subst (λ (m : ℕ). IsLane engine m p) same one)
  own_more n p passes one rest (suc k) q e = let same : (n + 1) + k ≡ n + suc k = omega arith in subst (λ (m : ℕ). IsLane engine m q) same (rest k q e)

  sizes_more : (p : EnginePass) (passes : List EnginePass) → p.sizes ≡ sizes → HaveSizes sizes passes → HaveSizes sizes (p ∷ passes)
  sizes_more p passes same rest zero q e = ap (λ (z : EnginePass). z.sizes) (sym (some-injective p q e)) ∙ same
  sizes_more p passes same rest (suc k) q e = rest k q e

  -- a lane that began with nothing said has said what it was answered
  said_one : (numbered : ℕ × List legal.Line) (d : DoneLane) (ran : IsRan engine sizes numbered d) → spoken (known d.pass).said ≡ lane_sayings numbered.0 numbered.1 ran.works.answers
  said_one numbered d ran = ran.works.worked.said ∙ (λ i. spoken_before (ran.fresh i) (ran.low i))
    where
      spoken_before : List OwnAnswer → ℕ → List Spoken
      spoken_before before n = spoken before ++ lane_sayings n numbered.1 ran.works.answers

  -- a lane that began with nothing tried has tried what it was answered
  tried_one : (numbered : ℕ × List legal.Line) (d : DoneLane) (ran : IsRan engine sizes numbered d) → map told_try (lessons_of d.pass).tries ≡ lane_tries numbered.0 numbered.1 ran.works.answers
  tried_one numbered d ran =
      let taught = ran.works.taught in
      let own : (lessons_of d.pass).tries ≡ taught.tries = taught.added ∙ ap (λ (ts : List Try). ts ++ taught.tries) ran.untaught in
      let low : (lessons_of ran.first).low ≡ numbered.0 = ran.first.low ∙ ran.low in
      ap (map told_try) own ∙ (taught.told ∙ ap (λ (k : ℕ). lane_tries k numbered.1 ran.works.answers) low)

  -- its counts are of as many indexes as the engine has
  counted_one : (numbered : ℕ × List legal.Line) (d : DoneLane) (ran : IsRan engine sizes numbered d) → AreCounts (indexes_of engine) (λ i. legal.columns_in i (zip numbered.1 ran.works.answers)) d.work.counts.items
  counted_one numbered d ran =
      let same : (known ran.first).terms.indexes ≡ indexes_of engine = ap (λ (t : Terms Shape). t.indexes) (sym ran.works.worked.numbers.terms ∙ ran.one.own.0.1) in
      subst (λ (m : ℕ). AreCounts m (λ i. legal.columns_in i (zip numbered.1 ran.works.answers)) d.work.counts.items) same ran.works.counted

  pub told : (n : ℕ) (lanes : List (List legal.Line)) (done : List DoneLane) → AreRan engine sizes n lanes done → AreTold n lanes done
  told n [] [] all = record {
    answers = [];
    long = refl;
    printed = refl;
    noted = refl;
    counted = tt;
    in_order = tt;
    tried = refl;
    says = record { lanes_long = refl; told_long = refl; each = λ k q lines answers a b c. absurd (some-ne-none q (sym a)) };
    own = λ k q e. absurd (some-ne-none q (sym e));
    sizes_are = λ k q e. absurd (some-ne-none q (sym e));
  }
  told n [] (d ∷ done) all = absurd all
  told n (l ∷ lanes) [] all = absurd all
  told n (l ∷ lanes) (d ∷ done) all =
      let rest = told (n + 1) lanes done all.1 in
      let ran = all.0 in
      record {
        answers = ran.works.answers ∷ rest.answers;
        long = ap suc rest.long;
        printed = ap₂ ◌∷◌ ran.works.printed rest.printed;
        noted = ap₂ ◌∷◌ (ran.works.noted ∙ ap (λ (m : ℕ). lane_notes m l ran.works.answers) ran.low) rest.noted;
        counted = (counted_one (n, l) d ran, rest.counted);
        in_order = (ran.works.worked.in_order, rest.in_order);
        says = says_more n l ran.works.answers d.pass lanes rest.answers (map (λ (z : DoneLane). z.pass) done) (said_one (n, l) d ran) rest.says;
        tried = map-append told_try (lessons_of d.pass).tries (all_tried (map (λ (z : DoneLane). z.pass) done)) ∙ (λ i. tried_one (n, l) d ran i ++ rest.tried i);
        own = own_more n d.pass (map (λ (z : DoneLane). z.pass) done) ran.one rest.own;
        sizes_are = sizes_more d.pass (map (λ (z : DoneLane). z.pass) done) ran.sizes_are rest.sizes_are;
      }
