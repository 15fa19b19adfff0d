-- What the passes of lanes say, one behind another.
use Rattle.std.proofs.Common.{◌≡◌, ℕ, suc, ◌+◌, List, [], ◌∷◌, ◌++◌, refl, ap, ◌∙◌, subst, arith}
use Rattle.map_history.specs.Report.{AnswerLine}
use Rattle.map_history.specs.LegalReport.{Line}
use Rattle.call_law.specs.Spoken.{spoken}
use Rattle.call_law.proofs.TraceLemmas.{spoken-append}
use Rattle.lane_threads.specs.Engine.{Engine, EnginePass, known}
use Rattle.lane_law.specs.Worked.{lane_sayings}
use Rattle.lane_law.specs.Runs.{all_sayings}
use Rattle.lane_threads.specs.Dealt.{AreLanes}
use Rattle.lane_threads.specs.Gathered.{ArePassesOf, AreInRow, all_said, Gathers}
use Rattle.lane_threads.specs.Said.{SayLanes}

-- all but the first said what their lanes were answered
say_rest : (n : ℕ) (p : EnginePass) (l : List Line) (t : List AnswerLine) (passes : List EnginePass) (lanes : List (List Line)) (told : List (List AnswerLine)) → SayLanes n (p ∷ passes) (l ∷ lanes) (t ∷ told) → SayLanes (n + 1) passes lanes told
say_rest n p l t passes lanes told say = record {
  lanes_long = (let long = say.lanes_long in omega (arith, long));
  told_long = (let long = say.told_long in omega (arith, long));
  each = λ k q lines answers at lane answer. let same : n + suc k ≡ (n + 1) + k = omega arith in subst (λ (m : ℕ). spoken (known q).said ≡ lane_sayings m lines answers) same (say.each (suc k) q lines answers at lane answer);
}

-- what they said is what all lanes were answered
pub said_all : (n : ℕ) (passes : List EnginePass) (lanes : List (List Line)) (told : List (List AnswerLine)) → SayLanes n passes lanes told → spoken (all_said passes) ≡ all_sayings n lanes told
said_all n [] [] told say = refl
said_all n [] (l ∷ lanes) told say = let long = say.lanes_long in absurd (omega arith)
said_all n (p ∷ passes) [] told say = let long = say.lanes_long in absurd (omega arith)
said_all n (p ∷ passes) (l ∷ lanes) [] say = let long = say.told_long in absurd (omega arith)
said_all n (p ∷ passes) (l ∷ lanes) (t ∷ told) say =
    let same : n + 0 ≡ n = omega arith in
    let first : spoken (known p).said ≡ lane_sayings n l t = subst (λ (k : ℕ). spoken (known p).said ≡ lane_sayings k l t) same (say.each 0 p l t refl refl refl) in
    let others = said_all (n + 1) passes lanes told (say_rest n p l t passes lanes told say) in
    spoken-append (known p).said (all_said passes) ∙ (λ i. first i ++ others i)

-- and so is what the pass that they make said
pub all_gathered : (engine : Engine) (n : ℕ) (passes : List EnginePass) (whole : EnginePass) (lanes : List (List Line)) (told : List (List AnswerLine)) → Gathers engine passes whole → SayLanes n passes lanes told → spoken (known whole).said ≡ all_sayings n lanes told
all_gathered engine n passes whole lanes told gathers say = ap spoken gathers.said ∙ said_all n passes lanes told say

-- passes of one number each, in order, can be gathered
pub in_row : (engine : Engine) (n : ℕ) (passes : List EnginePass) → AreLanes engine n passes → ArePassesOf engine passes × AreInRow passes
in_row engine n passes lanes = (λ k p at. (lanes k p at).own, λ k p q at next. let end = (lanes k p at).end in let low = (lanes (k + 1) q next).low in omega (arith, end, low))
