-- Doers that are made one after another.
use Rattle.std.proofs.Common.{◌≡◌, ℕ, zero, suc, ◌+◌, ◌<◌, ◌≤◌, List, [], ◌∷◌, ◌++◌, length, get_or, drop, ap, ap₂, sym, ◌∙◌, subst, arith, append_assoc, append-nil, drop-cons}
use Rattle.std.proofs.lemmas.List.{drop_all}
use Rattle.std.specs.Prelude.{Vec}
use Rattle.std.specs.declared.alloc.Global.{Global}
use mathlib.Core.Option.{some}
use lib.ListN.{get_elem?}
use Rattle.map_history.specs.declared.line.Line.{Line}
use Rattle.lane_threads.specs.Engine.{Engine, EnginePass}
use Rattle.lane_threads.specs.declared.doer.LaneDoer.{LaneDoer}
use Rattle.lane_threads.specs.Doing.{IsReadyFor, AreReadyFor}

-- what is left behind a place begins with what stands there
pub drop_at : {X : Type 0} (xs : List X) (i : ℕ) (x : X) (ys : List X) → drop i xs ≡ x ∷ ys → (get_elem? xs i ≡ some x) × (drop (suc i) xs ≡ ys)
drop_at [] zero x ys e = absurd cc
drop_at [] (suc i) x ys e = absurd cc
drop_at (z ∷ xs) zero x ys e = let head : z ≡ x = cc in let tail : xs ≡ ys = cc in (ap some head, tail)
drop_at (z ∷ xs) (suc i) x ys e = drop_at xs i x ys e

-- these doers and those of what is left from the place i on are the doers of all
abbrev pub AreBuilt : Engine → List EnginePass → List (Vec Line Global) → ℕ → List LaneDoer → Type 0
AreBuilt engine passes lanes i doers = (more : List LaneDoer) → AreReadyFor engine (drop i passes) (drop i lanes) more → AreReadyFor engine passes lanes (doers ++ more)

-- one doer more
pub built_more : (engine : Engine) (passes : List EnginePass) (lanes : List (Vec Line Global)) (i : ℕ) (pass : EnginePass) (others : List EnginePass) (lines : Vec Line Global) (doer : LaneDoer) (doers doers' : List LaneDoer)
    → drop i passes ≡ pass ∷ others → i < length lanes → lines ≡ get_or lanes i lines → IsReadyFor engine pass lines.items doer → doers' ≡ doers ++ doer ∷ []
    → AreBuilt engine passes lanes i doers → AreBuilt engine passes lanes (i + 1) doers'
built_more engine passes lanes i pass others lines doer doers doers' there below is ready added built more rest =
    let next : i + 1 ≡ suc i = omega arith in
    let left : drop (i + 1) passes ≡ others = ap (λ (n : ℕ). drop n passes) next ∙ (drop_at passes i pass others there).1 in
    let same : get_or lanes i lines ∷ drop (suc i) lanes ≡ lines ∷ drop (i + 1) lanes = ap₂ ◌∷◌ (sym is) (ap (λ (n : ℕ). drop n lanes) (sym next)) in
    let lane : drop i lanes ≡ lines ∷ drop (i + 1) lanes = drop-cons lanes i lines below ∙ same in
    let at : AreReadyFor engine (pass ∷ others) (lines ∷ drop (i + 1) lanes) (doer ∷ more) = (ready, subst (λ (ps : List EnginePass). AreReadyFor engine ps (drop (i + 1) lanes) more) left rest) in
    let both : AreReadyFor engine (drop i passes) (drop i lanes) (doer ∷ more) = subst (λ (ps : List EnginePass). AreReadyFor engine ps (drop i lanes) (doer ∷ more)) (sym there) (subst (λ (ls : List (Vec Line Global)). AreReadyFor engine (pass ∷ others) ls (doer ∷ more)) (sym lane) at) in
    let joined : doers' ++ more ≡ doers ++ doer ∷ more = ap (λ (ds : List LaneDoer). ds ++ more) added ∙ append_assoc doers (doer ∷ []) more in
    subst (λ (ds : List LaneDoer). AreReadyFor engine passes lanes ds) (sym joined) (built (doer ∷ more) both)

-- and all
pub built_all : (engine : Engine) (passes : List EnginePass) (lanes : List (Vec Line Global)) (i : ℕ) (doers : List LaneDoer)
    → length passes ≡ length lanes → length lanes ≤ i → AreBuilt engine passes lanes i doers → AreReadyFor engine passes lanes doers
built_all engine passes lanes i doers long past built =
    let none : drop i passes ≡ [] = drop_all i passes (omega arith) in
    let none' : drop i lanes ≡ [] = drop_all i lanes past in
    let nothing : AreReadyFor engine (drop i passes) (drop i lanes) [] = subst (λ (ps : List EnginePass). AreReadyFor engine ps (drop i lanes) []) (sym none) tt in
    subst (λ (ds : List LaneDoer). AreReadyFor engine passes lanes ds) (append-nil doers) (built [] nothing)
