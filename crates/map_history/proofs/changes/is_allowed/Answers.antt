use Rattle.std.proofs.Common.{◌≡◌, Option, Some, None, refl, sym, ap, ◌∙◌, not, is_some, is_none, ◌⊎◌, inl, inr}
use Rattle.map_history.specs.Map.{is_allowed}
use Rattle.map_history.specs.Operation.{change_of}
use Rattle.map_history.specs.Pairs.{pairs}
use Rattle.map_history.proofs.PairsLemmas.{lookup-rows}
use Rattle.map_history.proofs.changes.is_allowed.Goals as goal

not_some : {A : Type 0} (o : Option A) → not (is_some o) ≡ is_none o
not_some None = refl
not_some (Some x) = refl

pub returns-in-Put : goal.returns-in-Put
returns-in-Put c =
    ap not (c.contains_key.ensures ∙ ap is_some (lookup-rows c.in-Put.key c.args.map.now.entries)) ∙ not_some _
    ∙ ap (λ change. is_allowed (pairs c.args.map.now) (change_of change)) (sym c.in-Put.is)

pub returns-in-Set : goal.returns-in-Set
returns-in-Set c =
    let there = c.contains_key-in-Set.ensures ∙ ap is_some (lookup-rows c.in-Set.key c.args.map.now.entries) in
    elim c.in-Set.is [
      | inl set ↦ there ∙ ap (λ change. is_allowed (pairs c.args.map.now) (change_of change)) (sym set.1)
      | inr del ↦ there ∙ ap (λ change. is_allowed (pairs c.args.map.now) (change_of change)) (sym del)
    ]
