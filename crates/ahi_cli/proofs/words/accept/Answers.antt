use Rattle.std.proofs.Common.{◌≤◌, ◌-◌, length, map, take, drop, ◌∙◌, sym, subst}
use Rattle.std.proofs.lemmas.List.{length-map}
use Rattle.std.specs.String.{string_bytes}
use Rattle.map_history.specs.declared.TheConstants.{MAX_LANES}
use Rattle.ahi_cli.proofs.WordLemmas.{few_lanes, too_few_words}
use Rattle.ahi_cli.proofs.words.accept.Goals as goal

pub returns-then-are_lanes-clause-lanes : goal.returns-then-are_lanes-clause-lanes
returns-then-are_lanes-clause-lanes c =
    let lanes = take (length c.args.words.now - 2) (drop 2 c.args.words.now) in
    subst (λ n. (1 ≤ n) × (n ≤ MAX_LANES)) (length-map lanes string_bytes) (few_lanes (map string_bytes lanes) (sym c.are_lanes.ensures ∙ c.if-are_lanes.true))

pub returns-in_default-clause-accepted : goal.returns-in_default-clause-accepted
returns-in_default-clause-accepted c = too_few_words c.args.words.now c.in_default.len_below
