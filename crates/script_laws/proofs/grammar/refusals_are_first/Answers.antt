-- The first flaws of lanes and schemas.
use Rattle.script_laws.proofs.FirstFlaws.{first_in_lane, first_in_schema}
use Rattle.script_laws.proofs.grammar.refusals_are_first.Goals as goal

pub returns : goal.returns
returns c = record { lane = first_in_lane; schema = first_in_schema }
