use Rattle.lane_threads.proofs.LegalLemmas.{reported}
use Rattle.lane_threads.proofs.laws.runs_are_legal.Goals as goal

pub returns : goal.returns
returns c sizes fields names lanes texts logs counts pass changes paired all merged ran = reported sizes fields names lanes texts logs counts pass changes paired all merged ran
