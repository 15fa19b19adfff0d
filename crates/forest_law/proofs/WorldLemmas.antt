-- The six laws.
use Rattle.std.proofs.Common.{◌+◌}
use Rattle.forest_law.specs.WorldLaws.{TakesStayLawful, ReleasesStayLawful, StepsStayLawful, AnswersStayRight, ReferencesLast}
use Rattle.forest_law.proofs.FollowingLemmas.{follow_lemma}
use Rattle.forest_law.proofs.HolderLemmas.{latched_outside, free_away, back_away}
use Rattle.forest_law.proofs.StayingLemmas.{stay_lemma}
use Rattle.forest_law.proofs.LastingLemmas.{object_itself, reference_stays, reference_held}

pub takes_stay_lawful : TakesStayLawful
takes_stay_lawful w k name law free below = assumption (latched_outside w k (name + 1) law.outside (free_away w k law.outside free))

pub releases_stay_lawful : ReleasesStayLawful
releases_stay_lawful w k x law at may = assumption (latched_outside w k 0 law.outside (back_away w k x law at may))

pub steps_stay_lawful : StepsStayLawful
steps_stay_lawful = follow_lemma

pub answers_stay_right : AnswersStayRight
answers_stay_right name w w' law law' next i p a right = stay_lemma name w w' next i p a right

pub references_last : ReferencesLast
references_last = record {
  stay = λ name w w' law law' next q so. reference_stays name w w' next q so;
  begin = λ w k name x law free at.
      record { now = x; there = at; held = object_itself x; later = object_itself x };
  held = λ name w w' law law' next k t x y held at at' so.
      reference_held name w w' next k t x y at at' so;
}
